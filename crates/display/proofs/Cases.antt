-- Lines worked out byte by byte, and the length of the longest one. Assumes nothing.
use mathlib.Core.Path.{◌≡◌, refl}
use mathlib.Core.List.{[], ◌∷◌}
use Prim.Native.Nat.{ℕ}
use lib.ListN.{length}
use Rattle.words.specs.Digits.{spelled, places_in, places, decimal}
use Rattle.display.specs.Line.{int_word, ext_word, accounts_word, slots_word, line_of}

-- "int=0, ext=0, accounts=0, slots=0"
pub nothing : line_of 0 0 0 0 ≡ 105 ∷ 110 ∷ 116 ∷ 61 ∷ 48 ∷ 44 ∷ 32 ∷ 101 ∷ 120 ∷ 116 ∷ 61 ∷ 48 ∷ 44 ∷ 32 ∷ 97 ∷ 99 ∷ 99 ∷ 111 ∷ 117 ∷ 110 ∷ 116 ∷ 115 ∷ 61 ∷ 48 ∷ 44 ∷ 32 ∷ 115 ∷ 108 ∷ 111 ∷ 116 ∷ 115 ∷ 61 ∷ 48 ∷ []
unfolding line_of int_word ext_word accounts_word slots_word decimal places places_in spelled
nothing = refl

-- "int=3, ext=10, accounts=200, slots=64"
pub some : line_of 3 10 200 64 ≡ 105 ∷ 110 ∷ 116 ∷ 61 ∷ 51 ∷ 44 ∷ 32 ∷ 101 ∷ 120 ∷ 116 ∷ 61 ∷ 49 ∷ 48 ∷ 44 ∷ 32 ∷ 97 ∷ 99 ∷ 99 ∷ 111 ∷ 117 ∷ 110 ∷ 116 ∷ 115 ∷ 61 ∷ 50 ∷ 48 ∷ 48 ∷ 44 ∷ 32 ∷ 115 ∷ 108 ∷ 111 ∷ 116 ∷ 115 ∷ 61 ∷ 54 ∷ 52 ∷ []
unfolding line_of int_word ext_word accounts_word slots_word decimal places places_in spelled
some = refl

-- four times 2^64 - 1
abbrev most : ℕ
most = 18446744073709551615

pub longest : length (line_of most most most most) ≡ 109
unfolding line_of int_word ext_word accounts_word slots_word decimal places places_in spelled
longest = refl
