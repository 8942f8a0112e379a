-- Lines worked out byte by byte: those of document 01's example, and a refused add. Assumes nothing.
use mathlib.Core.Path.{◌≡◌, refl}
use mathlib.Core.List.{[], ◌∷◌}
use Rattle.words.specs.Digits.{spelled, places_in, places, decimal}
use Rattle.answers.specs.Answer.{sheet_word, add_word, code_word, fill_word, collected_word, ops_word, dropped_word, left_word, ext_word, accounts_word, min_word, broken_line, add_line, fill_line, left_line}

-- "sheet line 12"
pub broken : broken_line 12 ≡ 115 ∷ 104 ∷ 101 ∷ 101 ∷ 116 ∷ 32 ∷ 108 ∷ 105 ∷ 110 ∷ 101 ∷ 32 ∷ 49 ∷ 50 ∷ 10 ∷ []
unfolding sheet_word broken_line decimal places places_in spelled
broken = refl

-- "add 257 code 4"
pub add : add_line 257 4 ≡ 97 ∷ 100 ∷ 100 ∷ 32 ∷ 50 ∷ 53 ∷ 55 ∷ 32 ∷ 99 ∷ 111 ∷ 100 ∷ 101 ∷ 32 ∷ 52 ∷ 10 ∷ []
unfolding add_word code_word add_line decimal places places_in spelled
add = refl

-- "fill 1 code 0 collected 2 ops 9 dropped 1"
pub fill : fill_line 1 0 2 9 1 ≡ 102 ∷ 105 ∷ 108 ∷ 108 ∷ 32 ∷ 49 ∷ 32 ∷ 99 ∷ 111 ∷ 100 ∷ 101 ∷ 32 ∷ 48 ∷ 32 ∷ 99 ∷ 111 ∷ 108 ∷ 108 ∷ 101 ∷ 99 ∷ 116 ∷ 101 ∷ 100 ∷ 32 ∷ 50 ∷ 32 ∷ 111 ∷ 112 ∷ 115 ∷ 32 ∷ 57 ∷ 32 ∷ 100 ∷ 114 ∷ 111 ∷ 112 ∷ 112 ∷ 101 ∷ 100 ∷ 32 ∷ 49 ∷ 10 ∷ []
unfolding fill_word code_word collected_word ops_word dropped_word fill_line decimal places places_in spelled
fill = refl

-- "left int=0 ext=0 accounts=0 min=18446744073709551615"
pub left : left_line 0 0 0 18446744073709551615 ≡ 108 ∷ 101 ∷ 102 ∷ 116 ∷ 32 ∷ 105 ∷ 110 ∷ 116 ∷ 61 ∷ 48 ∷ 32 ∷ 101 ∷ 120 ∷ 116 ∷ 61 ∷ 48 ∷ 32 ∷ 97 ∷ 99 ∷ 99 ∷ 111 ∷ 117 ∷ 110 ∷ 116 ∷ 115 ∷ 61 ∷ 48 ∷ 32 ∷ 109 ∷ 105 ∷ 110 ∷ 61 ∷ 49 ∷ 56 ∷ 52 ∷ 52 ∷ 54 ∷ 55 ∷ 52 ∷ 52 ∷ 48 ∷ 55 ∷ 51 ∷ 55 ∷ 48 ∷ 57 ∷ 53 ∷ 53 ∷ 49 ∷ 54 ∷ 49 ∷ 53 ∷ 10 ∷ []
unfolding left_word ext_word accounts_word min_word left_line decimal places places_in spelled
left = refl
