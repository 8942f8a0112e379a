-- The Display line of a group: "int={}, ext={}, accounts={}, slots={}". Assumes nothing.
use Rattle.std.specs.Prelude.{cond, List, [], ◌∷◌, ◌++◌, ℕ, leb, length}
use Rattle.columns.specs.Laid.{laid_at}
use Rattle.words.specs.Digits.{decimal}

-- the bytes of "int=", ", ext=", ", accounts=" and ", slots="
unfoldable pub int_word : List ℕ
int_word = 105 ∷ 110 ∷ 116 ∷ 61 ∷ []

unfoldable pub ext_word : List ℕ
ext_word = 44 ∷ 32 ∷ 101 ∷ 120 ∷ 116 ∷ 61 ∷ []

unfoldable pub accounts_word : List ℕ
accounts_word = 44 ∷ 32 ∷ 97 ∷ 99 ∷ 99 ∷ 111 ∷ 117 ∷ 110 ∷ 116 ∷ 115 ∷ 61 ∷ []

unfoldable pub slots_word : List ℕ
slots_word = 44 ∷ 32 ∷ 115 ∷ 108 ∷ 111 ∷ 116 ∷ 115 ∷ 61 ∷ []

unfoldable pub line_of : (ints exts accounts slots : ℕ) → List ℕ
line_of ints exts accounts slots =
    int_word ++ (decimal ints ++ (ext_word ++ (decimal exts ++ (accounts_word ++ (decimal accounts ++ (slots_word ++ decimal slots))))))

-- the line at the start of what is lent, if it fits; else what is lent stays as it is
unfoldable pub written : List ℕ → List ℕ → List ℕ
written line out = cond (leb (length line) (length out)) (laid_at 0 line out) out
