-- The lines that answer a sheet, byte by byte: each ends in LF. Assumes nothing.
use Rattle.std.specs.Prelude.{cond, List, [], ◌∷◌, ◌++◌, ℕ, eqb}
use Rattle.words.specs.Digits.{decimal}

-- ---- the words

-- "sheet line "
unfoldable pub sheet_word : List ℕ
sheet_word = 115 ∷ 104 ∷ 101 ∷ 101 ∷ 116 ∷ 32 ∷ 108 ∷ 105 ∷ 110 ∷ 101 ∷ 32 ∷ []

-- "add "
unfoldable pub add_word : List ℕ
add_word = 97 ∷ 100 ∷ 100 ∷ 32 ∷ []

-- " code "
unfoldable pub code_word : List ℕ
code_word = 32 ∷ 99 ∷ 111 ∷ 100 ∷ 101 ∷ 32 ∷ []

-- "fill "
unfoldable pub fill_word : List ℕ
fill_word = 102 ∷ 105 ∷ 108 ∷ 108 ∷ 32 ∷ []

-- " collected "
unfoldable pub collected_word : List ℕ
collected_word = 32 ∷ 99 ∷ 111 ∷ 108 ∷ 108 ∷ 101 ∷ 99 ∷ 116 ∷ 101 ∷ 100 ∷ 32 ∷ []

-- " ops "
unfoldable pub ops_word : List ℕ
ops_word = 32 ∷ 111 ∷ 112 ∷ 115 ∷ 32 ∷ []

-- " dropped "
unfoldable pub dropped_word : List ℕ
dropped_word = 32 ∷ 100 ∷ 114 ∷ 111 ∷ 112 ∷ 112 ∷ 101 ∷ 100 ∷ 32 ∷ []

-- "left int="
unfoldable pub left_word : List ℕ
left_word = 108 ∷ 101 ∷ 102 ∷ 116 ∷ 32 ∷ 105 ∷ 110 ∷ 116 ∷ 61 ∷ []

-- " ext="
unfoldable pub ext_word : List ℕ
ext_word = 32 ∷ 101 ∷ 120 ∷ 116 ∷ 61 ∷ []

-- " accounts="
unfoldable pub accounts_word : List ℕ
accounts_word = 32 ∷ 97 ∷ 99 ∷ 99 ∷ 111 ∷ 117 ∷ 110 ∷ 116 ∷ 115 ∷ 61 ∷ []

-- " min="
unfoldable pub min_word : List ℕ
min_word = 32 ∷ 109 ∷ 105 ∷ 110 ∷ 61 ∷ []

abbrev pub newline : List ℕ
newline = 10 ∷ []

-- ---- the lines

-- "it prints only `sheet line N`"
unfoldable pub broken_line : (line : ℕ) → List ℕ
broken_line line = sheet_word ++ (decimal line ++ newline)

-- "a refused add prints `add N code C`"
unfoldable pub add_line : (number code : ℕ) → List ℕ
add_line number code = add_word ++ (decimal number ++ (code_word ++ (decimal code ++ newline)))

-- "a refused add prints `add N code C` and goes on"; code 0 is no refusal
unfoldable pub refusal : (number code : ℕ) → List ℕ
refusal number code = cond (eqb code 0) [] (add_line number code)

-- "Per fill: number, code, messages collected, operations, externals dropped"
unfoldable pub fill_line : (number code collected ops dropped : ℕ) → List ℕ
fill_line number code collected ops dropped =
    fill_word ++ (decimal number ++ (code_word ++ (decimal code ++ (collected_word ++ (decimal collected
    ++ (ops_word ++ (decimal ops ++ (dropped_word ++ (decimal dropped ++ newline)))))))))

-- "at the end, what the buffer holds and its minimum"
unfoldable pub left_line : (ints exts accounts least : ℕ) → List ℕ
left_line ints exts accounts least =
    left_word ++ (decimal ints ++ (ext_word ++ (decimal exts ++ (accounts_word ++ (decimal accounts ++ (min_word ++ (decimal least ++ newline)))))))
