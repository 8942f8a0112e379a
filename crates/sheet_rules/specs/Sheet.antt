-- The sheet: its text, its ranges, and its reading, line by line. Each definition stands under the words of document 01 that it renders.
-- Assumes nothing.
use Rattle.std.specs.Prelude.{◌≡◌, Bool, true, false, cond, not, ◌&&◌, ◌||◌, List, [], ◌∷◌, ◌++◌, ℕ, zero, suc, ◌+◌, ◌≤◌, eqb, ltb, leb, length, get_or, take, drop}
use Rattle.words.specs.Cut.{before}
use Rattle.words.specs.Digits.{is_number, value_of, decimal}

-- "skip rows `account verdict cost` .., messages `kind time account` .., fills `slots height filter threshold`": a row is its numbers
pub record Sheet : Type 0 where
  pub skips : List (List ℕ)
  pub messages : List (List ℕ)
  pub fills : List (List ℕ)

-- ---- the ranges

-- "Numbers are decimal up to 2^64 − 1"; "An account is 0 to 65,535"; "Verdict, kind and filter are 0 or 1"
abbrev pub most : ℕ
most = 18446744073709551615

unfoldable pub skip_limits : List ℕ
skip_limits = 65535 ∷ 1 ∷ most ∷ []

unfoldable pub message_limits : List ℕ
message_limits = 1 ∷ most ∷ 65535 ∷ []

unfoldable pub fill_limits : List ℕ
fill_limits = most ∷ most ∷ 1 ∷ most ∷ []

-- a row has a number for each limit, and none above it
unfoldable pub Within : (limits row : List ℕ) → Type 0
Within [] [] = Unit {0}
Within [] (n ∷ ns) = ⊥
Within (l ∷ ls) [] = ⊥
Within (l ∷ ls) (n ∷ ns) = (n ≤ l) × Within ls ns

unfoldable pub AllWithin : (limits : List ℕ) → List (List ℕ) → Type 0
AllWithin limits [] = Unit {0}
AllWithin limits (r ∷ rs) = Within limits r × AllWithin limits rs

-- "(at most 64) .. (512) .. (64)"
pub record Fits (s : Sheet) : Type 0 where
  pub skips : (length s.skips ≤ 64) × AllWithin skip_limits s.skips
  pub messages : (length s.messages ≤ 512) × AllWithin message_limits s.messages
  pub fills : (length s.fills ≤ 64) × AllWithin fill_limits s.fills

-- ---- the text of a sheet

-- "one space apart, lines ended by LF": what ends a number, by the numbers behind it on its line
unfoldable pub stop_by : List ℕ → ℕ
stop_by [] = 10
stop_by (n ∷ ns) = 32

unfoldable pub line_text : List ℕ → List ℕ
line_text [] = []
line_text (n ∷ ns) = decimal n ++ (stop_by ns ∷ line_text ns)

unfoldable pub lines_text : List (List ℕ) → List ℕ
lines_text [] = []
lines_text (r ∷ rs) = line_text r ++ lines_text rs

-- "each section after its count on its own line"
unfoldable pub section_text : List (List ℕ) → List ℕ
section_text rows = line_text (length rows ∷ []) ++ lines_text rows

unfoldable pub text_of : Sheet → List ℕ
text_of s = section_text s.skips ++ (section_text s.messages ++ section_text s.fills)

-- ---- reading

-- something was read, and this text stands behind it; or this line is the first that is broken or missing
pub data Read (A : Type 0) : Type 0 where
  took : A → List ℕ → Read A
  broken : ℕ → Read A

-- what is read behind it; a broken line stays the broken line
abbrev pub after : {A B : Type 0} → Read A → (A → List ℕ → Read B) → Read B
after (took x rest) next = next x rest
after (broken line) next = broken line

-- "no leading zeros"
unfoldable pub plain : List ℕ → Bool
plain word = ltb (length word) 2 || not (eqb (get_or word 0 0) 48)

unfoldable pub is_plain_number : (limit : ℕ) → List ℕ → Bool
is_plain_number limit word = plain word && (is_number word && leb (value_of word) limit)

-- the number that ends at the first byte `stop`; a text without that byte has none
unfoldable pub number_at : (line stop limit : ℕ) → List ℕ → Read ℕ
number_at line stop limit text =
    let size = before stop text in
    cond (ltb size (length text) && is_plain_number limit (take size text))
    (took (value_of (take size text)) (drop (size + 1) text))
    (broken line)

-- a line: a number for each limit
unfoldable pub line_at : (line : ℕ) (limits : List ℕ) → List ℕ → Read (List ℕ)
line_at line [] text = took [] text
line_at line (l ∷ ls) text =
    after (number_at line (stop_by ls) l text) (λ n rest. after (line_at line ls rest) (λ ns behind. took (n ∷ ns) behind))

-- so many lines
unfoldable pub lines_at : (line : ℕ) (limits : List ℕ) → ℕ → List ℕ → Read (List (List ℕ))
lines_at line limits zero text = took [] text
lines_at line limits (suc k) text =
    after (line_at line limits text) (λ r rest. after (lines_at (line + 1) limits k rest) (λ rs behind. took (r ∷ rs) behind))

-- a section: its count, and so many lines; a count above its limit breaks its own line
unfoldable pub section_at : (line limit : ℕ) (limits : List ℕ) → List ℕ → Read (List (List ℕ))
section_at line limit limits text = after (number_at line 10 limit text) (λ n rest. lines_at (line + 1) limits n rest)

-- "nothing after": a byte behind the last fill is an extra line
unfoldable pub end_at : (line : ℕ) → Sheet → List ℕ → Read Sheet
end_at line s [] = took s []
end_at line s (b ∷ bs) = broken line

unfoldable pub sheet_at : List ℕ → Read Sheet
sheet_at text =
    after (section_at 1 64 skip_limits text) (λ skips rest.
    after (section_at (2 + length skips) 512 message_limits rest) (λ messages behind.
    after (section_at (3 + length skips + length messages) 64 fill_limits behind) (λ fills end.
    end_at (4 + length skips + length messages + length fills) (record { skips = skips; messages = messages; fills = fills }) end)))

-- "At the first broken, missing or extra line (line 1 if the sheet is too long)"; "text of at most 16,384 bytes"
pub data Reading : Type 0 where
  sheet : Sheet → Reading
  line : ℕ → Reading

abbrev pub reading_of : Read Sheet → Reading
reading_of (took s rest) = sheet s
reading_of (broken n) = line n

unfoldable pub read : List ℕ → Reading
read text = cond (ltb 16384 (length text)) (line 1) (reading_of (sheet_at text))
