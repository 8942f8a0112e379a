-- Texts read by computing the definition: document 01's example, the ends of the ranges, and each kind of broken line. Assumes nothing.
use mathlib.Core.Path.{◌≡◌, refl}
use mathlib.Core.List.{[], ◌∷◌}
use Prim.Native.Nat.{ℕ}
use Rattle.words.specs.Cut.{leading}
use Rattle.words.specs.Digits.{value_from, digits_only, value_of, is_number}
use Rattle.sheet_rules.specs.Sheet.{skip_limits, message_limits, fill_limits, stop_by, plain, is_plain_number, number_at, line_at, lines_at, section_at, end_at, sheet_at, sheet, line, read}

-- one name that opens what the reading is made of
unfoldable reading : ℕ
unfolding leading value_from digits_only value_of is_number skip_limits message_limits fill_limits stop_by plain is_plain_number number_at line_at lines_at section_at end_at sheet_at read
reading = 0

-- document 01's example: "0|3|1 90 7|0 5 7|0 6 9|1|2 2 1 100|"
pub example : read (48 ∷ 10 ∷ 51 ∷ 10 ∷ 49 ∷ 32 ∷ 57 ∷ 48 ∷ 32 ∷ 55 ∷ 10 ∷ 48 ∷ 32 ∷ 53 ∷ 32 ∷ 55 ∷ 10 ∷ 48 ∷ 32 ∷ 54 ∷ 32 ∷ 57 ∷ 10 ∷ 49 ∷ 10 ∷ 50 ∷ 32 ∷ 50 ∷ 32 ∷ 49 ∷ 32 ∷ 49 ∷ 48 ∷ 48 ∷ 10 ∷ []) ≡ sheet (record { skips = []; messages = (1 ∷ 90 ∷ 7 ∷ []) ∷ (0 ∷ 5 ∷ 7 ∷ []) ∷ (0 ∷ 6 ∷ 9 ∷ []) ∷ []; fills = (2 ∷ 2 ∷ 1 ∷ 100 ∷ []) ∷ [] })
unfolding reading
example = refl

-- no rows at all: "0|0|0|"
pub smallest : read (48 ∷ 10 ∷ 48 ∷ 10 ∷ 48 ∷ 10 ∷ []) ≡ sheet (record { skips = []; messages = []; fills = [] })
unfolding reading
smallest = refl

-- the greatest account, verdict and cost: "1|65535 1 18446744073709551615|0|0|"
pub largest : read (49 ∷ 10 ∷ 54 ∷ 53 ∷ 53 ∷ 51 ∷ 53 ∷ 32 ∷ 49 ∷ 32 ∷ 49 ∷ 56 ∷ 52 ∷ 52 ∷ 54 ∷ 55 ∷ 52 ∷ 52 ∷ 48 ∷ 55 ∷ 51 ∷ 55 ∷ 48 ∷ 57 ∷ 53 ∷ 53 ∷ 49 ∷ 54 ∷ 49 ∷ 53 ∷ 10 ∷ 48 ∷ 10 ∷ 48 ∷ 10 ∷ []) ≡ sheet (record { skips = (65535 ∷ 1 ∷ 18446744073709551615 ∷ []) ∷ []; messages = []; fills = [] })
unfolding reading
largest = refl

-- no bytes: ""
pub empty : read ([]) ≡ line 1
unfolding reading
empty = refl

-- a line is missing: "0|0|"
pub two_lines : read (48 ∷ 10 ∷ 48 ∷ 10 ∷ []) ≡ line 3
unfolding reading
two_lines = refl

-- the last line has no end: "0|0|0"
pub unended : read (48 ∷ 10 ∷ 48 ∷ 10 ∷ 48 ∷ []) ≡ line 3
unfolding reading
unended = refl

-- an empty line behind the last: "0|0|0||"
pub extra : read (48 ∷ 10 ∷ 48 ∷ 10 ∷ 48 ∷ 10 ∷ 10 ∷ []) ≡ line 4
unfolding reading
extra = refl

-- a zero in front: "0|00|0|"
pub zeros : read (48 ∷ 10 ∷ 48 ∷ 48 ∷ 10 ∷ 48 ∷ 10 ∷ []) ≡ line 2
unfolding reading
zeros = refl

-- as many skip rows as there may be are counted, and the first of them is missing: "64|"
pub sixty_four : read (54 ∷ 52 ∷ 10 ∷ []) ≡ line 2
unfolding reading
sixty_four = refl

-- a count above its limit: "65|"
pub sixty_five : read (54 ∷ 53 ∷ 10 ∷ []) ≡ line 1
unfolding reading
sixty_five = refl

-- an account above 65,535: "1|65536 0 0|0|0|"
pub account : read (49 ∷ 10 ∷ 54 ∷ 53 ∷ 53 ∷ 51 ∷ 54 ∷ 32 ∷ 48 ∷ 32 ∷ 48 ∷ 10 ∷ 48 ∷ 10 ∷ 48 ∷ 10 ∷ []) ≡ line 2
unfolding reading
account = refl

-- a verdict of 2: "1|7 2 0|0|0|"
pub verdict : read (49 ∷ 10 ∷ 55 ∷ 32 ∷ 50 ∷ 32 ∷ 48 ∷ 10 ∷ 48 ∷ 10 ∷ 48 ∷ 10 ∷ []) ≡ line 2
unfolding reading
verdict = refl

-- a kind of 2: "0|1|2 5 7|0|"
pub kind : read (48 ∷ 10 ∷ 49 ∷ 10 ∷ 50 ∷ 32 ∷ 53 ∷ 32 ∷ 55 ∷ 10 ∷ 48 ∷ 10 ∷ []) ≡ line 3
unfolding reading
kind = refl

-- a filter of 2: "0|0|1|1 1 2 0|"
pub filter : read (48 ∷ 10 ∷ 48 ∷ 10 ∷ 49 ∷ 10 ∷ 49 ∷ 32 ∷ 49 ∷ 32 ∷ 50 ∷ 32 ∷ 48 ∷ 10 ∷ []) ≡ line 4
unfolding reading
filter = refl

-- 2^64: "1|7 0 18446744073709551616|0|0|"
pub large : read (49 ∷ 10 ∷ 55 ∷ 32 ∷ 48 ∷ 32 ∷ 49 ∷ 56 ∷ 52 ∷ 52 ∷ 54 ∷ 55 ∷ 52 ∷ 52 ∷ 48 ∷ 55 ∷ 51 ∷ 55 ∷ 48 ∷ 57 ∷ 53 ∷ 53 ∷ 49 ∷ 54 ∷ 49 ∷ 54 ∷ 10 ∷ 48 ∷ 10 ∷ 48 ∷ 10 ∷ []) ≡ line 2
unfolding reading
large = refl

-- two spaces: "0|1|0  5 7|0|"
pub spaces : read (48 ∷ 10 ∷ 49 ∷ 10 ∷ 48 ∷ 32 ∷ 32 ∷ 53 ∷ 32 ∷ 55 ∷ 10 ∷ 48 ∷ 10 ∷ []) ≡ line 3
unfolding reading
spaces = refl

-- a number is missing: "0|1|0 5|0|"
pub short : read (48 ∷ 10 ∷ 49 ∷ 10 ∷ 48 ∷ 32 ∷ 53 ∷ 10 ∷ 48 ∷ 10 ∷ []) ≡ line 3
unfolding reading
short = refl

-- a number too many: "0|1|0 5 7 9|0|"
pub long : read (48 ∷ 10 ∷ 49 ∷ 10 ∷ 48 ∷ 32 ∷ 53 ∷ 32 ∷ 55 ∷ 32 ∷ 57 ∷ 10 ∷ 48 ∷ 10 ∷ []) ≡ line 3
unfolding reading
long = refl

-- CR before LF: "0<CR>|0|0|"
pub returned : read (48 ∷ 13 ∷ 10 ∷ 48 ∷ 10 ∷ 48 ∷ 10 ∷ []) ≡ line 1
unfolding reading
returned = refl

-- fewer messages than counted: "0|2|0 5 7|0|"
pub fewer : read (48 ∷ 10 ∷ 50 ∷ 10 ∷ 48 ∷ 32 ∷ 53 ∷ 32 ∷ 55 ∷ 10 ∷ 48 ∷ 10 ∷ []) ≡ line 4
unfolding reading
fewer = refl
