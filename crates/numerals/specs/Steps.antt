-- What reading a number leaves, said of the bytes from an index on. Assumes nothing.
use Rattle.std.specs.Prelude.{◌≡◌, cond, Option, Some, None, IfSome, List, ℕ, ◌≤◌, length, drop}
use Rattle.words.specs.Digits.{value_of}
use Rattle.numerals.specs.declared.Numeral.{Numeral}
use Rattle.sheet_rules.specs.Sheet.{Read, took, broken, is_plain_number, number_at}

-- a word read as a number that is not above the limit; the text goes on at `next`
unfoldable pub bounded : (limit next : ℕ) → List ℕ → Option Numeral
bounded limit next word = cond (is_plain_number limit word) (Some (record { value = value_of word; next = next })) None

-- what was read, on line `at`
abbrev pub number_by : (text : List ℕ) (at : ℕ) → Option Numeral → Read ℕ
number_by text at (Some n) = took n.value (drop n.next text)
number_by text at None = broken at

-- a number: the same whichever line it stands on
pub record ReadsNumber (text : List ℕ) (from stop limit : ℕ) (r : Option Numeral) : Type 0 where
  pub same : (at : ℕ) → number_at at stop limit (drop from text) ≡ number_by text at r
  pub within : IfSome r (λ n. n.next ≤ length text)
