-- The limits of a fill that are plain numbers: how many rows are lent, and each test. Assumes nothing.
use Rattle.std.specs.Prelude.{Bool, not, ◌&&◌, ◌||◌, List, ℕ, ◌+◌, ◌/◌, min, eqb, ltb}
use Rattle.columns.specs.Lists.{count_i}

-- as many rows as all lent columns have: a name is 32 bytes
abbrev pub rows_in : (names verdicts costs : ℕ) → ℕ
rows_in names verdicts costs = min (min (names / 32) verdicts) costs

-- a hash is 32 bytes
abbrev pub key_rows : (lts hashes : ℕ) → ℕ
key_rows lts hashes = min lts (hashes / 32)

-- how many of n rows say skip
abbrev pub skips_in : ℕ → List ℕ → ℕ
skips_in n verdicts = count_i (λ i v. not (eqb v 0)) n 0 verdicts

-- "slots asked for above S, or height above 16"
unfoldable pub too_large : (asked height most : ℕ) → Bool
too_large asked height most = ltb most asked || ltb 16 height

-- "more than 256 skip rows, or skipped set size plus rows saying skip (repeats included) above 512"
unfoldable pub many_skips : (rows : ℕ) (verdicts : List ℕ) (held : ℕ) → Bool
many_skips rows verdicts held = ltb 256 rows || ltb 512 (held + skips_in rows verdicts)

-- the slots to be opened, with the numbers behind the last, would have numbers above 65,535
unfoldable pub used_up : (opens last : ℕ) → Bool
used_up opens last = ltb 0 opens && ltb 65535 (last + opens)
