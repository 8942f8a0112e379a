-- What is seen of accounts in lent columns of a group. `ns` are the sixteen numbers. Assumes nothing.
use Rattle.std.specs.Prelude.{Bool, cond, List, ℕ, Option, ltb, get_or}
use Rattle.std.proofs.Math.Option.{none, some}
use Rattle.columns.specs.Rows.{row_at, rows_of, index_of}
use Rattle.message.specs.Seen.{seen_account}

-- whether an account has a row
abbrev pub holds : (accounts ns x : List ℕ) → Bool
holds accounts ns x = ltb (index_of x (rows_of (get_or ns 2 0) accounts)) (get_or ns 2 0)

-- the account in a row below the accounts held
abbrev pub account_found : (accounts ns : List ℕ) → ℕ → Option (List ℕ)
account_found accounts ns row = seen_account (cond (ltb row (get_or ns 2 0)) (some (row_at accounts row)) none)
