-- Whether an account is in a set, by the row in which it is found; and the k-th account, by its row, none past the accounts held. Assumes nothing.
use mathlib.Core.Path.{◌≡◌, refl, sym, ap, ◌∙◌}
use mathlib.Core.List.{List, [], ◌∷◌}
use mathlib.Core.Option.{none, some}
use Rattle.std.specs.Prelude.{None, Some}
use Prim.Native.Nat.{ℕ, zero, suc, ◌<◌, ◌≤◌}
use native.Mathlib.Nat.{not-suc-le-zero}
use native.Mathlib.Omega.{arith}
use lib.Dec.{ltb}
use lib.ListN.{length, get_or}
use Rattle.numbers.specs.Bytes.{zeros}
use Rattle.columns.specs.Rows.{row_at, rows_of, index_of}
use Rattle.columns.proofs.Rows.{length_rows, get_d_rows}
use Rattle.rules.specs.World.{nth}
use Rattle.rules.specs.Queues.{is_in}
use Rattle.buffer_rules.proofs.Finds.{index_is_in}
use Rattle.message.specs.Real.{Real}
use Rattle.message.specs.Seen.{seen_account}

nth_at : {A : Type 0} (xs : List A) (k : ℕ) (d : A) → k < length xs → nth k xs ≡ some (get_or xs k d)
unfolding nth
nth_at [] k d l = absurd (not-suc-le-zero {n = 0} (omega (arith, l)))
nth_at (x ∷ xs) zero d l = refl
nth_at (x ∷ xs) (suc k) d l = nth_at xs k d (omega (arith, l))

nth_past : {A : Type 0} (xs : List A) (k : ℕ) → length xs ≤ k → nth k xs ≡ none
unfolding nth
nth_past [] k l = refl
nth_past (x ∷ xs) zero l = absurd (not-suc-le-zero {n = 0} (omega (arith, l)))
nth_past (x ∷ xs) (suc k) l = nth_past xs k (omega (arith, l))

pub has_row : (x : List ℕ) (held : ℕ) (accounts : List ℕ) → ltb (index_of x (rows_of held accounts)) held ≡ is_in Real x (rows_of held accounts)
has_row x held accounts = ap (ltb (index_of x (rows_of held accounts))) (sym (length_rows held accounts)) ∙ index_is_in x (rows_of held accounts)

module _ (held : ℕ) (accounts : List ℕ) (k : ℕ) where
  pub account_is : k < held → Some (row_at accounts k) ≡ seen_account (nth k (rows_of held accounts))
  account_is l = rw (nth_at (rows_of held accounts) k zeros (omega (arith, l, length_rows held accounts)), get_d_rows held k accounts zeros l)

  pub account_missing : held ≤ k → None ≡ seen_account (nth k (rows_of held accounts))
  account_missing l = rw (nth_past (rows_of held accounts) k (omega (arith, l, length_rows held accounts)))
