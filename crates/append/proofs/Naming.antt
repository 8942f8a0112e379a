-- One name more in the index: where an account gets the seat behind the last, entering its name makes the index of the accounts with it.
-- Assumes nothing.
use mathlib.Core.Path.{◌≡◌, refl, sym, ap, ap₂, ◌∙◌}
use mathlib.Core.Bool.{true}
use mathlib.Core.List.{List, [], ◌∷◌, ◌++◌}
use Prim.Native.Nat.{ℕ, ◌+◌, ◌*◌, ◌≤◌}
use native.Mathlib.Omega.{arith}
use lib.Dec.{leb, ltb}
use lib.ListN.{length, drop, set, length-set}
use lib.Seq.{drop-set-lt}
use borrow.Author.Tests.{leb-true, ltb-true}
use Rattle.numbers.proofs.Bytes.{by_bool}
use Rattle.columns.specs.Laid.{laid_at}
use Rattle.columns.specs.Rows.{rows_of}
use Rattle.columns.proofs.Laid.{length_laid, take_laid, middle_laid}
use Rattle.columns.proofs.Rows.{length_rows, rows_first, rows_split}
use Rattle.index.specs.Names.{index_of_names, indexed_by}
use Rattle.index.proofs.Chains.{index_more}
use Rattle.index.proofs.Cells.{own_index}
use Rattle.queues.specs.Append.{more, counted_c, seated_c}
use Rattle.admission.specs.Seats.{entered_c}

-- a store before the index
before : (l : List ℕ) (i v : ℕ) → ltb i 16 ≡ true → drop 16 (set l i v) ≡ drop 16 l
before l i v e = drop-set-lt 16 l i v (ltb-true i 16 e)

pub counted_length : (kind time seat : ℕ) (ns : List ℕ) → length (counted_c kind time seat ns) ≡ length ns
unfolding counted_c
counted_length kind time seat ns = simp length-set

-- counting leaves the index
pub counted_index : (kind time seat : ℕ) (ns : List ℕ) → drop 16 (counted_c kind time seat ns) ≡ drop 16 ns
unfolding counted_c
counted_index kind time seat ns = simp before

module _ (a : ℕ) (x accounts : List ℕ) (wide : length x ≡ 32) (fits : 32 * a + 32 ≤ length accounts) where
  rows_more : rows_of (a + 1) (laid_at (32 * a) x accounts) ≡ rows_of a accounts ++ (x ∷ [])
  unfolding rows_of
  rows_more =
      let all = laid_at (32 * a) x accounts in
      let room : 32 * a + length x ≤ length accounts = omega arith in
      let long = length_laid (32 * a) x accounts room in
      let first : rows_of a all ≡ rows_of a accounts =
      sym (rows_first a all (omega arith)) ∙ ap (rows_of a) (take_laid (32 * a) x accounts room (32 * a) (omega arith)) ∙ rows_first a accounts (omega arith) in
      rows_split a 1 (a + 1) all refl ∙ ap₂ ◌++◌ first (ap (λ (l : List ℕ). l ∷ []) (rw wide at (middle_laid (32 * a) x accounts room)))

pub named : (seat a : ℕ) (x accounts ns : List ℕ) → length x ≡ 32 → seat ≤ a → (a ≤ seat → 32 * a + 32 ≤ length accounts)
    → drop 16 ns ≡ index_of_names (rows_of a accounts)
    → entered_c seat a x ns ≡ indexed_by (more (leb a seat) a) (seated_c seat a x accounts) ns
unfolding seated_c
named seat a x accounts ns wide most fits e =
    by_bool (leb a seat)
    (λ t. let u = leb-true a seat t in
    let z : seat ≡ a = omega arith in
    rw (t, z, rows_more a x accounts wide (fits u), index_more (rows_of a accounts) x, length_rows a accounts, e))
    (λ f. rw (f, ← e) (sym (own_index ns)))
