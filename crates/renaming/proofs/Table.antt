-- Numbers for accounts, by a table without repeats: what the laws of `RenameIn` ask for holds of the numbers below the table's length.
-- Assumes nothing.
use mathlib.Core.Path.{◌≡◌, refl, sym, ap, ◌∙◌}
use mathlib.Core.Bool.{false}
use mathlib.Core.Logic.{inl, inr}
use mathlib.Core.List.{List, [], ◌∷◌}
use Prim.Native.Nat.{ℕ, zero, suc, ◌<◌}
use native.Mathlib.Omega.{arith}
use lib.Dec.{eqb}
use lib.ListN.{length, get_or}
use Rattle.rules.specs.World.{World, Args, Each}
use Rattle.rules.specs.Calls.{Store, Target}
use Rattle.rules.specs.Queues.{is_in}
use Rattle.rules.specs.Demand.{Once}
use Rattle.renaming.specs.Renaming.{Kinds, Agrees, InArgs, InStore, InGroup, Numbered, by_table}
use Rattle.renaming.proofs.In.{FillGroupIn, fill_group_in}
use Rattle.demands.proofs.Rows.{Lawful, which, or_false}
use Rattle.demands.proofs.Slots.{eq_of, eq_true, ne_of, ne_false}
use Rattle.demands.proofs.Accounts.{turn}

eqb_suc : (p q : ℕ) → eqb p q ≡ eqb (suc p) (suc q)
eqb_suc p q = elim (which (eqb p q)) [
  | inl e ↦ e ∙ sym (eq_true (suc p) (suc q) (ap suc (eq_of p q e)))
  | inr e ↦ e ∙ sym (ne_false (suc p) (suc q) (λ h. ne_of p q e (omega arith)))
]

module _ (U : World) (L : Lawful U) (d : U.Acc) where
  other_row : (x : U.Acc) (t : List U.Acc) (q : ℕ) → q < length t → is_in U x t ≡ false → U.same x (get_or t q d) ≡ false
  unfolding is_in
  other_row x [] q h i = absurd (omega arith)
  other_row x (y ∷ t) zero h i = (or_false (U.same x y) (is_in U x t) i).0
  other_row x (y ∷ t) (suc q) h i = other_row x t q (omega arith) (or_false (U.same x y) (is_in U x t) i).1

  rows_differ : (t : List U.Acc) → Once U t → (p q : ℕ) → p < length t → q < length t → U.same (get_or t p d) (get_or t q d) ≡ eqb p q
  rows_differ [] o p q h k = absurd (omega arith)
  rows_differ (x ∷ t) o zero zero h k = L.self x ∙ sym (eq_true 0 0 refl)
  rows_differ (x ∷ t) o zero (suc q) h k = other_row x t q (omega arith) o.0 ∙ sym (ne_false 0 (suc q) (λ e. omega arith))
  rows_differ (x ∷ t) o (suc p) zero h k = turn U L x (get_or t p d) (other_row x t p (omega arith) o.0) ∙ sym (ne_false (suc p) 0 (λ e. omega arith))
  rows_differ (x ∷ t) o (suc p) (suc q) h k = rows_differ t o.1 p q (omega arith) (omega arith) ∙ eqb_suc p q

  module _ (Msg : Type 0) (μ : Msg → U.Msg) (table : List U.Acc) where
    pub table_agrees : Once U table → Agrees (Numbered U Msg μ) U (by_table U Msg μ table d) (λ p. p < length table)
    table_agrees o p q h k = rows_differ table o p q h k

    pub table_kinds : Kinds (Numbered U Msg μ) U (by_table U Msg μ table d)
    table_kinds = record { external = λ m. refl; time = λ m. refl; key = λ m. refl }

    -- so a fill on numbers, read through the table, is the fill on what the table holds; and its answer names only rows of the table
    pub fill_by_table : Once U table → (A : Args (Numbered U Msg μ)) (keys : List U.Key) (s : Store (Numbered U Msg μ)) (t : Target (Numbered U Msg μ)) (skipped : List ℕ) →
        InArgs (Numbered U Msg μ) (λ p. p < length table) A → InStore (Numbered U Msg μ) (λ p. p < length table) s → InGroup (Numbered U Msg μ) (λ p. p < length table) t.now →
        Each (λ p. p < length table) skipped → FillGroupIn (by_table U Msg μ table d) (λ p. p < length table) A keys s t skipped
    fill_by_table o A keys s t skipped pA ps pt pk = fill_group_in (by_table U Msg μ table d) (λ p. p < length table) (table_agrees o) table_kinds A keys s t skipped pA ps pt pk
