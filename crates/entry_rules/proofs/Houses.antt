-- Homes given out to different parties: a party of the list has the home of its index, any other keeps what it had. Assumes nothing.
use mathlib.Core.Path.{◌≡◌, refl, sym, ap, ◌∙◌}
use mathlib.Core.List.{List}
use Prim.Native.Nat.{ℕ, zero, suc, ◌+◌, ◌<◌, ◌≤◌}
use native.Mathlib.Nat.{not-suc-le-zero, le_refl}
use native.Mathlib.Omega.{arith}
use lib.Dec.{eqb}
use lib.ListN.{length, get_or, set, length-set}
use lib.Seq.{get_or-set_same, get_or-set_other}
use borrow.Author.Tests.{eqb-true, eqb-false}
use Rattle.numbers.proofs.Bytes.{by_bool}
use Rattle.columns.proofs.Tabs.{later}
use Rattle.entry.specs.Entry.{housed_c}

module _ (homes member : List ℕ) where
  pub homes_long : (m g : ℕ) (home : List ℕ) → length (housed_c homes member m g home) ≡ length home
  unfolding housed_c
  homes_long zero g home = refl
  homes_long (suc m) g home = homes_long m (g + 1) (set home (get_or member g 0) (get_or homes g 0)) ∙ length-set home (get_or member g 0) (get_or homes g 0)

  pub home_kept : (p m g : ℕ) (home : List ℕ) → ((j : ℕ) → g ≤ j → j < g + m → get_or member j 0 ≡ p → ⊥)
      → get_or (housed_c homes member m g home) p 0 ≡ get_or home p 0
  unfolding housed_c
  home_kept p zero g home h = refl
  home_kept p (suc m) g home h =
      home_kept p m (g + 1) (set home (get_or member g 0) (get_or homes g 0)) (later m g h)
      ∙ get_or-set_other home (get_or member g 0) p (get_or homes g 0) 0 (λ e. h g (le_refl g) (omega arith) (sym e))

  -- parties are different, and the column has a cell for each
  pub home_given : (m g : ℕ) (home : List ℕ)
      → ((i j : ℕ) → g ≤ i → i < g + m → g ≤ j → j < g + m → get_or member i 0 ≡ get_or member j 0 → i ≡ j)
      → ((i : ℕ) → g ≤ i → i < g + m → get_or member i 0 < length home)
      → (k : ℕ) → g ≤ k → k < g + m → get_or (housed_c homes member m g home) (get_or member k 0) 0 ≡ get_or homes k 0
  unfolding housed_c
  home_given zero g home o s k a b = absurd (not-suc-le-zero {n = 0} (omega arith))
  home_given (suc m) g home o s k a b =
      let next = set home (get_or member g 0) (get_or homes g 0) in
      by_bool (eqb g k)
      (λ t. let z : g ≡ k = eqb-true g k t in
      home_kept (get_or member k 0) m (g + 1) next (λ j x y e. let w = o j k (omega arith) (omega arith) (omega arith) (omega arith) e in omega arith)
      ∙ ap (λ (i : ℕ). get_or next (get_or member i 0) 0) (sym z)
      ∙ get_or-set_same home (get_or member g 0) (get_or homes g 0) 0 (s g (le_refl g) (omega arith))
      ∙ ap (λ (i : ℕ). get_or homes i 0) z)
      (λ t. let n = eqb-false g k t in
      home_given m (g + 1) next
      (λ i j x y z w e. o i j (omega arith) (omega arith) (omega arith) (omega arith) e)
      (λ i x y. let l = s i (omega arith) (omega arith) in rw length-set l)
      k (omega arith) (omega arith))
