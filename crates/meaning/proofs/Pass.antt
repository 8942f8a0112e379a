-- Passing over in the columns is passing over in what they mean: `pass_abs`, from what it does to the queues. Assumes nothing.
use mathlib.Core.Path.{◌≡◌, refl, sym, ap}
use mathlib.Core.List.{List, [], ◌∷◌, ◌++◌}
use mathlib.Core.Bool.{Bool, false}
use Prim.Native.Nat.{ℕ, zero, suc, ◌<◌, ◌≤◌}
use native.Mathlib.Omega.{arith}
use lib.Dec.{eqb}
use lib.ListN.{get_or, take}
use borrow.Author.Tests.{ne_eqb, eqb-true, eqb-false}
use Rattle.rules.specs.World.{World, Args, keep}
use Rattle.rules.specs.Queues.{edit, undroppable}
use Rattle.rules.specs.Passes.{pass_over}
use Rattle.moves.specs.declared.Fixed.{Fixed}
use Rattle.columns.specs.Lists.{tab_i}
use Rattle.meaning.specs.Meaning.{owned, Numbers, Columns, Setting, state_of, pass_c, Agrees, Fits, given, order_row, group_row, row}
use Rattle.moves.specs.Moves.{pass_owners, gone}
use Rattle.numbers.proofs.Bytes.{by_bool}
use Rattle.columns.proofs.Tabs.{tab_cong}
use Rattle.meaning.proofs.Tabs.{edit_tab}
use Rattle.meaning.proofs.Queues.{pass_own, pass_other, pass_kept}

-- what is kept of a list by two tests that agree on it
pub keep_cong : (g h : ℕ → Bool) (d : ℕ) (ts : List ℕ) (n : ℕ) → ((t : ℕ) → t < n → g (get_or ts t d) ≡ h (get_or ts t d)) → keep g (take n ts)
    ≡ keep h (take n ts)
unfolding keep
keep_cong g h d ts zero e = refl
keep_cong g h d [] (suc n) e = refl
keep_cong g h d (t ∷ ts) (suc n) e = rw (e 0 (omega arith), keep_cong g h d ts n (λ u l. e (suc u) (omega arith)))

module _ (ext : ℕ → Bool) (time : ℕ → ℕ) (A : Args (Numbers ext time)) (class cost : List ℕ) (f : Fixed) (b : Setting) (o : ℕ) (m : Columns)
    (k : Agrees ext time A class cost f) (v : Fits ext time A f b o m) (p : ℕ) (l : p < 1280) (places : f.places ≤ 256) where
  abbrev W : World
  W = Numbers ext time

  abbrev os : List ℕ
  os = m.store.owner

  abbrev os' : List ℕ
  os' = pass_owners class f.rows p os

  here : (q : ℕ) → q < 1280 → eqb gone q ≡ false
  here q h = ne_eqb gone q (λ e. omega arith)

  order_is : edit W p (undroppable W A.filter) (tab_i f.places 0 (order_row ext time f.rows os))
      ≡ tab_i f.places 0 (order_row ext time f.rows os')
  unfolding pass_owners
  order_is =
      edit_tab ext time p (λ j. owned j f.rows 0 os) (undroppable W A.filter) (λ j. owned j f.rows 0 os') f.places 0
      (λ j a c. by_bool (eqb p j)
      (λ e. let z = eqb-true p j e in rw (e, ← z) (sym (pass_own ext time A class p (here p l) f.rows 0 os (λ i x y. k.drops i (omega arith)))))
      (λ e. rw e (sym (pass_other ext time A class p (here p l) j f.rows 0 os (here j (omega arith)) (λ z. eqb-false p j e (sym z))))))

  pub given_is : (q : ℕ) → given ext time os' (take m.store.tally.taken m.store.taken) q
      ≡ given ext time os (take m.store.tally.taken m.store.taken) q
  unfolding pass_owners
  given_is q =
      keep_cong _ _ 0 m.store.taken m.store.tally.taken
      (λ t h. rw (pass_kept ext time A class p (here p l) f.rows 0 (get_or m.store.taken t 0) os (λ e. omega (arith, (v.gone t h).1))))

  pub pass_abs : pass_over W A p (state_of ext time f b o m) ≡ state_of ext time f b o (pass_c class f p m)
  unfolding pass_over state_of
  pass_abs =
      rw (order_is)
      (rw (tab_cong m.store.tally.accounts 0 (group_row ext time b.entry_lists m.store.member os
      (take m.store.tally.taken m.store.taken))
      (group_row ext time b.entry_lists m.store.member os' (take m.store.tally.taken m.store.taken))
      (λ g x y. ap (λ (z : List ℕ). row ext time (get_or m.store.member g 0) (get_or b.entry_lists g [] ++ z))
      (sym (given_is (get_or m.store.member g 0))))))
