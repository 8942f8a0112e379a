-- A run keeps what `Traced` says, from columns at entry that hold every row in a queue (`run_traced`). Assumes nothing.
use mathlib.Core.Path.{◌≡◌, refl, sym, ap, ◌∙◌}
use mathlib.Core.Bool.{Bool, true, false, cond}
use mathlib.Core.Logic.{◌⊎◌, inl, inr}
use mathlib.Core.List.{List, [], ◌∷◌}
use Prim.Native.Nat.{ℕ, zero, suc, ◌+◌, ◌<◌, ◌≤◌}
use native.Mathlib.Omega.{arith}
use lib.Dec.{eqb, leb, ltb}
use lib.ListN.{length, get_or, set}
use lib.Seq.{get_or-set_same, get_or-set_other}
use borrow.Author.Tests.{eqb-true, eqb-false, le-ltb}
use Rattle.numbers.proofs.Bytes.{by_bool}
use Rattle.columns.specs.Lists.{map_i}
use Rattle.moves.specs.declared.Fixed.{Fixed}
use Rattle.moves.specs.declared.Tally.{Tally}
use Rattle.moves.specs.Moves.{Store, store, check_marks, with_tally, costs, gone}
use Rattle.moves.specs.Good.{many}
use Rattle.moves.proofs.Keeps.{check_good}
use Rattle.meaning.specs.Meaning.{Columns, columns_of, with_owner, marks_of, check_c, pass_c, move_c}
use Rattle.meaning.specs.Walks.{Good}
use Rattle.meaning.specs.Passes.{sweep_cell, sweep_owners, run_c}
use Rattle.meaning.proofs.Kept.{check_keeps, pass_keeps, move_keeps}
use Rattle.settle_rules.specs.Facts.{Traced, TracedStore}
use Rattle.settle_rules.proofs.Traces.{cell_kept, pass_traced, move_traced, move_joined}
use Rattle.meaning.proofs.Through.{Steps, run_through}

-- the tally may change but for the rows taken and the accounts
pub tally_traced : {f : Fixed} {s₀ s : Store} (t : Tally) → t.taken ≡ s.tally.taken → t.accounts ≡ s.tally.accounts → TracedStore f s₀ s → TracedStore f s₀ (with_tally s t)
tally_traced t a b h = record {
  owners = h.owners;
  rows = λ k l. h.rows k (omega arith);
  from = λ k l. h.from k (omega arith);
  party = λ k l. h.party k (omega arith);
  more = omega (arith, h.more);
  old = h.old;
  new = λ g x l. h.new g x (omega arith);
  stays = h.stays;
}

-- ---- a check

module _ {f : Fixed} {cost : List ℕ} {m₀ m : Columns} (g : Good f cost m) (h : Traced f m₀ m) (p : ℕ) (l : p < 1280) where
  check_traced : Traced f m₀ (check_c cost p m)
  unfolding check_marks
  check_traced =
      by_bool (eqb (get_or m.mark p 0) 2)
      (λ e. rw e (record { store = tally_traced _ refl refl h.store; joined = h.joined }))
      (λ e. by_bool (eqb (get_or m.mark p 0) 1)
      (λ d. rw (e, d) (record {
        store = tally_traced _ refl refl h.store;
        joined = λ k a. by_bool (eqb k m.store.tally.joined)
            (λ c. let z = eqb-true k m.store.tally.joined c in rw (z, get_or-set_same m.joined m.store.tally.joined p 0 (room e d)) l)
            (λ c. let z = eqb-false k m.store.tally.joined c in rw (get_or-set_other m.joined m.store.tally.joined k p 0 z) (h.joined k (omega arith)));
      }))
      (λ d. rw (e, d) (record { store = tally_traced _ refl refl h.store; joined = h.joined })))
    where
      joined_more : eqb (get_or m.mark p 0) 2 ≡ false → eqb (get_or m.mark p 0) 1 ≡ true → (check_marks cost p (marks_of m)).tally.joined ≡ m.store.tally.joined + 1
      joined_more e d = rw (e, d)

      room : eqb (get_or m.mark p 0) 2 ≡ false → eqb (get_or m.mark p 0) 1 ≡ true → m.store.tally.joined < length m.joined
      room e d = omega (arith, (check_good cost p (marks_of m) l g.marks).joins, joined_more e d, g.marks.joined_long)

-- ---- the sweep

sweep_cell_lem : (class : List ℕ) (a q m i j : ℕ) (os : List ℕ) → (get_or (map_i (sweep_cell class q a) m i os) j 0 ≡ get_or os j 0) ⊎ (2048 ≤ get_or (map_i (sweep_cell class q a) m i os) j 0)
unfolding map_i
sweep_cell_lem class a q zero i j os = inl refl
sweep_cell_lem class a q (suc m) i j [] = inl refl
sweep_cell_lem class a q (suc m) i zero (o ∷ os) =
    by_bool (eqb (get_or class i 0) 2)
    (λ e. by_bool (leb q o)
    (λ d. by_bool (ltb o a) (λ c. rw (e, d, c) (inr (omega arith))) (λ c. rw (e, d, c) (inl refl)))
    (λ d. rw (e, d) (inl refl)))
    (λ e. rw e (inl refl))
sweep_cell_lem class a q (suc m) i (suc j) (o ∷ os) = sweep_cell_lem class a q m (i + 1) j os

sweep_same : (class : List ℕ) (a q m i j : ℕ) (os : List ℕ) → a ≤ get_or os j 0 → get_or (map_i (sweep_cell class q a) m i os) j 0 ≡ get_or os j 0
unfolding map_i
sweep_same class a q zero i j os n = refl
sweep_same class a q (suc m) i j [] n = refl
sweep_same class a q (suc m) i zero (o ∷ os) n =
    by_bool (eqb (get_or class i 0) 2)
    (λ e. by_bool (leb q o) (λ d. rw (e, d, le-ltb o a n)) (λ d. rw (e, d)))
    (λ e. rw e)
sweep_same class a q (suc m) i (suc j) (o ∷ os) n = sweep_same class a q m (i + 1) j os n

sweep_traced : {f : Fixed} {s₀ s : Store} (class : List ℕ) (q : ℕ) → f.places ≤ 256 → TracedStore f s₀ s
    → TracedStore f s₀ (with_owner s (sweep_owners class f.rows q f.places s.owner))
unfolding sweep_owners
sweep_traced {f} {s₀} {s} class q fit h = record {
  owners = λ i a. cell_kept f.places _ _ (sweep_cell_lem class f.places q f.rows 0 i s.owner) (h.owners i a);
  rows = h.rows;
  from = λ k a. rw (same k a) (h.from k a);
  party = λ k a. rw (same k a) (h.party k a);
  more = h.more;
  old = h.old;
  new = h.new;
  stays = h.stays;
}
  where
    same : (k : ℕ) → k < s.tally.taken → get_or (map_i (sweep_cell class q f.places) f.rows 0 s.owner) (get_or s.taken k 0) 0 ≡ get_or s.owner (get_or s.taken k 0) 0
    same k a = sweep_same class f.places q f.rows 0 (get_or s.taken k 0) s.owner (omega (arith, h.from k a))

-- ---- a run

abbrev Kept : (f : Fixed) (cost : List ℕ) (m₀ m : Columns) → Type 0
Kept f cost m₀ m = Good f cost m × Traced f m₀ m

steps : (class cost : List ℕ) (f : Fixed) (m₀ : Columns) → f.places ≤ 256 → Steps class cost f 64 (Kept f cost m₀) (Traced f m₀)
steps class cost f m₀ fit = record {
  check = λ p l m h. (check_keeps h.0 class p l, check_traced h.0 h.1 p l);
  pass = λ p l m h. (pass_keeps h.0 class p l, record { store = pass_traced class p l h.1.store; joined = h.1.joined });
  move = λ p j l jl m h. (move_keeps h.0 class p l j jl, moved p j l jl m h.0 h.1);
  sweep = λ i m h. record { store = sweep_traced class i fit h.1.store; joined = h.1.joined };
  bill = λ m h. record { store = tally_traced _ refl refl h.store; joined = h.joined };
  parties = λ m h. h.0.parties;
  places = fit;
}
  where
    moved : (p j : ℕ) → p < 1280 → j < 64 → (m : Columns) → Good f cost m → Traced f m₀ m → Traced f m₀ (move_c class f p j m)
    moved p j l jl m g h = record { store = move_traced class p j l jl g.store h.store; joined = λ k a. h.joined k (omega (arith, move_joined class f p j m.store)) }

-- at entry every row is in a queue
pub start_traced : (f : Fixed) (m : Columns) → m.store.tally.taken ≡ 0 → m.store.tally.joined ≡ 0 → ((i : ℕ) → i < f.rows → get_or m.store.owner i 0 < f.places) → Traced f m m
start_traced f m t j h = record {
  store = record {
    owners = λ i l. inl (h i l);
    rows = λ k l. absurd (omega arith);
    from = λ k l. absurd (omega arith);
    party = λ k l. absurd (omega arith);
    more = omega arith;
    old = λ g l. refl;
    new = λ g a l. absurd (omega arith);
    stays = λ p l n. refl;
  };
  joined = λ k l. absurd (omega arith);
}

pub run_traced : (class cost : List ℕ) (f : Fixed) (n : ℕ) (xs numbers : List ℕ) (slots last : ℕ) (m : Columns) → slots + n ≤ 64 → Good f cost m → Traced f m m
    → Traced f m (run_c class cost f n xs numbers slots last m).now
run_traced class cost f n xs numbers slots last m b g h = run_through (steps class cost f m g.store.places_fit) n xs numbers slots last m b (g, h)
