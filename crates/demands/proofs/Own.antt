-- Demand 3, third sentence, for an account that has a slot: if it still has an undroppable message, its slot holds at least the height.
-- The invariant (`Owned`): of an account that is not marked and stands in slot n, either n is a slot of entry still to be visited, or the
-- account is done (no undroppable message, or slot n at the height). Assumes nothing.
use mathlib.Core.Path.{◌≡◌, refl, sym, ap, ◌∙◌, subst}
use mathlib.Core.Bool.{Bool, true, false, cond, not, ◌&&◌}
use mathlib.Core.Logic.{◌⊎◌, inl, inr}
use mathlib.Core.List.{List, [], ◌∷◌, ◌++◌}
use Prim.Native.Nat.{ℕ, ◌-◌, ◌≤◌}
use native.Mathlib.Omega.{arith}
use lib.Dec.{eqb}
use Rattle.rules.specs.World.{World, Slot, Args, is_nil, is_member}
use Rattle.rules.specs.Queues.{has, at, is_in, count_of, accounts_of, has_slot}
use Rattle.rules.specs.Passes.{State, marked, checked, pass_over, moved, room, is_full, move, try, opened, closed, own, visit, second}
use Rattle.demands.proofs.Rows.{Lawful, which, clash, or_cases, and_true}
use Rattle.demands.proofs.Slots.{eq_of, eq_self, is_in_append, accounts_of_grow_same, accounts_of_grow_other, accounts_of_has, accounts_of_open, accounts_of_drop_other, has_slot_drop_same}
use Rattle.demands.proofs.Steps.{Moves, Steps, R_try, R_own, R_reach, R_visit}
use Rattle.demands.proofs.Move.{Le, le_steps, Done, done_keeps, move_done, has_slot_move, Numbers, numbers_steps, has_slot_same}

pub full_height : (h c : ℕ) → eqb (h - c) 0 ≡ true → h ≤ c
full_height h c e = omega (arith, eq_of (h - c) 0 e)

module _ (W : World) (L : Lawful W) (A : Args W) where
  le : Moves W A (Le W L A)
  le = (le_steps W L A 0).core

  pub full_least : (n : ℕ) (s : State W) → is_full W A n s ≡ true → A.height ≤ count_of W n s.slots
  unfolding is_full room
  full_least n s e = full_height A.height (count_of W n s.slots) e

  try_done : (n : ℕ) (a : W.Acc) (s : State W) → marked W A s.skipped a ≡ false → has_slot W n s.slots ≡ true → Done W L A a n (try W A n a s)
  unfolding try checked
  try_done n a s u h = rw u (move_done W L A n a (checked W A a s) h)

  -- an account that comes to a slot's list by a move is the one that was moved
  new_account : (m n : ℕ) (a b : W.Acc) (s : State W) → is_in W a (accounts_of W n s.slots) ≡ false →
      is_in W a (accounts_of W n (move W A m b s).slots) ≡ true → (n ≡ m) × (a ≡ b)
  unfolding move is_in
  new_account m n a b s o h = elim (which (eqb n m)) [
    | inl e ↦ (eq_of n m e, by new (eq_of n m e) (rw (accounts_of_grow_same W m b new got s.slots (has' (eq_of n m e))) at (rw (eq_of n m e) at h)))
    | inr e ↦ clash _ h (rw (accounts_of_grow_other W m b new got n e s.slots) o)
  ]
    where
      got : List W.Msg
      got = (moved W A (room W A m s) (at W b s.order)).got

      new : Bool
      new = not (has W b s.lists) && not (is_nil got)

      has' : n ≡ m → has_slot W m s.slots ≡ true
      has' e = sym (has_slot_move W L A m m b s) ∙ accounts_of_has W a m _ (rw e at h)

      by : (c : Bool) → n ≡ m → is_in W a (cond c (accounts_of W m s.slots ++ (b ∷ [])) (accounts_of W m s.slots)) ≡ true → a ≡ b
      by false e i = clash _ i (rw e at o)
      by true e i = elim (or_cases (is_in W a (accounts_of W m s.slots)) (is_in W a (b ∷ [])) (sym (is_in_append W a (accounts_of W m s.slots) (b ∷ [])) ∙ i)) [
        | inl j ↦ clash _ j (rw e at o)
        | inr j ↦ elim (or_cases (W.same a b) false j) [ inl k ↦ L.decide a b k | inr k ↦ clash false k refl ]
      ]

  module _ (entry : List (Slot W)) (a : W.Acc) (n : ℕ) where
    abbrev pub Owned : List ℕ → State W → Type 0
    Owned ns s = is_in W a (accounts_of W n s.slots) ≡ true → ((is_member n ns ≡ true) × (has_slot W n entry ≡ true)) ⊎ Done W L A a n s

    later : (ns : List ℕ) (s t : State W) → Le W L A s t → is_in W a (accounts_of W n s.slots) ≡ true → Owned ns s →
        ((is_member n ns ≡ true) × (has_slot W n entry ≡ true)) ⊎ Done W L A a n t
    later ns s t l i p = elim (p i) [ inl w ↦ inl w | inr d ↦ inr (done_keeps W L A a n s t l d) ]

    pub owned_steps : (ns : List ℕ) (N : ℕ) → Steps W A N (λ s t. Owned ns s → Owned ns t)
    unfolding checked pass_over opened closed
    owned_steps ns N = record {
      core = record {
        stay = λ s p. p;
        and_then = λ s t u p q o. q (p o);
        check = λ b s p i. later ns s (checked W A b s) (le.check b s) i p;
        pass = λ b s p i. later ns s (pass_over W A b s) (le.pass b s) i p;
        mv = λ m b s p i. elim (which (is_in W a (accounts_of W n s.slots))) [
          | inl j ↦ later ns s (move W A m b s) (le.mv m b s) j p
          | inr j ↦ inr (by m b s i (new_account m n a b s j i))
        ];
      };
      opn = λ m s h p i. later ns s (opened W A m s) ((le_steps W L A N).opn m s h) (sym (ap (is_in W a) (accounts_of_open W m n s.slots)) ∙ i) p;
      cls = λ m s h z p i. elim (which (eqb n m)) [
        | inl e ↦ clash _ (accounts_of_has W a n _ i) (rw (eq_of n m e) (has_slot_drop_same W m s.slots))
        | inr e ↦ later ns s (closed W A m s) ((le_steps W L A N).cls m s h z) (sym (ap (is_in W a) (accounts_of_drop_other W m n e s.slots)) ∙ i) p
      ];
    }
      where
        by : (m : ℕ) (b : W.Acc) (s : State W) → is_in W a (accounts_of W n (move W A m b s).slots) ≡ true → (n ≡ m) × (a ≡ b) → Done W L A a n (move W A m b s)
        by m b s i e = subst (λ (x : W.Acc). Done W L A a n (move W A m x s)) e.1
            (subst (λ (x : ℕ). Done W L A a n (move W A x a s)) e.0 (move_done W L A n a s
            (sym (has_slot_move W L A m n b s) ∙ accounts_of_has W a n _ i)))

    -- the visit to slot n: every account of the slot that is not marked is done
    pub own_done : (more : List W.Acc) (s : State W) → is_in W a more ≡ true → marked W A s.skipped a ≡ false → has_slot W n s.slots ≡ true → Done W L A a n (own W A n more s)
    unfolding own is_in
    own_done [] s i u h = clash false i refl
    own_done (b ∷ more) s i u h = elim (which (not (marked W A s.skipped b) && is_full W A n (try W A n b s))) [
      | inl e ↦ rw e (inr (stopped (and_true (not (marked W A s.skipped b)) (is_full W A n (try W A n b s)) e).1))
      | inr e ↦ rw e (elim (which (W.same a b)) [
        | inl d ↦ done_keeps W L A a n t _ (R_own W L A (Le W L A) le n more t) (first' (L.decide a b d))
        | inr d ↦ own_done more t (rw d at i) (lt.marks a ∙ u) (has_slot_same W L A n s t (R_try W L A (Numbers W L A) (numbers_steps W L A) n b s) ∙ h)
      ])
    ]
      where
        t : State W
        t = try W A n b s

        lt : Le W L A s t
        lt = R_try W L A (Le W L A) le n b s

        stopped : is_full W A n t ≡ true → A.height ≤ count_of W n t.slots
        stopped e = full_least n t e

        first' : a ≡ b → Done W L A a n t
        first' e = subst (λ (x : W.Acc). Done W L A a n (try W A n x s)) e (try_done n a s u h)

    not_next : (m : ℕ) (ns : List ℕ) (s : State W) → (n ≡ m → has_slot W n entry ≡ true → ⊥) → Owned (m ∷ ns) s → Owned ns s
    unfolding is_member
    not_next m ns s ne p i = elim (p i) [
      | inr d ↦ inr d
      | inl w ↦ elim (or_cases (eqb n m) (is_member n ns) w.0) [ inl e ↦ absurd (ne (eq_of n m e) w.1) | inr e ↦ inl (e, w.1) ]
    ]

    -- what the visit to slot n itself brings about
    visit_own : (rest : List W.Acc) (ns : List ℕ) (s : State W) → marked W A s.skipped a ≡ false → Owned ns (visit W A n rest s).now
    unfolding visit is_member
    visit_own rest ns s u i = inr (elim (which (is_in W a (accounts_of W n s.slots))) [
      | inl j ↦ elim (which (is_full W A n t)) [
        | inl e ↦ rw e (at_own j)
        | inr e ↦ rw e (done_keeps W L A a n t _ (R_reach W L A (Le W L A) le n rest t) (at_own j))
      ]
      | inr j ↦ elim (R_visit W L A (λ s t. Owned [] s → Owned [] t) (owned_steps [] 0).core n rest s (λ k. clash _ k j) i) [
        | inl w ↦ clash false w.0 refl
        | inr d ↦ d
      ]
    ])
      where
        t : State W
        t = own W A n (accounts_of W n s.slots) s

        at_own : is_in W a (accounts_of W n s.slots) ≡ true → Done W L A a n t
        at_own j = own_done (accounts_of W n s.slots) s j u (accounts_of_has W a n s.slots j)

    pub second_own : (ns : List ℕ) (rest : List W.Acc) (s : State W) → marked W A s.skipped a ≡ false → Owned ns s → Owned [] (second W A entry ns rest s).now
    unfolding second
    second_own [] rest s u p = p
    second_own (m ∷ ns) rest s u p = elim (which (has_slot W m entry)) [
      | inl e ↦ rw e (second_own ns (visit W A m rest s).rest (visit W A m rest s).now ((R_visit W L A (Le W L A) le m rest s).marks a ∙ u) (step e))
      | inr e ↦ rw e (second_own ns rest s u (not_next m ns s (λ q h. clash _ h (rw q e)) p))
    ]
      where
        step : has_slot W m entry ≡ true → Owned ns (visit W A m rest s).now
        step e = elim (which (eqb n m)) [
          | inl q ↦ subst (λ (x : ℕ). Owned ns (visit W A x rest s).now) (eq_of n m q) (visit_own rest ns s u)
          | inr q ↦ R_visit W L A (λ s t. Owned ns s → Owned ns t) (owned_steps ns 0).core m rest s (not_next m ns s (λ d h. clash _ (rw d (eq_self m)) q) p)
        ]
