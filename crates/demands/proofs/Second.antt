-- The second pass. The walk's invariant `Behind` is kept, since a visit goes on to the account order only with room. And unless it came to
-- the end of the order, every slot that it visited is full. Assumes nothing.
use mathlib.Core.Path.{◌≡◌, refl, sym, ap, ◌∙◌}
use mathlib.Core.Bool.{Bool, true, false, ◌&&◌}
use mathlib.Core.Logic.{◌⊎◌, inl, inr}
use mathlib.Core.List.{List, [], ◌∷◌}
use Prim.Native.Nat.{ℕ, ◌-◌, ◌≤◌, ◌<◌}
use native.Mathlib.Omega.{arith}
use lib.Dec.{eqb}
use Rattle.rules.specs.World.{World, Slot, Args, is_member}
use Rattle.rules.specs.Queues.{count_of, accounts_of, has_slot}
use Rattle.rules.specs.Passes.{State, Walked, room, is_full, meet, moves, own, reach, visit, second}
use Rattle.demands.proofs.Rows.{Lawful, which, clash, or_cases, and_true}
use Rattle.demands.proofs.Slots.{eq_of, ne_of}
use Rattle.demands.proofs.Steps.{Moves, R_own, R_visit, R_second}
use Rattle.demands.proofs.Move.{Le, le_steps, idle_slots}
use Rattle.demands.proofs.Own.{full_least}
use Rattle.demands.proofs.First.{Behind, Marks, marks_keep, marks_meet, behind_keeps, goes_room}

module _ (W : World) (L : Lawful W) (A : Args W) where
  le : Moves W A (Le W L A)
  le = (le_steps W L A 0).core

  full_same : (n : ℕ) (s t : State W) → t.slots ≡ s.slots → is_full W A n t ≡ is_full W A n s
  unfolding is_full room
  full_same n s t e = ap (λ (x : List (Slot W)). eqb (A.height - count_of W n x) 0) e

  roomy : (n : ℕ) (s : State W) → is_full W A n s ≡ false → 0 < room W A n s
  unfolding is_full
  roomy n s e = omega (arith, ne_of (room W A n s) 0 e)

  -- ---- the walk for slot n
  reach_full : (n : ℕ) (rest : List W.Acc) (s : State W) → (A.height ≤ count_of W n (reach W A n rest s).now.slots) ⊎ ((reach W A n rest s).rest ≡ [])
  unfolding reach
  reach_full n [] s = inr refl
  reach_full n (a ∷ rest) s = elim (which (moves W A a s && is_full W A n (meet W A n a s))) [
    | inl e ↦ rw e (inl (full_least W L A n (meet W A n a s) (and_true (moves W A a s) (is_full W A n (meet W A n a s)) e).1))
    | inr e ↦ rw e (reach_full n rest (meet W A n a s))
  ]

  reach_nil : (n : ℕ) (s : State W) → (reach W A n [] s).rest ≡ []
  unfolding reach
  reach_nil n s = refl

  module _ (skipped : List W.Acc) where
    reach_behind : (n : ℕ) (rest : List W.Acc) (s : State W) → Marks W L A skipped s → is_full W A n s ≡ false → Behind W L A skipped rest s →
        Behind W L A skipped (reach W A n rest s).rest (reach W A n rest s).now
    unfolding reach
    reach_behind n [] s k h b = b
    reach_behind n (a ∷ rest) s k h b = elim (which (moves W A a s && is_full W A n t)) [
      | inl e ↦ rw e over
      | inr e ↦ rw e (reach_behind n rest t (marks_meet W L A skipped n a s k) (open' e) over)
    ]
      where
        t : State W
        t = meet W A n a s

        over : Behind W L A skipped rest t
        over = goes_room W L A skipped rest n a s k (roomy n s h) b

        open' : (moves W A a s && is_full W A n t) ≡ false → is_full W A n t ≡ false
        open' e = elim (which (moves W A a s)) [
          | inl m ↦ sym (ap (λ (c : Bool). c && is_full W A n t) m) ∙ e
          | inr m ↦ full_same n s t (idle_slots W L A n a s m) ∙ h
        ]

    module _ (entry : List (Slot W)) where
      -- ---- a visit
      visit_full : (n : ℕ) (rest : List W.Acc) (s : State W) → (A.height ≤ count_of W n (visit W A n rest s).now.slots) ⊎ ((visit W A n rest s).rest ≡ [])
      unfolding visit
      visit_full n rest s = elim (which (is_full W A n t)) [
        | inl e ↦ rw e (inl (full_least W L A n t e))
        | inr e ↦ rw e (reach_full n rest t)
      ]
        where
          t : State W
          t = own W A n (accounts_of W n s.slots) s

      visit_nil : (n : ℕ) (s : State W) → (visit W A n [] s).rest ≡ []
      unfolding visit
      visit_nil n s = elim (which (is_full W A n t)) [ inl e ↦ rw e | inr e ↦ rw e (reach_nil n t) ]
        where
          t : State W
          t = own W A n (accounts_of W n s.slots) s

      visit_behind : (n : ℕ) (rest : List W.Acc) (s : State W) → Marks W L A skipped s → Behind W L A skipped rest s →
          Behind W L A skipped (visit W A n rest s).rest (visit W A n rest s).now
      unfolding visit
      visit_behind n rest s k b = elim (which (is_full W A n t)) [
        | inl e ↦ rw e kept
        | inr e ↦ rw e (reach_behind n rest t (marks_keep W L A skipped s t lo k) e kept)
      ]
        where
          t : State W
          t = own W A n (accounts_of W n s.slots) s

          lo : Le W L A s t
          lo = R_own W L A (Le W L A) le n (accounts_of W n s.slots) s

          kept : Behind W L A skipped rest t
          kept = behind_keeps W L A skipped rest s t lo b

      -- ---- all visits
      pub second_nil : (ns : List ℕ) (rest : List W.Acc) (s : State W) → rest ≡ [] → (second W A entry ns rest s).rest ≡ []
      unfolding second
      second_nil [] rest s z = z
      second_nil (n ∷ ns) rest s z = elim (which (has_slot W n entry)) [
        | inl e ↦ rw e (second_nil ns (visit W A n rest s).rest (visit W A n rest s).now (ap (λ (r : List W.Acc). (visit W A n r s).rest) z ∙ visit_nil n s))
        | inr e ↦ rw e (second_nil ns rest s z)
      ]

      pub second_full : (ns : List ℕ) (rest : List W.Acc) (s : State W) →
          ((m : ℕ) → is_member m ns ≡ true → has_slot W m entry ≡ true → A.height ≤ count_of W m (second W A entry ns rest s).now.slots) ⊎ ((second W A entry ns rest s).rest ≡ [])
      unfolding second is_member
      second_full [] rest s = inl (λ m i h. clash false i refl)
      second_full (n ∷ ns) rest s = elim (which (has_slot W n entry)) [
        | inl e ↦ rw e (elim (visit_full n rest s) [
          | inr z ↦ inr (second_nil ns w.rest w.now z)
          | inl f ↦ elim (second_full ns w.rest w.now) [
            | inr z ↦ inr z
            | inl g ↦ inl (λ m i h. elim (or_cases (eqb m n) (is_member m ns) i) [
              | inl d ↦ rw (eq_of m n d) (omega (arith, (R_second W L A (Le W L A) le entry ns w.rest w.now).counts n))
              | inr d ↦ g m d h
            ])
          ]
        ])
        | inr e ↦ rw e (elim (second_full ns rest s) [
          | inr z ↦ inr z
          | inl g ↦ inl (λ m i h. elim (or_cases (eqb m n) (is_member m ns) i) [
            | inl d ↦ clash (has_slot W m entry) h (rw (eq_of m n d) e)
            | inr d ↦ g m d h
          ])
        ])
      ]
        where
          w : Walked W
          w = visit W A n rest s

      pub second_behind : (ns : List ℕ) (rest : List W.Acc) (s : State W) → Marks W L A skipped s → Behind W L A skipped rest s →
          Behind W L A skipped (second W A entry ns rest s).rest (second W A entry ns rest s).now
      unfolding second
      second_behind [] rest s k b = b
      second_behind (n ∷ ns) rest s k b = elim (which (has_slot W n entry)) [
        | inl e ↦ rw e (second_behind ns w.rest w.now (marks_keep W L A skipped s w.now (R_visit W L A (Le W L A) le n rest s) k) (visit_behind n rest s k b))
        | inr e ↦ rw e (second_behind ns rest s k b)
      ]
        where
          w : Walked W
          w = visit W A n rest s
