-- What calls make fits its room, of a group: S slots, slot numbers to 65,535. Assumes nothing.
use mathlib.Core.Path.{◌≡◌, refl, sym, ap, ◌∙◌, subst}
use mathlib.Core.Bool.{Bool, true, false, cond, ◌&&◌}
use mathlib.Core.Logic.{inl, inr}
use mathlib.Core.List.{List, [], ◌∷◌, ◌++◌}
use mathlib.Core.Option.{Option, none, some}
use Prim.Native.Nat.{ℕ, zero, suc, ◌+◌, ◌≤◌, ◌<◌, max}
use native.Mathlib.Omega.{arith}
use native.Mathlib.Decide.{dec_le}
use lib.Dec.{eqb, ltb}
use lib.ListN.{length, length-append}
use Rattle.rules.specs.World.{World, Slot, Args, Buffer, Group, first_of, at_least0}
use Rattle.rules.specs.Queues.{accounts, count_of}
use Rattle.rules.specs.Passes.{State, Walked, checked, pass_over, move, is_full, seek, serve, opened, closed, first, second, sweep, to_open, listed, entered, passes, ended}
use Rattle.rules.specs.Fill.{fill_code, accepted, refused, group_after, fresh, next_number, renumbered, last_of, join, join_code}
use Rattle.rules.specs.Calls.{Target, within, set_up_group, fill_group, join_groups}
use Rattle.rules.specs.Made.{MadeTarget, set_up_target, filled, joined_left, joined_right, FitsTarget}
use Rattle.demands.proofs.Rows.{Lawful, which, clash, or_false}
use Rattle.demands.proofs.Slots.{eq_of}
use Rattle.demands.proofs.Steps.{Moves, R_seek, R_serve, R_second, R_sweep}
use Rattle.demands.proofs.Move.{Numbers, numbers_steps}
use Rattle.demands.proofs.First.{length_same, opened_length}
use Rattle.demands.proofs.SoundJoin.{last_new}
use Rattle.demands.proofs.Taken.{not_above}
use Rattle.demands.proofs.Demand.{first_code}
use Rattle.demands.proofs.Fits.{below, in_range, length_keep}
use Rattle.demands.proofs.Reached.{either, fill_either}

module _ (W : World) (L : Lawful W) (A : Args W) where
  abbrev Last : State W → State W → Type 0
  Last s t = t.last ≡ s.last

  last_moves : Moves W A Last
  unfolding checked pass_over move
  last_moves = record { stay = λ s. refl; and_then = λ s t u p q. q ∙ p; check = λ a s. refl; pass = λ a s. refl; mv = λ n a s. refl }

  closed_length : (n : ℕ) (s : State W) → length (closed W A n s).slots ≤ length s.slots
  unfolding closed
  closed_length n s = length_keep _ s.slots

  first_length : (k n : ℕ) (line : List ℕ) (rest : List W.Acc) (s : State W) → length (first W A k n line rest s).now.slots ≤ length s.slots + k
  unfolding first
  first_length zero n line rest s = omega (arith, length_same W L A s (serve W A line rest s).now (R_serve W L A (Numbers W L A) (numbers_steps W L A) line rest s))
  first_length (suc k) n line rest s = elim (which (eqb (count_of W n w.now.slots) 0)) [
    | inl e ↦ rw e (omega (arith, closed_length n w.now, long))
    | inr e ↦ rw e (omega (arith, first_length k (suc n) (cond (is_full W A n w.now) line (line ++ (n ∷ []))) w.rest w.now, long))
  ]
    where
      w : Walked W
      w = seek W A n rest (opened W A n s)

      long : length w.now.slots ≡ suc (length s.slots)
      long = length_same W L A (opened W A n s) w.now (R_seek W L A (Numbers W L A) (numbers_steps W L A) n rest (opened W A n s)) ∙ opened_length W L A n s

  closed_last : (n : ℕ) (s : State W) → (closed W A n s).last ≡ s.last
  unfolding closed
  closed_last n s = refl

  opened_last : (n : ℕ) (s : State W) → at_least0 (opened W A n s).last ≡ max (at_least0 s.last) n
  unfolding opened at_least0
  opened_last n s = refl

  first_last : (B k n : ℕ) (line : List ℕ) (rest : List W.Acc) (s : State W) → at_least0 s.last ≤ B → n + k ≤ suc B → at_least0 (first W A k n line rest s).now.last ≤ B
  unfolding first
  first_last B zero n line rest s h l = omega (arith, ap at_least0 (R_serve W L A Last last_moves line rest s))
  first_last B (suc k) n line rest s h l = elim (which (eqb (count_of W n w.now.slots) 0)) [
    | inl e ↦ rw e (omega (arith, ap at_least0 (closed_last n w.now), far))
    | inr e ↦ rw e (first_last B k (suc n) (cond (is_full W A n w.now) line (line ++ (n ∷ []))) w.rest w.now far (omega arith))
  ]
    where
      w : Walked W
      w = seek W A n rest (opened W A n s)

      far : at_least0 w.now.last ≤ B
      far = omega (arith, ap at_least0 (R_seek W L A Last last_moves n rest (opened W A n s)), opened_last n s)

  module _ (b : Buffer W) (g : Group W) (skipped : List W.Acc) where
    w1 : Walked W
    w1 = first W A (to_open W A g.slots) (at_least0 g.last + 1) [] (accounts W b.order) (entered W A b g skipped)

    w2 : Walked W
    w2 = second W A g.slots (listed W A g.index) w1.rest w1.now

    ended_length : length (ended W A b g skipped).slots ≤ length g.slots + to_open W A g.slots
    unfolding ended passes entered w1 w2
    ended_length = omega (
      arith,
      first_length (to_open W A g.slots) (at_least0 g.last + 1) [] (accounts W b.order) (entered W A b g skipped),
      length_same W L A w1.now w2.now (R_second W L A (Numbers W L A) (numbers_steps W L A) g.slots (listed W A g.index) w1.rest w1.now),
      length_same W L A w2.now (sweep W A w2.rest w2.now) (R_sweep W L A (Numbers W L A) (numbers_steps W L A) w2.rest w2.now),
    )

    ended_last : (B : ℕ) → at_least0 g.last ≤ B → at_least0 g.last + 1 + to_open W A g.slots ≤ suc B → at_least0 (ended W A b g skipped).last ≤ B
    unfolding ended passes entered w1 w2
    ended_last B h l = omega (
      arith,
      first_last B (to_open W A g.slots) (at_least0 g.last + 1) [] (accounts W b.order) (entered W A b g skipped) h l,
      ap at_least0 (R_second W L A Last last_moves g.slots (listed W A g.index) w1.rest w1.now),
      ap at_least0 (R_sweep W L A Last last_moves w2.rest w2.now),
    )

module _ (W : World) (L : Lawful W) where
  -- ---- an accepted fill
  pub slots_fill : (S key_rows : ℕ) (A : Args W) (b : Buffer W) (g : Group W) (skipped : List W.Acc) → fill_code W S key_rows A b g skipped ≡ 0 → length g.slots ≤ S →
      length (accepted W A b g skipped).group.slots ≤ S
  unfolding accepted group_after fill_code to_open
  slots_fill S key_rows A b g skipped ok h = omega (
    arith,
    ended_length W L A b g skipped,
    not_above S A.asked (or_false (ltb S A.asked) _ (first_code _ 9 _ (λ e. omega arith) ok).0).0,
  )

  pub last_fill : (S key_rows : ℕ) (A : Args W) (b : Buffer W) (g : Group W) (skipped : List W.Acc) → fill_code W S key_rows A b g skipped ≡ 0 → at_least0 g.last ≤ 65535 →
      at_least0 (accepted W A b g skipped).group.last ≤ 65535
  unfolding accepted group_after fill_code
  last_fill S key_rows A b g skipped ok h = ended_last W L A b g skipped 65535 h (elim (dec_le (to_open W A g.slots) 0) [
    | yes z ↦ omega arith
    | no z ↦ omega (arith, not_above 65535 (at_least0 g.last + to_open W A g.slots) (both (ltb 0 (to_open W A g.slots)) _ (pos (to_open W A g.slots) (omega arith)) c12))
  ])
    where
      c12 : (ltb 0 (to_open W A g.slots) && ltb 65535 (at_least0 g.last + to_open W A g.slots)) ≡ false
      c12 = (first_code _ 12 _ (λ e. omega arith) (first_code _ 11 _ (λ e. omega arith) (first_code _ 10 _ (λ e. omega arith) (first_code _ 9 _ (λ e. omega arith) ok).1).1).1).0

      both : (x y : Bool) → x ≡ true → (x && y) ≡ false → y ≡ false
      both true y p q = q
      both false y p q = clash false p refl

      pos : (n : ℕ) → 0 < n → ltb 0 n ≡ true
      pos n p = elim (which (ltb 0 n)) [ inl e ↦ e | inr e ↦ absurd (omega (arith, not_above 0 n e)) ]

  -- ---- a join
  length_new : (k : ℕ) (ss : List (Slot W)) → length (renumbered W k ss) ≡ length ss
  unfolding renumbered
  length_new k [] = refl
  length_new k (s ∷ ss) = ap suc (length_new (suc k) ss)

  least_next : (l : Option ℕ) → at_least0 l ≤ next_number W l
  unfolding at_least0 next_number
  least_next none = omega arith
  least_next (some n) = omega arith

  fits_fresh : (S : ℕ) → (1 ≤ S) × (S ≤ 64) → FitsTarget W (record { S = S; now = fresh W })
  unfolding fresh at_least0
  fits_fresh S r = record { S·range = r; slots = omega arith; last = omega arith }

  fits_join : (l r : Target W) → join_code W l.S l.now r.now ≡ 0 → FitsTarget W l → FitsTarget W (record { S = l.S; now = join W l.now r.now })
  unfolding join join_code
  fits_join l r ok f = record {
    S·range = f.S·range;
    slots = omega (
      arith,
      length-append l.now.slots (renumbered W (next_number W l.now.last) r.now.slots),
      length_new (next_number W l.now.last) r.now.slots,
      not_above l.S (length l.now.slots + length r.now.slots) (first_code _ 14 _ (λ e. omega arith) ok).0,
    );
    last = omega (
      arith,
      last_new W l.now.last r.now.slots,
      least_next (last_of W l.now.last (renumbered W (next_number W l.now.last) r.now.slots)),
      below 65535 (next_number W l.now.last + length r.now.slots) (first_code _ 12 _ (λ e. omega arith) (first_code _ 15 _ (λ e. omega arith) (first_code _ 14 _ (λ e. omega arith) ok).1).1).0,
    );
  }

  fits_both : (l r : Target W) → FitsTarget W l → FitsTarget W r → FitsTarget W (join_groups W l r).left × FitsTarget W (join_groups W l r).right
  unfolding join_groups
  fits_both l r fl fr = elim (which (eqb (join_code W l.S l.now r.now) 0)) [
    | inl e ↦ rw e (fits_join l r (eq_of _ 0 e) fl, fits_fresh r.S fr.S·range)
    | inr e ↦ rw e (fl, fr)
  ]

  slots_range : (S : ℕ) → first_of (within 1 64 S) 0 1 ≡ 0 → (1 ≤ S) × (S ≤ 64)
  unfolding first_of
  slots_range S ok = elim (which (within 1 64 S)) [ inl e ↦ in_range 1 64 S e | inr e ↦ absurd (omega (arith, rw e at ok)) ]

  pub fits_target : {t : Target W} → MadeTarget W t → FitsTarget W t
  unfolding set_up_group fill_group refused
  fits_target (set_up_target S e) = subst (FitsTarget W) (sym e) (either (FitsTarget W) _ _ _ (λ ok. fits_fresh S (slots_range S ok)) (fits_fresh 1 (omega arith, omega arith)))
  fits_target (filled {s = s} {t = t} A keys skipped e d c) = subst (FitsTarget W) (sym e) (record {
    S·range = (fits_target c).S·range;
    slots = fill_either W L (λ f. length f.group.slots ≤ t.S) t.S (length keys) A s.now t.now skipped
        (λ ok. slots_fill t.S (length keys) A s.now t.now skipped ok (fits_target c).slots) (λ x. (fits_target c).slots);
    last = fill_either W L (λ f. at_least0 f.group.last ≤ 65535) t.S (length keys) A s.now t.now skipped
        (λ ok. last_fill t.S (length keys) A s.now t.now skipped ok (fits_target c).last) (λ x. (fits_target c).last);
  })
  fits_target (joined_left {l = l} {r = r} e d c) = subst (FitsTarget W) (sym e) (fits_both l r (fits_target d) (fits_target c)).0
  fits_target (joined_right {l = l} {r = r} e d c) = subst (FitsTarget W) (sym e) (fits_both l r (fits_target d) (fits_target c)).1
