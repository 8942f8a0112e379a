-- Demand 3, whole: of any accepted fill of height 1 or more, on a buffer with no account twice and a sound group. Assumes nothing.
use mathlib.Core.Path.{◌≡◌, refl, sym, ◌∙◌}
use mathlib.Core.Bool.{Bool, true, false, not}
use mathlib.Core.Logic.{◌⊎◌, inl, inr}
use mathlib.Core.List.{List, [], ◌∷◌}
use mathlib.Core.Option.{Option, none, some}
use Prim.Native.Nat.{ℕ, zero, suc, ◌+◌, ◌≤◌, ◌<◌}
use native.Mathlib.Omega.{arith}
use native.Mathlib.Decide.{dec_le}
use lib.Dec.{ltb, nltb→le, T}
use lib.ListN.{length, get_or, take}
use Rattle.rules.specs.World.{World, Args, Buffer, Group, is_member, keep, joined, at_least0, first_of}
use Rattle.rules.specs.Queues.{has, at, is_in, undroppable, accounts, count_of, accounts_of, has_slot}
use Rattle.rules.specs.Passes.{State, Walked, marked, first, second, sweep, to_open, listed, entered, passes, ended}
use Rattle.rules.specs.Fill.{Filled, fill_code, accepted, group_after, fill, next_number}
use Rattle.rules.specs.Demand.{Once, Sound, Placed, Served, Demand3}
use Rattle.demands.proofs.Rows.{right, Lawful, which, clash, or_false}
use Rattle.demands.proofs.Slots.{is_member_append, accounts_of_has}
use Rattle.demands.proofs.Steps.{Steps, R_first, R_second, R_sweep}
use Rattle.demands.proofs.Parted.{at_none, after_at, parted, not_past_lem}
use Rattle.demands.proofs.Move.{Le, le_steps, Done, settled_keeps, Numbers, numbers_steps, has_slot_same}
use Rattle.demands.proofs.Own.{Owned, owned_steps, second_own}
use Rattle.demands.proofs.First.{ahead, settled, Behind, first_behind, Known, first_full, length_same}
use Rattle.demands.proofs.Second.{second_nil, second_full, second_behind}
use Rattle.rules.specs.Kept.{Tidy}
use Rattle.demands.proofs.TidyFill.{tidy_fill, placed_of}

-- a number in a bucket below the height is listed
below_listed : (n c : ℕ) (index : List (List ℕ)) (h : ℕ) → c < h → is_member n (get_or index c []) ≡ true → is_member n (joined (take h index)) ≡ true
unfolding is_member joined
below_listed n c [] h l i = clash false i refl
below_listed n c (b ∷ bs) zero l i = absurd (omega arith)
below_listed n zero (b ∷ bs) (suc h) l i = is_member_append n b (joined (take h bs)) ∙ rw i
below_listed n (suc c) (b ∷ bs) (suc h) l i = is_member_append n b (joined (take h bs)) ∙ right (is_member n b) (below_listed n c bs h (omega arith) i)

module _ (W : World) (L : Lawful W) (A : Args W) (b : Buffer W) (g : Group W) (skipped : List W.Acc)
    (once : Once W (accounts W b.order)) (sound : Sound W g) (height : 1 ≤ A.height) where
  ns : List ℕ
  ns = listed W A g.index

  s0 : State W
  s0 = entered W A b g skipped

  w1 : Walked W
  w1 = first W A (to_open W A g.slots) (at_least0 g.last + 1) [] (accounts W b.order) s0

  w2 : Walked W
  w2 = second W A g.slots ns w1.rest w1.now

  s3 : State W
  s3 = sweep W A w2.rest w2.now

  le : Steps W A 0 (Le W L A)
  le = le_steps W L A 0

  below_next : (m : ℕ) (l : Option ℕ) → m < next_number W l → m < at_least0 l + 1
  unfolding next_number at_least0
  below_next m none h = omega arith
  below_next m (some l) h = omega arith

  le1 : Le W L A s0 w1.now
  unfolding w1
  le1 = R_first W L A 0 (Le W L A) le _ _ [] (accounts W b.order) s0 (omega arith)

  le2 : Le W L A w1.now w2.now
  unfolding w2
  le2 = R_second W L A (Le W L A) le.core g.slots ns w1.rest w1.now

  le3 : Le W L A w2.now s3
  unfolding s3
  le3 = R_sweep W L A (Le W L A) le.core w2.rest w2.now

  -- a slot of the group below the height is listed
  listed_low : (n : ℕ) → has_slot W n g.slots ≡ true → count_of W n g.slots < A.height → is_member n ns ≡ true
  unfolding ns listed
  listed_low n h l = below_listed n (count_of W n g.slots) g.index A.height l (sound.indexed n h)

  -- ---- an account with a slot
  owned : (a : W.Acc) (n : ℕ) → marked W A skipped a ≡ false → Owned W L A g.slots a n [] s3
  unfolding s3 w2 w1 s0 entered
  owned a n u =
      R_sweep W L A (λ s t. Owned W L A g.slots a n [] s → Owned W L A g.slots a n [] t) (owned_steps W L A g.slots a n [] 0).core w2.rest w2.now
      (second_own W L A g.slots a n ns w1.rest w1.now (le1.marks a ∙ u)
      (R_first W L A 0 (λ s t. Owned W L A g.slots a n ns s → Owned W L A g.slots a n ns t) (owned_steps W L A g.slots a n ns 0) _ _ [] (accounts W b.order) s0 (omega arith) start))
    where
      start : Owned W L A g.slots a n ns s0
      start i = elim (dec_le A.height (count_of W n g.slots)) [
        | yes h ↦ inr (inr h)
        | no h ↦ inl (listed_low n (accounts_of_has W a n g.slots i) (omega arith), accounts_of_has W a n g.slots i)
      ]

  -- ---- an account without one
  behind0 : Behind W L A skipped (accounts W b.order) s0
  unfolding s0 entered undroppable keep
  behind0 a u = elim (which (is_in W a (accounts W b.order))) [ inl e ↦ ahead e | inr e ↦ settled (inr (rw (at_none W L A a b.order e))) ]

  behind1 : Behind W L A skipped w1.rest w1.now
  unfolding w1 s0 entered is_member
  behind1 = first_behind W L A skipped height (to_open W A g.slots) (at_least0 g.last + 1) [] (accounts W b.order) s0
      (λ a. refl) tt (λ m i. clash false i refl) (λ m i. clash false i refl) fresh behind0
    where
      fresh : (m : ℕ) → at_least0 g.last + 1 ≤ m → has_slot W m g.slots ≡ false
      fresh m h = elim (which (has_slot W m g.slots)) [ inl e ↦ absurd (omega (arith, below_next m g.last (sound.numbered m e))) | inr e ↦ e ]

  behind2 : Behind W L A skipped w2.rest w2.now
  unfolding w2 s0 entered
  behind2 = second_behind W L A skipped g.slots ns w1.rest w1.now le1.marks behind1

  -- an account ahead of the walk: the passes opened all slots and filled them
  Filling : Type 0
  Filling = (A.asked ≤ length s3.slots) × ((n : ℕ) → has_slot W n s3.slots ≡ true → A.height ≤ count_of W n s3.slots)

  same23 : Numbers W L A w1.now s3
  unfolding s3 w2
  same23 = R_sweep W L A (Numbers W L A) (numbers_steps W L A) w2.rest w2.now ∙ R_second W L A (Numbers W L A) (numbers_steps W L A) g.slots ns w1.rest w1.now

  filling : Known W L A g.slots [] w1.now × (length w1.now.slots ≡ length g.slots + to_open W A g.slots) →
      ((m : ℕ) → is_member m ns ≡ true → has_slot W m g.slots ≡ true → A.height ≤ count_of W m w2.now.slots) → Filling
  unfolding Filling to_open is_member s0 entered
  filling k f = (
    omega (arith, k.1, length_same W L A w1.now s3 same23),
    λ n h. elim (k.0 n (sym (has_slot_same W L A n w1.now s3 same23) ∙ h)) [
      | inl e ↦ elim (dec_le A.height (count_of W n g.slots)) [
        | yes d ↦ omega (arith, le1.counts n, le2.counts n, le3.counts n)
        | no d ↦ omega (arith, f n (listed_low n e (omega arith)) e, le3.counts n)
      ]
      | inr d ↦ elim d [ inl i ↦ clash false i refl | inr x ↦ omega (arith, le2.counts n, le3.counts n) ]
    ],
  )

  is_ahead : (a : W.Acc) → is_in W a w2.rest ≡ true → Filling
  unfolding w2 w1 s0 entered is_in
  is_ahead a i = elim (first_full W L A g.slots (to_open W A g.slots) (at_least0 g.last + 1) [] (accounts W b.order) s0 (λ m h. inl h)) [
    | inr z ↦ no_rest (second_nil W L A skipped g.slots ns w1.rest w1.now z)
    | inl k ↦ elim (second_full W L A skipped g.slots ns w1.rest w1.now) [ inr z ↦ no_rest z | inl f ↦ filling k f ]
  ]
    where
      no_rest : w2.rest ≡ [] → Filling
      no_rest z = clash _ (rw z at i) refl

  own3 : (a : W.Acc) (n : ℕ) → marked W A skipped a ≡ false → is_in W a (accounts_of W n s3.slots) ≡ true → Done W L A a n s3
  unfolding is_member
  own3 a n u i = elim (owned a n u i) [ inl w ↦ clash false w.0 refl | inr d ↦ d ]

  rest3 : (a : W.Acc) → marked W A skipped a ≡ false → has W a s3.lists ≡ false →
      (undroppable W A.filter (at W a s3.order) ≡ []) ⊎ Filling
  rest3 a u h = elim (behind2 a u) [
    | ahead e ↦ inr (is_ahead a e)
    | settled d ↦ elim (settled_keeps W L A a w2.now s3 le3 d) [ inl e ↦ clash _ e h | inr e ↦ inl e ]
  ]

  -- the state at the end is the one that the answer shows
  pub served : Tidy W g.lists g.slots → Served W A skipped (accepted W A b g skipped).buffer.order (accepted W A b g skipped).group []
  unfolding accepted group_after ended passes s3 w2 w1 s0 ns Filling
  served tidy = record {
    own = λ a n u i. rw (after_at W L A b g skipped once a) (own3 a n u i);
    rest = λ a u h l. rw (after_at W L A b g skipped once a) (rest3 a u (no_list a h));
  }
    where
      no_list : (a : W.Acc) → ((n : ℕ) → is_in W a (accounts_of W n s3.slots) ≡ false) → has W a s3.lists ≡ false
      no_list a h = elim (which (has W a s3.lists)) [
        | inl e ↦ clash _ (after' a e).1 (h (after' a e).0)
        | inr e ↦ e
      ]
        where
          after' : Placed W s3.lists s3.slots
          after' = placed_of W L s3.lists s3.slots (tidy_fill W L A b g skipped sound tidy)

-- ---- an accepted fill
pub first_code : (t : Bool) (c d : ℕ) → (c ≡ 0 → ⊥) → first_of t c d ≡ 0 → (t ≡ false) × (d ≡ 0)
unfolding first_of
first_code true c d n h = absurd (n h)
first_code false c d n h = (refl, h)

module _ (W : World) (S key_rows : ℕ) (A : Args W) (b : Buffer W) (g : Group W) (skipped : List W.Acc) (ok : fill_code W S key_rows A b g skipped ≡ 0) where
  pub low_height : A.height ≤ 16
  unfolding fill_code
  low_height = nltb→le 16 A.height (to_not (ltb 16 A.height) (or_false (ltb S A.asked) (ltb 16 A.height) (first_code _ 9 _ (λ e. omega arith) ok).0).1)
    where
      to_not : (t : Bool) → t ≡ false → T (not t)
      to_not true e = clash true refl e
      to_not false e = tt

  pub accepts : fill W S key_rows A b g skipped ≡ accepted W A b g skipped
  unfolding fill
  accepts = rw ok

  pub demand_3 : Lawful W → Once W (accounts W b.order) → Sound W g → Tidy W g.lists g.slots → 1 ≤ A.height →
      Demand3 W A b g skipped (fill W S key_rows A b g skipped) []
  demand_3 L once sound tidy h = rw accepts (record {
    parted = parted W L A b g skipped once;
    not_past = not_past_lem W L A b g skipped;
    few = omega arith;
    served = served W L A b g skipped once sound h tidy;
  })
