-- The index after a fill: no bucket lists a slot twice, nor a slot that is not there, nor one above its count. No slot is empty.
-- Assumes nothing.
use mathlib.Core.Path.{◌≡◌, refl, sym, ap, ◌∙◌, subst}
use mathlib.Core.Bool.{Bool, true, false, cond, not, ◌&&◌}
use mathlib.Core.Logic.{◌⊎◌, inl, inr}
use mathlib.Core.List.{List, [], ◌∷◌}
use Prim.Native.Nat.{ℕ, zero, suc, ◌+◌, ◌≤◌, ◌<◌}
use native.Mathlib.Omega.{arith}
use native.Mathlib.Nat.{zero-add}
use lib.Dec.{eqb}
use lib.ListN.{get_or}
use Rattle.rules.specs.World.{World, Slot, Args, Buffer, Group, Each, keep, is_member, at_least0}
use Rattle.rules.specs.Queues.{count, count_of, has_slot}
use Rattle.rules.specs.Passes.{entered, ended, passes}
use Rattle.rules.specs.Fill.{numbers, bucket, reindexed, accepted, group_after}
use Rattle.rules.specs.Demand.{OnceN, Sound}
use Rattle.rules.specs.Kept.{Indexed}
use Rattle.demands.proofs.Rows.{right, Lawful, which, clash, or_cases}
use Rattle.demands.proofs.Slots.{eq_of, eq_self, eq_true, ne_false, is_member_append, has_slot_numbers}
use Rattle.demands.proofs.Steps.{R_ended}
use Rattle.demands.proofs.Move.{Le, le_steps, Low, low_steps}
use Rattle.demands.proofs.Sound.{keep_keep, once_keep, not_kept, is_changed, has_count, comers, stayers, bucket_is, next_least, s3, w2, w1, s0, once3, some3}
use Rattle.demands.proofs.SoundJoin.{once_append}
use Rattle.demands.proofs.Tidy.{member_keep}

pub kept_in : (p : ℕ → Bool) (n : ℕ) (l : List ℕ) → is_member n (keep p l) ≡ true → is_member n l ≡ true
unfolding keep is_member
kept_in p n [] i = i
kept_in p n (m ∷ l) i = elim (which (p m)) [
  | inl e ↦ elim (or_cases (eqb n m) (is_member n (keep p l)) (rw e at i)) [ inl d ↦ rw d | inr d ↦ right (eqb n m) (kept_in p n l d) ]
  | inr e ↦ right (eqb n m) (kept_in p n l (rw e at i))
]

pub none_in : (p : ℕ → Bool) (n : ℕ) (l : List ℕ) → is_member n l ≡ false → is_member n (keep p l) ≡ false
none_in p n l h = elim (which (is_member n (keep p l))) [ inl e ↦ clash _ (kept_in p n l e) h | inr e ↦ e ]

pub once_kept : (p : ℕ → Bool) (l : List ℕ) → OnceN l → OnceN (keep p l)
unfolding keep
once_kept p [] o = tt
once_kept p (m ∷ l) o = elim (which (p m)) [ inl e ↦ rw e (none_in p m l o.0, once_kept p l o.1) | inr e ↦ rw e (once_kept p l o.1) ]

module _ (W : World) where
  -- a slot that a test on counts keeps has such a count
  pub counts_kept : (p : Slot W → Bool) (c n : ℕ) (ss : List (Slot W)) → OnceN (numbers W ss) → is_member n (numbers W (keep (λ s. p s && eqb (count W s) c) ss)) ≡ true → count_of W n ss ≡ c
  counts_kept p c n ss o i = elim (which (eqb (count_of W n ss) c)) [
    | inl e ↦ eq_of _ c e
    | inr e ↦ clash _ i (not_kept W (λ s. p s && eqb (count W s) c) n ss o (λ s a d. and_none (p s) (ap (λ (x : ℕ). eqb x c) d ∙ e)))
  ]
    where
      and_none : (b : Bool) {d : Bool} → d ≡ false → (b && d) ≡ false
      and_none true e = e
      and_none false e = refl

  -- ---- no slot is empty, slot by slot and by number
  pub each_filled : (ss : List (Slot W)) → OnceN (numbers W ss) → ((n : ℕ) → has_slot W n ss ≡ true → 0 < count_of W n ss) → Each (λ (s : Slot W). 0 < count W s) ss
  unfolding numbers count_of has_slot
  each_filled [] o f = tt
  each_filled (s ∷ ss) o f = (
    rw (eq_self s.number) at (f s.number (rw (eq_self s.number))),
    each_filled ss o.1 (λ n h. subst (λ (b : Bool). 0 < cond b (count W s) (count_of W n ss)) (other n h) (f n (right (eqb n s.number) h))),
  )
    where
      other : (n : ℕ) → has_slot W n ss ≡ true → eqb n s.number ≡ false
      other n h = ne_false n s.number (λ e. clash _ (sym (has_slot_numbers W n ss) ∙ h) (rw e o.0))

  pub filled_each : (ss : List (Slot W)) → Each (λ (s : Slot W). 0 < count W s) ss → (n : ℕ) → has_slot W n ss ≡ true → 0 < count_of W n ss
  unfolding count_of has_slot
  filled_each [] f n h = clash false h refl
  filled_each (s ∷ ss) f n h = elim (which (eqb n s.number)) [ inl e ↦ rw e f.0 | inr e ↦ rw e (filled_each ss f.1 n (rw e at h)) ]

  -- ---- a bucket after a fill
  module _ (entry slots : List (Slot W)) (distinct : OnceN (numbers W slots)) (rises : (m : ℕ) → count_of W m entry ≤ count_of W m slots)
      (low : (m : ℕ) → has_slot W m entry ≡ true → has_slot W m slots ≡ true) where
    -- a slot listed in bucket c with a count not below c does not come to it
    not_comer : (n c : ℕ) → c ≤ count_of W n entry → is_member n (comers W entry slots c) ≡ false
    unfolding comers is_changed has_count
    not_comer n c h = rw (keep_keep (is_changed W entry slots) (has_count W entry slots c) slots) (not_kept W (λ x. is_changed W entry slots x && has_count W entry slots c x) n slots distinct by)
      where
        by : (s : Slot W) → s.number ≡ n → count W s ≡ count_of W n slots → (is_changed W entry slots s && has_count W entry slots c s) ≡ false
        by s a d = elim (which (eqb (count W s) c)) [
          | inr e ↦ rw e (and_none (not (eqb (count W s) (count_of W s.number entry))))
          | inl e ↦ rw (eq_true (count W s) (count_of W s.number entry) (omega (arith, d, eq_of (count W s) c e, rises n, ap (λ (x : ℕ). count_of W x entry) a)))
        ]
          where
            and_none : (b : Bool) → (b && false) ≡ false
            and_none true = refl
            and_none false = refl

    comer : (n c : ℕ) → is_member n (comers W entry slots c) ≡ true → (has_slot W n slots ≡ true) × (count_of W n slots ≡ c)
    unfolding comers has_count
    comer n c i = (
      has_slot_numbers W n slots ∙ member_keep W _ n slots (member_keep W _ n (keep (is_changed W entry slots) slots) i),
      counts_kept (is_changed W entry slots) c n slots distinct (rw (keep_keep (is_changed W entry slots) (has_count W entry slots c) slots) at i),
    )

    bucket_once : (c : ℕ) (b : List ℕ) → OnceN b → ((n : ℕ) → is_member n b ≡ true → (has_slot W n entry ≡ true) × (c ≤ count_of W n entry)) → OnceN (bucket W entry slots c b)
    unfolding stayers comers
    bucket_once c b o f = subst OnceN (sym (bucket_is W entry slots c b)) (once_append W (stayers W entry slots c b) (comers W entry slots c)
        (once_kept _ b o) (once_keep W _ _ (once_keep W _ slots distinct)) (λ m i. not_comer m c (f m (kept_in _ m b i)).1))

    bucket_known : (n c : ℕ) (b : List ℕ) → ((n : ℕ) → is_member n b ≡ true → (has_slot W n entry ≡ true) × (c ≤ count_of W n entry)) → is_member n (bucket W entry slots c b) ≡ true →
        (has_slot W n slots ≡ true) × (c ≤ count_of W n slots)
    unfolding stayers
    bucket_known n c b f i = elim (or_cases (is_member n (stayers W entry slots c b)) (is_member n (comers W entry slots c))
        (sym (is_member_append n (stayers W entry slots c b) (comers W entry slots c)) ∙ ap (is_member n) (sym (bucket_is W entry slots c b)) ∙ i)) [
          | inl e ↦ let q = f n (kept_in _ n b e) in (low n q.0, omega (arith, q.1, rises n))
          | inr e ↦ ((comer n c e).0, omega (arith, (comer n c e).1))
        ]

    at_bucket : (c k : ℕ) (index : List (List ℕ)) → (get_or (reindexed W entry slots c index) k [] ≡ bucket W entry slots (c + k) (get_or index k [])) ⊎ (get_or (reindexed W entry slots c index) k [] ≡ [])
    unfolding reindexed
    at_bucket c k [] = inr refl
    at_bucket c zero (b ∷ bs) = inl (ap (λ (x : ℕ). bucket W entry slots x b) (omega arith))
    at_bucket c (suc k) (b ∷ bs) = elim (at_bucket (suc c) k bs) [
      | inl e ↦ inl (e ∙ ap (λ (x : ℕ). bucket W entry slots x (get_or bs k [])) (omega arith))
      | inr e ↦ inr e
    ]

    pub indexed_again : (index : List (List ℕ)) → Indexed W entry index → Indexed W slots (reindexed W entry slots 0 index)
    unfolding is_member
    indexed_again index x = record {
      once = λ c. elim (at_bucket 0 c index) [
        | inl e ↦ subst OnceN (sym (e ∙ ap (λ (y : ℕ). bucket W entry slots y (get_or index c [])) (zero-add c))) (bucket_once c (get_or index c []) (x.once c) (λ n i. x.known n c i))
        | inr e ↦ subst OnceN (sym e) tt
      ];
      known = λ n c i. elim (at_bucket 0 c index) [
        | inl e ↦ bucket_known n c (get_or index c []) (λ m j. x.known m c j) (ap (is_member n) (sym (e ∙ ap (λ (y : ℕ). bucket W entry slots y (get_or index c [])) (zero-add c))) ∙ i)
        | inr e ↦ clash false (ap (is_member n) (sym e) ∙ i) refl
      ];
    }

module _ (W : World) (L : Lawful W) (A : Args W) (b : Buffer W) (g : Group W) (skipped : List W.Acc) (sound : Sound W g) (height : A.height ≤ 16) where
  counts_rise : (m : ℕ) → count_of W m g.slots ≤ count_of W m (ended W A b g skipped).slots
  unfolding entered
  counts_rise m = (R_ended W L A 0 (Le W L A) (le_steps W L A 0) b g skipped (omega arith)).counts m

  slots_stay : (m : ℕ) → has_slot W m g.slots ≡ true → has_slot W m (ended W A b g skipped).slots ≡ true
  unfolding entered
  slots_stay = R_ended W L A N (λ s t. Low W L A g.slots N under s → Low W L A g.slots N under t) (low_steps W L A g.slots N under) b g skipped (omega arith)
      (λ m e. e)
    where
      N : ℕ
      N = at_least0 g.last + 1

      under : (m : ℕ) → has_slot W m g.slots ≡ true → m < N
      under m e = omega (arith, next_least W L A m g.last (sound.numbered m e))

  distinct_slots : OnceN (numbers W (ended W A b g skipped).slots)
  unfolding ended passes s3 w2 w1 s0
  distinct_slots = once3 W L A b g skipped sound height

  some_slots : (n : ℕ) → has_slot W n (ended W A b g skipped).slots ≡ true → (has_slot W n g.slots ≡ true) ⊎ (0 < count_of W n (ended W A b g skipped).slots)
  unfolding ended passes s3 w2 w1 s0
  some_slots n h = some3 W L A b g skipped sound height n h

  pub index_fill : Indexed W g.slots g.index → Indexed W (accepted W A b g skipped).group.slots (accepted W A b g skipped).group.index
  unfolding accepted group_after
  index_fill x = indexed_again W g.slots (ended W A b g skipped).slots distinct_slots counts_rise slots_stay g.index x

  pub filled_fill : Each (λ (s : Slot W). 0 < count W s) g.slots → Each (λ (s : Slot W). 0 < count W s) (accepted W A b g skipped).group.slots
  unfolding accepted group_after
  filled_fill f = each_filled W (ended W A b g skipped).slots distinct_slots (λ n h. elim (some_slots n h) [
    | inl e ↦ omega (arith, filled_each W g.slots f n e, counts_rise n)
    | inr e ↦ e
  ])
