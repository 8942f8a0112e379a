-- A group stays tidy in a fill: slots rise, an account stands in one slot and once, the slots' accounts are those with a list, counts are
-- those of the lists. A move is the hard step; then an opening, a dropping of an empty slot, and the whole fill. Assumes nothing.
use mathlib.Core.Path.{◌≡◌, refl, sym, ap, ◌∙◌}
use mathlib.Core.Bool.{Bool, true, false, cond, not, ◌||◌}
use mathlib.Core.Logic.{inl, inr}
use mathlib.Core.List.{List, [], ◌∷◌, ◌++◌}
use Prim.Native.Nat.{ℕ, ◌+◌, ◌<◌}
use native.Mathlib.Omega.{arith}
use lib.Dec.{eqb}
use Rattle.rules.specs.World.{World, Row, Slot, Each, keep, is_nil, is_member}
use Rattle.rules.specs.Queues.{has, at, give, is_in, accounts, internals, externals, accounts_of, has_slot, grown, grow}
use Rattle.rules.specs.Fill.{numbers}
use Rattle.rules.specs.Demand.{Once, OnceN}
use Rattle.rules.specs.Kept.{Rising, total, slotted, Counted}
use Rattle.demands.proofs.Rows.{right, Lawful, which, clash, or_cases, or_false}
use Rattle.demands.proofs.Slots.{eq_of, eq_self, is_in_append, is_member_append, has_slot_numbers}
use Rattle.demands.proofs.Accounts.{once_left, once_right, once_apart, once_both, once_middle, in_slotted, held_other, held_same, held_new}

-- ---- rising numbers
pub rising_once : (l : List ℕ) → Rising l → OnceN l
rising_once [] r = tt
rising_once (n ∷ l) r = (elim (which (is_member n l)) [ inl e ↦ absurd (omega (arith, r.0 n e)) | inr e ↦ e ], rising_once l r.1)

pub rising_both : (x y : List ℕ) → Rising x → Rising y → ((m n : ℕ) → is_member m x ≡ true → is_member n y ≡ true → m < n) → Rising (x ++ y)
unfolding is_member
rising_both [] y p q f = q
rising_both (k ∷ x) y p q f = (
  λ m i. elim (or_cases (is_member m x) (is_member m y) (sym (is_member_append m x y) ∙ i)) [ inl e ↦ p.0 m e | inr e ↦ f k m (rw (eq_self k)) e ],
  rising_both x y p.1 q (λ m n i j. f m n (right (eqb m k) i) j),
)

module _ (W : World) where
  pub member_keep : (t : Slot W → Bool) (m : ℕ) (ss : List (Slot W)) → is_member m (numbers W (keep t ss)) ≡ true → is_member m (numbers W ss) ≡ true
  unfolding keep numbers is_member
  member_keep t m [] i = i
  member_keep t m (s ∷ ss) i = elim (which (t s)) [
    | inl e ↦ elim (or_cases (eqb m s.number) (is_member m (numbers W (keep t ss))) (rw e at i)) [ inl d ↦ rw d | inr d ↦ right (eqb m s.number) (member_keep t m ss d) ]
    | inr e ↦ right (eqb m s.number) (member_keep t m ss (rw e at i))
  ]

  pub rising_keep : (t : Slot W → Bool) (ss : List (Slot W)) → Rising (numbers W ss) → Rising (numbers W (keep t ss))
  unfolding keep numbers
  rising_keep t [] r = tt
  rising_keep t (s ∷ ss) r = elim (which (t s)) [
    | inl e ↦ rw e (λ m i. r.0 m (member_keep t m ss i), rising_keep t ss r.1)
    | inr e ↦ rw e (rising_keep t ss r.1)
  ]

module _ (W : World) (L : Lawful W) where
  -- ---- the lists
  pub each_give : (a : W.Acc) (ms : List W.Msg) (o : List (Row W)) → Each (λ (r : Row W). is_nil r.msgs ≡ false) o → Each (λ (r : Row W). is_nil r.msgs ≡ false) (give W a ms o)
  unfolding give is_nil
  each_give a [] o p = p
  each_give a (m ∷ ms) [] p = (refl, tt)
  each_give a (m ∷ ms) (r ∷ o) p = elim (which (W.same a r.acc)) [
    | inl e ↦ rw e (longer r.msgs, p.1)
    | inr e ↦ rw e (p.0, each_give a (m ∷ ms) o p.1)
  ]
    where
      longer : (x : List W.Msg) → is_nil (x ++ (m ∷ ms)) ≡ false
      longer [] = refl
      longer (y ∷ x) = refl

  -- ---- a slot that grows
  module _ (n : ℕ) (a : W.Acc) (ms : List W.Msg) where
    pub slotted_old : (ss : List (Slot W)) → slotted W (grow W n (grown W a false ms) ss) ≡ slotted W ss
    unfolding slotted grow grown
    slotted_old [] = refl
    slotted_old (s ∷ ss) = elim (which (eqb n s.number)) [ inl e ↦ rw e (λ i. s.accounts ++ slotted_old ss i) | inr e ↦ rw e (λ i. s.accounts ++ slotted_old ss i) ]

    grow_none : (new : Bool) (ss : List (Slot W)) → has_slot W n ss ≡ false → grow W n (grown W a new ms) ss ≡ ss
    unfolding has_slot grow
    grow_none new [] h = refl
    grow_none new (s ∷ ss) h = rw (or_false (eqb n s.number) _ h).0 (λ i. s ∷ grow_none new ss (or_false (eqb n s.number) _ h).1 i)

    -- with a new account
    pub in_new : (b : W.Acc) (ss : List (Slot W)) → has_slot W n ss ≡ true → OnceN (numbers W ss) → is_in W b (slotted W (grow W n (grown W a true ms) ss)) ≡ (is_in W b (slotted W ss) || W.same b a)
    unfolding slotted grow grown has_slot numbers is_in
    in_new b [] h o = clash false h refl
    in_new b (s ∷ ss) h o = elim (which (eqb n s.number)) [
      | inl e ↦ rw e (rw (grow_none true ss (has_slot_numbers W n ss ∙ rw (eq_of n s.number e) o.0)) (
          is_in_append W b (s.accounts ++ (a ∷ [])) (slotted W ss) ∙ rw (is_in_append W b s.accounts (a ∷ []), is_in_append W b s.accounts (slotted W ss))
          (by (is_in W b s.accounts) (W.same b a) (is_in W b (slotted W ss)))))
      | inr e ↦ rw e (is_in_append W b s.accounts _ ∙ rw (is_in_append W b s.accounts (slotted W ss)) (
          ap (λ (c : Bool). is_in W b s.accounts || c) (in_new b ss (rw e at h) o.1) ∙ assoc (is_in W b s.accounts) (is_in W b (slotted W ss)) (W.same b a)))
    ]
      where
        by : (x y z : Bool) → ((x || (y || false)) || z) ≡ ((x || z) || y)
        by true y z = refl
        by false true true = refl
        by false true false = refl
        by false false true = refl
        by false false false = refl

        assoc : (x y z : Bool) → (x || (y || z)) ≡ ((x || y) || z)
        assoc true y z = refl
        assoc false y z = refl

    pub once_new : (ss : List (Slot W)) → has_slot W n ss ≡ true → OnceN (numbers W ss) → is_in W a (slotted W ss) ≡ false → Once W (slotted W ss) → Once W (slotted W (grow W n (grown W a true ms) ss))
    unfolding slotted grow grown has_slot numbers
    once_new [] h o f q = clash false h refl
    once_new (s ∷ ss) h o f q = elim (which (eqb n s.number)) [
      | inl e ↦ rw e (rw (grow_none true ss (has_slot_numbers W n ss ∙ rw (eq_of n s.number e) o.0)) (once_middle W L a s.accounts (slotted W ss) q f))
      | inr e ↦ rw e (once_both W L s.accounts _ (once_left W L s.accounts (slotted W ss) q) (once_new ss (rw e at h) o.1 parts.1 (once_right W L s.accounts (slotted W ss) q)) (apart (rw e at h)))
    ]
      where
        parts : (is_in W a s.accounts ≡ false) × (is_in W a (slotted W ss) ≡ false)
        parts = or_false (is_in W a s.accounts) (is_in W a (slotted W ss)) (sym (is_in_append W a s.accounts (slotted W ss)) ∙ f)

        differs : (b : W.Acc) → is_in W b s.accounts ≡ true → W.same b a ≡ false
        differs b i = elim (which (W.same b a)) [ inl d ↦ clash _ i (rw (L.decide b a d) parts.0) | inr d ↦ d ]

        apart : has_slot W n ss ≡ true → (b : W.Acc) → is_in W b s.accounts ≡ true → is_in W b (slotted W (grow W n (grown W a true ms) ss)) ≡ false
        apart k b i = in_new b ss k o.1 ∙ rw (once_apart W L b s.accounts (slotted W ss) q i, differs b i)

    -- where account a stands: in slot n if b, and in no other
    unfoldable pub Where : Bool → Slot W → Type 0
    Where b s = Once W s.accounts × (eqb n s.number ≡ true → is_in W a s.accounts ≡ b) × (eqb n s.number ≡ false → is_in W a s.accounts ≡ false)

    where_none : (b : Bool) (ss : List (Slot W)) → has_slot W n ss ≡ false → is_in W a (slotted W ss) ≡ false → Once W (slotted W ss) → Each (Where b) ss
    unfolding Where slotted has_slot
    where_none b [] h f q = tt
    where_none b (s ∷ ss) h f q = (
      (once_left W L s.accounts (slotted W ss) q, λ e. clash _ e (or_false (eqb n s.number) _ h).0, λ e. parts.0),
      where_none b ss (or_false (eqb n s.number) _ h).1 parts.1 (once_right W L s.accounts (slotted W ss) q),
    )
      where
        parts : (is_in W a s.accounts ≡ false) × (is_in W a (slotted W ss) ≡ false)
        parts = or_false (is_in W a s.accounts) (is_in W a (slotted W ss)) (sym (is_in_append W a s.accounts (slotted W ss)) ∙ f)

    pub where_is : (b : Bool) (ss : List (Slot W)) → OnceN (numbers W ss) → Once W (slotted W ss) → has_slot W n ss ≡ true → is_in W a (accounts_of W n ss) ≡ b → is_in W a (slotted W ss) ≡ b → Each (Where b) ss
    unfolding Where slotted has_slot numbers accounts_of
    where_is b [] o q h i j = tt
    where_is b (s ∷ ss) o q h i j = elim (which (eqb n s.number)) [
      | inl e ↦ ((mine, λ d. rw e at i, λ d. clash _ e d), where_none b ss (has_slot_numbers W n ss ∙ rw (eq_of n s.number e) o.0) (behind b i j e) rest)
      | inr e ↦ ((mine, λ d. clash _ d e, λ d. away b (rw e at i) j), where_is b ss o.1 rest (rw e at h) (rw e at i) (later b (rw e at i) j))
    ]
      where
        mine : Once W s.accounts
        mine = once_left W L s.accounts (slotted W ss) q

        rest : Once W (slotted W ss)
        rest = once_right W L s.accounts (slotted W ss) q

        parts : is_in W a (s.accounts ++ slotted W ss) ≡ false → (is_in W a s.accounts ≡ false) × (is_in W a (slotted W ss) ≡ false)
        parts f = or_false (is_in W a s.accounts) (is_in W a (slotted W ss)) (sym (is_in_append W a s.accounts (slotted W ss)) ∙ f)

        behind : (c : Bool) → is_in W a (cond (eqb n s.number) s.accounts (accounts_of W n ss)) ≡ c → is_in W a (s.accounts ++ slotted W ss) ≡ c → eqb n s.number ≡ true → is_in W a (slotted W ss) ≡ false
        behind true x y e = once_apart W L a s.accounts (slotted W ss) q (rw e at x)
        behind false x y e = (parts y).1

        away : (c : Bool) → is_in W a (accounts_of W n ss) ≡ c → is_in W a (s.accounts ++ slotted W ss) ≡ c → is_in W a s.accounts ≡ false
        away true x y = elim (which (is_in W a s.accounts)) [
          | inl d ↦ clash _ (in_slotted W L a n ss x) (once_apart W L a s.accounts (slotted W ss) q d)
          | inr d ↦ d
        ]
        away false x y = (parts y).0

        later : (c : Bool) → is_in W a (accounts_of W n ss) ≡ c → is_in W a (s.accounts ++ slotted W ss) ≡ c → is_in W a (slotted W ss) ≡ c
        later true x y = in_slotted W L a n ss x
        later false x y = (parts y).1

    -- ---- the slots' counts
    module _ (lists : List (Row W)) where
      counted_other : (s : Slot W) → is_in W a s.accounts ≡ false → Counted W lists s → Counted W (give W a ms lists) s
      unfolding internals externals
      counted_other s f c = rw (held_other W L a ms lists s.accounts f) c

      pub counted_all : (b new : Bool) → ((s : Slot W) → Once W s.accounts → is_in W a s.accounts ≡ b → Counted W lists s → Counted W (give W a ms lists) (grown W a new ms s)) →
          (ss : List (Slot W)) → Each (Where b) ss → Each (Counted W lists) ss → Each (Counted W (give W a ms lists)) (grow W n (grown W a new ms) ss)
      unfolding grow Where
      counted_all b new f [] w c = tt
      counted_all b new f (s ∷ ss) w c = elim (which (eqb n s.number)) [
        | inl e ↦ rw e (f s w.0.0 (w.0.1 e) c.0, counted_all b new f ss w.1 c.1)
        | inr e ↦ rw e (counted_other s (w.0.2 e) c.0, counted_all b new f ss w.1 c.1)
      ]

      -- an account that stands there already
      pub counted_old : (s : Slot W) → Once W s.accounts → is_in W a s.accounts ≡ true → Counted W lists s → Counted W (give W a ms lists) (grown W a false ms s)
      unfolding grown internals externals
      counted_old s o i c = (
        omega (arith, c.0, held_same W L a ms lists (λ m. not (W.external m)) s.accounts o i),
        omega (arith, c.1, held_same W L a ms lists W.external s.accounts o i),
      )

      -- a new one
      pub counted_new : has W a lists ≡ false → (s : Slot W) → Once W s.accounts → is_in W a s.accounts ≡ false → Counted W lists s → Counted W (give W a ms lists) (grown W a true ms s)
      unfolding grown internals externals
      counted_new h s o i c = (
        omega (arith, c.0, held_new W L a ms lists (λ m. not (W.external m)) s.accounts i h),
        omega (arith, c.1, held_new W L a ms lists W.external s.accounts i h),
      )

    -- ---- the sums
    pub total_grow : (f : Slot W → ℕ) (k : ℕ) (new : Bool) → ((s : Slot W) → f (grown W a new ms s) ≡ f s + k) → (ss : List (Slot W)) → OnceN (numbers W ss) → has_slot W n ss ≡ true →
        total f (grow W n (grown W a new ms) ss) ≡ total f ss + k
    unfolding total grow has_slot numbers
    total_grow f k new g [] o h = clash false h refl
    total_grow f k new g (s ∷ ss) o h = elim (which (eqb n s.number)) [
      | inl e ↦ rw e (rw (grow_none new ss (has_slot_numbers W n ss ∙ rw (eq_of n s.number e) o.0)) (omega (arith, g s)))
      | inr e ↦ rw e (omega (arith, total_grow f k new g ss o.1 (rw e at h)))
    ]
