-- Slots by their numbers: what growing, opening and dropping a slot do to each slot's count and accounts. Assumes nothing.
use mathlib.Core.Path.{◌≡◌, refl, sym, ap, ◌∙◌, subst}
use mathlib.Core.Bool.{Bool, true, false, cond, not, ◌||◌}
use mathlib.Core.Logic.{inl, inr}
use mathlib.Core.List.{List, [], ◌∷◌, ◌++◌}
use Prim.Native.Nat.{ℕ, ◌+◌, ◌≤◌}
use native.Mathlib.Omega.{arith}
use lib.Dec.{T, eqb, eqb→eq, eqb_refl}
use lib.ListN.{length}
use Rattle.rules.specs.World.{World, Slot, keep, is_member}
use Rattle.rules.specs.Queues.{is_in, internals, externals, count, count_of, accounts_of, has_slot, grown, grow}
use Rattle.rules.specs.Fill.{numbers}
use Rattle.demands.proofs.Rows.{which, clash, keep_both}

pub of_true : (b : Bool) → b ≡ true → T b
of_true b e = subst T (sym e) tt

pub to_true : (b : Bool) → T b → b ≡ true
to_true true t = refl
to_true false t = absurd t

pub eq_of : (m n : ℕ) → eqb m n ≡ true → m ≡ n
eq_of m n e = eqb→eq m n (of_true (eqb m n) e)

pub eq_self : (n : ℕ) → eqb n n ≡ true
eq_self n = to_true (eqb n n) (eqb_refl n)

pub eq_true : (m n : ℕ) → m ≡ n → eqb m n ≡ true
eq_true m n e = rw e (eq_self n)

pub ne_false : (m n : ℕ) → (m ≡ n → ⊥) → eqb m n ≡ false
ne_false m n h = elim (which (eqb m n)) [ inl e ↦ absurd (h (eq_of m n e)) | inr e ↦ e ]

pub ne_of : (m n : ℕ) → eqb m n ≡ false → m ≡ n → ⊥
ne_of m n e h = clash (eqb m n) (eq_true m n h) e

pub is_member_append : (m : ℕ) (x y : List ℕ) → is_member m (x ++ y) ≡ (is_member m x || is_member m y)
unfolding is_member
is_member_append m [] y = refl
is_member_append m (n ∷ x) y = elim (which (eqb m n)) [ inl e ↦ rw e | inr e ↦ rw e (is_member_append m x y) ]

module _ (W : World) where
  pub is_in_append : (b : W.Acc) (x y : List W.Acc) → is_in W b (x ++ y) ≡ (is_in W b x || is_in W b y)
  unfolding is_in
  is_in_append b [] y = refl
  is_in_append b (a ∷ x) y = elim (which (W.same b a)) [ inl e ↦ rw e | inr e ↦ rw e (is_in_append b x y) ]

  pub count_grown : (a : W.Acc) (new : Bool) (ms : List W.Msg) (s : Slot W) → count W (grown W a new ms s) ≡ count W s + length ms
  unfolding count grown internals externals
  count_grown a new ms s = omega (arith, keep_both W.external ms)

  module _ (n : ℕ) (a : W.Acc) (new : Bool) (ms : List W.Msg) where
    pub count_of_grow_same : (ss : List (Slot W)) → has_slot W n ss ≡ true → count_of W n (grow W n (grown W a new ms) ss) ≡ count_of W n ss + length ms
    unfolding count_of grow has_slot grown
    count_of_grow_same [] h = clash false h refl
    count_of_grow_same (s ∷ ss) h = elim (which (eqb n s.number)) [
      | inl e ↦ rw e (rw e (count_grown a new ms s))
      | inr e ↦ rw e (rw e (count_of_grow_same ss (rw e at h)))
    ]

    pub count_of_grow_most : (ss : List (Slot W)) → count_of W n (grow W n (grown W a new ms) ss) ≤ count_of W n ss + length ms
    unfolding count_of grow has_slot grown
    count_of_grow_most [] = omega arith
    count_of_grow_most (s ∷ ss) = elim (which (eqb n s.number)) [
      | inl e ↦ rw e (rw e (omega (arith, count_grown a new ms s)))
      | inr e ↦ rw e (rw e (count_of_grow_most ss))
    ]

    pub count_of_grow_least : (ss : List (Slot W)) → count_of W n ss ≤ count_of W n (grow W n (grown W a new ms) ss)
    unfolding count_of grow has_slot grown
    count_of_grow_least [] = omega arith
    count_of_grow_least (s ∷ ss) = elim (which (eqb n s.number)) [
      | inl e ↦ rw e (rw e (omega (arith, count_grown a new ms s)))
      | inr e ↦ rw e (rw e (count_of_grow_least ss))
    ]

    pub count_of_grow_other : (m : ℕ) → eqb m n ≡ false → (ss : List (Slot W)) → count_of W m (grow W n (grown W a new ms) ss) ≡ count_of W m ss
    unfolding count_of grow grown
    count_of_grow_other m d [] = refl
    count_of_grow_other m d (s ∷ ss) = elim (which (eqb n s.number)) [
      | inl e ↦ rw e (elim (which (eqb m s.number)) [
        | inl h ↦ absurd (ne_of m n d (eq_of m s.number h ∙ sym (eq_of n s.number e)))
        | inr h ↦ rw h (count_of_grow_other m d ss)
      ])
      | inr e ↦ rw e (elim (which (eqb m s.number)) [ inl h ↦ rw h | inr h ↦ rw h (count_of_grow_other m d ss) ])
    ]

    pub accounts_of_grow_same : (ss : List (Slot W)) → has_slot W n ss ≡ true →
        accounts_of W n (grow W n (grown W a new ms) ss) ≡ cond new (accounts_of W n ss ++ (a ∷ [])) (accounts_of W n ss)
    unfolding accounts_of grow has_slot grown
    accounts_of_grow_same [] h = clash false h refl
    accounts_of_grow_same (s ∷ ss) h = elim (which (eqb n s.number)) [
      | inl e ↦ rw e (rw e)
      | inr e ↦ rw e (rw e (accounts_of_grow_same ss (rw e at h)))
    ]

    pub accounts_of_grow_other : (m : ℕ) → eqb m n ≡ false → (ss : List (Slot W)) → accounts_of W m (grow W n (grown W a new ms) ss) ≡ accounts_of W m ss
    unfolding accounts_of grow grown
    accounts_of_grow_other m d [] = refl
    accounts_of_grow_other m d (s ∷ ss) = elim (which (eqb n s.number)) [
      | inl e ↦ rw e (elim (which (eqb m s.number)) [
        | inl h ↦ absurd (ne_of m n d (eq_of m s.number h ∙ sym (eq_of n s.number e)))
        | inr h ↦ rw h (accounts_of_grow_other m d ss)
      ])
      | inr e ↦ rw e (elim (which (eqb m s.number)) [ inl h ↦ rw h | inr h ↦ rw h (accounts_of_grow_other m d ss) ])
    ]

    pub numbers_grow : (ss : List (Slot W)) → numbers W (grow W n (grown W a new ms) ss) ≡ numbers W ss
    unfolding numbers grow grown
    numbers_grow [] = refl
    numbers_grow (s ∷ ss) = elim (which (eqb n s.number)) [
      | inl e ↦ rw e (ap {B = List ℕ} (λ l. s.number ∷ l) (numbers_grow ss))
      | inr e ↦ rw e (ap {B = List ℕ} (λ l. s.number ∷ l) (numbers_grow ss))
    ]

  pub has_slot_numbers : (m : ℕ) (ss : List (Slot W)) → has_slot W m ss ≡ is_member m (numbers W ss)
  unfolding has_slot is_member numbers
  has_slot_numbers m [] = refl
  has_slot_numbers m (s ∷ ss) = elim (which (eqb m s.number)) [ inl e ↦ rw e | inr e ↦ rw e (has_slot_numbers m ss) ]

  -- no slot of the number: its count reads 0, its accounts none
  pub count_of_none : (m : ℕ) (ss : List (Slot W)) → has_slot W m ss ≡ false → count_of W m ss ≡ 0
  unfolding has_slot count_of
  count_of_none m [] h = refl
  count_of_none m (s ∷ ss) h = elim (which (eqb m s.number)) [
    | inl e ↦ clash true refl (rw e at h)
    | inr e ↦ rw e (count_of_none m ss (rw e at h))
  ]

  pub accounts_of_has : (a : W.Acc) (m : ℕ) (ss : List (Slot W)) → is_in W a (accounts_of W m ss) ≡ true → has_slot W m ss ≡ true
  unfolding has_slot accounts_of is_in
  accounts_of_has a m [] h = clash false h refl
  accounts_of_has a m (s ∷ ss) h = elim (which (eqb m s.number)) [
    | inl e ↦ rw e
    | inr e ↦ rw e (accounts_of_has a m ss (rw e at h))
  ]

  -- ---- opening and dropping
  abbrev pub empty : ℕ → Slot W
  empty n = record { number = n; accounts = []; ints = 0; exts = 0 }

  pub count_of_open : (n m : ℕ) (ss : List (Slot W)) → count_of W m (ss ++ (empty n ∷ [])) ≡ count_of W m ss
  unfolding count_of count
  count_of_open n m [] = elim (which (eqb m n)) [ inl e ↦ rw e | inr e ↦ rw e ]
  count_of_open n m (s ∷ ss) = elim (which (eqb m s.number)) [ inl e ↦ rw e | inr e ↦ rw e (count_of_open n m ss) ]

  pub accounts_of_open : (n m : ℕ) (ss : List (Slot W)) → accounts_of W m (ss ++ (empty n ∷ [])) ≡ accounts_of W m ss
  unfolding accounts_of
  accounts_of_open n m [] = elim (which (eqb m n)) [ inl e ↦ rw e | inr e ↦ rw e ]
  accounts_of_open n m (s ∷ ss) = elim (which (eqb m s.number)) [ inl e ↦ rw e | inr e ↦ rw e (accounts_of_open n m ss) ]

  pub numbers_open : (n : ℕ) (ss : List (Slot W)) → numbers W (ss ++ (empty n ∷ [])) ≡ numbers W ss ++ (n ∷ [])
  unfolding numbers
  numbers_open n [] = refl
  numbers_open n (s ∷ ss) = ap {B = List ℕ} (λ l. s.number ∷ l) (numbers_open n ss)

  abbrev pub dropped : ℕ → List (Slot W) → List (Slot W)
  dropped n ss = keep (λ (x : Slot W). not (eqb n x.number)) ss

  pub count_of_drop_other : (n m : ℕ) → eqb m n ≡ false → (ss : List (Slot W)) → count_of W m (dropped n ss) ≡ count_of W m ss
  unfolding count_of keep
  count_of_drop_other n m d [] = refl
  count_of_drop_other n m d (s ∷ ss) = elim (which (eqb n s.number)) [
    | inl e ↦ rw e (elim (which (eqb m s.number)) [
      | inl h ↦ absurd (ne_of m n d (eq_of m s.number h ∙ sym (eq_of n s.number e)))
      | inr h ↦ rw h (count_of_drop_other n m d ss)
    ])
    | inr e ↦ rw e (elim (which (eqb m s.number)) [ inl h ↦ rw h | inr h ↦ rw h (count_of_drop_other n m d ss) ])
  ]

  pub accounts_of_drop_other : (n m : ℕ) → eqb m n ≡ false → (ss : List (Slot W)) → accounts_of W m (dropped n ss) ≡ accounts_of W m ss
  unfolding accounts_of keep
  accounts_of_drop_other n m d [] = refl
  accounts_of_drop_other n m d (s ∷ ss) = elim (which (eqb n s.number)) [
    | inl e ↦ rw e (elim (which (eqb m s.number)) [
      | inl h ↦ absurd (ne_of m n d (eq_of m s.number h ∙ sym (eq_of n s.number e)))
      | inr h ↦ rw h (accounts_of_drop_other n m d ss)
    ])
    | inr e ↦ rw e (elim (which (eqb m s.number)) [ inl h ↦ rw h | inr h ↦ rw h (accounts_of_drop_other n m d ss) ])
  ]

  pub has_slot_drop_other : (n m : ℕ) → eqb m n ≡ false → (ss : List (Slot W)) → has_slot W m (dropped n ss) ≡ has_slot W m ss
  unfolding has_slot keep
  has_slot_drop_other n m d [] = refl
  has_slot_drop_other n m d (s ∷ ss) = elim (which (eqb n s.number)) [
    | inl e ↦ rw e (elim (which (eqb m s.number)) [
      | inl h ↦ absurd (ne_of m n d (eq_of m s.number h ∙ sym (eq_of n s.number e)))
      | inr h ↦ rw h (has_slot_drop_other n m d ss)
    ])
    | inr e ↦ rw e (elim (which (eqb m s.number)) [ inl h ↦ rw h | inr h ↦ rw h (has_slot_drop_other n m d ss) ])
  ]

  pub has_slot_drop_same : (n : ℕ) (ss : List (Slot W)) → has_slot W n (dropped n ss) ≡ false
  unfolding has_slot keep
  has_slot_drop_same n [] = refl
  has_slot_drop_same n (s ∷ ss) = elim (which (eqb n s.number)) [ inl e ↦ rw e (has_slot_drop_same n ss) | inr e ↦ rw e (rw e (has_slot_drop_same n ss)) ]
