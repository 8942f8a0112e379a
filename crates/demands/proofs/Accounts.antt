-- Lists of accounts without repeats, the accounts of the slots (`slotted`), and the messages that they hold (`held_by`): what giving
-- messages to an account does to them. Assumes nothing.
use mathlib.Core.Path.{◌≡◌, refl, sym, ap, ◌∙◌}
use mathlib.Core.Bool.{Bool, true, false, cond, not, ◌&&◌, ◌||◌}
use mathlib.Core.Logic.{inl, inr}
use mathlib.Core.List.{List, [], ◌∷◌, ◌++◌, append-nil, append_assoc}
use Prim.Native.Nat.{ℕ, ◌+◌}
use native.Mathlib.Omega.{arith}
use lib.Dec.{eqb}
use lib.ListN.{length, length-append}
use Rattle.rules.specs.World.{World, Row, Slot, Each, keep, joined, is_nil}
use Rattle.rules.specs.Queues.{has, at, give, is_in, accounts, all_msgs, accounts_of}
use Rattle.rules.specs.Fill.{numbers}
use Rattle.rules.specs.Demand.{Once, OnceN}
use Rattle.rules.specs.Kept.{slotted, held_by, total}
use Rattle.demands.proofs.Rows.{right, left, Lawful, which, clash, or_cases, or_false, keep_append, at_give_same, at_give_other}
use Rattle.demands.proofs.Slots.{eq_of, eq_self, is_in_append, has_slot_numbers, accounts_of_has}

-- messages that pass a test
abbrev pub num : {X : Type 0} → (X → Bool) → List X → ℕ
num p l = length (keep p l)

pub num_nil : {X : Type 0} (p : X → Bool) → num p [] ≡ 0
unfolding keep
num_nil p = refl

pub num_append : {X : Type 0} (p : X → Bool) (x y : List X) → num p (x ++ y) ≡ num p x + num p y
num_append p x y = ap length (keep_append p x y) ∙ length-append (keep p x) (keep p y)

pub each_append : {X : Type 0} (P : X → Type 0) (x y : List X) → Each P x → Each P y → Each P (x ++ y)
each_append P [] y p q = q
each_append P (a ∷ x) y p q = (p.0, each_append P x y p.1 q)

pub each_keep : {X : Type 0} (P : X → Type 0) (t : X → Bool) (x : List X) → Each P x → Each P (keep t x)
unfolding keep
each_keep P t [] p = tt
each_keep P t (a ∷ x) p = elim (which (t a)) [ inl e ↦ rw e (p.0, each_keep P t x p.1) | inr e ↦ rw e (each_keep P t x p.1) ]

pub each_map : {X : Type 0} (P Q : X → Type 0) → ((x : X) → P x → Q x) → (x : List X) → Each P x → Each Q x
each_map P Q f [] p = tt
each_map P Q f (a ∷ x) p = (f a p.0, each_map P Q f x p.1)

pub total_append : {X : Type 0} (f : X → ℕ) (x y : List X) → total f (x ++ y) ≡ total f x + total f y
unfolding total
total_append f [] y = omega arith
total_append f (a ∷ x) y = omega (arith, total_append f x y)

module _ (W : World) (L : Lawful W) where
  pub turn : (a b : W.Acc) → W.same a b ≡ false → W.same b a ≡ false
  turn a b e = elim (which (W.same b a)) [ inl d ↦ clash _ (ap (W.same a) (L.decide b a d) ∙ L.self a) e | inr d ↦ d ]

  other_than : (a b c : W.Acc) → W.same a c ≡ true → W.same b c ≡ false → W.same b a ≡ false
  other_than a b c e d = ap (W.same b) (L.decide a c e) ∙ d

  -- ---- no account twice
  pub once_left : (x y : List W.Acc) → Once W (x ++ y) → Once W x
  once_left [] y o = tt
  once_left (a ∷ x) y o = ((or_false (is_in W a x) (is_in W a y) (sym (is_in_append W a x y) ∙ o.0)).0, once_left x y o.1)

  pub once_right : (x y : List W.Acc) → Once W (x ++ y) → Once W y
  once_right [] y o = o
  once_right (a ∷ x) y o = once_right x y o.1

  pub once_apart : (b : W.Acc) (x y : List W.Acc) → Once W (x ++ y) → is_in W b x ≡ true → is_in W b y ≡ false
  unfolding is_in
  once_apart b [] y o i = clash false i refl
  once_apart b (a ∷ x) y o i = elim (which (W.same b a)) [
    | inl e ↦ rw (L.decide b a e) (or_false (is_in W a x) (is_in W a y) (sym (is_in_append W a x y) ∙ o.0)).1
    | inr e ↦ once_apart b x y o.1 (rw e at i)
  ]

  pub once_both : (x y : List W.Acc) → Once W x → Once W y → ((b : W.Acc) → is_in W b x ≡ true → is_in W b y ≡ false) → Once W (x ++ y)
  unfolding is_in
  once_both [] y p q f = q
  once_both (a ∷ x) y p q f = (
    is_in_append W a x y ∙ rw p.0 (f a (rw (L.self a))),
    once_both x y p.1 q (λ b i. f b (right (W.same b a) i)),
  )

  -- account a put at the end of the first of two lists
  pub once_middle : (a : W.Acc) (x y : List W.Acc) → Once W (x ++ y) → is_in W a (x ++ y) ≡ false → Once W ((x ++ (a ∷ [])) ++ y)
  unfolding is_in
  once_middle a [] y o h = (h, o)
  once_middle a (b ∷ x) y o h = (
    is_in_append W b (x ++ (a ∷ [])) y ∙ rw (is_in_append W b x (a ∷ [])) (rw (parts.0, parts.1, turn a b (or_false (W.same a b) _ h).0)),
    once_middle a x y o.1 (or_false (W.same a b) _ h).1,
  )
    where
      parts : (is_in W b x ≡ false) × (is_in W b y ≡ false)
      parts = or_false (is_in W b x) (is_in W b y) (sym (is_in_append W b x y) ∙ o.0)

  -- ---- the accounts of the slots
  pub slotted_append : (x y : List (Slot W)) → slotted W (x ++ y) ≡ slotted W x ++ slotted W y
  unfolding slotted
  slotted_append [] y = refl
  slotted_append (s ∷ x) y = (λ i. s.accounts ++ slotted_append x y i) ∙ sym (append_assoc s.accounts (slotted W x) (slotted W y))

  pub in_slotted : (a : W.Acc) (n : ℕ) (ss : List (Slot W)) → is_in W a (accounts_of W n ss) ≡ true → is_in W a (slotted W ss) ≡ true
  unfolding accounts_of slotted is_in
  in_slotted a n [] i = i
  in_slotted a n (s ∷ ss) i = is_in_append W a s.accounts (slotted W ss) ∙ elim (which (eqb n s.number)) [
    | inl e ↦ left _ _ (rw e at i)
    | inr e ↦ right (is_in W a s.accounts) (in_slotted a n ss (rw e at i))
  ]

  -- an account of the slots stands in the list of some slot
  pub slot_of : (a : W.Acc) (ss : List (Slot W)) → OnceN (numbers W ss) → is_in W a (slotted W ss) ≡ true → (n : ℕ) × (is_in W a (accounts_of W n ss) ≡ true)
  unfolding accounts_of slotted is_in numbers
  slot_of a [] o i = clash false i refl
  slot_of a (s ∷ ss) o i = elim (or_cases (is_in W a s.accounts) (is_in W a (slotted W ss)) (sym (is_in_append W a s.accounts (slotted W ss)) ∙ i)) [
    | inl e ↦ (s.number, rw (eq_self s.number) e)
    | inr e ↦ later (slot_of a ss o.1 e)
  ]
    where
      later : (n : ℕ) × (is_in W a (accounts_of W n ss) ≡ true) → (n : ℕ) × (is_in W a (cond (eqb n s.number) s.accounts (accounts_of W n ss)) ≡ true)
      later q = (
        q.0,
        elim (which (eqb q.0 s.number)) [
          | inl e ↦ clash _ (accounts_of_has W a q.0 ss q.1) (has_slot_numbers W q.0 ss ∙ rw (eq_of q.0 s.number e) o.0)
          | inr e ↦ rw e q.1
        ],
      )

  -- it stands in no other
  pub one_slot : (a : W.Acc) (ss : List (Slot W)) → Once W (slotted W ss) → (n m : ℕ) → is_in W a (accounts_of W n ss) ≡ true → is_in W a (accounts_of W m ss) ≡ true → n ≡ m
  unfolding accounts_of slotted is_in
  one_slot a [] o n m i j = clash false i refl
  one_slot a (s ∷ ss) o n m i j = elim (which (eqb n s.number)) [
    | inl e ↦ elim (which (eqb m s.number)) [
      | inl d ↦ eq_of n s.number e ∙ sym (eq_of m s.number d)
      | inr d ↦ clash _ (in_slotted a m ss (rw d at j)) (once_apart a s.accounts (slotted W ss) o (rw e at i))
    ]
    | inr e ↦ elim (which (eqb m s.number)) [
      | inl d ↦ clash _ (in_slotted a n ss (rw e at i)) (once_apart a s.accounts (slotted W ss) o (rw d at j))
      | inr d ↦ one_slot a ss (once_right s.accounts (slotted W ss) o) n m (rw e at i) (rw d at j)
    ]
  ]

  pub once_in_slot : (n : ℕ) (ss : List (Slot W)) → Once W (slotted W ss) → Once W (accounts_of W n ss)
  unfolding accounts_of slotted
  once_in_slot n [] o = tt
  once_in_slot n (s ∷ ss) o = elim (which (eqb n s.number)) [
    | inl e ↦ rw e (once_left s.accounts (slotted W ss) o)
    | inr e ↦ rw e (once_in_slot n ss (once_right s.accounts (slotted W ss) o))
  ]

  -- ---- what accounts hold
  pub at_nothing : (a : W.Acc) (o : List (Row W)) → has W a o ≡ false → at W a o ≡ []
  unfolding has at
  at_nothing a [] h = refl
  at_nothing a (r ∷ o) h = rw (or_false (W.same a r.acc) (has W a o) h).0 (at_nothing a o (or_false (W.same a r.acc) (has W a o) h).1)

  pub held_append : (lists : List (Row W)) (x y : List W.Acc) → held_by W lists (x ++ y) ≡ held_by W lists x ++ held_by W lists y
  unfolding held_by
  held_append lists [] y = refl
  held_append lists (a ∷ x) y = (λ i. at W a lists ++ held_append lists x y i) ∙ sym (append_assoc (at W a lists) (held_by W lists x) (held_by W lists y))

  module _ (a : W.Acc) (ms : List W.Msg) (lists : List (Row W)) where
    pub held_other : (l : List W.Acc) → is_in W a l ≡ false → held_by W (give W a ms lists) l ≡ held_by W lists l
    unfolding held_by is_in
    held_other [] h = refl
    held_other (b ∷ l) h = λ i. at_give_other W L a b ms (turn a b (or_false (W.same a b) _ h).0) lists i ++ held_other l (or_false (W.same a b) _ h).1 i

    pub held_same : (p : W.Msg → Bool) (l : List W.Acc) → Once W l → is_in W a l ≡ true → num p (held_by W (give W a ms lists) l) ≡ num p (held_by W lists l) + num p ms
    unfolding held_by is_in
    held_same p [] o h = clash false h refl
    held_same p (b ∷ l) o h = elim (which (W.same a b)) [
      | inl e ↦ mine (sym (L.decide a b e))
      | inr e ↦ rw (at_give_other W L a b ms (turn a b e) lists) (omega (arith, num_append p (at W b lists) (held_by W (give W a ms lists) l), num_append p (at W b lists) (held_by W lists l), held_same p l o.1 (rw e at h)))
    ]
      where
        mine : b ≡ a → num p (at W b (give W a ms lists) ++ held_by W (give W a ms lists) l) ≡ num p (at W b lists ++ held_by W lists l) + num p ms
        mine e = rw e (rw (held_other l (rw (← e) o.0)) (rw (at_give_same W L a ms lists)
            (omega (arith, num_append p (at W a lists ++ ms) (held_by W lists l), num_append p (at W a lists) ms, num_append p (at W a lists) (held_by W lists l)))))

    pub held_new : (p : W.Msg → Bool) (l : List W.Acc) → is_in W a l ≡ false → has W a lists ≡ false → num p (held_by W (give W a ms lists) (l ++ (a ∷ []))) ≡ num p (held_by W lists l) + num p ms
    unfolding held_by
    held_new p l h n = ap (num p) (held_append (give W a ms lists) l (a ∷ []) ∙ (λ i. held_other l h i ++ (at_give_same W L a ms lists i ++ [])))
        ∙ rw (at_nothing a lists n) (num_append p (held_by W lists l) (ms ++ []) ∙ ap (λ x. num p (held_by W lists l) + num p x) (append-nil ms))

  -- ---- all that the group holds
  pub num_give : (p : W.Msg → Bool) (a : W.Acc) (ms : List W.Msg) (o : List (Row W)) → num p (all_msgs W (give W a ms o)) ≡ num p (all_msgs W o) + num p ms
  unfolding give all_msgs joined
  num_give p a [] o = omega (arith, num_nil p)
  num_give p a (m ∷ ms) [] = omega (arith, num_nil p, ap (num p) (append-nil (m ∷ ms)))
  num_give p a (m ∷ ms) (r ∷ o) = elim (which (W.same a r.acc)) [
    | inl e ↦ rw e (omega (arith, num_append p (r.msgs ++ (m ∷ ms)) (all_msgs W o), num_append p r.msgs (m ∷ ms), num_append p r.msgs (all_msgs W o)))
    | inr e ↦ rw e (omega (arith, num_append p r.msgs (all_msgs W (give W a (m ∷ ms) o)), num_append p r.msgs (all_msgs W o), num_give p a (m ∷ ms) o))
  ]

  pub has_give : (a b : W.Acc) (ms : List W.Msg) (o : List (Row W)) → has W b (give W a ms o) ≡ (has W b o || (not (is_nil ms) && W.same b a))
  unfolding has give is_nil
  has_give a b [] o = or_none (has W b o)
    where
      or_none : (c : Bool) → c ≡ (c || false)
      or_none true = refl
      or_none false = refl
  has_give a b (m ∷ ms) [] = or_none (W.same b a)
    where
      or_none : (c : Bool) → (c || false) ≡ c
      or_none true = refl
      or_none false = refl
  has_give a b (m ∷ ms) (r ∷ o) = elim (which (W.same a r.acc)) [
    | inl e ↦ rw e (elim (which (W.same b r.acc)) [
      | inl d ↦ rw d
      | inr d ↦ rw d (rw (other_than a b r.acc e d) (or_none (has W b o)))
    ])
    | inr e ↦ rw e (elim (which (W.same b r.acc)) [ inl d ↦ rw d | inr d ↦ rw d (has_give a b (m ∷ ms) o) ])
  ]
    where
      or_none : (c : Bool) → c ≡ (c || false)
      or_none true = refl
      or_none false = refl
