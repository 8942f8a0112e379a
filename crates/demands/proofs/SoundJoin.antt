-- A fresh group is sound, and so is a join: the new numbers follow the left's last. Assumes nothing.
use mathlib.Core.Path.{◌≡◌, refl, sym, ap, ◌∙◌, subst}
use mathlib.Core.Bool.{Bool, true, false, cond, ◌||◌}
use mathlib.Core.Logic.{inl, inr}
use mathlib.Core.List.{List, [], ◌∷◌, ◌++◌}
use mathlib.Core.Option.{Option, none, some}
use Prim.Native.Nat.{ℕ, zero, suc, ◌+◌, ◌≤◌, ◌<◌}
use native.Mathlib.Omega.{arith}
use native.Mathlib.Nat.{zero-add, add-zero, suc-add, add-suc}
use lib.Dec.{eqb}
use lib.ListN.{length, get_or}
use Rattle.rules.specs.World.{World, Slot, Group, is_member, keep}
use Rattle.rules.specs.Queues.{at, count, count_of, has_slot}
use Rattle.rules.specs.Fill.{numbers, fresh, next_number, renumbered, last_of, listed_too, join}
use Rattle.rules.specs.Demand.{OnceN, Sound}
use Rattle.demands.proofs.Rows.{right, left, which, clash, or_cases}
use Rattle.demands.proofs.Slots.{eq_of, eq_self, eq_true, is_member_append, has_slot_numbers, count_of_none}
use Rattle.demands.proofs.Sound.{kept}

module _ (W : World) where
  pub sound_fresh : Sound W (fresh W)
  unfolding fresh has_slot count_of numbers
  sound_fresh = record {
    numbered = λ n h. clash false h refl;
    distinct = tt;
    indexed = λ n h. clash false h refl;
    long = refl;
    small = λ n. omega arith;
  }

  pub has_slot_append : (m : ℕ) (x y : List (Slot W)) → has_slot W m (x ++ y) ≡ (has_slot W m x || has_slot W m y)
  unfolding has_slot
  has_slot_append m [] y = refl
  has_slot_append m (s ∷ x) y = elim (which (eqb m s.number)) [ inl e ↦ rw e | inr e ↦ rw e (has_slot_append m x y) ]

  pub count_of_append : (m : ℕ) (x y : List (Slot W)) → count_of W m (x ++ y) ≡ cond (has_slot W m x) (count_of W m x) (count_of W m y)
  unfolding has_slot count_of
  count_of_append m [] y = refl
  count_of_append m (s ∷ x) y = elim (which (eqb m s.number)) [ inl e ↦ rw e | inr e ↦ rw e (count_of_append m x y) ]

  pub numbers_append : (x y : List (Slot W)) → numbers W (x ++ y) ≡ numbers W x ++ numbers W y
  unfolding numbers
  numbers_append [] y = refl
  numbers_append (s ∷ x) y = ap {B = List ℕ} (λ l. s.number ∷ l) (numbers_append x y)

  -- the new numbers are n, n + 1, ..
  pub new_range : (n m : ℕ) (ss : List (Slot W)) → has_slot W m (renumbered W n ss) ≡ true → (n ≤ m) × (m < n + length ss)
  unfolding has_slot renumbered
  new_range n m [] h = clash false h refl
  new_range n m (s ∷ ss) h = elim (or_cases (eqb m n) (has_slot W m (renumbered W (suc n) ss)) h) [
    | inl e ↦ (omega (arith, eq_of m n e), omega (arith, eq_of m n e))
    | inr e ↦ (omega (arith, (new_range (suc n) m ss e).0), omega (arith, (new_range (suc n) m ss e).1))
  ]

  pub new_once : (n : ℕ) (ss : List (Slot W)) → OnceN (numbers W (renumbered W n ss))
  unfolding numbers renumbered
  new_once n [] = tt
  new_once n (s ∷ ss) = (
    elim (which (is_member n (numbers W (renumbered W (suc n) ss)))) [
      | inl e ↦ absurd (omega (arith, (new_range (suc n) n ss (has_slot_numbers W n _ ∙ e)).0))
      | inr e ↦ e
    ],
    new_once (suc n) ss,
  )

  pub once_append : (x y : List ℕ) → OnceN x → OnceN y → ((m : ℕ) → is_member m x ≡ true → is_member m y ≡ false) → OnceN (x ++ y)
  unfolding is_member
  once_append [] y p q f = q
  once_append (n ∷ x) y p q f = (is_member_append n x y ∙ rw p.0 (f n (rw (eq_self n))), once_append x y p.1 q (λ m i. f m (right (eqb m n) i)))

  -- the last number is that of the last new slot
  pub last_new : (l : Option ℕ) (ss : List (Slot W)) → next_number W (last_of W l (renumbered W (next_number W l) ss)) ≡ next_number W l + length ss
  unfolding last_of renumbered next_number
  last_new l [] = omega arith
  last_new none (s ∷ ss) = last_new (some 0) ss ∙ omega arith
  last_new (some k) (s ∷ ss) = last_new (some (suc k)) ss ∙ omega arith

  -- no slot above 16, slot by slot
  abbrev pub Small : List (Slot W) → Type 0
  Small [] = Unit {0}
  Small (s ∷ ss) = (count W s ≤ 16) × Small ss

  pub to_small : (ss : List (Slot W)) → OnceN (numbers W ss) → ((n : ℕ) → count_of W n ss ≤ 16) → Small ss
  unfolding numbers count_of
  to_small [] o f = tt
  to_small (s ∷ ss) o f = (
    rw (eq_self s.number) at (f s.number),
    to_small ss o.1 (λ n. elim (which (eqb n s.number)) [
      | inl e ↦ omega (arith, count_of_none W n ss (has_slot_numbers W n ss ∙ rw (eq_of n s.number e) o.0))
      | inr e ↦ rw e at (f n)
    ]),
  )

  new_small : (k n : ℕ) (ss : List (Slot W)) → Small ss → count_of W n (renumbered W k ss) ≤ 16
  unfolding renumbered count_of count
  new_small k n [] p = omega arith
  new_small k n (s ∷ ss) p = elim (which (eqb n k)) [ inl e ↦ rw e p.0 | inr e ↦ rw e (new_small (suc k) n ss p.1) ]

  get_d_listed : (new : List (Slot W)) (c k : ℕ) (index : List (List ℕ)) → k < length index →
      get_or (listed_too W new c index) k [] ≡ get_or index k [] ++ numbers W (keep (λ s. eqb (count W s) (c + k)) new)
  unfolding listed_too
  get_d_listed new c k [] h = absurd (omega arith)
  get_d_listed new c zero (b ∷ bs) h = ap (λ (x : ℕ). b ++ numbers W (keep (λ s. eqb (count W s) x) new)) (sym (add-zero c))
  get_d_listed new c (suc k) (b ∷ bs) h = get_d_listed new (suc c) k bs (omega arith) ∙ ap (λ (x : ℕ). get_or bs k [] ++ numbers W (keep (λ s. eqb (count W s) x) new)) (suc-add c k ∙ sym (add-suc c k))

  length_listed : (new : List (Slot W)) (c : ℕ) (index : List (List ℕ)) → length (listed_too W new c index) ≡ length index
  unfolding listed_too
  length_listed new c [] = refl
  length_listed new c (b ∷ bs) = ap suc (length_listed new (suc c) bs)

  module _ (l r : Group W) (sl : Sound W l) (sr : Sound W r) where
    k : ℕ
    k = next_number W l.last

    new : List (Slot W)
    new = renumbered W k r.slots

    apart : (m : ℕ) → has_slot W m new ≡ true → has_slot W m l.slots ≡ false
    unfolding new k
    apart m h = elim (which (has_slot W m l.slots)) [ inl e ↦ absurd (omega (arith, sl.numbered m e, (new_range k m r.slots h).0)) | inr e ↦ e ]

    small' : (n : ℕ) → count_of W n (l.slots ++ new) ≤ 16
    unfolding new
    small' n = rw (count_of_append n l.slots new) (elim (which (has_slot W n l.slots)) [
      | inl e ↦ rw e (sl.small n)
      | inr e ↦ rw e (new_small k n r.slots (to_small r.slots sr.distinct sr.small))
    ])

    lists_it : (n c : ℕ) → count_of W n (l.slots ++ new) ≡ c → has_slot W n (l.slots ++ new) ≡ true → is_member n (get_or (listed_too W new 0 l.index) c []) ≡ true
    lists_it n c q h =
        ap (is_member n) (get_d_listed new 0 c l.index (omega (arith, small' n, sl.long)) ∙ ap (λ (x : ℕ). get_or l.index c [] ++ numbers W (keep (λ s. eqb (count W s) x) new)) (zero-add c))
        ∙ is_member_append n (get_or l.index c []) (numbers W (keep (λ s. eqb (count W s) c) new))
        ∙ elim (which (has_slot W n l.slots)) [
          | inl e ↦ left _ _ (subst (λ (x : ℕ). is_member n (get_or l.index x []) ≡ true) (old e ∙ q) (sl.indexed n e))
          | inr e ↦ right (is_member n (get_or l.index c [])) (kept W (λ s. eqb (count W s) c) n new (fresh' e) (λ s a d. eq_true (count W s) c (d ∙ young e ∙ q)))
        ]
      where
        old : has_slot W n l.slots ≡ true → count_of W n l.slots ≡ count_of W n (l.slots ++ new)
        old e = sym (count_of_append n l.slots new ∙ ap (λ (b : Bool). cond b (count_of W n l.slots) (count_of W n new)) e)

        young : has_slot W n l.slots ≡ false → count_of W n new ≡ count_of W n (l.slots ++ new)
        young e = sym (count_of_append n l.slots new ∙ ap (λ (b : Bool). cond b (count_of W n l.slots) (count_of W n new)) e)

        fresh' : has_slot W n l.slots ≡ false → has_slot W n new ≡ true
        fresh' e = sym (ap (λ (b : Bool). b || has_slot W n new) e) ∙ sym (has_slot_append n l.slots new) ∙ h

    pub sound_join : Sound W (join W l r)
    unfolding join new k
    sound_join = record {
      numbered = λ n h. rw (last_new l.last r.slots) (elim (or_cases (has_slot W n l.slots) (has_slot W n new) (sym (has_slot_append n l.slots new) ∙ h)) [
        | inl e ↦ omega (arith, sl.numbered n e)
        | inr e ↦ (new_range k n r.slots e).1
      ]);
      distinct = subst OnceN (sym (numbers_append l.slots new)) (once_append (numbers W l.slots) (numbers W new) sl.distinct (new_once k r.slots)
          (λ m i. elim (which (is_member m (numbers W new))) [
            | inl e ↦ clash _ (has_slot_numbers W m l.slots ∙ i) (apart m (has_slot_numbers W m new ∙ e))
            | inr e ↦ e
          ]));
      indexed = λ n h. lists_it n (count_of W n (l.slots ++ new)) refl h;
      long = length_listed new 0 l.index ∙ sl.long;
      small = small';
    }
