-- A fresh group is tidy, and so is a join of two tidy groups with no account in common. Assumes nothing.
use mathlib.Core.Path.{◌≡◌, refl, sym, ap, ◌∙◌, subst}
use mathlib.Core.Bool.{true, false, not, ◌&&◌, ◌||◌}
use mathlib.Core.Logic.{◌⊎◌, inl, inr}
use mathlib.Core.List.{List, [], ◌∷◌, ◌++◌, append_assoc}
use Prim.Native.Nat.{ℕ, zero, suc, ◌+◌, ◌<◌}
use native.Mathlib.Omega.{arith}
use native.Mathlib.Nat.{zero-add}
use lib.Dec.{eqb}
use lib.ListN.{get_or}
use Rattle.rules.specs.World.{World, Row, Slot, Group, Each, keep, joined, is_member}
use Rattle.rules.specs.Queues.{has, at, is_in, accounts, internals, externals, all_msgs, count, count_of, has_slot}
use Rattle.rules.specs.Fill.{numbers, fresh, next_number, renumbered, listed_too, join}
use Rattle.rules.specs.Demand.{Once, OnceN}
use Rattle.rules.specs.Kept.{Rising, total, slotted, held_by, Counted, Tidy, Indexed, TidyGroup}
use Rattle.demands.proofs.Rows.{right, left, Lawful, which, clash, or_cases, or_false}
use Rattle.demands.proofs.Slots.{is_in_append, is_member_append, has_slot_numbers}
use Rattle.demands.proofs.Sound.{once_keep}
use Rattle.demands.proofs.SoundJoin.{new_range, new_once, once_append, has_slot_append, count_of_append, numbers_append, sound_fresh, sound_join}
use Rattle.demands.proofs.Accounts.{num_append, each_append, total_append, once_both, slotted_append}
use Rattle.demands.proofs.Tidy.{rising_both, member_keep}
use Rattle.demands.proofs.TidyIndex.{counts_kept}

-- ---- a fresh group
module _ (W : World) where
  pub tidy_fresh : TidyGroup W (fresh W)
  unfolding fresh slotted accounts is_in has all_msgs joined numbers total internals externals keep is_member
  tidy_fresh = record {
    sound = sound_fresh W;
    tidy = record { rising = tt; rows = tt; nonempty = tt; once = tt; member = λ a. refl; counted = tt; ints = refl; exts = refl };
    index = record { once = λ c. subst OnceN (sym (none c)) tt; known = λ n c i. clash false (sym (ap (is_member n) (none c)) ∙ i) refl };
    filled = tt;
  }
    where
      all_none : (k c : ℕ) (l : List (List ℕ)) → Each (λ (b : List ℕ). b ≡ []) l → get_or l c [] ≡ []
      all_none k c [] e = refl
      all_none k zero (b ∷ l) e = e.0
      all_none k (suc c) (b ∷ l) e = all_none k c l e.1

      none : (c : ℕ) → get_or (fresh W).index c [] ≡ []
      none c = all_none 0 c (fresh W).index
          (refl, (refl, (refl, (refl, (refl, (refl, (refl, (refl, (refl, (refl, (refl, (refl, (refl, (refl, (refl, (refl, (refl, tt)))))))))))))))))

module _ (W : World) (L : Lawful W) where
  -- ---- rows one after the other
  pub has_append : (a : W.Acc) (x y : List (Row W)) → has W a (x ++ y) ≡ (has W a x || has W a y)
  unfolding has
  has_append a [] y = refl
  has_append a (r ∷ x) y = elim (which (W.same a r.acc)) [ inl e ↦ rw e | inr e ↦ rw e (has_append a x y) ]

  at_left : (a : W.Acc) (x y : List (Row W)) → has W a x ≡ true → at W a (x ++ y) ≡ at W a x
  unfolding has at
  at_left a [] y h = clash false h refl
  at_left a (r ∷ x) y h = elim (which (W.same a r.acc)) [ inl e ↦ rw e | inr e ↦ rw e (at_left a x y (rw e at h)) ]

  at_right : (a : W.Acc) (x y : List (Row W)) → has W a x ≡ false → at W a (x ++ y) ≡ at W a y
  unfolding has at
  at_right a [] y h = refl
  at_right a (r ∷ x) y h = rw (or_false (W.same a r.acc) (has W a x) h).0 (at_right a x y (or_false (W.same a r.acc) (has W a x) h).1)

  has_accounts : (a : W.Acc) (o : List (Row W)) → is_in W a (accounts W o) ≡ has W a o
  unfolding is_in accounts has
  has_accounts a [] = refl
  has_accounts a (r ∷ o) = λ i. W.same a r.acc || has_accounts a o i

  accounts_append : (x y : List (Row W)) → accounts W (x ++ y) ≡ accounts W x ++ accounts W y
  unfolding accounts
  accounts_append [] y = refl
  accounts_append (r ∷ x) y = λ i. r.acc ∷ accounts_append x y i

  all_append : (x y : List (Row W)) → all_msgs W (x ++ y) ≡ all_msgs W x ++ all_msgs W y
  unfolding all_msgs joined
  all_append [] y = refl
  all_append (r ∷ x) y = (λ i. r.msgs ++ all_append x y i) ∙ sym (append_assoc r.msgs (all_msgs W x) (all_msgs W y))

  -- ---- what accounts hold is told by the lists that they have
  held_is : (x y : List (Row W)) (l : List W.Acc) → ((a : W.Acc) → is_in W a l ≡ true → at W a y ≡ at W a x) → held_by W y l ≡ held_by W x l
  unfolding held_by is_in
  held_is x y [] f = refl
  held_is x y (a ∷ l) f = λ i. f a (rw (L.self a)) i ++ held_is x y l (λ b j. f b (right (W.same b a) j)) i

  counted_is : (x y : List (Row W)) (ss : List (Slot W)) → ((a : W.Acc) → is_in W a (slotted W ss) ≡ true → at W a y ≡ at W a x) → Each (Counted W x) ss → Each (Counted W y) ss
  unfolding slotted
  counted_is x y [] f c = tt
  counted_is x y (s ∷ ss) f c = (
    rw (held_is x y s.accounts (λ a i. f a (is_in_append W a s.accounts (slotted W ss) ∙ left _ _ i))) c.0,
    counted_is x y ss (λ a i. f a (is_in_append W a s.accounts (slotted W ss) ∙ right (is_in W a s.accounts) i)) c.1,
  )

  -- ---- slots under new numbers
  slotted_new : (k : ℕ) (ss : List (Slot W)) → slotted W (renumbered W k ss) ≡ slotted W ss
  unfolding slotted renumbered
  slotted_new k [] = refl
  slotted_new k (s ∷ ss) = λ i. s.accounts ++ slotted_new (suc k) ss i

  counted_numbers : (lists : List (Row W)) (k : ℕ) (ss : List (Slot W)) → Each (Counted W lists) ss → Each (Counted W lists) (renumbered W k ss)
  unfolding renumbered
  counted_numbers lists k [] c = tt
  counted_numbers lists k (s ∷ ss) c = (c.0, counted_numbers lists (suc k) ss c.1)

  filled_new : (k : ℕ) (ss : List (Slot W)) → Each (λ (s : Slot W). 0 < count W s) ss → Each (λ (s : Slot W). 0 < count W s) (renumbered W k ss)
  unfolding renumbered count
  filled_new k [] f = tt
  filled_new k (s ∷ ss) f = (f.0, filled_new (suc k) ss f.1)

  ints_new : (k : ℕ) (ss : List (Slot W)) → total (λ (s : Slot W). s.ints) (renumbered W k ss) ≡ total (λ (s : Slot W). s.ints) ss
  unfolding renumbered total
  ints_new k [] = refl
  ints_new k (s ∷ ss) = λ i. s.ints + ints_new (suc k) ss i

  exts_new : (k : ℕ) (ss : List (Slot W)) → total (λ (s : Slot W). s.exts) (renumbered W k ss) ≡ total (λ (s : Slot W). s.exts) ss
  unfolding renumbered total
  exts_new k [] = refl
  exts_new k (s ∷ ss) = λ i. s.exts + exts_new (suc k) ss i

  rising_new : (k : ℕ) (ss : List (Slot W)) → Rising (numbers W (renumbered W k ss))
  unfolding numbers renumbered
  rising_new k [] = tt
  rising_new k (s ∷ ss) = (λ m i. (new_range W (suc k) m ss (has_slot_numbers W m (renumbered W (suc k) ss) ∙ i)).0, rising_new (suc k) ss)

  -- ---- a join
  module _ (l r : Group W) (tl : TidyGroup W l) (tr : TidyGroup W r) (apart : (a : W.Acc) → has W a l.lists ≡ true → has W a r.lists ≡ false) where
    new : List (Slot W)
    new = renumbered W (next_number W l.last) r.slots

    below_new : (m n : ℕ) → has_slot W m l.slots ≡ true → has_slot W n new ≡ true → m < n
    unfolding new
    below_new m n i j = omega (arith, tl.sound.numbered m i, (new_range W (next_number W l.last) n r.slots j).0)

    not_left : (a : W.Acc) → has W a r.lists ≡ true → has W a l.lists ≡ false
    not_left a h = elim (which (has W a l.lists)) [ inl e ↦ clash _ h (apart a e) | inr e ↦ e ]

    all_slotted : slotted W (l.slots ++ new) ≡ slotted W l.slots ++ slotted W r.slots
    unfolding new
    all_slotted = slotted_append W L l.slots (renumbered W (next_number W l.last) r.slots) ∙ ap (λ (x : List W.Acc). slotted W l.slots ++ x) (slotted_new (next_number W l.last) r.slots)

    tidy_both : Tidy W (l.lists ++ r.lists) (l.slots ++ new)
    unfolding new internals externals
    tidy_both = record {
      rising = subst Rising (sym (numbers_append W l.slots new)) (rising_both (numbers W l.slots) (numbers W new) tl.tidy.rising (rising_new (next_number W l.last) r.slots)
          (λ m n i j. below_new m n (has_slot_numbers W m l.slots ∙ i) (has_slot_numbers W n new ∙ j)));
      rows = subst (Once W) (sym (accounts_append l.lists r.lists)) (once_both W L (accounts W l.lists) (accounts W r.lists) tl.tidy.rows tr.tidy.rows
          (λ b i. has_accounts b r.lists ∙ apart b (sym (has_accounts b l.lists) ∙ i)));
      nonempty = each_append _ l.lists r.lists tl.tidy.nonempty tr.tidy.nonempty;
      once = subst (Once W) (sym all_slotted) (once_both W L (slotted W l.slots) (slotted W r.slots) tl.tidy.once tr.tidy.once
          (λ b i. tr.tidy.member b ∙ apart b (sym (tl.tidy.member b) ∙ i)));
      member = λ b. ap (is_in W b) all_slotted ∙ is_in_append W b (slotted W l.slots) (slotted W r.slots) ∙ (λ i. tl.tidy.member b i || tr.tidy.member b i) ∙ sym (has_append b l.lists r.lists);
      counted = each_append (Counted W (l.lists ++ r.lists)) l.slots new
          (counted_is l.lists (l.lists ++ r.lists) l.slots (λ a i. at_left a l.lists r.lists (sym (tl.tidy.member a) ∙ i)) tl.tidy.counted)
          (counted_numbers (l.lists ++ r.lists) (next_number W l.last) r.slots
          (counted_is r.lists (l.lists ++ r.lists) r.slots (λ a i. at_right a l.lists r.lists (not_left a (sym (tr.tidy.member a) ∙ i))) tr.tidy.counted));
      ints = ap (internals W) (all_append l.lists r.lists) ∙ num_append (λ m. not (W.external m)) (all_msgs W l.lists) (all_msgs W r.lists) ∙ (λ i. tl.tidy.ints i + (tr.tidy.ints ∙ sym (ints_new (next_number W l.last) r.slots)) i)
          ∙ sym (total_append (λ (s : Slot W). s.ints) l.slots new);
      exts = ap (externals W) (all_append l.lists r.lists) ∙ num_append W.external (all_msgs W l.lists) (all_msgs W r.lists) ∙ (λ i. tl.tidy.exts i + (tr.tidy.exts ∙ sym (exts_new (next_number W l.last) r.slots)) i)
          ∙ sym (total_append (λ (s : Slot W). s.exts) l.slots new);
    }

    at_listed : (c j : ℕ) (index : List (List ℕ)) → (get_or (listed_too W new c index) j [] ≡ get_or index j [] ++ numbers W (keep (λ s. true && eqb (count W s) (c + j)) new)) ⊎ (get_or (listed_too W new c index) j [] ≡ [])
    unfolding listed_too
    at_listed c j [] = inr refl
    at_listed c zero (b ∷ bs) = inl (ap (λ (x : ℕ). b ++ numbers W (keep (λ s. eqb (count W s) x) new)) (omega arith))
    at_listed c (suc j) (b ∷ bs) = elim (at_listed (suc c) j bs) [
      | inl e ↦ inl (e ∙ ap (λ (x : ℕ). get_or bs j [] ++ numbers W (keep (λ s. eqb (count W s) x) new)) (omega arith))
      | inr e ↦ inr e
    ]

    comes : ℕ → List ℕ
    comes c = numbers W (keep (λ s. true && eqb (count W s) c) new)

    at_join : (c : ℕ) → (get_or (listed_too W new 0 l.index) c [] ≡ get_or l.index c [] ++ comes c) ⊎ (get_or (listed_too W new 0 l.index) c [] ≡ [])
    unfolding comes
    at_join c = elim (at_listed 0 c l.index) [
      | inl e ↦ inl (e ∙ ap (λ (x : ℕ). get_or l.index c [] ++ numbers W (keep (λ s. true && eqb (count W s) x) new)) (zero-add c))
      | inr e ↦ inr e
    ]

    came : (n c : ℕ) → is_member n (comes c) ≡ true → (has_slot W n new ≡ true) × (count_of W n new ≡ c)
    unfolding comes new
    came n c i = (has_slot_numbers W n new ∙ member_keep W _ n new i, counts_kept W (λ s. true) c n new (new_once W (next_number W l.last) r.slots) i)

    fresh_once : OnceN (numbers W new)
    unfolding new
    fresh_once = new_once W (next_number W l.last) r.slots

    index_both : Indexed W (l.slots ++ new) (listed_too W new 0 l.index)
    unfolding comes is_member
    index_both = record {
      once = λ c. elim (at_join c) [
        | inr e ↦ subst OnceN (sym e) tt
        | inl e ↦ subst OnceN (sym e) (once_append W (get_or l.index c []) (comes c) (tl.index.once c) (once_keep W _ new fresh_once)
            (λ m i. elim (which (is_member m (comes c))) [ inl d ↦ absurd (omega (arith, below_new m m (tl.index.known m c i).0 (came m c d).0)) | inr d ↦ d ]))
      ];
      known = λ n c i. elim (at_join c) [
        | inr e ↦ clash false (sym (ap (is_member n) e) ∙ i) refl
        | inl e ↦ elim (or_cases (is_member n (get_or l.index c [])) (is_member n (comes c)) (sym (is_member_append n (get_or l.index c []) (comes c)) ∙ sym (ap (is_member n) e) ∙ i)) [
          | inl d ↦ (
            has_slot_append W n l.slots new ∙ left _ _ (tl.index.known n c d).0,
            rw (count_of_append W n l.slots new) (rw (tl.index.known n c d).0 (tl.index.known n c d).1),
          )
          | inr d ↦ (
            has_slot_append W n l.slots new ∙ right (has_slot W n l.slots) (came n c d).0,
            rw (count_of_append W n l.slots new) (rw (out n (came n c d).0) (omega (arith, (came n c d).1))),
          )
        ]
      ];
    }
      where
        out : (n : ℕ) → has_slot W n new ≡ true → has_slot W n l.slots ≡ false
        out n h = elim (which (has_slot W n l.slots)) [ inl e ↦ absurd (omega (arith, below_new n n e h)) | inr e ↦ e ]

    pub tidy_join : TidyGroup W (join W l r)
    unfolding join new
    tidy_join = record {
      sound = sound_join W l r tl.sound tr.sound;
      tidy = tidy_both;
      index = index_both;
      filled = each_append _ l.slots new tl.filled (filled_new (next_number W l.last) r.slots tr.filled);
    }
