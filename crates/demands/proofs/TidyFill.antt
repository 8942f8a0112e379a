-- A group stays tidy in a fill: the move of an account that is there already, of a new one, and of one that gives nothing; the opening of
-- a slot; the dropping of an empty one; the whole fill. Assumes nothing.
use mathlib.Core.Path.{◌≡◌, refl, sym, ap, ◌∙◌, subst}
use mathlib.Core.Bool.{Bool, true, false, not, ◌&&◌, ◌||◌}
use mathlib.Core.Logic.{◌⊎◌, inl, inr}
use mathlib.Core.List.{List, [], ◌∷◌, ◌++◌, append-nil}
use Prim.Native.Nat.{ℕ, ◌+◌, ◌≤◌, ◌<◌}
use native.Mathlib.Omega.{arith}
use native.Mathlib.Nat.{add-zero}
use native.Mathlib.Decide.{dec_le}
use lib.Dec.{eqb}
use lib.ListN.{length, length-append}
use Rattle.rules.specs.World.{World, Row, Slot, Args, Buffer, Group, Each, keep, is_nil, is_member}
use Rattle.rules.specs.Queues.{has, at, give, is_in, accounts, internals, externals, count, count_of, accounts_of, has_slot, grown, grow}
use Rattle.rules.specs.Passes.{checked, pass_over, move, opened, closed, entered}
use Rattle.rules.specs.Fill.{numbers, accepted, group_after}
use Rattle.rules.specs.Demand.{Once, OnceN, Sound, Placed}
use Rattle.rules.specs.Kept.{Rising, total, slotted, held_by, Counted, Tidy}
use Rattle.demands.proofs.Rows.{right, left, Lawful, which, clash, or_cases, or_false, keep_both}
use Rattle.demands.proofs.Slots.{eq_of, is_in_append, has_slot_numbers, numbers_grow, numbers_open, empty, dropped}
use Rattle.demands.proofs.Move.{got_of, new_of}
use Rattle.demands.proofs.OrderOnce.{once_give}
use Rattle.demands.proofs.Keeps.{Keeps, K_ended}
use Rattle.demands.proofs.Accounts.{each_append, each_keep, total_append, in_slotted, slot_of, slotted_append, num_give, has_give}
use Rattle.demands.proofs.Tidy.{rising_once, rising_both, rising_keep, each_give, slotted_old, in_new, once_new, where_is, counted_all, counted_old, counted_new, total_grow}

nil_of : {X : Type 0} (l : List X) → length l ≡ 0 → l ≡ []
nil_of [] h = refl
nil_of (x ∷ l) h = absurd (omega arith)

not_in : (b : Bool) → (b ≡ true → ⊥) → b ≡ false
not_in true h = absurd (h refl)
not_in false h = refl

module _ (W : World) (L : Lawful W) where
  -- ---- a move, on lists and slots
  module _ (n : ℕ) (a : W.Acc) (lists : List (Row W)) (slots : List (Slot W)) (h : has_slot W n slots ≡ true) (t : Tidy W lists slots) where
    distinct : OnceN (numbers W slots)
    distinct = rising_once (numbers W slots) t.rising

    -- of an account of the slot
    tidy_old : (ms : List W.Msg) → is_in W a (accounts_of W n slots) ≡ true → Tidy W (give W a ms lists) (grow W n (grown W a false ms) slots)
    unfolding grown internals externals
    tidy_old ms i = record {
      rising = subst Rising (sym (numbers_grow W n a false ms slots)) t.rising;
      rows = once_give W L a ms lists t.rows;
      nonempty = each_give W L a ms lists t.nonempty;
      once = subst (Once W) (sym (slotted_old W L n a ms slots)) t.once;
      member = λ b. ap (is_in W b) (slotted_old W L n a ms slots) ∙ t.member b ∙ sym (has_give W L a b ms lists ∙ there b);
      counted = counted_all W L n a ms lists true false (counted_old W L n a ms lists) slots (where_is W L n a ms true slots distinct t.once h i (in_slotted W L a n slots i)) t.counted;
      ints = num_give W L (λ m. not (W.external m)) a ms lists ∙ ap (λ (k : ℕ). k + internals W ms) t.ints ∙ sym (total_grow W L n a ms (λ (s : Slot W). s.ints) (internals W ms) false (λ s. refl) slots distinct h);
      exts = num_give W L W.external a ms lists ∙ ap (λ (k : ℕ). k + externals W ms) t.exts ∙ sym (total_grow W L n a ms (λ (s : Slot W). s.exts) (externals W ms) false (λ s. refl) slots distinct h);
    }
      where
        or_same : (c : Bool) → (c || false) ≡ c
        or_same true = refl
        or_same false = refl

        and_none : (c : Bool) → (c && false) ≡ false
        and_none true = refl
        and_none false = refl

        there : (b : W.Acc) → (has W b lists || (not (is_nil ms) && W.same b a)) ≡ has W b lists
        there b = elim (which (W.same b a)) [
          | inl e ↦ rw (ap (λ (x : W.Acc). has W x lists) (L.decide b a e) ∙ sym (t.member a) ∙ in_slotted W L a n slots i)
          | inr e ↦ rw e (rw (and_none (not (is_nil ms))) (or_same (has W b lists)))
        ]

    -- of an account new to the group
    tidy_new : (m : W.Msg) (ms : List W.Msg) → has W a lists ≡ false → Tidy W (give W a (m ∷ ms) lists) (grow W n (grown W a true (m ∷ ms)) slots)
    unfolding grown internals externals is_nil
    tidy_new m ms f = record {
      rising = subst Rising (sym (numbers_grow W n a true (m ∷ ms) slots)) t.rising;
      rows = once_give W L a (m ∷ ms) lists t.rows;
      nonempty = each_give W L a (m ∷ ms) lists t.nonempty;
      once = once_new W L n a (m ∷ ms) slots h distinct out t.once;
      member = λ b. in_new W L n a (m ∷ ms) b slots h distinct ∙ ap (λ (c : Bool). c || W.same b a) (t.member b) ∙ sym (has_give W L a b (m ∷ ms) lists);
      counted = counted_all W L n a (m ∷ ms) lists false true (counted_new W L n a (m ∷ ms) lists f) slots
          (where_is W L n a (m ∷ ms) false slots distinct t.once h (not_in _ (λ i. clash _ (in_slotted W L a n slots i) out)) out) t.counted;
      ints = num_give W L (λ m. not (W.external m)) a (m ∷ ms) lists ∙ ap (λ (k : ℕ). k + internals W (m ∷ ms)) t.ints
          ∙ sym (total_grow W L n a (m ∷ ms) (λ (s : Slot W). s.ints) (internals W (m ∷ ms)) true (λ s. refl) slots distinct h);
      exts = num_give W L W.external a (m ∷ ms) lists ∙ ap (λ (k : ℕ). k + externals W (m ∷ ms)) t.exts
          ∙ sym (total_grow W L n a (m ∷ ms) (λ (s : Slot W). s.exts) (externals W (m ∷ ms)) true (λ s. refl) slots distinct h);
    }
      where
        out : is_in W a (slotted W slots) ≡ false
        out = t.member a ∙ f

    -- of nothing
    grow_same : (ss : List (Slot W)) → grow W n (grown W a false []) ss ≡ ss
    unfolding grow grown internals externals keep
    grow_same [] = refl
    grow_same (s ∷ ss) = elim (which (eqb n s.number)) [
      | inl e ↦ rw e (λ i. record { number = s.number; accounts = s.accounts; ints = add-zero s.ints i; exts = add-zero s.exts i } ∷ grow_same ss i)
      | inr e ↦ rw e (λ i. s ∷ grow_same ss i)
    ]

    tidy_give : (ms : List W.Msg) (new : Bool) → new ≡ (not (has W a lists) && not (is_nil ms)) → (is_in W a (accounts_of W n slots) ≡ true) ⊎ (has W a lists ≡ false) →
        Tidy W (give W a ms lists) (grow W n (grown W a new ms) slots)
    unfolding is_nil give
    tidy_give ms new e (inl i) = rw (e ∙ ap (λ (c : Bool). not c && not (is_nil ms)) (sym (t.member a) ∙ in_slotted W L a n slots i)) (tidy_old ms i)
    tidy_give [] new e (inr f) = rw (e ∙ ap (λ (c : Bool). not c && false) f) (subst (Tidy W lists) (sym (grow_same slots)) t)
    tidy_give (m ∷ ms) new e (inr f) = rw (e ∙ ap (λ (c : Bool). not c && true) f) (tidy_new m ms f)

  -- ---- opening a slot
  slotted_open : (slots : List (Slot W)) (n : ℕ) → slotted W (slots ++ (empty W n ∷ [])) ≡ slotted W slots
  unfolding slotted
  slotted_open slots n = slotted_append W L slots (empty W n ∷ []) ∙ append-nil (slotted W slots)

  open_slot : (lists : List (Row W)) (slots : List (Slot W)) (n : ℕ) → ((m : ℕ) → n ≤ m → has_slot W m slots ≡ false) → Tidy W lists slots → Tidy W lists (slots ++ (empty W n ∷ []))
  unfolding held_by internals externals keep total is_member
  open_slot lists slots n f t = record {
    rising = subst Rising (sym (numbers_open W n slots)) (rising_both (numbers W slots) (n ∷ []) t.rising (λ m i. clash false i refl, tt) below');
    rows = t.rows;
    nonempty = t.nonempty;
    once = subst (Once W) (sym same) t.once;
    member = λ b. ap (is_in W b) same ∙ t.member b;
    counted = each_append (Counted W lists) slots (empty W n ∷ []) t.counted ((refl, refl), tt);
    ints = t.ints ∙ sym (total_append (λ (s : Slot W). s.ints) slots (empty W n ∷ []) ∙ add-zero (total (λ (s : Slot W). s.ints) slots));
    exts = t.exts ∙ sym (total_append (λ (s : Slot W). s.exts) slots (empty W n ∷ []) ∙ add-zero (total (λ (s : Slot W). s.exts) slots));
  }
    where
      below' : (m k : ℕ) → is_member m (numbers W slots) ≡ true → is_member k (n ∷ []) ≡ true → m < k
      below' m k i j = elim (or_cases (eqb k n) false j) [
        | inr e ↦ clash false e refl
        | inl e ↦ rw (eq_of k n e) (by m i)
      ]
        where
          by : (m : ℕ) → is_member m (numbers W slots) ≡ true → m < n
          by m i = elim (dec_le n m) [ yes l ↦ clash _ (has_slot_numbers W m slots ∙ i) (f m l) | no l ↦ omega arith ]

      same : slotted W (slots ++ (empty W n ∷ [])) ≡ slotted W slots
      same = slotted_open slots n

  -- ---- dropping an empty one
  pub some_at : (a : W.Acc) (o : List (Row W)) → Each (λ (r : Row W). is_nil r.msgs ≡ false) o → has W a o ≡ true → is_nil (at W a o) ≡ false
  unfolding has at
  some_at a [] e h = clash false h refl
  some_at a (r ∷ o) e h = elim (which (W.same a r.acc)) [ inl d ↦ rw d e.0 | inr d ↦ rw d (some_at a o e.1 (rw d at h)) ]

  -- a slot that counts nothing has no account
  none_held : (lists : List (Row W)) → Each (λ (r : Row W). is_nil r.msgs ≡ false) lists → (l : List W.Acc) → ((a : W.Acc) → is_in W a l ≡ true → has W a lists ≡ true) → length (held_by W lists l) ≡ 0 → l ≡ []
  unfolding held_by is_in is_nil
  none_held lists e [] f z = refl
  none_held lists e (a ∷ l) f z = clash _ (ap is_nil (nil_of (at W a lists) (omega (arith, z, length-append (at W a lists) (held_by W lists l))))) (some_at a lists e (f a (rw (L.self a))))

  abbrev Void : ℕ → Slot W → Type 0
  Void n s = eqb n s.number ≡ true → (s.accounts ≡ []) × (s.ints ≡ 0) × (s.exts ≡ 0)

  voids_other : (n : ℕ) (ss : List (Slot W)) → has_slot W n ss ≡ false → Each (Void n) ss
  unfolding has_slot
  voids_other n [] h = tt
  voids_other n (s ∷ ss) h = (λ e. clash _ e (or_false (eqb n s.number) _ h).0, voids_other n ss (or_false (eqb n s.number) _ h).1)

  voids : (lists : List (Row W)) → Each (λ (r : Row W). is_nil r.msgs ≡ false) lists → (n : ℕ) (ss : List (Slot W)) → OnceN (numbers W ss) → count_of W n ss ≡ 0 →
      ((a : W.Acc) → is_in W a (slotted W ss) ≡ true → has W a lists ≡ true) → Each (Counted W lists) ss → Each (Void n) ss
  unfolding count_of count numbers slotted internals externals
  voids lists e n [] o z f c = tt
  voids lists e n (s ∷ ss) o z f c = elim (which (eqb n s.number)) [
    | inl d ↦ (
      λ q. (
        none_held lists e s.accounts (λ a i. f a (is_in_append W a s.accounts (slotted W ss) ∙ left _ _ i))
            (omega (arith, rw d at z, c.0, keep_both W.external (held_by W lists s.accounts))),
        omega (arith, rw d at z),
        omega (arith, rw d at z),
      ),
      voids_other n ss (has_slot_numbers W n ss ∙ rw (eq_of n s.number d) o.0),
    )
    | inr d ↦ (λ q. clash _ q d, voids lists e n ss o.1 (rw d at z) (λ a i. f a (is_in_append W a s.accounts (slotted W ss) ∙ right (is_in W a s.accounts) i)) c.1)
  ]

  slotted_drop : (n : ℕ) (ss : List (Slot W)) → Each (Void n) ss → slotted W (dropped W n ss) ≡ slotted W ss
  unfolding slotted keep
  slotted_drop n [] v = refl
  slotted_drop n (s ∷ ss) v = elim (which (eqb n s.number)) [
    | inl e ↦ rw e (slotted_drop n ss v.1 ∙ ap (λ (l : List W.Acc). l ++ slotted W ss) (sym (v.0 e).0))
    | inr e ↦ rw e (λ i. s.accounts ++ slotted_drop n ss v.1 i)
  ]

  total_drop : (f : Slot W → ℕ) (n : ℕ) (ss : List (Slot W)) → Each (λ (s : Slot W). eqb n s.number ≡ true → f s ≡ 0) ss → total f (dropped W n ss) ≡ total f ss
  unfolding total keep
  total_drop f n [] v = refl
  total_drop f n (s ∷ ss) v = elim (which (eqb n s.number)) [
    | inl e ↦ rw e (omega (arith, total_drop f n ss v.1, v.0 e))
    | inr e ↦ rw e (omega (arith, total_drop f n ss v.1))
  ]

  drop_slot : (lists : List (Row W)) (slots : List (Slot W)) (n : ℕ) → count_of W n slots ≡ 0 → Tidy W lists slots → Tidy W lists (dropped W n slots)
  drop_slot lists slots n z t = record {
    rising = rising_keep W (λ x. not (eqb n x.number)) slots t.rising;
    rows = t.rows;
    nonempty = t.nonempty;
    once = subst (Once W) (sym same) t.once;
    member = λ b. ap (is_in W b) same ∙ t.member b;
    counted = each_keep (Counted W lists) (λ x. not (eqb n x.number)) slots t.counted;
    ints = t.ints ∙ sym (total_drop (λ s. s.ints) n slots (zero_ints slots v));
    exts = t.exts ∙ sym (total_drop (λ s. s.exts) n slots (zero_exts slots v));
  }
    where
      v : Each (Void n) slots
      v = voids lists t.nonempty n slots (rising_once (numbers W slots) t.rising) z (λ a i. sym (t.member a) ∙ i) t.counted

      same : slotted W (dropped W n slots) ≡ slotted W slots
      same = slotted_drop n slots v

      zero_ints : (ss : List (Slot W)) → Each (Void n) ss → Each (λ (s : Slot W). eqb n s.number ≡ true → s.ints ≡ 0) ss
      zero_ints [] w = tt
      zero_ints (s ∷ ss) w = (λ e. (w.0 e).1, zero_ints ss w.1)

      zero_exts : (ss : List (Slot W)) → Each (Void n) ss → Each (λ (s : Slot W). eqb n s.number ≡ true → s.exts ≡ 0) ss
      zero_exts [] w = tt
      zero_exts (s ∷ ss) w = (λ e. (w.0 e).2, zero_exts ss w.1)

  -- ---- a fill
  tidy_keeps : (A : Args W) → Keeps W A (λ s. Tidy W s.lists s.slots)
  unfolding checked pass_over move opened closed got_of new_of
  tidy_keeps A = record {
    check = λ a s t. t;
    pass = λ a s t. t;
    mv = λ n a s h p t. tidy_give n a s.lists s.slots h t (got_of W L A n a s) (new_of W L A n a s) refl p;
    opn = λ n s f t. open_slot s.lists s.slots n f t;
    cls = λ n s z t. drop_slot s.lists s.slots n z t;
  }

  pub tidy_fill : (A : Args W) (b : Buffer W) (g : Group W) (skipped : List W.Acc) → Sound W g → Tidy W g.lists g.slots →
      Tidy W (accepted W A b g skipped).group.lists (accepted W A b g skipped).group.slots
  unfolding accepted group_after entered
  tidy_fill A b g skipped sound t = K_ended W L A (λ s. Tidy W s.lists s.slots) (tidy_keeps A) b g skipped sound t

  -- every account with a list has a slot
  pub placed_of : (lists : List (Row W)) (slots : List (Slot W)) → Tidy W lists slots → Placed W lists slots
  placed_of lists slots t a h = slot_of W L a slots (rising_once (numbers W slots) t.rising) (t.member a ∙ h)
