-- What each step of a fill keeps (`Le`, `Numbers`, `Low`), what a move brings about (`move_done`, `meet_settles`). Assumes nothing.
use mathlib.Core.Path.{◌≡◌, refl, sym, ap, ◌∙◌, subst}
use mathlib.Core.Bool.{Bool, true, false, not, ◌&&◌}
use mathlib.Core.Logic.{◌⊎◌, inl, inr}
use mathlib.Core.List.{List, [], ◌∷◌, ◌++◌}
use Prim.Native.Nat.{ℕ, ◌+◌, ◌≤◌, ◌<◌, min}
use native.Mathlib.Omega.{arith}
use native.Mathlib.Decide.{dec_le}
use lib.Dec.{eqb}
use lib.ListN.{length}
use Rattle.rules.specs.World.{World, Slot, Args, keep, is_nil, is_member}
use Rattle.rules.specs.Queues.{has, at, undroppable, count_of, has_slot}
use Rattle.rules.specs.Passes.{State, marked, checked, pass_over, collect, moved, room, move, try, meet, moves, opened, closed}
use Rattle.rules.specs.Fill.{numbers}
use Rattle.demands.proofs.Rows.{Lawful, which, clash, at_edit_same, has_give_same, has_give_keeps, collect_done, collect_length, moved_none}
use Rattle.demands.proofs.Slots.{eq_of, ne_false, is_member_append, count_of_grow_same, count_of_grow_least, count_of_grow_other}
use Rattle.demands.proofs.Slots.{numbers_grow, has_slot_numbers, count_of_open, numbers_open, count_of_drop_other, has_slot_drop_other}
use Rattle.demands.proofs.Steps.{Moves, Steps, marks_checked}
use Rattle.demands.proofs.Parted.{Part, part_pass, part_move}

pub append_nil_both : {X : Type 0} (x y : List X) → x ++ y ≡ [] → y ≡ []
append_nil_both [] y h = h
append_nil_both (a ∷ x) y h = absurd (no_cons h)
  where
    Code : {Y : Type 0} → List Y → Type 0
    Code [] = ⊥
    Code (z ∷ zs) = Unit {0}

    no_cons : {Y : Type 0} {z : Y} {zs : List Y} → z ∷ zs ≡ [] → ⊥
    no_cons e = subst Code e tt

module _ (W : World) (L : Lawful W) (A : Args W) where
  -- counts rise, queues fall, the group keeps its accounts, marks stay
  pub record Le (s t : State W) : Type 0 where
    pub counts : (m : ℕ) → count_of W m s.slots ≤ count_of W m t.slots
    pub queues : (a : W.Acc) → undroppable W A.filter (at W a s.order) ≡ [] → undroppable W A.filter (at W a t.order) ≡ []
    pub lists : (a : W.Acc) → has W a s.lists ≡ true → has W a t.lists ≡ true
    pub marks : (a : W.Acc) → marked W A t.skipped a ≡ marked W A s.skipped a

  part_queue : (a : W.Acc) (s t : State W) → Part W L A a s t → undroppable W A.filter (at W a s.order) ≡ [] → undroppable W A.filter (at W a t.order) ≡ []
  part_queue a s t p e = append_nil_both p.given _ (sym p.queue ∙ e)

  unfoldable pub got_of : ℕ → W.Acc → State W → List W.Msg
  got_of n a s = (moved W A (room W A n s) (at W a s.order)).got

  unfoldable pub new_of : ℕ → W.Acc → State W → Bool
  new_of n a s = not (has W a s.lists) && not (is_nil (got_of n a s))

  pub numbers_move : (n : ℕ) (a : W.Acc) (s : State W) → numbers W (move W A n a s).slots ≡ numbers W s.slots
  unfolding move got_of new_of
  numbers_move n a s = numbers_grow W n a (new_of n a s) (got_of n a s) s.slots

  pub has_slot_move : (n m : ℕ) (a : W.Acc) (s : State W) → has_slot W m (move W A n a s).slots ≡ has_slot W m s.slots
  has_slot_move n m a s = has_slot_numbers W m _ ∙ ap (is_member m) (numbers_move n a s) ∙ sym (has_slot_numbers W m s.slots)

  pub count_move_other : (n m : ℕ) (a : W.Acc) (s : State W) → eqb m n ≡ false → count_of W m (move W A n a s).slots ≡ count_of W m s.slots
  unfolding move got_of new_of
  count_move_other n m a s e = count_of_grow_other W n a (new_of n a s) (got_of n a s) m e s.slots

  pub le_steps : (N : ℕ) → Steps W A N Le
  unfolding checked pass_over move opened closed got_of new_of
  le_steps N = record {
    core = record {
      stay = λ s. record { counts = λ m. omega arith; queues = λ a e. e; lists = λ a e. e; marks = λ a. refl };
      and_then = λ s t u p q. record {
        counts = λ m. omega (arith, p.counts m, q.counts m);
        queues = λ a e. q.queues a (p.queues a e);
        lists = λ a e. q.lists a (p.lists a e);
        marks = λ a. q.marks a ∙ p.marks a;
      };
      check = λ a s. record { counts = λ m. omega arith; queues = λ b e. e; lists = λ b e. e; marks = λ b. marks_checked W L A a b s };
      pass = λ a s. record {
        counts = λ m. omega arith;
        queues = λ b e. part_queue b s (pass_over W A a s) (part_pass W L A b a s) e;
        lists = λ b e. e;
        marks = λ b. refl;
      };
      mv = λ n a s. record {
        counts = λ m. elim (which (eqb m n)) [
          | inl e ↦ rw (eq_of m n e) (count_of_grow_least W n a (new_of n a s) (got_of n a s) s.slots)
          | inr e ↦ omega (arith, count_move_other n m a s e)
        ];
        queues = λ b e. part_queue b s (move W A n a s) (part_move W L A b n a s) e;
        lists = λ b e. has_give_keeps W L a b _ s.lists e;
        marks = λ b. refl;
      };
    };
    opn = λ n s h. record { counts = λ m. omega (arith, count_of_open W n m s.slots); queues = λ b e. e; lists = λ b e. e; marks = λ b. refl };
    cls = λ n s h z. record {
      counts = λ m. elim (which (eqb m n)) [
        | inl e ↦ rw (eq_of m n e) (omega arith)
        | inr e ↦ omega (arith, count_of_drop_other W n m e s.slots)
      ];
      queues = λ b e. e;
      lists = λ b e. e;
      marks = λ b. refl;
    };
  }

  -- ---- a move empties the queue of undroppable messages or fills the slot
  abbrev pub Done : W.Acc → ℕ → State W → Type 0
  Done a n s = (undroppable W A.filter (at W a s.order) ≡ []) ⊎ (A.height ≤ count_of W n s.slots)

  pub done_keeps : (a : W.Acc) (n : ℕ) (s t : State W) → Le s t → Done a n s → Done a n t
  done_keeps a n s t l (inl e) = inl (l.queues a e)
  done_keeps a n s t l (inr h) = inr (omega (arith, l.counts n))

  nil_of : {X : Type 0} (l : List X) → length l ≡ 0 → l ≡ []
  nil_of [] h = refl
  nil_of (x ∷ l) h = absurd (omega arith)

  at_moved : (n : ℕ) (a : W.Acc) (s : State W) → at W a (move W A n a s).order ≡ (moved W A (room W A n s) (at W a s.order)).left
  unfolding move
  at_moved n a s = at_edit_same W L a (λ q. (moved W A (room W A n s) q).left) (moved_none W A (room W A n s)) s.order

  pub move_done : (n : ℕ) (a : W.Acc) (s : State W) → has_slot W n s.slots ≡ true → Done a n (move W A n a s)
  unfolding move moved room undroppable keep got_of new_of
  move_done n a s h = elim (collect_done W A (min (length q) (room W A n s)) q) [
    | inl e ↦ inl (rw (at_moved n a s) (rw e))
    | inr e ↦ big e
  ]
    where
      q : List W.Msg
      q = at W a s.order

      grows : count_of W n (move W A n a s).slots ≡ count_of W n s.slots + length (collect W A (min (length q) (room W A n s)) q).got
      grows = count_of_grow_same W n a (new_of n a s) (got_of n a s) s.slots h

      big : length (collect W A (min (length q) (room W A n s)) q).got ≡ min (length q) (room W A n s) → Done a n (move W A n a s)
      big e = elim (dec_le (length q) (room W A n s)) [
        | yes h' ↦ inl (rw (at_moved n a s) (rw (nil_of (collect W A (min (length q) (room W A n s)) q).left
            (omega (arith, collect_length W A (min (length q) (room W A n s)) q)))))
        | no h' ↦ inr (omega (arith, grows))
      ]

  -- ---- a move that finds room settles its account: it is in the group, or has no undroppable message
  abbrev pub Settled : W.Acc → State W → Type 0
  Settled a s = (has W a s.lists ≡ true) ⊎ (undroppable W A.filter (at W a s.order) ≡ [])

  pub settled_keeps : (a : W.Acc) (s t : State W) → Le s t → Settled a s → Settled a t
  settled_keeps a s t l (inl e) = inl (l.lists a e)
  settled_keeps a s t l (inr e) = inr (l.queues a e)

  move_settles : (n : ℕ) (a : W.Acc) (s : State W) → 0 < room W A n s → Settled a (move W A n a s)
  unfolding move moved undroppable keep
  move_settles n a s h = by got refl
    where
      q : List W.Msg
      q = at W a s.order

      k : ℕ
      k = min (length q) (room W A n s)

      got : List W.Msg
      got = (collect W A k q).got

      by : (g : List W.Msg) → got ≡ g → Settled a (move W A n a s)
      by (m ∷ ms) e = inl (rw e (has_give_same W L a m ms s.lists))
      by [] e = inr (rw (at_moved n a s) (elim (collect_done W A k q) [
        | inl z ↦ rw z
        | inr z ↦ rw (nil_of (collect W A k q).left (omega (arith, ap length e, z, collect_length W A k q, short z)))
      ]))
        where
          short : length (collect W A k q).got ≡ k → length q ≡ 0
          short z = omega (arith, ap length e, z)

  room_checked : (n : ℕ) (a : W.Acc) (s : State W) → room W A n (checked W A a s) ≡ room W A n s
  unfolding room checked
  room_checked n a s = refl

  pub meet_settles : (n : ℕ) (a : W.Acc) (s : State W) → marked W A s.skipped a ≡ false → 0 < room W A n s → Settled a (meet W A n a s)
  unfolding meet try pass_over
  meet_settles n a s u h = elim (which (has W a s.lists)) [
    | inl e ↦ rw e (inl e)
    | inr e ↦ rw e (rw u (move_settles n a (checked W A a s) (rw (room_checked n a s) h)))
  ]

  -- an account that is met and not moved changes no slot
  pub idle_slots : (n : ℕ) (a : W.Acc) (s : State W) → moves W A a s ≡ false → (meet W A n a s).slots ≡ s.slots
  unfolding meet try pass_over moves checked
  idle_slots n a s i = elim (which (has W a s.lists)) [
    | inl e ↦ rw e
    | inr e ↦ rw e (elim (which (marked W A s.skipped a)) [ inl u ↦ rw u | inr u ↦ clash true refl (rw (e, u) at i) ])
  ]

  -- a meeting for slot n leaves the other slots as they are, and the numbers of all
  pub meet_other : (n m : ℕ) (a : W.Acc) (s : State W) → eqb m n ≡ false → count_of W m (meet W A n a s).slots ≡ count_of W m s.slots
  unfolding meet try pass_over checked
  meet_other n m a s d = elim (which (has W a s.lists)) [
    | inl e ↦ rw e
    | inr e ↦ rw e (elim (which (marked W A s.skipped a)) [ inl u ↦ rw u | inr u ↦ rw u (count_move_other n m a (checked W A a s) d) ])
  ]

  abbrev pub Numbers : State W → State W → Type 0
  Numbers s t = numbers W t.slots ≡ numbers W s.slots

  pub numbers_steps : Moves W A Numbers
  unfolding checked pass_over
  numbers_steps = record {
    stay = λ s. refl;
    and_then = λ s t u p q. q ∙ p;
    check = λ a s. refl;
    pass = λ a s. refl;
    mv = λ n a s. numbers_move n a s;
  }

  pub has_slot_same : (m : ℕ) (s t : State W) → Numbers s t → has_slot W m t.slots ≡ has_slot W m s.slots
  has_slot_same m s t e = has_slot_numbers W m t.slots ∙ ap (is_member m) e ∙ sym (has_slot_numbers W m s.slots)

  -- ---- the slots that there were stay: those of the fill's own, numbered from N on, are the only ones that go
  module _ (entry : List (Slot W)) (N : ℕ) (under : (m : ℕ) → has_slot W m entry ≡ true → m < N) where
    abbrev pub Low : State W → Type 0
    Low s = (m : ℕ) → has_slot W m entry ≡ true → has_slot W m s.slots ≡ true

    pub low_steps : Steps W A N (λ s t. Low s → Low t)
    unfolding checked pass_over opened closed
    low_steps = record {
      core = record {
        stay = λ s i. i;
        and_then = λ s t u p q i. q (p i);
        check = λ a s i. i;
        pass = λ a s i. i;
        mv = λ n a s i m e. has_slot_move n m a s ∙ i m e;
      };
      opn = λ n s h i m e. has_slot_numbers W m _ ∙ rw (numbers_open W n s.slots) (rw (is_member_append m (numbers W s.slots) (n ∷ []), ← (has_slot_numbers W m s.slots), i m e));
      cls = λ n s h z i m e. has_slot_drop_other W n m (ne_false m n (λ d. omega (arith, under m e))) s.slots ∙ i m e;
    }
