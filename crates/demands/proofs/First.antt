-- The walk and the first pass. The invariant of the walk (`Behind`): an account that is not marked is ahead of the walk, or settled (in the
-- group, or without undroppable messages). The first pass keeps it, since every slot that it moves to has room (`Room`: the slots of the waiting line are distinct and below the height). And unless it came to the end of the order, it opened
-- all its slots and filled them. Assumes nothing.
use mathlib.Core.Path.{◌≡◌, refl, sym, ap, ◌∙◌, subst}
use mathlib.Core.Bool.{true, false, cond, ◌||◌}
use mathlib.Core.Logic.{◌⊎◌, inl, inr}
use mathlib.Core.List.{List, [], ◌∷◌, ◌++◌}
use Prim.Native.Nat.{ℕ, zero, suc, ◌+◌, ◌≤◌, ◌<◌}
use native.Mathlib.Omega.{arith}
use lib.Dec.{eqb}
use lib.ListN.{length}
use Rattle.rules.specs.World.{World, Slot, Args, is_member}
use Rattle.rules.specs.Queues.{at, is_in, count_of, has_slot}
use Rattle.rules.specs.Passes.{State, Walked, marked, room, is_full, meet, moves, seek, serve, opened, closed, first}
use Rattle.rules.specs.Fill.{numbers}
use Rattle.rules.specs.Demand.{OnceN}
use Rattle.demands.proofs.Rows.{right, left, Lawful, which, clash, or_cases, or_false}
use Rattle.demands.proofs.Slots.{eq_of, eq_self, ne_false, ne_of, is_member_append, has_slot_numbers, count_of_none, count_of_open, numbers_open}
use Rattle.demands.proofs.Steps.{Moves, R_meet, R_seek, R_serve}
use Rattle.demands.proofs.Move.{Le, le_steps, Settled, settled_keeps, meet_settles, idle_slots, meet_other, Numbers, numbers_steps, has_slot_same}
use Rattle.demands.proofs.Own.{full_least}

pub once_last : (n : ℕ) (l : List ℕ) → is_member n l ≡ false → OnceN l → OnceN (l ++ (n ∷ []))
unfolding is_member
once_last n [] h o = (refl, tt)
once_last n (m ∷ l) h o = (
  is_member_append m l (n ∷ []) ∙ rw o.0 (rw (ne_false m n (λ e. ne_of n m (or_false (eqb n m) (is_member n l) h).0 (sym e)))),
  once_last n l (or_false (eqb n m) (is_member n l) h).1 o.1,
)

module _ (W : World) (L : Lawful W) (A : Args W) where
  le : Moves W A (Le W L A)
  le = (le_steps W L A 0).core

  roomy : (n : ℕ) (s : State W) → is_full W A n s ≡ false → 0 < room W A n s
  unfolding is_full
  roomy n s e = omega (arith, ne_of (room W A n s) 0 e)

  room_same : (n : ℕ) (s t : State W) → count_of W n t.slots ≡ count_of W n s.slots → 0 < room W A n s → 0 < room W A n t
  unfolding room
  room_same n s t e h = omega arith

  room_empty : (n : ℕ) (s : State W) → 1 ≤ A.height → count_of W n s.slots ≡ 0 → 0 < room W A n s
  unfolding room
  room_empty n s h e = omega arith

  -- ---- a seeking for slot n, and the opening before it
  pub seek_other : (n m : ℕ) (rest : List W.Acc) (s : State W) → eqb m n ≡ false → count_of W m (seek W A n rest s).now.slots ≡ count_of W m s.slots
  unfolding seek
  seek_other n m [] s d = refl
  seek_other n m (a ∷ rest) s d = elim (which (eqb (count_of W n (meet W A n a s).slots) 0)) [
    | inl e ↦ rw e (seek_other n m rest (meet W A n a s) d ∙ meet_other W L A n m a s d)
    | inr e ↦ rw e (meet_other W L A n m a s d)
  ]

  opened_count : (n m : ℕ) (s : State W) → count_of W m (opened W A n s).slots ≡ count_of W m s.slots
  unfolding opened
  opened_count n m s = count_of_open W n m s.slots

  pub opened_has : (n m : ℕ) (s : State W) → has_slot W m (opened W A n s).slots ≡ (has_slot W m s.slots || (eqb m n || false))
  unfolding opened is_member
  opened_has n m s = has_slot_numbers W m _ ∙ rw (numbers_open W n s.slots) (rw (has_slot_numbers W m s.slots) (is_member_append m (numbers W s.slots) (n ∷ [])))

  -- the slot that was sought for, and the others, after a seeking
  pub sought_has : (n m : ℕ) (rest : List W.Acc) (s : State W) → has_slot W m (seek W A n rest (opened W A n s)).now.slots ≡ (has_slot W m s.slots || (eqb m n || false))
  sought_has n m rest s =
      has_slot_same W L A m (opened W A n s) (seek W A n rest (opened W A n s)).now (R_seek W L A (Numbers W L A) (numbers_steps W L A) n rest (opened W A n s)) ∙ opened_has n m s

  -- ---- the walk
  pub data Stands (rest : List W.Acc) (a : W.Acc) (s : State W) : Type 0 where
    ahead : is_in W a rest ≡ true → Stands rest a s
    settled : Settled W L A a s → Stands rest a s

  module _ (skipped : List W.Acc) where
    abbrev pub Marks : State W → Type 0
    Marks s = (a : W.Acc) → marked W A s.skipped a ≡ marked W A skipped a

    abbrev pub Behind : List W.Acc → State W → Type 0
    Behind rest s = (a : W.Acc) → marked W A skipped a ≡ false → Stands rest a s

    pub marks_keep : (s t : State W) → Le W L A s t → Marks s → Marks t
    marks_keep s t l k a = l.marks a ∙ k a

    pub behind_keeps : (rest : List W.Acc) (s t : State W) → Le W L A s t → Behind rest s → Behind rest t
    behind_keeps rest s t l b a u = elim (b a u) [ ahead i ↦ ahead i | settled d ↦ settled (settled_keeps W L A a s t l d) ]

    -- the walk goes over account a, which is settled by it
    goes : (rest : List W.Acc) (n : ℕ) (a : W.Acc) (s : State W) → (marked W A skipped a ≡ false → Settled W L A a (meet W A n a s)) →
        Behind (a ∷ rest) s → Behind rest (meet W A n a s)
    unfolding is_in
    goes rest n a s f b c u = elim (b c u) [
      | settled d ↦ settled (settled_keeps W L A c s (meet W A n a s) (R_meet W L A (Le W L A) le n a s) d)
      | ahead i ↦ elim (or_cases (W.same c a) (is_in W c rest) i) [
        | inl e ↦ settled (subst (λ (x : W.Acc). Settled W L A x (meet W A n a s)) (sym (L.decide c a e)) (f (rw (← (L.decide c a e)) u)))
        | inr e ↦ ahead e
      ]
    ]

    pub goes_room : (rest : List W.Acc) (n : ℕ) (a : W.Acc) (s : State W) → Marks s → 0 < room W A n s → Behind (a ∷ rest) s → Behind rest (meet W A n a s)
    goes_room rest n a s k h = goes rest n a s (λ u. meet_settles W L A n a s (k a ∙ u) h)

    pub marks_meet : (n : ℕ) (a : W.Acc) (s : State W) → Marks s → Marks (meet W A n a s)
    marks_meet n a s k = marks_keep s (meet W A n a s) (R_meet W L A (Le W L A) le n a s) k

    -- ---- a new slot
    module _ (height : 1 ≤ A.height) where
      seek_behind : (n : ℕ) (rest : List W.Acc) (s : State W) → Marks s → count_of W n s.slots ≡ 0 → Behind rest s →
          Behind (seek W A n rest s).rest (seek W A n rest s).now
      unfolding seek
      seek_behind n [] s k z b = b
      seek_behind n (a ∷ rest) s k z b = elim (which (eqb (count_of W n (meet W A n a s).slots) 0)) [
        | inl e ↦ rw e (seek_behind n rest (meet W A n a s) (marks_meet n a s k) (eq_of _ 0 e) over)
        | inr e ↦ rw e over
      ]
        where
          over : Behind rest (meet W A n a s)
          over = goes_room rest n a s k (room_empty n s height z) b

      -- ---- the waiting line
      abbrev Room : List ℕ → State W → Type 0
      Room line s = (m : ℕ) → is_member m line ≡ true → 0 < room W A m s

      serve_behind : (line : List ℕ) (rest : List W.Acc) (s : State W) → Marks s → OnceN line → Room line s → Behind rest s →
          Behind (serve W A line rest s).rest (serve W A line rest s).now
      unfolding serve is_member
      serve_behind line [] s k o r b = b
      serve_behind [] (a ∷ rest) s k o r b = b
      serve_behind (n ∷ line) (a ∷ rest) s k o r b = serve_behind next rest t k' once' room' over
        where
          t : State W
          t = meet W A n a s

          next : List ℕ
          next = cond (moves W A a s) (cond (is_full W A n t) line (line ++ (n ∷ []))) (n ∷ line)

          k' : Marks t
          k' = marks_meet n a s k

          here : 0 < room W A n s
          here = r n (rw (eq_self n))

          over : Behind rest t
          over = goes_room rest n a s k here b

          apart : (m : ℕ) → is_member m line ≡ true → eqb m n ≡ false
          apart m i = ne_false m n (λ e. clash (is_member n line) (rw (← e) i) o.0)

          others' : Room line t
          others' m i = room_same m s t (meet_other W L A n m a s (apart m i)) (r m (right (eqb m n) i))

          back : is_full W A n t ≡ false → (m : ℕ) → (is_member m line ≡ true) ⊎ (is_member m (n ∷ []) ≡ true) → 0 < room W A m t
          back f m (inl i) = others' m i
          back f m (inr i) = elim (or_cases (eqb m n) false i) [ inl e ↦ rw (eq_of m n e) (roomy n t f) | inr e ↦ clash false e refl ]

          once' : OnceN next
          once' = elim (which (moves W A a s)) [
            | inr e ↦ rw e o
            | inl e ↦ rw e (elim (which (is_full W A n t)) [ inl f ↦ rw f o.1 | inr f ↦ rw f (once_last n line o.0 o.1) ])
          ]

          room' : Room next t
          room' = elim (which (moves W A a s)) [
            | inr e ↦ rw e (λ m i. room_same m s t (ap (count_of W m) (idle_slots W L A n a s e)) (r m i))
            | inl e ↦ rw e (elim (which (is_full W A n t)) [
              | inl f ↦ rw f others'
              | inr f ↦ rw f (λ m i. back f m (or_cases (is_member m line) (is_member m (n ∷ [])) (sym (is_member_append m line (n ∷ [])) ∙ i)))
            ])
          ]

      -- ---- the whole pass
      abbrev pub Fresh : ℕ → State W → Type 0
      Fresh n s = (m : ℕ) → n ≤ m → has_slot W m s.slots ≡ false

      pub first_behind : (k n : ℕ) (line : List ℕ) (rest : List W.Acc) (s : State W) → Marks s → OnceN line → ((m : ℕ) → is_member m line ≡ true → m < n) →
          Room line s → Fresh n s → Behind rest s → Behind (first W A k n line rest s).rest (first W A k n line rest s).now
      unfolding first is_member
      first_behind zero n line rest s k o u r f b = serve_behind line rest s k o r b
      first_behind (suc j) n line rest s k o u r f b = elim (which (eqb (count_of W n w.now.slots) 0)) [
        | inl e ↦ rw e (behind_keeps w.rest w.now (closed W A n w.now) ((le_steps W L A 0).cls n w.now (omega arith) (eq_of _ 0 e)) behind)
        | inr e ↦ rw e (first_behind j (suc n) next w.rest w.now marks' once' under room' fresh' behind)
      ]
        where
          w : Walked W
          w = seek W A n rest (opened W A n s)

          next : List ℕ
          next = cond (is_full W A n w.now) line (line ++ (n ∷ []))

          lo : Le W L A s (opened W A n s)
          lo = (le_steps W L A 0).opn n s (omega arith)

          marks' : Marks w.now
          marks' = marks_keep (opened W A n s) w.now (R_seek W L A (Le W L A) le n rest (opened W A n s)) (marks_keep s (opened W A n s) lo k)

          behind : Behind w.rest w.now
          behind = seek_behind n rest (opened W A n s) (marks_keep s (opened W A n s) lo k)
              (opened_count n n s ∙ count_of_none W n s.slots (f n (omega arith))) (behind_keeps rest s (opened W A n s) lo b)

          not_in : is_member n line ≡ false
          not_in = elim (which (is_member n line)) [ inl i ↦ absurd (omega (arith, u n i)) | inr i ↦ i ]

          last' : (m : ℕ) → is_member m (line ++ (n ∷ [])) ≡ true → (is_member m line ≡ true) ⊎ (m ≡ n)
          last' m i = elim (or_cases (is_member m line) (is_member m (n ∷ [])) (sym (is_member_append m line (n ∷ [])) ∙ i)) [
            | inl j ↦ inl j
            | inr j ↦ elim (or_cases (eqb m n) false j) [ inl e ↦ inr (eq_of m n e) | inr e ↦ clash false e refl ]
          ]

          once' : OnceN next
          once' = elim (which (is_full W A n w.now)) [ inl e ↦ rw e o | inr e ↦ rw e (once_last n line not_in o) ]

          under : (m : ℕ) → is_member m next ≡ true → m < suc n
          under = elim (which (is_full W A n w.now)) [
            | inl e ↦ rw e (λ m i. omega (arith, u m i))
            | inr e ↦ rw e (λ m i. elim (last' m i) [ inl j ↦ omega (arith, u m j) | inr d ↦ omega arith ])
          ]

          older : (m : ℕ) → is_member m line ≡ true → 0 < room W A m w.now
          older m i = room_same m s w.now (seek_other n m rest (opened W A n s) (ne_false m n (λ e. omega (arith, u m i))) ∙ opened_count n m s) (r m i)

          room' : Room next w.now
          room' = elim (which (is_full W A n w.now)) [
            | inl e ↦ rw e older
            | inr e ↦ rw e (λ m i. elim (last' m i) [ inl j ↦ older m j | inr d ↦ rw d (roomy n w.now e) ])
          ]

          fresh' : Fresh (suc n) w.now
          fresh' m h = sought_has n m rest s ∙ rw (f m (omega arith)) (rw (ne_false m n (λ e. omega arith)))

  -- ---- unless it came to the end of the order, the first pass opened all its slots and filled them
  seek_empty : (n : ℕ) (rest : List W.Acc) (s : State W) → count_of W n (seek W A n rest s).now.slots ≡ 0 → (seek W A n rest s).rest ≡ []
  unfolding seek
  seek_empty n [] s z = refl
  seek_empty n (a ∷ rest) s z = elim (which (eqb (count_of W n (meet W A n a s).slots) 0)) [
    | inl e ↦ rw e (seek_empty n rest (meet W A n a s) (rw e at z))
    | inr e ↦ absurd (ne_of _ 0 e (rw e at z))
  ]

  serve_full : (line : List ℕ) (rest : List W.Acc) (s : State W) →
      ((m : ℕ) → is_member m line ≡ true → A.height ≤ count_of W m (serve W A line rest s).now.slots) ⊎ ((serve W A line rest s).rest ≡ [])
  unfolding serve is_member
  serve_full line [] s = inr refl
  serve_full [] (a ∷ rest) s = inl (λ m i. clash false i refl)
  serve_full (n ∷ line) (a ∷ rest) s = elim (serve_full next rest t) [
    | inr e ↦ inr e
    | inl f ↦ inl (λ m i. from f m (or_cases (eqb m n) (is_member m line) i))
  ]
    where
      t : State W
      t = meet W A n a s

      next : List ℕ
      next = cond (moves W A a s) (cond (is_full W A n t) line (line ++ (n ∷ []))) (n ∷ line)

      end : State W
      end = (serve W A next rest t).now

      stays : (m : ℕ) → is_member m line ≡ true → is_member m next ≡ true
      stays m i = elim (which (moves W A a s)) [
        | inr e ↦ rw e (right (eqb m n) i)
        | inl e ↦ rw e (elim (which (is_full W A n t)) [ inl f ↦ rw f i | inr f ↦ rw f (is_member_append m line (n ∷ []) ∙ left (is_member m line) (is_member m (n ∷ [])) i) ])
      ]

      mine : (is_member n next ≡ true) ⊎ (A.height ≤ count_of W n t.slots)
      mine = elim (which (moves W A a s)) [
        | inr e ↦ inl (rw e (rw (eq_self n)))
        | inl e ↦ elim (which (is_full W A n t)) [
          | inl f ↦ inr (full_least W L A n t f)
          | inr f ↦ inl (rw e (rw f (is_member_append n line (n ∷ []) ∙ right (is_member n line) (rw (eq_self n)))))
        ]
      ]

      from : ((m : ℕ) → is_member m next ≡ true → A.height ≤ count_of W m end.slots) → (m : ℕ) → (eqb m n ≡ true) ⊎ (is_member m line ≡ true) → A.height ≤ count_of W m end.slots
      from f m (inr i) = f m (stays m i)
      from f m (inl e) = rw (eq_of m n e) (elim mine [ inl i ↦ f n i | inr h ↦ omega (arith, (R_serve W L A (Le W L A) le next rest t).counts n) ])

  length_numbers : (ss : List (Slot W)) → length (numbers W ss) ≡ length ss
  unfolding numbers
  length_numbers [] = refl
  length_numbers (s ∷ ss) = ap suc (length_numbers ss)

  pub length_same : (s t : State W) → Numbers W L A s t → length t.slots ≡ length s.slots
  length_same s t e = sym (length_numbers t.slots) ∙ ap length e ∙ length_numbers s.slots

  pub opened_length : (n : ℕ) (s : State W) → length (opened W A n s).slots ≡ suc (length s.slots)
  unfolding opened
  opened_length n s = by s.slots
    where
      by : (l : List (Slot W)) → length (l ++ (record { number = n; accounts = []; ints = 0; exts = 0 } ∷ [])) ≡ suc (length l)
      by [] = refl
      by (x ∷ l) = ap suc (by l)

  module _ (entry : List (Slot W)) where
    -- a slot is of entry, or waits in the line, or is full
    abbrev pub Known : List ℕ → State W → Type 0
    Known line s = (m : ℕ) → has_slot W m s.slots ≡ true → (has_slot W m entry ≡ true) ⊎ ((is_member m line ≡ true) ⊎ (A.height ≤ count_of W m s.slots))

    pub first_full : (k n : ℕ) (line : List ℕ) (rest : List W.Acc) (s : State W) → Known line s →
        (Known [] (first W A k n line rest s).now × (length (first W A k n line rest s).now.slots ≡ length s.slots + k)) ⊎ ((first W A k n line rest s).rest ≡ [])
    unfolding first is_member
    first_full zero n line rest s kn = elim (serve_full line rest s) [
      | inr e ↦ inr e
      | inl f ↦ inl (known f, omega (arith, length_same s v.now same))
    ]
      where
        v : Walked W
        v = serve W A line rest s

        same : Numbers W L A s v.now
        same = R_serve W L A (Numbers W L A) (numbers_steps W L A) line rest s

        known : ((m : ℕ) → is_member m line ≡ true → A.height ≤ count_of W m v.now.slots) → Known [] v.now
        known f m h = elim (kn m (sym (has_slot_same W L A m s v.now same) ∙ h)) [
          | inl e ↦ inl e
          | inr d ↦ inr (inr (elim d [ inl i ↦ f m i | inr g ↦ omega (arith, (R_serve W L A (Le W L A) le line rest s).counts m) ]))
        ]
    first_full (suc j) n line rest s kn = elim (which (eqb (count_of W n w.now.slots) 0)) [
      | inl e ↦ rw e (inr (seek_empty n rest (opened W A n s) (eq_of _ 0 e)))
      | inr e ↦ rw e (elim (first_full j (suc n) next w.rest w.now known) [
        | inr d ↦ inr d
        | inl d ↦ inl (d.0, omega (arith, d.1, long))
      ])
    ]
      where
        w : Walked W
        w = seek W A n rest (opened W A n s)

        next : List ℕ
        next = cond (is_full W A n w.now) line (line ++ (n ∷ []))

        long : length w.now.slots ≡ suc (length s.slots)
        long = length_same (opened W A n s) w.now (R_seek W L A (Numbers W L A) (numbers_steps W L A) n rest (opened W A n s)) ∙ opened_length n s

        stays : (m : ℕ) → is_member m line ≡ true → is_member m next ≡ true
        stays m i = elim (which (is_full W A n w.now)) [ inl f ↦ rw f i | inr f ↦ rw f (is_member_append m line (n ∷ []) ∙ left (is_member m line) (is_member m (n ∷ [])) i) ]

        mine : (is_member n next ≡ true) ⊎ (A.height ≤ count_of W n w.now.slots)
        mine = elim (which (is_full W A n w.now)) [
          | inl f ↦ inr (full_least W L A n w.now f)
          | inr f ↦ inl (rw f (is_member_append n line (n ∷ []) ∙ right (is_member n line) (rw (eq_self n))))
        ]

        old : (m : ℕ) → has_slot W m s.slots ≡ true → (has_slot W m entry ≡ true) ⊎ ((is_member m next ≡ true) ⊎ (A.height ≤ count_of W m w.now.slots))
        old m h = elim (kn m h) [
          | inl e ↦ inl e
          | inr d ↦ inr (elim d [
            | inl i ↦ inl (stays m i)
            | inr g ↦ inr (omega (arith, (R_seek W L A (Le W L A) le n rest (opened W A n s)).counts m, ((le_steps W L A 0).opn n s (omega arith)).counts m))
          ])
        ]

        known : Known next w.now
        known m h = elim (or_cases (has_slot W m s.slots) (eqb m n || false) (sym (sought_has n m rest s) ∙ h)) [
          | inl e ↦ old m e
          | inr e ↦ elim (or_cases (eqb m n) false e) [ inl d ↦ rw (eq_of m n d) (inr mine) | inr d ↦ clash false d refl ]
        ]
