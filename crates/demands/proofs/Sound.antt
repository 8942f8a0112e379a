-- A group stays sound in a fill: numbers distinct and not above the last, each slot listed in the bucket of its count, none above 16.
-- Assumes nothing.
use mathlib.Core.Path.{◌≡◌, refl, sym, ap, ◌∙◌, subst}
use mathlib.Core.Bool.{Bool, true, false, cond, not, ◌&&◌, ◌||◌}
use mathlib.Core.Logic.{◌⊎◌, inl, inr}
use mathlib.Core.List.{List, [], ◌∷◌, ◌++◌}
use mathlib.Core.Option.{Option, none, some}
use Prim.Native.Nat.{ℕ, zero, suc, ◌+◌, ◌≤◌, ◌<◌, max}
use native.Mathlib.Omega.{arith}
use native.Mathlib.Nat.{zero-add}
use lib.Dec.{eqb}
use lib.ListN.{length, get_or}
use Rattle.rules.specs.World.{World, Slot, Args, Buffer, Group, is_member, keep, at_least0, others}
use Rattle.rules.specs.Queues.{at, accounts, count, count_of, has_slot}
use Rattle.rules.specs.Passes.{State, Walked, seek, serve, first, opened, closed, second, sweep, to_open, listed, entered, passes, ended, checked, pass_over, move, is_full}
use Rattle.rules.specs.Fill.{numbers, changed, bucket, reindexed, accepted, group_after, next_number}
use Rattle.rules.specs.Demand.{OnceN, Sound}
use Rattle.demands.proofs.Rows.{right, left, Lawful, which, clash, or_cases, or_false}
use Rattle.demands.proofs.Slots.{eq_of, eq_true, ne_of, ne_false, is_member_append, has_slot_numbers, has_slot_drop_same, has_slot_drop_other, count_of_none, numbers_open}
use Rattle.demands.proofs.Steps.{Steps, R_seek, R_serve, R_first, R_second, R_sweep, R_ended}
use Rattle.demands.proofs.Parted.{not_past_lem}
use Rattle.demands.proofs.Move.{Le, le_steps, Numbers, numbers_steps, has_slot_same, has_slot_move}
use Rattle.demands.proofs.First.{once_last, opened_has, sought_has}

pub keep_keep : {X : Type 0} (p q : X → Bool) (l : List X) → keep q (keep p l) ≡ keep (λ x. p x && q x) l
unfolding keep
keep_keep p q [] = refl
keep_keep p q (x ∷ l) = elim (which (p x)) [
  | inr e ↦ rw e (keep_keep p q l)
  | inl e ↦ rw e (elim (which (q x)) [ inl f ↦ rw f (ap {B = List _} (λ r. x ∷ r) (keep_keep p q l)) | inr f ↦ rw f (keep_keep p q l) ])
]

pub keep_member : (p : ℕ → Bool) (n : ℕ) (l : List ℕ) → p n ≡ true → is_member n l ≡ true → is_member n (keep p l) ≡ true
unfolding keep is_member
keep_member p n [] h i = i
keep_member p n (m ∷ l) h i = elim (which (eqb n m)) [
  | inl e ↦ rw (sym (ap p (eq_of n m e)) ∙ h) (rw e)
  | inr e ↦ elim (which (p m)) [ inl f ↦ rw f (rw e (keep_member p n l h (rw e at i))) | inr f ↦ rw f (keep_member p n l h (rw e at i)) ]
]

others_none : (n : ℕ) (l : List ℕ) → is_member n l ≡ false → is_member n (others l) ≡ false
unfolding others is_member
others_none n [] h = h
others_none n (m ∷ l) h = (or_false (eqb n m) (is_member n l) h).1

module _ (W : World) where
  -- ---- slots that are kept by a test
  kept_less : (p : Slot W → Bool) (n : ℕ) (ss : List (Slot W)) → is_member n (numbers W ss) ≡ false → is_member n (numbers W (keep p ss)) ≡ false
  unfolding keep numbers is_member
  kept_less p n [] h = refl
  kept_less p n (s ∷ ss) h = elim (which (p s)) [
    | inl e ↦ rw e (rw (or_false (eqb n s.number) _ h).0 (kept_less p n ss (or_false (eqb n s.number) _ h).1))
    | inr e ↦ rw e (kept_less p n ss (or_false (eqb n s.number) _ h).1)
  ]

  pub once_keep : (p : Slot W → Bool) (ss : List (Slot W)) → OnceN (numbers W ss) → OnceN (numbers W (keep p ss))
  unfolding keep numbers
  once_keep p [] o = tt
  once_keep p (s ∷ ss) o = elim (which (p s)) [
    | inl e ↦ rw e (kept_less p s.number ss o.0, once_keep p ss o.1)
    | inr e ↦ rw e (once_keep p ss o.1)
  ]

  -- slot n passes the test: it is kept
  pub kept : (p : Slot W → Bool) (n : ℕ) (ss : List (Slot W)) → has_slot W n ss ≡ true →
      ((s : Slot W) → s.number ≡ n → count W s ≡ count_of W n ss → p s ≡ true) → is_member n (numbers W (keep p ss)) ≡ true
  unfolding keep numbers is_member has_slot count_of
  kept p n [] h f = h
  kept p n (s ∷ ss) h f = elim (which (eqb n s.number)) [
    | inl e ↦ rw (f s (sym (eq_of n s.number e)) (rw e)) (rw e)
    | inr e ↦ elim (which (p s)) [
      | inl d ↦ rw d (right (eqb n s.number) (kept p n ss (rw e at h) (λ x a c. f x a (rw e c))))
      | inr d ↦ rw d (kept p n ss (rw e at h) (λ x a c. f x a (rw e c)))
    ]
  ]

  -- slot n does not: it is not kept
  pub not_kept : (p : Slot W → Bool) (n : ℕ) (ss : List (Slot W)) → OnceN (numbers W ss) →
      ((s : Slot W) → s.number ≡ n → count W s ≡ count_of W n ss → p s ≡ false) → is_member n (numbers W (keep p ss)) ≡ false
  unfolding keep numbers is_member count_of
  not_kept p n [] o f = refl
  not_kept p n (s ∷ ss) o f = elim (which (eqb n s.number)) [
    | inl e ↦ rw (f s (sym (eq_of n s.number e)) (rw e)) (kept_less p n ss (rw (eq_of n s.number e) o.0))
    | inr e ↦ elim (which (p s)) [
      | inl d ↦ rw d (rw e (not_kept p n ss o.1 (λ x a c. f x a (rw e c))))
      | inr d ↦ rw d (not_kept p n ss o.1 (λ x a c. f x a (rw e c)))
    ]
  ]

  -- ---- the index after a fill
  module _ (entry slots : List (Slot W)) where
    get_d_reindexed : (c k : ℕ) (index : List (List ℕ)) → k < length index → get_or (reindexed W entry slots c index) k [] ≡ bucket W entry slots (c + k) (get_or index k [])
    unfolding reindexed
    get_d_reindexed c k [] h = absurd (omega arith)
    get_d_reindexed c zero (b ∷ bs) h = ap (λ (x : ℕ). bucket W entry slots x b) (omega arith)
    get_d_reindexed c (suc k) (b ∷ bs) h = get_d_reindexed (suc c) k bs (omega arith) ∙ ap (λ (x : ℕ). bucket W entry slots x (get_or bs k [])) (omega arith)

    length_reindexed : (c : ℕ) (index : List (List ℕ)) → length (reindexed W entry slots c index) ≡ length index
    unfolding reindexed
    length_reindexed c [] = refl
    length_reindexed c (b ∷ bs) = ap suc (length_reindexed (suc c) bs)

    unfoldable pub is_changed : Slot W → Bool
    is_changed x = not (eqb (count W x) (count_of W x.number entry))

    unfoldable pub had_count : ℕ → Slot W → Bool
    had_count c x = eqb (count_of W x.number entry) c

    unfoldable pub has_count : ℕ → Slot W → Bool
    has_count c x = eqb (count W x) c

    unfoldable pub leavers : ℕ → List ℕ
    leavers c = others (numbers W (keep (had_count c) (keep is_changed slots)))

    unfoldable pub comers : ℕ → List ℕ
    comers c = numbers W (keep (has_count c) (keep is_changed slots))

    unfoldable pub stayers : ℕ → List ℕ → List ℕ
    stayers c b = keep (λ n. not (is_member n (leavers c))) b

    pub bucket_is : (c : ℕ) (b : List ℕ) → bucket W entry slots c b ≡ stayers c b ++ comers c
    unfolding bucket changed stayers leavers comers is_changed had_count has_count
    bucket_is c b = refl

    -- a changed slot comes to the bucket of its count
    comes : (n : ℕ) (b : List ℕ) → has_slot W n slots ≡ true → eqb (count_of W n slots) (count_of W n entry) ≡ false → is_member n (bucket W entry slots (count_of W n slots) b) ≡ true
    unfolding comers is_changed has_count
    comes n b h d = ap (is_member n) (bucket_is (count_of W n slots) b) ∙ is_member_append n (stayers (count_of W n slots) b) (comers (count_of W n slots)) ∙ right (is_member n (stayers (count_of W n slots) b)) inside
      where
        q : Slot W → Bool
        q = has_count (count_of W n slots)

        differs : (s : Slot W) → s.number ≡ n → count W s ≡ count_of W n slots → eqb (count W s) (count_of W s.number entry) ≡ false
        differs s a c = rw (c, a) d

        inside : is_member n (numbers W (keep q (keep is_changed slots))) ≡ true
        inside = rw (keep_keep is_changed q slots) (kept (λ x. is_changed x && q x) n slots h
            (λ s a c. rw (differs s a c) (eq_true (count W s) (count_of W n slots) c)))

    -- an unchanged slot stays in its bucket
    stays : (n c : ℕ) (b : List ℕ) → OnceN (numbers W slots) → count_of W n slots ≡ count_of W n entry → is_member n b ≡ true → is_member n (bucket W entry slots c b) ≡ true
    unfolding stayers leavers is_changed had_count
    stays n c b o e i = ap (is_member n) (bucket_is c b) ∙ is_member_append n (stayers c b) (comers c) ∙ left (is_member n (stayers c b)) (is_member n (comers c))
        (keep_member (λ m. not (is_member m (leavers c))) n b (ap not (others_none n _ outside)) i)
      where
        same : (s : Slot W) → s.number ≡ n → count W s ≡ count_of W n slots → eqb (count W s) (count_of W s.number entry) ≡ true
        same s a d = eq_true (count W s) (count_of W s.number entry) (d ∙ e ∙ ap (λ (m : ℕ). count_of W m entry) (sym a))

        outside : is_member n (numbers W (keep (had_count c) (keep is_changed slots))) ≡ false
        outside = rw (keep_keep is_changed (had_count c) slots) (not_kept (λ x. is_changed x && had_count c x) n slots o (λ s a d. rw (same s a d)))

module _ (W : World) (L : Lawful W) (A : Args W) where
  -- ---- the first pass opens slots of new numbers, and leaves no empty one
  Numb : State W → Type 0
  Numb s = (m : ℕ) → has_slot W m s.slots ≡ true → m < next_number W s.last

  pub next_least : (m : ℕ) (l : Option ℕ) → m < next_number W l → m ≤ at_least0 l
  unfolding next_number at_least0
  next_least m none h = omega arith
  next_least m (some l) h = omega arith

  last_move : (n : ℕ) (a : W.Acc) (s : State W) → (move W A n a s).last ≡ s.last
  unfolding move
  last_move n a s = refl

  numb_steps : (N : ℕ) → Steps W A N (λ s t. Numb s → Numb t)
  unfolding Numb checked pass_over opened closed next_number
  numb_steps N = record {
    core = record {
      stay = λ s p. p;
      and_then = λ s t u p q x. q (p x);
      check = λ a s p. p;
      pass = λ a s p. p;
      mv = λ n a s p m h. moved n a s p m (sym (has_slot_move W L A n m a s) ∙ h);
    };
    opn = λ n s h p m i. omega (arith, one_of n s p m i);
    cls = λ n s h z p m i. elim (which (eqb m n)) [
      | inl e ↦ clash _ i (rw (eq_of m n e) (has_slot_drop_same W n s.slots))
      | inr e ↦ p m (sym (has_slot_drop_other W n m e s.slots) ∙ i)
    ];
  }
    where
      moved : (n : ℕ) (a : W.Acc) (s : State W) → Numb s → (m : ℕ) → has_slot W m s.slots ≡ true → m < next_number W (move W A n a s).last
      moved n a s p m h = rw (last_move n a s) (p m h)

      one_of : (n : ℕ) (s : State W) → Numb s → (m : ℕ) → has_slot W m (opened W A n s).slots ≡ true → m ≤ max (at_least0 s.last) n
      one_of n s p m i = elim (or_cases (has_slot W m s.slots) (eqb m n || false) (sym (opened_has W L A n m s) ∙ i)) [
        | inl e ↦ omega (arith, next_least m s.last (p m e))
        | inr e ↦ elim (or_cases (eqb m n) false e) [ inl d ↦ omega (arith, eq_of m n d) | inr d ↦ clash false d refl ]
      ]

  numbers_closed : (n : ℕ) (s : State W) → OnceN (numbers W s.slots) → OnceN (numbers W (closed W A n s).slots)
  unfolding closed
  numbers_closed n s o = once_keep W _ s.slots o

  numbers_opened : (n : ℕ) (s : State W) → numbers W (opened W A n s).slots ≡ numbers W s.slots ++ (n ∷ [])
  unfolding opened
  numbers_opened n s = numbers_open W n s.slots

  closed_has : (n m : ℕ) (s : State W) → has_slot W m (closed W A n s).slots ≡ true → (eqb m n ≡ false) × (has_slot W m s.slots ≡ true)
  unfolding closed
  closed_has n m s i = elim (which (eqb m n)) [
    | inl e ↦ clash _ i (rw (eq_of m n e) (has_slot_drop_same W n s.slots))
    | inr e ↦ (e, sym (has_slot_drop_other W n m e s.slots) ∙ i)
  ]

  first_once : (k n : ℕ) (line : List ℕ) (rest : List W.Acc) (s : State W) → ((m : ℕ) → n ≤ m → has_slot W m s.slots ≡ false) →
      OnceN (numbers W s.slots) → OnceN (numbers W (first W A k n line rest s).now.slots)
  unfolding first
  first_once zero n line rest s f o = rw (R_serve W L A (Numbers W L A) (numbers_steps W L A) line rest s) o
  first_once (suc j) n line rest s f o = elim (which (eqb (count_of W n w.now.slots) 0)) [
    | inl e ↦ rw e (numbers_closed n w.now once')
    | inr e ↦ rw e (first_once j (suc n) _ w.rest w.now fresh' once')
  ]
    where
      w : Walked W
      w = seek W A n rest (opened W A n s)

      once' : OnceN (numbers W w.now.slots)
      once' = subst OnceN (sym (R_seek W L A (Numbers W L A) (numbers_steps W L A) n rest (opened W A n s) ∙ numbers_opened n s))
          (once_last n (numbers W s.slots) (sym (has_slot_numbers W n s.slots) ∙ f n (omega arith)) o)

      fresh' : (m : ℕ) → suc n ≤ m → has_slot W m w.now.slots ≡ false
      fresh' m h = sought_has W L A n m rest s ∙ rw (f m (omega arith)) (rw (ne_false m n (λ e. omega arith)))

  -- a slot after the pass was there before, or is not empty
  first_some : (k n : ℕ) (line : List ℕ) (rest : List W.Acc) (s : State W) (m : ℕ) → has_slot W m (first W A k n line rest s).now.slots ≡ true →
      (has_slot W m s.slots ≡ true) ⊎ (0 < count_of W m (first W A k n line rest s).now.slots)
  unfolding first
  first_some zero n line rest s m h = inl (sym (has_slot_same W L A m s (serve W A line rest s).now (R_serve W L A (Numbers W L A) (numbers_steps W L A) line rest s)) ∙ h)
  first_some (suc j) n line rest s m h = elim (which (eqb (count_of W n w.now.slots) 0)) [
    | inl e ↦ rw e (inl (dropped e (rw e at h)))
    | inr e ↦ rw e (elim (first_some j (suc n) next w.rest w.now m (rw e at h)) [
      | inr d ↦ inr d
      | inl d ↦ elim (or_cases (has_slot W m s.slots) (eqb m n || false) (sym (sought_has W L A n m rest s) ∙ d)) [
        | inl x ↦ inl x
        | inr x ↦ elim (or_cases (eqb m n) false x) [ inl y ↦ inr (grown e (eq_of m n y)) | inr y ↦ clash false y refl ]
      ]
    ])
  ]
    where
      w : Walked W
      w = seek W A n rest (opened W A n s)

      next : List ℕ
      next = cond (is_full W A n w.now) line (line ++ (n ∷ []))

      dropped : eqb (count_of W n w.now.slots) 0 ≡ true → has_slot W m (closed W A n w.now).slots ≡ true → has_slot W m s.slots ≡ true
      dropped e i = let c = closed_has n m w.now i in
          elim (or_cases (has_slot W m s.slots) (eqb m n || false) (sym (sought_has W L A n m rest s) ∙ c.1)) [
            | inl x ↦ x
            | inr x ↦ elim (or_cases (eqb m n) false x) [ inl y ↦ clash _ y c.0 | inr y ↦ clash false y refl ]
          ]

      grown : eqb (count_of W n w.now.slots) 0 ≡ false → m ≡ n → 0 < count_of W m (first W A j (suc n) next w.rest w.now).now.slots
      grown e q = rw q (omega (arith, ne_of (count_of W n w.now.slots) 0 e, (R_first W L A 0 (Le W L A) (le_steps W L A 0) j (suc n) next w.rest w.now (omega arith)).counts n))

  -- ---- a fill
  module _ (b : Buffer W) (g : Group W) (skipped : List W.Acc) (sound : Sound W g) (height : A.height ≤ 16) where
    unfoldable pub s0 : State W
    s0 = entered W A b g skipped

    unfoldable pub w1 : Walked W
    w1 = first W A (to_open W A g.slots) (at_least0 g.last + 1) [] (accounts W b.order) s0

    unfoldable pub w2 : Walked W
    w2 = second W A g.slots (listed W A g.index) w1.rest w1.now

    unfoldable pub s3 : State W
    s3 = sweep W A w2.rest w2.now

    same23 : Numbers W L A w1.now s3
    unfolding s3 w2
    same23 = R_sweep W L A (Numbers W L A) (numbers_steps W L A) w2.rest w2.now ∙ R_second W L A (Numbers W L A) (numbers_steps W L A) g.slots (listed W A g.index) w1.rest w1.now

    le23 : Le W L A w1.now s3
    unfolding s3 w2
    le23 = (le_steps W L A 0).core.and_then w1.now w2.now s3 (R_second W L A (Le W L A) (le_steps W L A 0).core g.slots (listed W A g.index) w1.rest w1.now)
        (R_sweep W L A (Le W L A) (le_steps W L A 0).core w2.rest w2.now)

    pub once3 : OnceN (numbers W s3.slots)
    unfolding w1 s0 entered
    once3 = subst OnceN (sym same23) (first_once (to_open W A g.slots) (at_least0 g.last + 1) [] (accounts W b.order) s0 new sound.distinct)
      where
        new : (m : ℕ) → at_least0 g.last + 1 ≤ m → has_slot W m g.slots ≡ false
        new m h = elim (which (has_slot W m g.slots)) [ inl e ↦ absurd (omega (arith, next_least m g.last (sound.numbered m e))) | inr e ↦ e ]

    pub some3 : (m : ℕ) → has_slot W m s3.slots ≡ true → (has_slot W m g.slots ≡ true) ⊎ (0 < count_of W m s3.slots)
    unfolding w1 s0 entered
    some3 m h = elim (first_some (to_open W A g.slots) (at_least0 g.last + 1) [] (accounts W b.order) s0 m (sym (has_slot_same W L A m w1.now s3 same23) ∙ h)) [
      | inl e ↦ inl e
      | inr e ↦ inr (omega (arith, le23.counts m))
    ]

    small3 : (n : ℕ) → count_of W n s3.slots ≤ 16
    unfolding s3 w2 w1 s0 accepted group_after ended passes
    small3 n = omega (arith, not_past_lem W L A b g skipped n, sound.small n)

    at_index : (n c : ℕ) → count_of W n s3.slots ≡ c → has_slot W n s3.slots ≡ true → is_member n (get_or (reindexed W g.slots s3.slots 0 g.index) c []) ≡ true
    at_index n c e h = ap (is_member n) (get_d_reindexed W g.slots s3.slots 0 c g.index (omega (arith, small3 n, sound.long)) ∙ ap (λ (x : ℕ). bucket W g.slots s3.slots x (get_or g.index c [])) (zero-add c))
        ∙ elim (which (eqb (count_of W n s3.slots) (count_of W n g.slots))) [
          | inr d ↦ rw (← e) (comes W g.slots s3.slots n _ h d)
          | inl d ↦ stays W g.slots s3.slots n c (get_or g.index c []) once3 (eq_of _ _ d) (subst (λ (x : ℕ). is_member n (get_or g.index x []) ≡ true) (sym (eq_of (count_of W n s3.slots) (count_of W n g.slots) d) ∙ e) (sound.indexed n (old (eq_of _ _ d))))
        ]
      where
        old : count_of W n s3.slots ≡ count_of W n g.slots → has_slot W n g.slots ≡ true
        old d = elim (some3 n h) [
          | inl x ↦ x
          | inr x ↦ elim (which (has_slot W n g.slots)) [ inl y ↦ y | inr y ↦ absurd (omega (arith, count_of_none W n g.slots y)) ]
        ]

    pub sound_fill : Sound W (accepted W A b g skipped).group
    unfolding accepted group_after ended passes s3 w2 w1 s0 entered Numb
    sound_fill = record {
      numbered = R_ended W L A 0 (λ s t. Numb s → Numb t) (numb_steps 0) b g skipped (omega arith) sound.numbered;
      distinct = once3;
      indexed = λ n h. at_index n (count_of W n s3.slots) refl h;
      long = length_reindexed W g.slots _ 0 g.index ∙ sound.long;
      small = λ n. omega (arith, not_past_lem W L A b g skipped n, sound.small n);
    }
