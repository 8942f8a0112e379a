-- Whatever a check, a passing over, a move, an opening and a dropping keep of a state, a fill keeps (`K_ended`). Unlike `Steps`, a move
-- may rely on its slot being there, an opening on its number being above all. Assumes nothing.
use mathlib.Core.Path.{◌≡◌, refl, sym, ap, ◌∙◌}
use mathlib.Core.Bool.{Bool, true, false, cond, not, ◌&&◌, ◌||◌}
use mathlib.Core.Logic.{◌⊎◌, inl, inr}
use mathlib.Core.List.{List, [], ◌∷◌, ◌++◌}
use Prim.Native.Nat.{ℕ, zero, suc, ◌+◌, ◌≤◌, ◌<◌}
use native.Mathlib.Omega.{arith}
use lib.Dec.{eqb}
use Rattle.rules.specs.World.{World, Slot, Args, Buffer, Group, is_member, at_least0}
use Rattle.rules.specs.Queues.{has, is_in, accounts, count_of, accounts_of, has_slot}
use Rattle.rules.specs.Passes.{State, Walked, marked, checked, pass_over, is_full, move, try, meet, moves, seek, serve, opened, closed, first, own, reach, visit, second, sweep, to_open, listed, entered, passes, ended}
use Rattle.rules.specs.Demand.{Sound}
use Rattle.demands.proofs.Rows.{right, Lawful, which, clash, or_cases}
use Rattle.demands.proofs.Slots.{eq_of, eq_self, ne_false, is_member_append}
use Rattle.demands.proofs.Steps.{accounts_try, R_visit}
use Rattle.demands.proofs.Move.{Numbers, numbers_steps, has_slot_same, has_slot_move, Low, low_steps}
use Rattle.demands.proofs.First.{opened_has, sought_has}
use Rattle.demands.proofs.Sound.{next_least}
use Rattle.demands.proofs.Steps.{R_first}

-- account a is of slot n, or of no slot
abbrev pub Place : (W : World) → ℕ → W.Acc → State W → Type 0
Place W n a s = (is_in W a (accounts_of W n s.slots) ≡ true) ⊎ (has W a s.lists ≡ false)

pub record Keeps (W : World) (A : Args W) (I : State W → Type 0) : Type 0 where
  pub check : (a : W.Acc) (s : State W) → I s → I (checked W A a s)
  pub pass : (a : W.Acc) (s : State W) → I s → I (pass_over W A a s)
  pub mv : (n : ℕ) (a : W.Acc) (s : State W) → has_slot W n s.slots ≡ true → Place W n a s → I s → I (move W A n a s)
  pub opn : (n : ℕ) (s : State W) → ((m : ℕ) → n ≤ m → has_slot W m s.slots ≡ false) → I s → I (opened W A n s)
  pub cls : (n : ℕ) (s : State W) → count_of W n s.slots ≡ 0 → I s → I (closed W A n s)

module _ (W : World) (L : Lawful W) (A : Args W) (I : State W → Type 0) (K : Keeps W A I) where
  slot_try : (n m : ℕ) (a : W.Acc) (s : State W) → has_slot W m (try W A n a s).slots ≡ has_slot W m s.slots
  unfolding try pass_over checked
  slot_try n m a s = elim (which (marked W A s.skipped a)) [ inl e ↦ rw e | inr e ↦ rw e (has_slot_move W L A n m a (checked W A a s)) ]

  slot_meet : (n m : ℕ) (a : W.Acc) (s : State W) → has_slot W m (meet W A n a s).slots ≡ has_slot W m s.slots
  unfolding meet pass_over
  slot_meet n m a s = elim (which (has W a s.lists)) [ inl e ↦ rw e | inr e ↦ rw e (slot_try n m a s) ]

  K_try : (n : ℕ) (a : W.Acc) (s : State W) → has_slot W n s.slots ≡ true → Place W n a s → I s → I (try W A n a s)
  unfolding try checked
  K_try n a s h p i = elim (which (marked W A s.skipped a)) [
    | inl e ↦ rw e (K.pass a (checked W A a s) (K.check a s i))
    | inr e ↦ rw e (K.mv n a (checked W A a s) h p (K.check a s i))
  ]

  K_meet : (n : ℕ) (a : W.Acc) (s : State W) → has_slot W n s.slots ≡ true → I s → I (meet W A n a s)
  unfolding meet
  K_meet n a s h i = elim (which (has W a s.lists)) [ inl e ↦ rw e (K.pass a s i) | inr e ↦ rw e (K_try n a s h (inr e) i) ]

  -- ---- the first pass
  K_seek : (n : ℕ) (rest : List W.Acc) (s : State W) → has_slot W n s.slots ≡ true → I s → I (seek W A n rest s).now
  unfolding seek
  K_seek n [] s h i = i
  K_seek n (a ∷ rest) s h i = elim (which (eqb (count_of W n (meet W A n a s).slots) 0)) [
    | inl e ↦ rw e (K_seek n rest (meet W A n a s) (slot_meet n n a s ∙ h) (K_meet n a s h i))
    | inr e ↦ rw e (K_meet n a s h i)
  ]

  abbrev There : List ℕ → State W → Type 0
  There line s = (m : ℕ) → is_member m line ≡ true → has_slot W m s.slots ≡ true

  last_of : (m n : ℕ) (line : List ℕ) → is_member m (line ++ (n ∷ [])) ≡ true → (is_member m line ≡ true) ⊎ (eqb m n ≡ true)
  unfolding is_member
  last_of m n line i = elim (or_cases (is_member m line) (is_member m (n ∷ [])) (sym (is_member_append m line (n ∷ [])) ∙ i)) [
    | inl e ↦ inl e
    | inr e ↦ elim (or_cases (eqb m n) false e) [ inl d ↦ inr d | inr d ↦ clash false d refl ]
  ]

  K_serve : (line : List ℕ) (rest : List W.Acc) (s : State W) → There line s → I s → I (serve W A line rest s).now
  unfolding serve is_member
  K_serve line [] s h i = i
  K_serve [] (a ∷ rest) s h i = i
  K_serve (n ∷ line) (a ∷ rest) s h i = K_serve next rest t (λ m j. slot_meet n m a s ∙ h m (in_old m j)) (K_meet n a s (h n (rw (eq_self n))) i)
    where
      t : State W
      t = meet W A n a s

      next : List ℕ
      next = cond (moves W A a s) (cond (is_full W A n t) line (line ++ (n ∷ []))) (n ∷ line)

      in_old : (m : ℕ) → is_member m next ≡ true → is_member m (n ∷ line) ≡ true
      in_old = elim (which (moves W A a s)) [
        | inr e ↦ rw e (λ m j. j)
        | inl e ↦ rw e (elim (which (is_full W A n t)) [
          | inl f ↦ rw f (λ m j. right (eqb m n) j)
          | inr f ↦ rw f (λ m j. elim (last_of m n line j) [ inl d ↦ right (eqb m n) d | inr d ↦ rw d ])
        ])
      ]

  K_first : (k n : ℕ) (line : List ℕ) (rest : List W.Acc) (s : State W) → ((m : ℕ) → n ≤ m → has_slot W m s.slots ≡ false) → There line s → I s →
      I (first W A k n line rest s).now
  unfolding first
  K_first zero n line rest s f h i = K_serve line rest s h i
  K_first (suc j) n line rest s f h i = elim (which (eqb (count_of W n w.now.slots) 0)) [
    | inl e ↦ rw e (K.cls n w.now (eq_of _ 0 e) kept)
    | inr e ↦ rw e (K_first j (suc n) next w.rest w.now fresh' there' kept)
  ]
    where
      w : Walked W
      w = seek W A n rest (opened W A n s)

      next : List ℕ
      next = cond (is_full W A n w.now) line (line ++ (n ∷ []))

      kept : I w.now
      kept = K_seek n rest (opened W A n s) (opened_has W L A n n s ∙ right (has_slot W n s.slots) (rw (eq_self n))) (K.opn n s f i)

      fresh' : (m : ℕ) → suc n ≤ m → has_slot W m w.now.slots ≡ false
      fresh' m l = sought_has W L A n m rest s ∙ rw (f m (omega arith)) (rw (ne_false m n (λ e. omega arith)))

      old : (m : ℕ) → is_member m line ≡ true → has_slot W m w.now.slots ≡ true
      old m q = sought_has W L A n m rest s ∙ ap (λ (c : Bool). c || (eqb m n || false)) (h m q)

      there' : There next w.now
      there' = elim (which (is_full W A n w.now)) [
        | inl e ↦ rw e old
        | inr e ↦ rw e (λ m q. elim (last_of m n line q) [ inl d ↦ old m d | inr d ↦ sought_has W L A n m rest s ∙ right (has_slot W m s.slots) (rw d) ])
      ]

  -- ---- the second pass
  K_own : (n : ℕ) (more : List W.Acc) (s : State W) → ((b : W.Acc) → is_in W b more ≡ true → is_in W b (accounts_of W n s.slots) ≡ true) → has_slot W n s.slots ≡ true → I s →
      I (own W A n more s) × (has_slot W n (own W A n more s).slots ≡ true)
  unfolding own is_in
  K_own n [] s sub h i = (i, h)
  K_own n (a ∷ more) s sub h i = elim (which (not (marked W A s.skipped a) && is_full W A n (try W A n a s))) [
    | inl e ↦ rw e (step, slot_try n n a s ∙ h)
    | inr e ↦ rw e (K_own n more (try W A n a s) (λ b j. accounts_try W L A n n a b s (sub b (right (W.same b a) j))) (slot_try n n a s ∙ h) step)
  ]
    where
      step : I (try W A n a s)
      step = K_try n a s h (inl (sub a (rw (L.self a)))) i

  K_reach : (n : ℕ) (rest : List W.Acc) (s : State W) → has_slot W n s.slots ≡ true → I s → I (reach W A n rest s).now
  unfolding reach
  K_reach n [] s h i = i
  K_reach n (a ∷ rest) s h i = elim (which (moves W A a s && is_full W A n (meet W A n a s))) [
    | inl e ↦ rw e (K_meet n a s h i)
    | inr e ↦ rw e (K_reach n rest (meet W A n a s) (slot_meet n n a s ∙ h) (K_meet n a s h i))
  ]

  K_visit : (n : ℕ) (rest : List W.Acc) (s : State W) → has_slot W n s.slots ≡ true → I s → I (visit W A n rest s).now
  unfolding visit
  K_visit n rest s h i = elim (which (is_full W A n t)) [ inl e ↦ rw e q.0 | inr e ↦ rw e (K_reach n rest t q.1 q.0) ]
    where
      t : State W
      t = own W A n (accounts_of W n s.slots) s

      q : I t × (has_slot W n t.slots ≡ true)
      q = K_own n (accounts_of W n s.slots) s (λ b j. j) h i

  K_second : (entry : List (Slot W)) (ns : List ℕ) (rest : List W.Acc) (s : State W) → ((m : ℕ) → has_slot W m entry ≡ true → has_slot W m s.slots ≡ true) → I s →
      I (second W A entry ns rest s).now
  unfolding second
  K_second entry [] rest s h i = i
  K_second entry (n ∷ ns) rest s h i = elim (which (has_slot W n entry)) [
    | inl e ↦ rw e (K_second entry ns (visit W A n rest s).rest (visit W A n rest s).now
        (λ m j. has_slot_same W L A m s (visit W A n rest s).now (R_visit W L A (Numbers W L A) (numbers_steps W L A) n rest s) ∙ h m j) (K_visit n rest s (h n e) i))
    | inr e ↦ rw e (K_second entry ns rest s h i)
  ]

  K_sweep : (rest : List W.Acc) (s : State W) → I s → I (sweep W A rest s)
  unfolding sweep
  K_sweep [] s i = i
  K_sweep (a ∷ rest) s i = K_sweep rest (pass_over W A a s) (K.pass a s i)

  -- ---- the whole fill
  pub K_ended : (b : Buffer W) (g : Group W) (skipped : List W.Acc) → Sound W g → I (entered W A b g skipped) → I (ended W A b g skipped)
  unfolding ended passes entered is_member
  K_ended b g skipped sound i = K_sweep _ _ (K_second g.slots (listed W A g.index) w1.rest w1.now low
      (K_first (to_open W A g.slots) N [] (accounts W b.order) s0 new (λ m j. clash false j refl) i))
    where
      N : ℕ
      N = at_least0 g.last + 1

      s0 : State W
      s0 = entered W A b g skipped

      w1 : Walked W
      w1 = first W A (to_open W A g.slots) N [] (accounts W b.order) s0

      under : (m : ℕ) → has_slot W m g.slots ≡ true → m < N
      under m e = omega (arith, next_least W L A m g.last (sound.numbered m e))

      new : (m : ℕ) → N ≤ m → has_slot W m g.slots ≡ false
      new m h = elim (which (has_slot W m g.slots)) [ inl e ↦ absurd (omega (arith, under m e)) | inr e ↦ e ]

      low : (m : ℕ) → has_slot W m g.slots ≡ true → has_slot W m w1.now.slots ≡ true
      low = R_first W L A N (λ s t. Low W L A g.slots N under s → Low W L A g.slots N under t) (low_steps W L A g.slots N under) (to_open W A g.slots) N [] (accounts W b.order) s0 (omega arith)
          (λ m e. e)
