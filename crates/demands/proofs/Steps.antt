-- A fill is a chain of five steps: a check, a passing over, a move, the opening of a slot, the dropping of an empty one. Whatever relation
-- holds between the states before and after each of them, and is reflexive and transitive, holds between the states before and after
-- each walk, each pass and the whole fill (`Steps`). Assumes nothing.
use mathlib.Core.Path.{◌≡◌, refl, sym}
use mathlib.Core.Bool.{Bool, true, false, cond, not, ◌&&◌, ◌||◌}
use mathlib.Core.Logic.{inl, inr}
use mathlib.Core.List.{List, [], ◌∷◌, ◌++◌}
use Prim.Native.Nat.{ℕ, zero, suc, ◌+◌, ◌≤◌}
use native.Mathlib.Omega.{arith}
use lib.Dec.{eqb}
use Rattle.rules.specs.World.{World, Slot, Args, Buffer, Group, is_nil, at_least0}
use Rattle.rules.specs.Queues.{has, at, is_in, accounts, count_of, accounts_of, has_slot, grown, grow}
use Rattle.rules.specs.Passes.{State, Walked, verdict_in, marked, checked, pass_over, moved, room, is_full, move, try, meet, moves, seek, serve, opened, closed, first, own, reach, visit, second, sweep, to_open, listed, entered, passes, ended}
use Rattle.demands.proofs.Rows.{Lawful, which}
use Rattle.demands.proofs.Slots.{is_in_append, accounts_of_grow_same, accounts_of_grow_other, accounts_of_has, eq_of}

-- the steps of the second pass and of the walks
pub record Moves (W : World) (A : Args W) (R : State W → State W → Type 0) : Type 0 where
  pub stay : (s : State W) → R s s
  pub and_then : (s t u : State W) → R s t → R t u → R s u
  pub check : (a : W.Acc) (s : State W) → R s (checked W A a s)
  pub pass : (a : W.Acc) (s : State W) → R s (pass_over W A a s)
  pub mv : (n : ℕ) (a : W.Acc) (s : State W) → R s (move W A n a s)

-- those of the first pass too: slot numbers from N on are the fill's own
pub record Steps (W : World) (A : Args W) (N : ℕ) (R : State W → State W → Type 0) : Type 0 where
  pub core : Moves W A R
  pub opn : (n : ℕ) (s : State W) → N ≤ n → R s (opened W A n s)
  pub cls : (n : ℕ) (s : State W) → N ≤ n → count_of W n s.slots ≡ 0 → R s (closed W A n s)

module _ (W : World) (L : Lawful W) (A : Args W) where
  -- a check changes no mark
  pub marks_checked : (a b : W.Acc) (s : State W) → marked W A (checked W A a s).skipped b ≡ marked W A s.skipped b
  unfolding marked checked is_in
  marks_checked a b s = elim (which (is_in W a s.skipped)) [
    | inl e ↦ rw e
    | inr e ↦ rw e (elim (which (verdict_in W A a A.rows)) [
      | inl v ↦ rw v (joins_set v)
      | inr v ↦ rw v
    ])
  ]
    where
      or_true : (x y : Bool) → y ≡ true → ((x || true) || y) ≡ (x || y)
      or_true true y h = refl
      or_true false y h = sym h

      or_none : (x y : Bool) → ((x || false) || y) ≡ (x || y)
      or_none true y = refl
      or_none false y = refl

      joins_set : verdict_in W A a A.rows ≡ true →
          (is_in W b (s.skipped ++ (a ∷ [])) || verdict_in W A b A.rows) ≡ (is_in W b s.skipped || verdict_in W A b A.rows)
      joins_set v = rw (is_in_append W b s.skipped (a ∷ [])) (elim (which (W.same b a)) [
        | inl e ↦ rw e (or_true (is_in W b s.skipped) (verdict_in W A b A.rows) (rw (L.decide b a e) v))
        | inr e ↦ rw e (or_none (is_in W b s.skipped) (verdict_in W A b A.rows))
      ])

  -- a slot's accounts stay its accounts
  pub accounts_move : (n m : ℕ) (a b : W.Acc) (s : State W) →
      is_in W b (accounts_of W m s.slots) ≡ true → is_in W b (accounts_of W m (move W A n a s).slots) ≡ true
  unfolding move
  accounts_move n m a b s h = elim (which (eqb m n)) [
    | inl e ↦ mine (eq_of m n e)
    | inr e ↦ rw (accounts_of_grow_other W n a new got m e s.slots) h
  ]
    where
      got : List W.Msg
      got = (moved W A (room W A n s) (at W a s.order)).got

      new : Bool
      new = not (has W a s.lists) && not (is_nil got)

      wider : (c : Bool) (l : List W.Acc) → is_in W b l ≡ true → is_in W b (cond c (l ++ (a ∷ [])) l) ≡ true
      wider true l h = rw (is_in_append W b l (a ∷ []), h)
      wider false l h = h

      mine : m ≡ n → is_in W b (accounts_of W m (grow W n (grown W a new got) s.slots)) ≡ true
      mine e = rw e (rw (accounts_of_grow_same W n a new got s.slots (accounts_of_has W b n s.slots (rw e at h)))
          (wider new (accounts_of W n s.slots) (rw e at h)))

  pub accounts_try : (n m : ℕ) (a b : W.Acc) (s : State W) →
      is_in W b (accounts_of W m s.slots) ≡ true → is_in W b (accounts_of W m (try W A n a s).slots) ≡ true
  unfolding try pass_over checked
  accounts_try n m a b s h = elim (which (marked W A s.skipped a)) [
    | inl e ↦ rw e h
    | inr e ↦ rw e (accounts_move n m a b (checked W A a s) h)
  ]

  module _ (R : State W → State W → Type 0) (S : Moves W A R) where
    pub R_try : (n : ℕ) (a : W.Acc) (s : State W) → R s (try W A n a s)
    unfolding try
    R_try n a s = elim (which (marked W A s.skipped a)) [
      | inl e ↦ rw e (S.and_then s (checked W A a s) (pass_over W A a (checked W A a s)) (S.check a s) (S.pass a (checked W A a s)))
      | inr e ↦ rw e (S.and_then s (checked W A a s) (move W A n a (checked W A a s)) (S.check a s) (S.mv n a (checked W A a s)))
    ]

    pub R_meet : (n : ℕ) (a : W.Acc) (s : State W) → R s (meet W A n a s)
    unfolding meet
    R_meet n a s = elim (which (has W a s.lists)) [ inl e ↦ rw e (S.pass a s) | inr e ↦ rw e (R_try n a s) ]

    pub R_seek : (n : ℕ) (rest : List W.Acc) (s : State W) → R s (seek W A n rest s).now
    unfolding seek
    R_seek n [] s = S.stay s
    R_seek n (a ∷ rest) s = elim (which (eqb (count_of W n (meet W A n a s).slots) 0)) [
      | inl e ↦ rw e (S.and_then s (meet W A n a s) _ (R_meet n a s) (R_seek n rest (meet W A n a s)))
      | inr e ↦ rw e (R_meet n a s)
    ]

    pub R_serve : (line : List ℕ) (rest : List W.Acc) (s : State W) → R s (serve W A line rest s).now
    unfolding serve
    R_serve line [] s = S.stay s
    R_serve [] (a ∷ rest) s = S.stay s
    R_serve (n ∷ line) (a ∷ rest) s = S.and_then s (meet W A n a s) _ (R_meet n a s) (R_serve
        (cond (moves W A a s) (cond (is_full W A n (meet W A n a s)) line (line ++ (n ∷ []))) (n ∷ line)) rest (meet W A n a s))

    pub R_own : (n : ℕ) (more : List W.Acc) (s : State W) → R s (own W A n more s)
    unfolding own
    R_own n [] s = S.stay s
    R_own n (a ∷ more) s = elim (which (not (marked W A s.skipped a) && is_full W A n (try W A n a s))) [
      | inl e ↦ rw e (R_try n a s)
      | inr e ↦ rw e (S.and_then s (try W A n a s) _ (R_try n a s) (R_own n more (try W A n a s)))
    ]

    pub R_reach : (n : ℕ) (rest : List W.Acc) (s : State W) → R s (reach W A n rest s).now
    unfolding reach
    R_reach n [] s = S.stay s
    R_reach n (a ∷ rest) s = elim (which (moves W A a s && is_full W A n (meet W A n a s))) [
      | inl e ↦ rw e (R_meet n a s)
      | inr e ↦ rw e (S.and_then s (meet W A n a s) _ (R_meet n a s) (R_reach n rest (meet W A n a s)))
    ]

    pub R_visit : (n : ℕ) (rest : List W.Acc) (s : State W) → R s (visit W A n rest s).now
    unfolding visit
    R_visit n rest s = elim (which (is_full W A n t)) [
      | inl e ↦ rw e upto
      | inr e ↦ rw e (S.and_then s t _ upto (R_reach n rest t))
    ]
      where
        t : State W
        t = own W A n (accounts_of W n s.slots) s

        upto : R s t
        upto = R_own n (accounts_of W n s.slots) s

    pub R_second : (entry : List (Slot W)) (ns : List ℕ) (rest : List W.Acc) (s : State W) → R s (second W A entry ns rest s).now
    unfolding second
    R_second entry [] rest s = S.stay s
    R_second entry (n ∷ ns) rest s = elim (which (has_slot W n entry)) [
      | inl e ↦ rw e (S.and_then s (visit W A n rest s).now _ (R_visit n rest s) (R_second entry ns (visit W A n rest s).rest (visit W A n rest s).now))
      | inr e ↦ rw e (R_second entry ns rest s)
    ]

    pub R_sweep : (rest : List W.Acc) (s : State W) → R s (sweep W A rest s)
    unfolding sweep
    R_sweep [] s = S.stay s
    R_sweep (a ∷ rest) s = S.and_then s (pass_over W A a s) _ (S.pass a s) (R_sweep rest (pass_over W A a s))

  module _ (N : ℕ) (R : State W → State W → Type 0) (S : Steps W A N R) where
    M : Moves W A R
    M = S.core

    pub R_first : (k n : ℕ) (line : List ℕ) (rest : List W.Acc) (s : State W) → N ≤ n → R s (first W A k n line rest s).now
    unfolding first
    R_first zero n line rest s h = R_serve R M line rest s
    R_first (suc k) n line rest s h = elim (which (eqb (count_of W n w.now.slots) 0)) [
      | inl e ↦ rw e (M.and_then s w.now _ upto (S.cls n w.now h (eq_of _ 0 e)))
      | inr e ↦ rw e (M.and_then s w.now _ upto (R_first k (suc n) _ w.rest w.now (omega arith)))
    ]
      where
        w : Walked W
        w = seek W A n rest (opened W A n s)

        upto : R s w.now
        upto = M.and_then s (opened W A n s) w.now (S.opn n s h) (R_seek R M n rest (opened W A n s))

    pub R_ended : (b : Buffer W) (g : Group W) (skipped : List W.Acc) → N ≤ at_least0 g.last + 1 → R (entered W A b g skipped) (ended W A b g skipped)
    unfolding ended passes
    R_ended b g skipped h =
        M.and_then s0 w.now _ (R_first _ _ [] (accounts W b.order) s0 h)
        (M.and_then w.now v.now _ (R_second R M g.slots (listed W A g.index) w.rest w.now) (R_sweep R M v.rest v.now))
      where
        s0 : State W
        s0 = entered W A b g skipped

        w : Walked W
        w = first W A (to_open W A g.slots) (at_least0 g.last + 1) [] (accounts W b.order) s0

        v : Walked W
        v = second W A g.slots (listed W A g.index) w.rest w.now
