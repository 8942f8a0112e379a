-- Renaming commutes with a check, a passing over, a move, both passes and the end of a fill. Assumes nothing.
use mathlib.Core.Path.{◌≡◌, refl, ap, ◌∙◌}
use mathlib.Core.Bool.{Bool, cond, not, ◌&&◌, ◌||◌}
use mathlib.Core.List.{List, [], ◌∷◌, ◌++◌, map}
use mathlib.Core.Option.{some}
use Prim.Native.Nat.{ℕ, zero, suc, ◌+◌, ◌-◌, min, max}
use lib.Dec.{eqb}
use lib.ListN.{length}
use Rattle.rules.specs.World.{World, Slot, Skip, Args, Buffer, Group, is_nil, at_least0}
use Rattle.rules.specs.Queues.{has, at, give, accounts, undroppable, count_of, accounts_of, grown}
use Rattle.rules.specs.Passes.{State, Walked, verdict_in, cost_in, marked, checked, pass_over, collect, moved, move_ops, room, is_full, move, try, meet, moves, seek, serve, opened, closed, first, own, reach, visit, second, sweep, to_open, listed, entered, passes, ended}
use Rattle.renaming.specs.Renaming.{Renaming, Faithful, on_row, on_slot, on_skip, on_args, on_state, on_walked, on_taken, on_buffer, on_group}
use Rattle.renaming.proofs.Rows.{pick, append_on, length_on, is_nil_on, keep_on, has_on, at_on, edit_on, give_on, is_in_on, accounts_on, droppable_on, undroppable_on, count_of_on, accounts_of_on, has_slot_on, grown_on, grow_on}

module _ {W U : World} (f : Renaming W U) (F : Faithful W U f) (A : Args W) where
  -- ---- a check, a passing over
  verdict_on : (a : W.Acc) (rs : List (Skip W)) → verdict_in U (on_args f A) (f.acc a) (map (on_skip f) rs) ≡ verdict_in W A a rs
  unfolding verdict_in
  verdict_on a [] = refl
  verdict_on a (r ∷ rs) = λ i. cond (F.same a r.acc i) r.skip (verdict_on a rs i)

  cost_on : (a : W.Acc) (rs : List (Skip W)) → cost_in U (on_args f A) (f.acc a) (map (on_skip f) rs) ≡ cost_in W A a rs
  unfolding cost_in
  cost_on a [] = refl
  cost_on a (r ∷ rs) = λ i. cond (F.same a r.acc i) r.cost (cost_on a rs i)

  marked_on : (skipped : List W.Acc) (a : W.Acc) → marked U (on_args f A) (map f.acc skipped) (f.acc a) ≡ marked W A skipped a
  unfolding marked
  marked_on skipped a = λ i. is_in_on f F a skipped i || verdict_on a A.rows i

  checked_on : (a : W.Acc) (s : State W) → checked U (on_args f A) (f.acc a) (on_state f s) ≡ on_state f (checked W A a s)
  unfolding checked
  checked_on a s = λ i. record {
    order = map (on_row f) s.order;
    lists = map (on_row f) s.lists;
    slots = map (on_slot f) s.slots;
    last = s.last;
    skipped = pick {Y = List U.Acc} (map f.acc) (s.skipped ++ (a ∷ [])) s.skipped (λ j. not (is_in_on f F a s.skipped j) && verdict_on a A.rows j)
        (append_on f.acc s.skipped (a ∷ [])) refl i;
    taken = map f.msg s.taken;
    ops = s.ops + cond (is_in_on f F a s.skipped i) 1 (cost_on a A.rows i);
  }

  pass_on : (a : W.Acc) (s : State W) → pass_over U (on_args f A) (f.acc a) (on_state f s) ≡ on_state f (pass_over W A a s)
  unfolding pass_over
  pass_on a s = λ i. record {
    order = edit_on f F a (undroppable W A.filter) (undroppable U A.filter) (undroppable_on f F A.filter) s.order i;
    lists = map (on_row f) s.lists;
    slots = map (on_slot f) s.slots;
    last = s.last;
    skipped = map f.acc s.skipped;
    taken = map f.msg s.taken;
    ops = s.ops;
  }

  -- ---- a move
  collect_on : (n : ℕ) (q : List W.Msg) → collect U (on_args f A) n (map f.msg q) ≡ on_taken f (collect W A n q)
  unfolding collect
  collect_on n [] = refl
  collect_on zero (m ∷ q) = refl
  collect_on (suc n) (m ∷ q) = pick (on_taken f) (collect W A (suc n) q) (record { got = m ∷ (collect W A n q).got; left = (collect W A n q).left }) (droppable_on f F A.filter m)
      (collect_on (suc n) q) (λ i. record { got = f.msg m ∷ (collect_on n q i).got; left = (collect_on n q i).left })

  moved_on : (n : ℕ) (q : List W.Msg) → moved U (on_args f A) n (map f.msg q) ≡ on_taken f (moved W A n q)
  unfolding moved
  moved_on n q = (λ i. collect U (on_args f A) (min (length_on f.msg q i) n) (map f.msg q)) ∙ collect_on (min (length q) n) q

  move_ops_on : (queue : Bool) (n : ℕ) (q list : List W.Msg) → move_ops U (on_args f A) queue n (map f.msg q) (map f.msg list) ≡ move_ops W A queue n q list
  unfolding move_ops
  move_ops_on queue n q list = λ i.
      cond queue
      (1 + cond (eqb (min (length_on f.msg q i) n) 0) 0
      (1 + (length_on f.msg q i - left i) + cond (none i) 1 0))
      0
    where
      left : length (moved U (on_args f A) n (map f.msg q)).left ≡ length (moved W A n q).left
      left = ap (λ t. length t.left) (moved_on n q) ∙ length_on f.msg (moved W A n q).left

      none : is_nil (map f.msg list ++ (moved U (on_args f A) n (map f.msg q)).got) ≡ is_nil (list ++ (moved W A n q).got)
      none = ap (λ t. is_nil (map f.msg list ++ t.got)) (moved_on n q) ∙ ap is_nil (append_on f.msg list (moved W A n q).got) ∙ is_nil_on f.msg _

  room_on : (n : ℕ) (s : State W) → room U (on_args f A) n (on_state f s) ≡ room W A n s
  unfolding room
  room_on n s = λ i. A.height - count_of_on f F n s.slots i

  full_on : (n : ℕ) (s : State W) → is_full U (on_args f A) n (on_state f s) ≡ is_full W A n s
  unfolding is_full
  full_on n s = λ i. eqb (room_on n s i) 0

  -- what a move collects, there and here; whether its account is new to the group
  abbrev got_u : ℕ → W.Acc → State W → List U.Msg
  got_u n a s = (moved U (on_args f A) (room U (on_args f A) n (on_state f s)) (at U (f.acc a) (map (on_row f) s.order))).got

  abbrev got_w : ℕ → W.Acc → State W → List W.Msg
  got_w n a s = (moved W A (room W A n s) (at W a s.order)).got

  abbrev new_u : ℕ → W.Acc → State W → Bool
  new_u n a s = not (has U (f.acc a) (map (on_row f) s.lists)) && not (is_nil (got_u n a s))

  abbrev new_w : ℕ → W.Acc → State W → Bool
  new_w n a s = not (has W a s.lists) && not (is_nil (got_w n a s))

  got_on : (n : ℕ) (a : W.Acc) (s : State W) → got_u n a s ≡ map f.msg (got_w n a s)
  got_on n a s = (λ i. (moved U (on_args f A) (room_on n s i) (at_on f F a s.order i)).got) ∙ ap (λ t. t.got) (moved_on (room W A n s) (at W a s.order))

  left_on : (n : ℕ) (s : State W) (q : List W.Msg) → (moved U (on_args f A) (room U (on_args f A) n (on_state f s)) (map f.msg q)).left ≡ map f.msg (moved W A (room W A n s) q).left
  left_on n s q = (λ i. (moved U (on_args f A) (room_on n s i) (map f.msg q)).left) ∙ ap (λ t. t.left) (moved_on (room W A n s) q)

  new_on : (n : ℕ) (a : W.Acc) (s : State W) → new_u n a s ≡ new_w n a s
  new_on n a s = λ i. not (has_on f F a s.lists i) && not ((ap is_nil (got_on n a s) ∙ is_nil_on f.msg (got_w n a s)) i)

  grown_to : (n : ℕ) (a : W.Acc) (s : State W) (x : Slot W) → grown U (f.acc a) (new_u n a s) (got_u n a s) (on_slot f x) ≡ on_slot f (grown W a (new_w n a s) (got_w n a s) x)
  grown_to n a s x = (λ i. grown U (f.acc a) (new_on n a s i) (got_on n a s i) (on_slot f x)) ∙ grown_on f F a (new_w n a s) (got_w n a s) x

  move_on : (n : ℕ) (a : W.Acc) (s : State W) → move U (on_args f A) n (f.acc a) (on_state f s) ≡ on_state f (move W A n a s)
  unfolding move
  move_on n a s = λ i. record {
    order = edit_on f F a (λ q. (moved W A (room W A n s) q).left) (λ q. (moved U (on_args f A) (room U (on_args f A) n (on_state f s)) q).left) (left_on n s) s.order i;
    lists = lists i;
    slots = grow_on f F n (grown W a (new_w n a s) (got_w n a s)) (grown U (f.acc a) (new_u n a s) (got_u n a s)) (grown_to n a s) s.slots i;
    last = s.last;
    skipped = map f.acc s.skipped;
    taken = taken i;
    ops = s.ops + ops i;
  }
    where
      lists : give U (f.acc a) (got_u n a s) (map (on_row f) s.lists) ≡ map (on_row f) (give W a (got_w n a s) s.lists)
      lists = (λ i. give U (f.acc a) (got_on n a s i) (map (on_row f) s.lists)) ∙ give_on f F a (got_w n a s) s.lists

      taken : map f.msg s.taken ++ got_u n a s ≡ map f.msg (s.taken ++ got_w n a s)
      taken = (λ i. map f.msg s.taken ++ got_on n a s i) ∙ append_on f.msg s.taken (got_w n a s)

      ops : move_ops U (on_args f A) (has U (f.acc a) (map (on_row f) s.order)) (room U (on_args f A) n (on_state f s)) (at U (f.acc a) (map (on_row f) s.order)) (at U (f.acc a) (map (on_row f) s.lists)) ≡
          move_ops W A (has W a s.order) (room W A n s) (at W a s.order) (at W a s.lists)
      ops = (λ i. move_ops U (on_args f A) (has_on f F a s.order i) (room_on n s i) (at_on f F a s.order i) (at_on f F a s.lists i))
          ∙ move_ops_on (has W a s.order) (room W A n s) (at W a s.order) (at W a s.lists)

  try_on : (n : ℕ) (a : W.Acc) (s : State W) → try U (on_args f A) n (f.acc a) (on_state f s) ≡ on_state f (try W A n a s)
  unfolding try
  try_on n a s = pick (on_state f) (pass_over W A a (checked W A a s)) (move W A n a (checked W A a s)) (marked_on s.skipped a)
      (ap (pass_over U (on_args f A) (f.acc a)) (checked_on a s) ∙ pass_on a (checked W A a s))
      (ap (move U (on_args f A) n (f.acc a)) (checked_on a s) ∙ move_on n a (checked W A a s))

  meet_on : (n : ℕ) (a : W.Acc) (s : State W) → meet U (on_args f A) n (f.acc a) (on_state f s) ≡ on_state f (meet W A n a s)
  unfolding meet
  meet_on n a s = pick (on_state f) (pass_over W A a s) (try W A n a s) (has_on f F a s.lists) (pass_on a s) (try_on n a s)

  moves_on : (a : W.Acc) (s : State W) → moves U (on_args f A) (f.acc a) (on_state f s) ≡ moves W A a s
  unfolding moves
  moves_on a s = λ i. not (has_on f F a s.lists i) && not (marked_on s.skipped a i)

  -- ---- the first pass
  seek_on : (n : ℕ) (rest : List W.Acc) (s : State W) → seek U (on_args f A) n (map f.acc rest) (on_state f s) ≡ on_walked f (seek W A n rest s)
  unfolding seek
  seek_on n [] s = refl
  seek_on n (a ∷ rest) s = pick (on_walked f) (seek W A n rest t) (record { rest = rest; now = t })
      (ap (λ x. eqb (count_of U n x.slots) 0) (meet_on n a s) ∙ (λ i. eqb (count_of_on f F n t.slots i) 0))
      (ap (seek U (on_args f A) n (map f.acc rest)) (meet_on n a s) ∙ seek_on n rest t)
      (λ i. record { rest = map f.acc rest; now = meet_on n a s i })
    where
      t : State W
      t = meet W A n a s

  serve_on : (line : List ℕ) (rest : List W.Acc) (s : State W) → serve U (on_args f A) line (map f.acc rest) (on_state f s) ≡ on_walked f (serve W A line rest s)
  unfolding serve
  serve_on line [] s = refl
  serve_on [] (a ∷ rest) s = refl
  serve_on (n ∷ line) (a ∷ rest) s = (λ i. serve U (on_args f A) (cond (moves_on a s i) (cond (full i) line (line ++ (n ∷ []))) (n ∷ line)) (map f.acc rest) (meet_on n a s i))
      ∙ serve_on (cond (moves W A a s) (cond (is_full W A n (meet W A n a s)) line (line ++ (n ∷ []))) (n ∷ line)) rest (meet W A n a s)
    where
      full : is_full U (on_args f A) n (meet U (on_args f A) n (f.acc a) (on_state f s)) ≡ is_full W A n (meet W A n a s)
      full = ap (is_full U (on_args f A) n) (meet_on n a s) ∙ full_on n (meet W A n a s)

  opened_on : (n : ℕ) (s : State W) → opened U (on_args f A) n (on_state f s) ≡ on_state f (opened W A n s)
  unfolding opened
  opened_on n s = λ i. record {
    order = map (on_row f) s.order;
    lists = map (on_row f) s.lists;
    slots = append_on (on_slot f) s.slots (record { number = n; accounts = []; ints = 0; exts = 0 } ∷ []) i;
    last = some (max (at_least0 s.last) n);
    skipped = map f.acc s.skipped;
    taken = map f.msg s.taken;
    ops = s.ops;
  }

  closed_on : (n : ℕ) (s : State W) → closed U (on_args f A) n (on_state f s) ≡ on_state f (closed W A n s)
  unfolding closed
  closed_on n s = λ i. record {
    order = map (on_row f) s.order;
    lists = map (on_row f) s.lists;
    slots = keep_on (on_slot f) (λ x. not (eqb n x.number)) (λ x. not (eqb n x.number)) (λ x. refl) s.slots i;
    last = s.last;
    skipped = map f.acc s.skipped;
    taken = map f.msg s.taken;
    ops = s.ops;
  }

  first_on : (k n : ℕ) (line : List ℕ) (rest : List W.Acc) (s : State W) → first U (on_args f A) k n line (map f.acc rest) (on_state f s) ≡ on_walked f (first W A k n line rest s)
  unfolding first
  first_on zero n line rest s = serve_on line rest s
  first_on (suc k) n line rest s = pick (on_walked f) (record { rest = w.rest; now = closed W A n w.now }) (first W A k (suc n) next w.rest w.now)
      (ap (λ x. eqb (count_of U n x.now.slots) 0) sought ∙ (λ i. eqb (count_of_on f F n w.now.slots i) 0))
      ((λ i. record { rest = (sought i).rest; now = closed U (on_args f A) n (sought i).now }) ∙ (λ i. record { rest = map f.acc w.rest; now = closed_on n w.now i }))
      ((λ i. first U (on_args f A) k (suc n) (cond (is_full U (on_args f A) n (sought i).now) line (line ++ (n ∷ []))) (sought i).rest (sought i).now)
      ∙ (λ i. first U (on_args f A) k (suc n) (cond (full_on n w.now i) line (line ++ (n ∷ []))) (map f.acc w.rest) (on_state f w.now))
      ∙ first_on k (suc n) next w.rest w.now)
    where
      w : Walked W
      w = seek W A n rest (opened W A n s)

      next : List ℕ
      next = cond (is_full W A n w.now) line (line ++ (n ∷ []))

      sought : seek U (on_args f A) n (map f.acc rest) (opened U (on_args f A) n (on_state f s)) ≡ on_walked f w
      sought = ap (seek U (on_args f A) n (map f.acc rest)) (opened_on n s) ∙ seek_on n rest (opened W A n s)

  -- ---- the second pass
  own_on : (n : ℕ) (more : List W.Acc) (s : State W) → own U (on_args f A) n (map f.acc more) (on_state f s) ≡ on_state f (own W A n more s)
  unfolding own
  own_on n [] s = refl
  own_on n (a ∷ more) s = pick (on_state f) t (own W A n more t) (λ i. not (marked_on s.skipped a i) && full i) (try_on n a s)
      (ap (own U (on_args f A) n (map f.acc more)) (try_on n a s) ∙ own_on n more t)
    where
      t : State W
      t = try W A n a s

      full : is_full U (on_args f A) n (try U (on_args f A) n (f.acc a) (on_state f s)) ≡ is_full W A n t
      full = ap (is_full U (on_args f A) n) (try_on n a s) ∙ full_on n t

  reach_on : (n : ℕ) (rest : List W.Acc) (s : State W) → reach U (on_args f A) n (map f.acc rest) (on_state f s) ≡ on_walked f (reach W A n rest s)
  unfolding reach
  reach_on n [] s = refl
  reach_on n (a ∷ rest) s = pick (on_walked f) (record { rest = rest; now = t }) (reach W A n rest t) (λ i. moves_on a s i && full i)
      (λ i. record { rest = map f.acc rest; now = meet_on n a s i })
      (ap (reach U (on_args f A) n (map f.acc rest)) (meet_on n a s) ∙ reach_on n rest t)
    where
      t : State W
      t = meet W A n a s

      full : is_full U (on_args f A) n (meet U (on_args f A) n (f.acc a) (on_state f s)) ≡ is_full W A n t
      full = ap (is_full U (on_args f A) n) (meet_on n a s) ∙ full_on n t

  visit_on : (n : ℕ) (rest : List W.Acc) (s : State W) → visit U (on_args f A) n (map f.acc rest) (on_state f s) ≡ on_walked f (visit W A n rest s)
  unfolding visit
  visit_on n rest s = pick (on_walked f) (record { rest = rest; now = t }) (reach W A n rest t) (ap (is_full U (on_args f A) n) owned ∙ full_on n t)
      (λ i. record { rest = map f.acc rest; now = owned i })
      (ap (reach U (on_args f A) n (map f.acc rest)) owned ∙ reach_on n rest t)
    where
      t : State W
      t = own W A n (accounts_of W n s.slots) s

      owned : own U (on_args f A) n (accounts_of U n (map (on_slot f) s.slots)) (on_state f s) ≡ on_state f t
      owned = (λ i. own U (on_args f A) n (accounts_of_on f F n s.slots i) (on_state f s)) ∙ own_on n (accounts_of W n s.slots) s

  second_on : (entry : List (Slot W)) (ns : List ℕ) (rest : List W.Acc) (s : State W) →
      second U (on_args f A) (map (on_slot f) entry) ns (map f.acc rest) (on_state f s) ≡ on_walked f (second W A entry ns rest s)
  unfolding second
  second_on entry [] rest s = refl
  second_on entry (n ∷ ns) rest s = pick (on_walked f) (second W A entry ns (visit W A n rest s).rest (visit W A n rest s).now) (second W A entry ns rest s) (has_slot_on f F n entry)
      (ap (λ w. second U (on_args f A) (map (on_slot f) entry) ns w.rest w.now) (visit_on n rest s) ∙ second_on entry ns (visit W A n rest s).rest (visit W A n rest s).now)
      (second_on entry ns rest s)

  -- ---- the end
  sweep_on : (rest : List W.Acc) (s : State W) → sweep U (on_args f A) (map f.acc rest) (on_state f s) ≡ on_state f (sweep W A rest s)
  unfolding sweep
  sweep_on [] s = refl
  sweep_on (a ∷ rest) s = ap (sweep U (on_args f A) (map f.acc rest)) (pass_on a s) ∙ sweep_on rest (pass_over W A a s)

  pub to_open_on : (ss : List (Slot W)) → to_open U (on_args f A) (map (on_slot f) ss) ≡ to_open W A ss
  unfolding to_open
  to_open_on ss = λ i. A.asked - length_on (on_slot f) ss i

  pub listed_on : (index : List (List ℕ)) → listed U (on_args f A) index ≡ listed W A index
  unfolding listed
  listed_on index = refl

  entered_on : (b : Buffer W) (g : Group W) (skipped : List W.Acc) → entered U (on_args f A) (on_buffer f b) (on_group f g) (map f.acc skipped) ≡ on_state f (entered W A b g skipped)
  unfolding entered
  entered_on b g skipped = refl

  passes_on : (b : Buffer W) (g : Group W) (skipped : List W.Acc) → passes U (on_args f A) (on_buffer f b) (on_group f g) (map f.acc skipped) ≡ on_walked f (passes W A b g skipped)
  unfolding passes
  passes_on b g skipped =
      (λ i. second U (on_args f A) (map (on_slot f) g.slots) (listed_on g.index i) (w i).rest (w i).now)
      ∙ second_on g.slots (listed W A g.index) v.rest v.now
    where
      v : Walked W
      v = first W A (to_open W A g.slots) (at_least0 g.last + 1) [] (accounts W b.order) (entered W A b g skipped)

      w : first U (on_args f A) (to_open U (on_args f A) (map (on_slot f) g.slots)) (at_least0 g.last + 1) [] (accounts U (map (on_row f) b.order))
          (entered U (on_args f A) (on_buffer f b) (on_group f g) (map f.acc skipped)) ≡ on_walked f v
      w = (λ i. first U (on_args f A) (to_open_on g.slots i) (at_least0 g.last + 1) [] (accounts_on f F b.order i) (entered_on b g skipped i))
          ∙ first_on (to_open W A g.slots) (at_least0 g.last + 1) [] (accounts W b.order) (entered W A b g skipped)

  pub ended_on : (b : Buffer W) (g : Group W) (skipped : List W.Acc) → ended U (on_args f A) (on_buffer f b) (on_group f g) (map f.acc skipped) ≡ on_state f (ended W A b g skipped)
  unfolding ended
  ended_on b g skipped = ap (λ w. sweep U (on_args f A) w.rest w.now) (passes_on b g skipped) ∙ sweep_on (passes W A b g skipped).rest (passes W A b g skipped).now
