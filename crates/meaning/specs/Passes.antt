-- The first pass with its waiting line, the second pass and the end on columns, as the routines do them: each stands beside the rule of its
-- name, which ends in C here. Assumes nothing.
use Rattle.std.specs.Prelude.{Bool, false, cond, List, [], ◌∷◌, ◌++◌, ℕ, zero, suc, ◌+◌, ◌-◌, eqb, leb, ltb, get_or, take, drop, set}
use Rattle.columns.specs.Lists.{map_i, count_i}
use Rattle.moves.specs.declared.Fixed.{Fixed}
use Rattle.moves.specs.Moves.{gone, with_tally, costs}
use Rattle.meaning.specs.Meaning.{Columns, columns_of, with_owner}
use Rattle.meaning.specs.Walks.{WalkC, walk, held_c, moves_c, full_c, meet_c, seek_c, visit_c}

-- the line that stands in a column from head to back
abbrev pub line_in : List ℕ → (head back : ℕ) → List ℕ
line_in ls h t = drop h (take t ls)

-- a slot waits, and an account is left to be met
abbrev pub waits : (at places head back : ℕ) → Bool
waits at places head back = cond (ltb at places) (ltb head back) false

-- the position of the slot numbered x among the r from j on, the one behind them if there is none
unfoldable pub position_from : List ℕ → (x r j : ℕ) → ℕ
position_from numbers x zero j = j
position_from numbers x (suc r) j =
    let on = position_from numbers x r (j + 1) in
    cond (eqb (get_or numbers j 0) x) j on

-- what the passes leave: where the walk stopped, the slots' numbers, how many slots there are, and the last number
pub record PassedC : Type 0 where
  pub run : WalkC
  pub number : List ℕ
  pub slots : ℕ
  pub last : ℕ

abbrev pub passed_c : WalkC → List ℕ → (slots last : ℕ) → PassedC
passed_c w numbers slots last = record { run = w; number = numbers; slots = slots; last = last }

-- what a fill leaves: the columns, the slots' numbers, how many slots there are, the last number, and how many messages were dropped
pub record RanC : Type 0 where
  pub now : Columns
  pub number : List ℕ
  pub slots : ℕ
  pub last : ℕ
  pub dropped : ℕ

abbrev pub ran_c : Columns → List ℕ → (slots last dropped : ℕ) → RanC
ran_c m numbers slots last d = record { now = m; number = numbers; slots = slots; last = last; dropped = d }

-- how many of n rows have a place below a as owner: the rows that are still held
unfoldable pub left_c : (n a : ℕ) → List ℕ → ℕ
left_c n a os = count_i (λ i o. ltb o a) n 0 os

-- a row of owner o and class k is a droppable one of a place from i to below a
abbrev pub lapsed_from : (i a o k : ℕ) → Bool
lapsed_from i a o k = cond (eqb k 2) (cond (leb i o) (ltb o a) false) false

abbrev pub sweep_cell : (class : List ℕ) → (i a q o : ℕ) → ℕ
sweep_cell class i a q o = cond (lapsed_from i a o (get_or class q 0)) gone o

unfoldable pub sweep_owners : (class : List ℕ) → (n i a : ℕ) → List ℕ → List ℕ
sweep_owners class n i a os = map_i (sweep_cell class i a) n 0 os

module _ (class cost : List ℕ) (f : Fixed) where
  -- the waiting line: positions of slots; r places are left, from i on
  unfoldable pub serve_c : (line : List ℕ) → (r i : ℕ) → Columns → WalkC
  serve_c line zero i m = walk i m
  serve_c [] (suc r) i m = walk i m
  serve_c (j ∷ line) (suc r) i m =
      let t = meet_c class cost f j i m in
      serve_c (cond (moves_c i m) (cond (full_c f.height (held_c j t)) line (line ++ (j ∷ []))) (j ∷ line)) r (i + 1) t

  -- k slots are still to be opened; a slot opened stands at the position behind the others, and has the number behind the last
  unfoldable pub first_c : (k : ℕ) → (line numbers : List ℕ) → (slots last i : ℕ) → Columns → PassedC
  first_c zero line numbers slots last i m = passed_c (serve_c line (f.places - i) i m) numbers slots last
  first_c (suc k) line numbers slots last i m =
      let w = seek_c class cost f slots (f.places - i) i m in
      let more = set numbers slots (last + 1) in
      let go =
      first_c k (cond (full_c f.height (held_c slots w.now)) line (line ++ (slots ∷ []))) more (slots + 1) (last + 1) w.at
      w.now in
      cond (eqb (held_c slots w.now) 0) (passed_c w (set more slots 0) slots (last + 1)) go

  -- the listed numbers; `entry` slots stood at entry
  unfoldable pub second_c : (numbers : List ℕ) → (entry : ℕ) → (listed : List ℕ) → (i : ℕ) → Columns → WalkC
  second_c numbers entry [] i m = walk i m
  second_c numbers entry (x ∷ xs) i m =
      let j = position_from numbers x entry 0 in
      let w = visit_c class cost f j i m in
      let go = second_c numbers entry xs w.at w.now in
      let past = second_c numbers entry xs i m in
      cond (ltb j entry) go past

  abbrev pub swept_c : WalkC → WalkC
  swept_c w =
      walk w.at (columns_of (with_owner w.now.store (sweep_owners class f.rows w.at f.places w.now.store.owner))
      w.now.mark w.now.joined)

  -- after the first pass: the second over the slots that stood at entry, and the rest of the order passed over
  unfoldable pub rest_c : (entry : ℕ) → (listed : List ℕ) → PassedC → PassedC
  rest_c entry xs a = passed_c (swept_c (second_c a.number entry xs a.run.at a.run.now)) a.number a.slots a.last

  -- "One operation per account now in the order"; what is neither held nor taken was dropped
  unfoldable pub end_c : PassedC → RanC
  end_c a =
      let s = a.run.now.store in
      ran_c (columns_of (with_tally s (costs s.tally f.places)) a.run.now.mark a.run.now.joined) a.number a.slots
      a.last (f.rows - left_c f.rows f.places s.owner - s.tally.taken)

  -- a fill between its entry and the update of the index: k slots are to be opened
  unfoldable pub run_c : (k : ℕ) → (listed numbers : List ℕ) → (slots last : ℕ) → Columns → RanC
  run_c k xs numbers slots last m = end_c (rest_c slots xs (first_c k [] numbers slots last 0 m))
