-- The walks on columns, as the routines do them: each stands beside the rule of its name, which ends in C here. Assumes nothing.
use Rattle.std.specs.Prelude.{◌≡◌, Bool, true, false, cond, not, List, ℕ, zero, suc, ◌+◌, ◌-◌, ◌<◌, eqb, leb, length, get_or}
use Rattle.moves.specs.declared.Fixed.{Fixed}
use Rattle.moves.specs.Moves.{nowhere, held_at}
use Rattle.moves.specs.Good.{GoodMarks, GoodStore}
use Rattle.moves.specs.Linked.{Linked}
use Rattle.meaning.specs.Meaning.{Columns, marks_of, check_c, pass_c, move_c}

-- well-formed columns
pub record Good (f : Fixed) (cost : List ℕ) (m : Columns) : Type 0 where
  pub store : GoodStore f m.store
  pub marks : GoodMarks (marks_of m)
  pub cost_long : length cost ≡ 1280
  pub parties : (g : ℕ) → g < m.store.tally.accounts → get_or m.store.member g 0 < 1280
  -- the home of a member is a slot
  pub homes : (g : ℕ) → g < m.store.tally.accounts → get_or m.store.home (get_or m.store.member g 0) 0 < 64

-- and a plan that chains their queues: what the routines need
pub record Ready (f : Fixed) (plan cost : List ℕ) (m : Columns) : Type 0 where
  pub good : Good f cost m
  pub linked : Linked plan f.rows m.store.owner

-- a mark that says skip
abbrev pub says_skip : ℕ → Bool
says_skip v = cond (eqb v 1) true (eqb v 2)

abbrev pub skip_c : ℕ → Columns → Bool
skip_c p m = says_skip (get_or m.mark p 0)

-- the party is not in the group
abbrev pub free_c : ℕ → Columns → Bool
free_c p m = eqb (get_or m.store.home p 0) nowhere

-- the account that the walk meets is moved
unfoldable pub moves_at : (home mark : List ℕ) → ℕ → Bool
moves_at home mark p = cond (eqb (get_or home p 0) nowhere) (not (says_skip (get_or mark p 0))) false

abbrev pub moves_c : ℕ → Columns → Bool
moves_c p m = moves_at m.store.home m.mark p

-- how many messages the slot at j holds
abbrev pub held_c : ℕ → Columns → ℕ
held_c j m = held_at m.store.ints m.store.exts j

unfoldable pub full_c : (height held : ℕ) → Bool
full_c height held = leb height held

-- where a walk stopped: the next place, and the columns
pub record WalkC : Type 0 where
  pub at : ℕ
  pub now : Columns

abbrev pub walk : ℕ → Columns → WalkC
walk i m = record { at = i; now = m }

-- j is the position of the slot
module _ (class cost : List ℕ) (f : Fixed) where
  unfoldable pub try_c : (j p : ℕ) → Columns → Columns
  try_c j p m = cond (skip_c p m) (pass_c class f p (check_c cost p m)) (move_c class f p j (check_c cost p m))

  unfoldable pub meet_c : (j p : ℕ) → Columns → Columns
  meet_c j p m = cond (free_c p m) (try_c j p m) (pass_c class f p m)

  -- r places are left, from i on
  unfoldable pub seek_c : (j r i : ℕ) → Columns → WalkC
  seek_c j zero i m = walk i m
  seek_c j (suc r) i m =
      let t = meet_c j i m in
      let go = seek_c j r (i + 1) t in
      cond (eqb (held_c j t) 0) go (walk (i + 1) t)

  unfoldable pub reach_c : (j r i : ℕ) → Columns → WalkC
  reach_c j zero i m = walk i m
  reach_c j (suc r) i m =
      let t = meet_c j i m in
      let go = reach_c j r (i + 1) t in
      cond (cond (moves_c i m) (full_c f.height (held_c j t)) false) (walk (i + 1) t) go

  -- r members of the group are left, from g on
  unfoldable pub own_c : (j r g : ℕ) → Columns → Columns
  own_c j zero g m = m
  own_c j (suc r) g m =
      let p = get_or m.store.member g 0 in
      let t = try_c j p m in
      let go = own_c j r (g + 1) t in
      let on = own_c j r (g + 1) m in
      cond (eqb (get_or m.store.home p 0) j) (cond (cond (not (skip_c p m)) (full_c f.height (held_c j t)) false) t go) on

  unfoldable pub visit_c : (j i : ℕ) → Columns → WalkC
  visit_c j i m =
      let o = own_c j m.store.tally.accounts 0 m in
      let go = reach_c j (f.places - i) i o in
      cond (full_c f.height (held_c j o)) (walk i o) go
