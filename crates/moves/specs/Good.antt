-- Well-formed columns: each has its length, and what may still be pushed onto one fits there. Assumes nothing.
use Rattle.std.specs.Prelude.{◌≡◌, List, [], ◌∷◌, Bool, cond, ℕ, ◌+◌, ◌≤◌, ◌<◌, length, eqb}
use Rattle.columns.specs.Lists.{count_i}
use Rattle.columns.specs.Laid.{is_place}
use Rattle.moves.specs.declared.Fixed.{Fixed}
use Rattle.moves.specs.Moves.{Store, Marks, held_at, nowhere}

-- how many numbers of a list pass a test
abbrev pub many : (ℕ → Bool) → List ℕ → ℕ
many h [] = 0
many h (x ∷ xs) = cond (h x) 1 0 + many h xs

-- a row that is still in a queue
abbrev pub live : ℕ → ℕ → Bool
live i o = is_place o

-- each party that may yet join the skipped set has a cell left for it
pub record GoodMarks (m : Marks) : Type 0 where
  pub mark_long : length m.mark ≡ 1280
  pub joined_long : length m.joined ≡ 1280
  pub joins : m.tally.joined + many (eqb 1) m.mark ≤ 1280

-- each row that may yet be taken, and each party that may yet enter the group, has a cell left for it
pub record GoodStore (f : Fixed) (s : Store) : Type 0 where
  pub owner_long : length s.owner ≡ 1024
  pub taken_long : length s.taken ≡ 1024
  pub home_long : length s.home ≡ 1280
  pub member_long : length s.member ≡ 1280
  pub ints_long : length s.ints ≡ 64
  pub exts_long : length s.exts ≡ 64
  pub rows_fit : f.rows ≤ 1024
  pub places_fit : f.places ≤ 256
  pub height_fit : f.height ≤ 16
  pub small : (j : ℕ) → j < 64 → held_at s.ints s.exts j ≤ 16
  pub takes : s.tally.taken + count_i live f.rows 0 s.owner ≤ f.rows
  pub enters : s.tally.accounts + many (eqb nowhere) s.home ≤ 1280
