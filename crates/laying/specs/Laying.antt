-- What it takes to lay one column over another: the cells that are read, and the room that they are written to. Assumes nothing.
use Rattle.std.specs.Prelude.{ℕ, ◌+◌, ◌≤◌}

-- n cells can be laid over a column of this size from `to` on
pub record Lays (to n from size : ℕ) : Type 0 where
  pub source : n ≤ from
  pub target : to + n ≤ size
