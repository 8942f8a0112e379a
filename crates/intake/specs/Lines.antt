-- When a run can go on, and what taking a line leaves. Assumes nothing.
use Rattle.std.specs.Prelude.{◌≡◌, ℕ, ◌+◌, ◌<◌, ◌≤◌}
use Rattle.intake.specs.declared.orders.Course.{Course}

-- the lines can be counted on, and all that is held of the input lies in the chunk
pub record Goes (c : Course) (room : ℕ) : Type 0 where
  pub counted : c.number < 18446744073709551615
  pub within : c.reader.held ≤ room

-- one more line is counted
pub record Taking (c after : Course) (room : ℕ) : Type 0 where
  pub counted : after.number ≡ c.number + 1
  pub within : after.reader.held ≤ room
