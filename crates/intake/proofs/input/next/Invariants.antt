-- `intake::input::next` meets its contract: all that is held of the input lies in the chunk. Assumes nothing.
use Rattle.std.proofs.Common.{◌≤◌, length}
use Rattle.intake.proofs.input.next.Given as goal

abbrev pub invariant-loop-n : goal.invariant-loop-n
invariant-loop-n l = l.reader.held ≤ length l.chunk
