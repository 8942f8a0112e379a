-- `replay::lines` is safe and ends: each command leaves all that it goes to well formed, every lent room keeps its length, and the lines are
-- counted. Assumes nothing.
use mathlib.Core.Path.{◌≡◌}
use Prim.Native.Nat.{◌-◌, ◌≤◌}
use lib.ListN.{length}
use Rattle.replay.specs.Runs.{Ready}
use Rattle.replay.proofs.lines.Given as goal

abbrev pub invariant-loop-b : goal.invariant-loop-b
invariant-loop-b l =
    Ready l.b l.s l.t l.lts l.hashes × (l.c.reader.held ≤ length l.chunk) × (length l.chunk ≡ length l.initial.chunk) × (length l.line ≡ length l.initial.line)
    × (length l.numbers ≡ length l.initial.numbers) × (length l.page ≡ length l.initial.page) × (length l.lts ≡ length l.initial.lts) × (length l.hashes ≡ length l.initial.hashes)

abbrev pub decreases-loop-b : goal.decreases-loop-b
decreases-loop-b l =
    18446744073709551615 - l.c.number
