-- What the loop of `put_row` keeps. See Answers.antt.
use Prim.Native.Nat.{◌*◌}
use Rattle.columns.proofs.Lays.{Laying}
use Rattle.rows.proofs.put_row.Given as goal

abbrev pub invariant-loop-k : goal.invariant-loop-k
invariant-loop-k l = Laying l.x (32 * l.i) 32 l.initial.col l.col l.k
