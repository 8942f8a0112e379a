-- `desk::buffer::repeat` meets its contract: each turn leaves a well formed buffer. Assumes nothing.
use Rattle.lintelsong.specs.Closed.{GoodBuffer}
use Rattle.desk.proofs.buffer.repeat.Given as goal

abbrev pub invariant-loop : goal.invariant-loop
invariant-loop l = GoodBuffer l.a.buffer
