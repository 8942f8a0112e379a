-- `desk::fill::repeated` meets its contract: each turn leaves a well formed buffer, group and tray, and the key list its room. Assumes nothing.
use Rattle.lintelsong.specs.Closed.{GoodBuffer, GoodGroup}
use Rattle.desk.specs.Desks.{GoodTray, KeyRoom}
use Rattle.desk.specs.Shelves.{Laid}
use Rattle.desk.proofs.fill.repeated.Given as goal

abbrev pub invariant-loop : goal.invariant-loop
invariant-loop l = (GoodBuffer l.b × GoodGroup l.g × GoodTray l.t × KeyRoom l.lts l.hashes) × Laid l.fn.t l.t
