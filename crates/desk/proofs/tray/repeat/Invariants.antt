-- `desk::tray::repeat` meets its contract: each turn leaves a well formed tray, and the key list its room. Assumes nothing.
use Rattle.desk.specs.Desks.{GoodTray, KeyRoom}
use Rattle.desk.proofs.tray.repeat.Given as goal

abbrev pub invariant-loop : goal.invariant-loop
invariant-loop l = GoodTray l.t × KeyRoom l.lts l.hashes
