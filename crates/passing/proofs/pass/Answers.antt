-- `passing::pass` meets its contract: the entry's columns, then the passes on them (proofs/Passes.antt). Assumes nothing.
use Rattle.passing.proofs.Passes.{may_run, ran}
use Rattle.passing.proofs.pass.Goals as goal

pub run-requires : goal.run-requires
run-requires c = may_run c.requires _ c.begin-work.ensures

pub returns : goal.returns
returns c = ran c.requires _ c.begin-work.ensures _ c.run.ensures
