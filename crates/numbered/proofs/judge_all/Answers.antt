-- `numbered::judge_all` meets its contract: the order's accounts are judged, then the group's. Assumes nothing.
use native.Mathlib.Omega.{arith}
use Rattle.entry.specs.Entry.{sayings}
use Rattle.numbered.proofs.Parts.{judged_are}
use Rattle.numbered.proofs.judge_all.Goals as goal

pub judge_group-requires : goal.judge_group-requires
judge_group-requires c =
    record { spoken = c.requires.spoken; members_in_bounds = (omega arith, c.requires.few.1) }

pub returns : goal.returns
returns c =
    let a = c.args in
    judged_are (sayings a.set.now a.k a.names.now a.verdicts.now a.costs.now a.n a.default) a.order.now a.places a.group.now a.members a.member.now
    c.judge_order.ensures _ _ c.judge_group.ensures
