-- `desk::shelf::joined` meets its contract: each turn leaves two well formed groups, joined once more. Assumes nothing.
use native.Mathlib.Omega.{arith}
use Rattle.desk.proofs.Shelves.{join_first, join_more, join_same}
use Rattle.desk.proofs.shelf.joined.Goals as goal

pub loop-count-init : goal.loop-count-init
loop-count-init c = record { good = c.join-j.ensures.good; within = omega arith; joined = join_first _ _ _ _ _ c.join-j.ensures }

pub loop-count-preserved : goal.loop-count-preserved
loop-count-preserved c =
    let v = c.loop-count.invariant in
    let j = c.join-j-in-loop-count.ensures in
    record { good = j.good; within = omega arith; joined = join_more _ _ _ _ _ _ _ _ _ _ (omega arith) v.joined j }

pub returns : goal.returns
returns c =
    let v = c.loop-count.invariant in
    record { good = v.good; joined = join_same _ _ _ _ _ _ _ (omega arith) v.joined }
