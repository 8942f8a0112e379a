-- `takes::pass_over` meets its contract: what is passed, as it is, with what the rest of the scan makes of the rest, stays what the whole
-- scan makes of the owners at entry; the rows that the chain leaves out are not the party's. Assumes nothing.
use mathlib.Core.Path.{sym, ◌∙◌}
use native.Mathlib.Omega.{arith}
use Rattle.moves.proofs.Chains.{above, pass_start, pass_end, pass_drops, pass_stays}
use Rattle.takes.proofs.pass_over.Goals as goal
use Rattle.takes.proofs.pass_over.Goals.{else-lapsed, then-lapsed}

pub loop-i-init : goal.loop-i-init
loop-i-init c =
    pass_start c.requires.rows_bound c.requires.linked.1 c.told-owner c.requires.linked.0 c.first_of-i.ensures

pub loop-i-smaller : goal.loop-i-smaller
loop-i-smaller c =
    let here = c.loop-i-test.true in
    omega (arith, above c.loop-i.invariant.along here c.next_of-i.ensures, here)

pub loop-i-preserved : goal.loop-i-preserved
loop-i-preserved c =
    let here = c.loop-i-test.true in
    let f = sym c.lapsed.ensures in
    elim c.if-lapsed.branch [
      | then-lapsed w ↦ rw w.owner-is (pass_drops c.requires.rows_bound c.requires.linked.1 c.loop-i.invariant here c.next_of-i.ensures (f ∙ w.if-lapsed.true))
      | else-lapsed w ↦ rw w.owner-is (pass_stays c.requires.rows_bound c.requires.linked.1 c.loop-i.invariant here c.next_of-i.ensures (f ∙ w.if-lapsed.false))
    ]

pub returns : goal.returns
returns c =
    pass_end c.requires.rows_bound c.requires.linked.1 c.loop-i.invariant (omega (arith, c.loop-i-test.false))
