-- `moves::check` meets its contract: each of its three returns is one branch of the rule on columns. Assumes nothing.
use Rattle.moves.proofs.Branches.{check_in, check_joins, check_out, join_room}
use Rattle.moves.proofs.check.Goals as goal

pub returns-then-m-eq2 : goal.returns-then-m-eq2
returns-then-m-eq2 c = check_in _ _ _ c.if-m-eq2.true c.spend.ensures

pub bounds-joined-tally : goal.bounds-joined-tally
bounds-joined-tally c = join_room _ _ c.requires.good_marks c.requires.party_bound c.if-m-eq1.true

pub returns-then-m-eq1 : goal.returns-then-m-eq1
returns-then-m-eq1 c = check_joins _ _ _ c.if-m-eq1.true c.spend-spent.ensures

pub returns : goal.returns
returns c = check_out _ _ _ c.if-m-eq2.false c.if-m-eq1.false c.spend-spent.ensures
