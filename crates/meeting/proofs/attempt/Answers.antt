-- `meeting::attempt` meets its contract: a check, then the branch that the mark decides; the check leaves what a move needs well formed.
-- Assumes nothing.
use mathlib.Core.Path.{sym, ◌∙◌}
use Rattle.meeting.proofs.Branches.{try_pass, try_move, check_store}
use Rattle.meeting.proofs.attempt.Goals as goal

pub check-checked-requires : goal.check-checked-requires
check-checked-requires c =
    record { good_marks = c.requires.ready.good.marks; party_bound = c.requires.party_bound.0 }

pub pass_over-requires : goal.pass_over-requires
pass_over-requires c =
    record { rows_bound = c.requires.ready.good.store.rows_fit; linked = (c.requires.ready.linked, c.requires.party_bound.0) }

pub returns-then-skip : goal.returns-then-skip
returns-then-skip c =
    try_pass _ _ _ _ _ _ (sym c.skips-skip.ensures ∙ c.if-skip.true)
    c.check-checked.ensures
    c.pass_over.ensures

pub move_to-requires : goal.move_to-requires
move_to-requires c =
    let store = check_store c.args.plan.now c.args.cost.now c.args.fixed c.args.slot c.args.party _ c.requires.ready
    c.check-checked.ensures in
    record { good_store = store; party_bound = c.requires.party_bound; linked = c.requires.ready.linked }

pub returns : goal.returns
returns c =
    try_move _ _ _ _ _ _ (sym c.skips-skip.ensures ∙ c.if-skip.false)
    c.check-checked.ensures
    c.move_to.ensures
