-- `meeting::meet` meets its contract: the branch that the party's home decides. Assumes nothing.
use Rattle.meeting.proofs.Branches.{meet_pass, meet_try}
use Rattle.meeting.proofs.meet.Goals as goal

pub pass_over-requires : goal.pass_over-requires
pass_over-requires c =
    record { rows_bound = c.requires.ready.good.store.rows_fit; linked = (c.requires.ready.linked, c.requires.party_bound.0) }

pub returns-then-home-party : goal.returns-then-home-party
returns-then-home-party c = meet_pass _ _ _ _ _ _ c.if-home-party.true c.pass_over.ensures

pub returns : goal.returns
returns c = meet_try _ _ _ _ _ _ c.if-home-party.false c.attempt.ensures
