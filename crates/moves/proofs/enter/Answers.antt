-- `moves::enter` meets its contract: each of its three returns is one branch of the rule on columns. Assumes nothing.
use Rattle.moves.specs.Moves.{homes}
use Rattle.moves.proofs.Branches.{place_has, place_none, place_enters, place_room}
use Rattle.moves.proofs.enter.Goals as goal

pub returns-then-home-party : goal.returns-then-home-party
returns-then-home-party c = place_has _ _ _ _ c.if-home-party.true

pub returns-then-got-eq0 : goal.returns-then-got-eq0
returns-then-got-eq0 c = place_none _ _ _ _ c.if-home-party.false c.if-got-eq0.true c.spend.ensures

pub bounds-member-tally : goal.bounds-member-tally
bounds-member-tally c = place_room _ (homes c.args.home.now c.args.member.now c.args.tally)
    c.told-home c.requires.home_bound c.requires.party_bound.0 c.if-home-party.false

pub returns : goal.returns
returns c = place_enters _ _ _ _ c.if-home-party.false c.if-got-eq0.false
