-- `rosters::enlist` meets its contract: each turn lists one member more. Assumes nothing.
use mathlib.Core.Path.{◌≡◌, sym, ap, ◌∙◌}
use native.Mathlib.Omega.{arith}
use lib.ListN.{get_or}
use Rattle.rosters.proofs.Rosters.{listed_more}
use Rattle.rosters.proofs.enlist.Goals as goal

pub bounds-home-party : goal.bounds-home-party
bounds-home-party c = omega (arith, c.from-party.ensures, c.requires.by_index c.loop-g.g c.loop-g-test.true)

pub append-requires : goal.append-requires
append-requires c =
    let here = c.requires.by_index_2 c.loop-g.g c.loop-g-test.true in
    let e = c.from.ensures ∙ ap (λ p. get_or c.args.home.now p 0) c.from-party.ensures in
    (rw e here, omega (arith, c.loop-g-test.true, c.requires.from_le_to))

pub loop-g-preserved : goal.loop-g-preserved
loop-g-preserved c =
    let e = c.from.ensures ∙ ap (λ p. get_or c.args.home.now p 0) c.from-party.ensures in
    let here = c.requires.by_index_2 c.loop-g.g c.loop-g-test.true in
    rw c.append.ensures (listed_more c.loop-g.invariant (omega (arith, c.loop-g-test.true, c.requires.from_le_to)) (rw e here) (sym e))

pub returns : goal.returns
returns c =
    let z : c.loop-g.g ≡ c.args.to = omega (arith, c.loop-g-test.false, c.loop-g.auto.g-end c.requires.from_le_to.0) in
    rw z at c.loop-g.invariant
