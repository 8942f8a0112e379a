-- `numbered::homes_of` meets its contract: the parties of the group's accounts are parties, so each has a home's cell (proofs/Members.antt).
-- Assumes nothing.
use native.Mathlib.Omega.{arith}
use Rattle.works.specs.Begin.{accounts}
use Rattle.numbered.proofs.Members.{member_low}
use Rattle.numbered.proofs.Parts.{homes_are}
use Rattle.numbered.proofs.homes_of.Goals as goal

pub house-requires : goal.house-requires
house-requires c =
    let a = c.args in
    let p = c.requires in
    let given = accounts a.order.now a.places a.group.now a.homes.now a.members in
    let e = c.number_members.ensures in
    record {
      n_in_bounds = (omega (arith, p.members_fit), omega (arith, p.members_fit));
      by_index = member_low given p _ e;
    }

pub returns : goal.returns
returns c =
    let a = c.args in
    homes_are (accounts a.order.now a.places a.group.now a.homes.now a.members) _ _ c.number_members.ensures c.house.ensures
