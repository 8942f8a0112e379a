-- `rosters::append` meets its contract: the cell that names the newcomer is one of the roster, and both stores are those of `appended`.
-- Assumes nothing.
use native.Mathlib.Omega.{arith}
use Rattle.rosters.specs.Rosters.{appended}
use Rattle.rosters.proofs.Rosters.{behind_low}
use Rattle.rosters.proofs.append.Goals as goal

pub offset_bounds-roster-cell : goal.offset_bounds-roster-cell
offset_bounds-roster-cell c = omega (arith, c.behind_last-cell.ensures, behind_low c.args.roster.now c.args.slot c.requires.0)

pub bounds-roster-cell : goal.bounds-roster-cell
bounds-roster-cell c =
    omega (arith, c.behind_last-cell.ensures, behind_low c.args.roster.now c.args.slot c.requires.0)

pub returns : goal.returns
unfolding appended
returns c = rw c.behind_last-cell.ensures
