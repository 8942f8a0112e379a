-- What the loop of `sweep` keeps. See Answers.antt.
use mathlib.Core.Path.{◌≡◌}
use lib.ListN.{length}
use Rattle.columns.proofs.Scans.{scan}
use Rattle.meaning.specs.Passes.{sweep_owners, sweep_cell}
use Rattle.ending.proofs.sweep.Given as goal

abbrev pub invariant-loop-i : goal.invariant-loop-i
invariant-loop-i l =
    (length l.owner ≡ 1024) × (scan (sweep_cell l.plan l.from l.to) l.rows l.i l.owner ≡ sweep_owners l.plan l.rows l.from l.to l.initial.owner)
