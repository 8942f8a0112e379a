-- What the loop of `some_above` keeps. See Answers.antt.
use mathlib.Core.Path.{◌≡◌}
use lib.ListN.{take}
use Rattle.over_height.specs.Heights.{some_above}
use Rattle.over_height.proofs.Looks.{Left}
use Rattle.over_height.proofs.some_above.Given as goal

abbrev pub invariant-loop-x : goal.invariant-loop-x
invariant-loop-x l =
    (Left l.height l.number l.ints l.exts l.slots l.listed l.count l.x-index ≡ some_above l.height l.number l.ints l.exts l.slots (take l.count l.listed))
