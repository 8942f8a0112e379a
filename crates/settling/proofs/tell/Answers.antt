-- `settling::tell` meets its contract: the keys, then the set. Assumes nothing.
use mathlib.Core.Path.{refl}
use native.Mathlib.Omega.{arith}
use Rattle.settling.proofs.tell.Goals as goal

pub join_set-requires : goal.join_set-requires
join_set-requires c = c.requires.joins

pub overflow_add-held : goal.overflow_add-held
overflow_add-held c = omega (arith, c.requires.joins.fits)

pub returns : goal.returns
returns c = record { keys = c.keys-ints.ensures; set_is = c.join_set.ensures; held_is = refl }
