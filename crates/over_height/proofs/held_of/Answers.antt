-- `over_height::held_of` meets its contract: each way out rewrites by its test. Assumes nothing.
use mathlib.Core.Path.{sym, ap₂}
use Prim.Native.Nat.{◌+◌}
use borrow.Author.Tests.{lt-ltb, le-ltb}
use Rattle.over_height.specs.Heights.{held_of}
use Rattle.over_height.proofs.held_of.Goals as goal

pub returns-then-at-slots : goal.returns-then-at-slots
unfolding held_of
returns-then-at-slots c =
    rw (sym c.position_of-at.ensures, lt-ltb _ _ c.if-at-slots.true) (ap₂ ◌+◌ c.from.ensures c.from-then-at-slots.ensures)

pub returns : goal.returns
unfolding held_of
returns c = rw (sym c.position_of-at.ensures, le-ltb _ _ c.if-at-slots.false)
