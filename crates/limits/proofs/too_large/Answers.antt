-- `limits::too_large` meets its contract: each way out rewrites by its test. Assumes nothing.
use mathlib.Core.Path.{◌≡◌, refl}
use mathlib.Core.Bool.{true, false}
use lib.Dec.{ltb}
use borrow.Author.Tests.{lt-ltb, le-ltb}
use Rattle.limits.specs.Limits.{too_large}
use Rattle.limits.proofs.too_large.Goals as goal

pub returns-then-asked-most : goal.returns-then-asked-most
unfolding too_large
returns-then-asked-most c =
    let a = c.args in
    let p : ltb a.most a.asked ≡ true = lt-ltb _ _ c.if-asked-most.true in
    rw p

pub returns-else-asked-most : goal.returns-else-asked-most
unfolding too_large
returns-else-asked-most c =
    let a = c.args in
    let p : ltb a.most a.asked ≡ false = le-ltb _ _ c.if-asked-most.false in
    rw p refl
