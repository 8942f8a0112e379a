-- `limits::many_skips` meets its contract: each way out rewrites by its test. Assumes nothing.
use mathlib.Core.Path.{◌≡◌, refl, ◌∙◌}
use mathlib.Core.Bool.{true, false}
use native.Mathlib.Omega.{arith}
use lib.Dec.{ltb}
use borrow.Author.Tests.{lt-ltb, le-ltb}
use Rattle.limits.specs.Limits.{skips_in, many_skips}
use Rattle.limits.proofs.Counting.{counted, counted_few}
use Rattle.limits.proofs.many_skips.Goals as goal

pub returns-then-rows-gt256 : goal.returns-then-rows-gt256
unfolding many_skips
returns-then-rows-gt256 c = let p : ltb 256 c.args.rows ≡ true = lt-ltb 256 _ c.if-rows-gt256.true in rw p

pub overflow_add-result : goal.overflow_add-result
overflow_add-result c =
    omega (arith, c.if-rows-gt256.false, c.requires.1, c.skips.ensures, counted_few c.args.rows _ c.requires.0)

pub returns : goal.returns
unfolding many_skips
returns c =
    let a = c.args in
    let p : ltb 256 a.rows ≡ false = le-ltb 256 _ c.if-rows-gt256.false in
    let q : c.skips.result ≡ skips_in a.rows a.verdicts.now = c.skips.ensures ∙ counted _ _ c.requires.0 in
    rw (p, q) refl
