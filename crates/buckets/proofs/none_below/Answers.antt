-- `buckets::none_below` meets its contract: the buckets passed are empty, so what is left is looked at (proofs/Below.antt). Assumes nothing.
use native.Mathlib.Omega.{arith}
use lib.Dec.{ltb}
use borrow.Author.Rules.{rules}
use borrow.Author.Tests.{ltb-true, ltb-false}
use Rattle.numbers.proofs.Bytes.{by_bool}
use Rattle.buckets.proofs.Below.{pass_start, pass_step, pass_found, pass_end, pass_all}
use Rattle.buckets.proofs.none_below.Goals as goal

pub loop-c-init : goal.loop-c-init
loop-c-init c = pass_start _ _

pub returns-then-buckets-c-lt-NONE : goal.returns-then-buckets-c-lt-NONE
returns-then-buckets-c-lt-NONE c =
    pass_found c.loop-c.invariant (search rules) (omega arith) (omega arith) c.if-buckets-c-lt-NONE.true

pub loop-c-preserved : goal.loop-c-preserved
loop-c-preserved c =
    pass_step c.loop-c.invariant (search rules) (omega arith) (omega arith) c.if-buckets-c-lt-NONE.false

pub returns : goal.returns
returns c =
    let h = c.args.height in
    by_bool (ltb h 17)
    (λ t. pass_end c.loop-c.invariant (omega (arith, ltb-true h 17 t)))
    (λ f. pass_all c.loop-c.invariant (omega (arith, ltb-false h 17 f)))
