-- `words::cut::first` meets its contract: the loop passes over the bytes that the test lets pass (proofs/Passing.antt). Assumes nothing.
use Rattle.words.proofs.Passing.{pass_step, pass_found, pass_start, pass_end}
use Rattle.words.proofs.cut.first.Goals as goal

pub loop-i-init : goal.loop-i-init
loop-i-init g c = λ passed tells. pass_start passed _ _

pub returns-then-test : goal.returns-then-test
returns-then-test g c = λ passed tells. pass_found passed _ _ (c.loop-i.invariant passed tells) c.loop-i-test.true (tells _ _ c.if-test.ensures)

pub loop-i-preserved : goal.loop-i-preserved
loop-i-preserved g c = λ passed tells. pass_step passed _ _ (c.loop-i.invariant passed tells) c.loop-i-test.true (tells _ _ c.if-test.ensures)

pub returns : goal.returns
returns g c = λ passed tells. pass_end passed _ _ (c.loop-i.invariant passed tells) c.loop-i-test.false
