-- `arrivals::more` meets its contract: by the test. Assumes nothing.
use Rattle.arrivals.proofs.more.Goals as goal

pub returns-then-test : goal.returns-then-test
returns-then-test c = rw c.if-test.true
