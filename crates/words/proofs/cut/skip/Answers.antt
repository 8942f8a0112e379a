-- `words::cut::skip` meets its contract: its test lets pass what it says. Assumes nothing.
use Rattle.std.proofs.Common.{rules}
use lib.Dec.{eqb}
use Rattle.words.proofs.cut.skip.Goals as goal

pub returns : goal.returns
returns c = c.first.ensures (λ x. eqb x c.args.b) (λ b r e. search rules)
