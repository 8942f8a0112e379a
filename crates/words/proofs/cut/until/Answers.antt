-- `words::cut::until` meets its contract: its test lets pass what it says. Assumes nothing.
use Rattle.std.proofs.Common.{rules, not}
use lib.Dec.{eqb}
use Rattle.words.proofs.cut.until.Goals as goal

pub returns : goal.returns
returns c = c.first.ensures (λ x. not (eqb x c.args.b)) (λ b r e. search rules)
