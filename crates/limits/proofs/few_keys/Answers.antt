-- `limits::few_keys` meets its contract: its test is the rule's, word for word. Assumes nothing.
use mathlib.Core.Path.{refl}
use Rattle.limits.proofs.few_keys.Goals as goal

pub returns : goal.returns
returns c = refl
