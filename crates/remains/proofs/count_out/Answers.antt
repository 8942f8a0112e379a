-- `remains::count_out` meets its contract: what went is the messages before without those left, and the internals lose as many; then the
-- index is made anew. Assumes nothing.
use mathlib.Core.Path.{◌∙◌}
use Rattle.queues.specs.Compact.{left_numbers}
use Rattle.remains.proofs.count_out.Goals as goal

pub returns : goal.returns
unfolding left_numbers
returns c =
    c.rebuild.ensures ∙ rw (c.less-ints.ensures, c.less-went.ensures)
