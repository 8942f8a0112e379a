-- `sections::read_skips` meets its contract: its limits are those of the section. Assumes nothing.
use Rattle.sheet_rules.specs.Sheet.{skip_limits}
use Rattle.sections.proofs.read_skips.Goals as goal

pub returns : goal.returns
unfolding skip_limits
returns c = c.read_section.ensures
