-- `sections::read_fills` meets its contract: its limits are those of the section. Assumes nothing.
use Rattle.sheet_rules.specs.Sheet.{fill_limits}
use Rattle.sections.proofs.read_fills.Goals as goal

pub returns : goal.returns
unfolding fill_limits
returns c = c.read_section.ensures
