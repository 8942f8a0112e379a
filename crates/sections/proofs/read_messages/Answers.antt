-- `sections::read_messages` meets its contract: its limits are those of the section. Assumes nothing.
use Rattle.sheet_rules.specs.Sheet.{message_limits}
use Rattle.sections.proofs.read_messages.Goals as goal

pub returns : goal.returns
unfolding message_limits
returns c = c.read_section.ensures
