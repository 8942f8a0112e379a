-- `records::message_at` meets its contract: each field is read from its column. Assumes nothing.
use Rattle.records.proofs.message_at.Goals as goal

pub returns : goal.returns
returns c = rw (c.form_of-f.ensures, c.get_row-to.ensures, c.get_row-hashed.ensures)
