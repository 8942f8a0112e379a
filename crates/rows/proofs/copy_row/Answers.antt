-- `rows::copy_row` meets its contract: a row read and written. Assumes nothing.
use Rattle.rows.proofs.copy_row.Goals as goal

pub returns : goal.returns
returns c = rw c.get_row-x.ensures at c.put_row.ensures
