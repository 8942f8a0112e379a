-- `clearing::clear_messages` meets its contract: past the cells in use a column is clear (proofs/Cleared.antt). Assumes nothing.
use Rattle.clearing.proofs.Cleared.{cleared}
use Rattle.clearing.proofs.clear_messages.Goals as goal

pub returns : goal.returns
returns c =
    let p = c.requires in
    (cleared p.0 _ c.clear.ensures, cleared p.1 _ c.clear-2.ensures, cleared p.2 _ c.clear-3.ensures, cleared p.3 _ c.clear-4.ensures)
