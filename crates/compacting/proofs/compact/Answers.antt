-- `compacting::compact` meets its contract: the owners get their new places, each column is packed by them, the accounts by their seats, and
-- the owners by themselves at the end (proofs/Compacting.antt). Assumes nothing.
use mathlib.Core.Path.{refl}
use Rattle.compacting.proofs.Compacting.{compacted}
use Rattle.compacting.proofs.compact.Goals as goal

pub returns : goal.returns
returns c =
    compacted c.args.n c.args.a c.args.seats.now _ _ c.move_owners.ensures c.pack.ensures c.pack-2.ensures
    c.pack-3.ensures c.pack_rows.ensures c.pack_rows-2.ensures c.pack_rows-3.ensures c.pack_owners.ensures refl
