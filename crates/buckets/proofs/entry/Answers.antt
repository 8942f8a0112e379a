-- `buckets::entry` meets its contract: behind the entries of a bucket stand marks (proofs/Entries.antt). Assumes nothing.
use mathlib.Core.Path.{sym, ◌∙◌}
use Rattle.buckets.specs.Cells.{bucket_of}
use Rattle.buckets.proofs.Cells.{cell_at}
use Rattle.buckets.proofs.Entries.{entry_of}
use Rattle.buckets.proofs.entry.Goals as goal

pub returns : goal.returns
unfolding bucket_of
returns c =
    let p = c.requires in
    let k = c.args.k in
    sym (cell_at c.args.buckets.now c.args.c k 0 p.2) ∙ entry_of (p.0.each c.args.c p.1) k 0 p.2
