-- `removal::remove` meets its contract: well-formed columns meet what each call requires, and the calls' contracts together are the answer
-- (proofs/Removing.antt). Assumes nothing.
use mathlib.Core.List.{[]}
use mathlib.Core.Path.{refl}
use Rattle.queues.specs.Cols.{cols}
use Rattle.leaving.proofs.Staying.{few, seated, owned, length_seated, indexable}
use Rattle.removal.proofs.Removing.{refused, removed, long, whole}
use Rattle.removal.proofs.remove.Goals as goal

pub seat_unnamed-stay-requires : goal.seat_unnamed-stay-requires
seat_unnamed-stay-requires c =
    (seated _ c.requires, whole _)

pub lost_externals-requires : goal.lost_externals-requires
lost_externals-requires c = owned _ c.requires _ (length_seated c.seat_unnamed-stay.ensures)

pub returns-then-lost_externals-ne0 : goal.returns-then-lost_externals-ne0
returns-then-lost_externals-ne0 c =
    refused c.args.names.now _ _ _ _ c.seat_unnamed-stay.ensures c.lost_externals.ensures c.if-lost_externals-ne0.true

pub compact-r-requires : goal.compact-r-requires
compact-r-requires c =
    let g = c.requires in
    (few _ g, seated _ g)

pub count_out-requires : goal.count_out-requires
count_out-requires c =
    let g = c.requires in
    let x = c.compact-r.new in
    let packed = cols x.owner x.kind x.form x.time x.address x.hash x.accounts [] in
    let fits = indexable {c₁ = packed} (seated _ g) g.lengths.accounts c.seat_unnamed-stay.ensures c.compact-r.ensures in
    fits

pub returns : goal.returns
returns c =
    removed c.args.names.now _ _ _ _ c.seat_unnamed-stay.ensures c.lost_externals.ensures c.if-lost_externals-ne0.false
    _ _ c.compact-r.ensures _ c.count_out.ensures
