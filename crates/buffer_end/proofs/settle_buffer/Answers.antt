-- `buffer_end::settle_buffer` meets its contract: the packing by the seats, the numbers put right, and the index made anew
-- (proofs/Settling.antt). Assumes nothing.
use mathlib.Core.List.{[]}
use mathlib.Core.Path.{sym, ap, subst, ◌∙◌}
use Prim.Native.Nat.{ℕ, ◌≤◌}
use lib.ListN.{length}
use Rattle.queues.specs.Cols.{cols}
use Rattle.leaving.proofs.Staying.{few, seated, length_seated, indexable}
use Rattle.settle.proofs.Counts.{counts_long}
use Rattle.leftover.proofs.Internals.{count_le}
use Rattle.buffer_end.proofs.Settling.{lent_long, left_few, kind_long, settled}
use Rattle.buffer_end.proofs.settle_buffer.Goals as goal

pub compact-r-requires : goal.compact-r-requires
compact-r-requires c = (few _ c.requires, seated _ c.requires)

pub count_internals-ints-requires : goal.count_internals-ints-requires
count_internals-ints-requires c =
    let x = c.compact-r.new in
    let packed = cols x.owner x.kind x.form x.time x.address x.hash x.accounts [] in
    left_few c.args.left.now _ c.requires c.told-left _ c.lay.ensures {c₁ = packed} c.compact-r.ensures

pub count_left-requires : goal.count_left-requires
count_left-requires c = subst (λ (x : ℕ). x ≤ c.compact-r.result) (sym c.count_internals-ints.ensures) (count_le _ c.compact-r.result 0)

pub rebuild-requires : goal.rebuild-requires
rebuild-requires c =
    let g = c.requires in
    let x = c.compact-r.new in
    let packed = cols x.owner x.kind x.form x.time x.address x.hash x.accounts [] in
    let fits = indexable {c₁ = packed} (seated _ g) g.lengths.accounts c.seat_holders-stay.ensures c.compact-r.ensures in
    fits

pub returns : goal.returns
returns c =
    settled c.args.left.now _ _ c.lay.ensures _ _ c.seat_holders-stay.ensures _ _ c.compact-r.ensures _
    c.count_internals-ints.ensures _ c.count_left.ensures _ c.rebuild.ensures
