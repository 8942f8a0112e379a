-- `passes::run` meets its contract: its parts, one after the other, each of which leaves the columns well formed, between the columns of counts read
-- into the table of the slots and written from it. Assumes nothing.
use mathlib.Core.Path.{ap, ◌∙◌}
use native.Mathlib.Omega.{arith}
use lib.ListN.{take}
use Rattle.meaning.specs.Passes.{run_c}
use Rattle.passes.proofs.Keeps.{same_counts, ready_counts, same_ran, ran_ready, ran_both, swept_left, ran}
use Rattle.passes.proofs.run.Goals as goal

pub first-a-requires : goal.first-a-requires
first-a-requires c =
    let g = c.gather-table.ensures in
    record { ready = ready_counts g.0 g.1 c.requires.ready; numbers_fit = c.requires.numbers_fit }

pub second-w-requires : goal.second-w-requires
second-w-requires c =
    let g = c.gather-table.ensures in
    let stood = ready_counts g.0 g.1 c.requires.ready in
    let room = c.requires.numbers_fit.0 in
    record { ready = ran_ready _ _ _ _ stood room c.first-a.ensures; bound = (omega (arith, room), c.requires.count_bound) }

pub sweep-requires : goal.sweep-requires
sweep-requires c = c.requires.ready.good.store.rows_fit

pub finish-e-requires : goal.finish-e-requires
finish-e-requires c =
    let g = c.gather-table.ensures in
    let stood = ready_counts g.0 g.1 c.requires.ready in
    let ready = ran_both _ _ _ _ stood c.requires.numbers_fit.0 c.first-a.ensures (take c.args.count c.args.listed.now) c.second-w.ensures in
    record { rows_bound = c.requires.ready.good.store.rows_fit; taken_bound = swept_left c.args.plan.now ready _ c.sweep.ensures }

pub returns : goal.returns
returns c =
    let a = c.args in
    let g = c.gather-table.ensures in
    let u = c.spread.ensures in
    let ends = c.finish-e.ensures in
    let xs = take a.count a.listed.now in
    same_ran (same_counts u.0 u.1)
    (ran _ _ _ _ (ready_counts g.0 g.1 c.requires.ready) c.requires.numbers_fit.0 c.first-a.ensures xs
    c.second-w.ensures c.sweep.ensures ends.0 ends.1
    ∙ ap (run_c a.plan.now a.cost.now a.fixed a.opens xs a.number.now a.slots a.last.0) (same_counts g.0 g.1))
