-- `transactions::rollback` meets its contract: while a transaction is open what is kept is well formed, so it can be copied back into the rows
-- made fresh, and indexed. Assumes nothing.
use mathlib.Core.List.{[]}
use mathlib.Core.Path.{refl, sym, ◌∙◌}
use Rattle.message.proofs.Codes.{passed_on}
use Rattle.transactions.proofs.Steps.{held_few, up, long_any, long_again, rebuildable, rollback_refused, rollback_done}
use Rattle.transactions.proofs.rollback.Goals as goal

pub clear_half-requires : goal.clear_half-requires
clear_half-requires c =
    record { n_bound = held_few _ c.requires _ c.held-held.ensures; long = long_any _ [] c.requires.lengths }

pub copy_half-requires : goal.copy_half-requires
copy_half-requires c =
    record {
      halves = up _ c.requires _ c.kept-kept.ensures _ (sym c.in_ok-may_end.was ∙ c.may_end.ensures) refl;
      long = long_again _ c.requires _ c.held-held.ensures _ c.clear_half.ensures;
    }

pub give_back-requires : goal.give_back-requires
give_back-requires c =
    rebuildable _ c.requires _ _ _ _ c.held-held.ensures c.kept-kept.ensures _ (sym c.in_ok-may_end.was ∙ c.may_end.ensures)
    refl c.clear_half.ensures c.copy_half.ensures

pub returns-in_err-may_end : goal.returns-in_err-may_end
returns-in_err-may_end c =
    let q = passed_on c.from_residual.result c.from_residual.ensures.1 c.in_err-may_end.was in
    rollback_refused _ _ (q.0 ∙ c.may_end.ensures) q.1

pub returns : goal.returns
returns c =
    rollback_done _ _ _ _ _ _ _ (sym c.in_ok-may_end.was ∙ c.may_end.ensures) refl c.held-held.ensures
    c.kept-kept.ensures c.clear_half.ensures c.copy_half.ensures c.give_back.ensures
