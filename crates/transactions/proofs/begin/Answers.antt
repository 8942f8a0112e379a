-- `transactions::begin` meets its contract: a half holds no more than its room, so it can be copied down. Assumes nothing.
use mathlib.Core.List.{[]}
use mathlib.Core.Path.{refl, sym, ◌∙◌}
use Rattle.message.proofs.Codes.{passed_on}
use Rattle.transactions.proofs.Steps.{down, long_any, begin_refused, begin_done}
use Rattle.transactions.proofs.begin.Goals as goal

pub copy_half-requires : goal.copy_half-requires
copy_half-requires c =
    record { halves = down _ c.requires _ c.held-held.ensures; long = long_any _ [] c.requires.lengths }

pub returns-in_err-may_begin : goal.returns-in_err-may_begin
returns-in_err-may_begin c =
    let q = passed_on c.from_residual.result c.from_residual.ensures.1 c.in_err-may_begin.was in
    begin_refused _ _ (q.0 ∙ c.may_begin.ensures) q.1

pub returns : goal.returns
returns c =
    begin_done _ _ _ _ _ (sym c.in_ok-may_begin.was ∙ c.may_begin.ensures) refl c.held-held.ensures c.copy_half.ensures c.keep.ensures
