-- `transactions::commit` meets its contract, by whether a transaction is open. Assumes nothing.
use mathlib.Core.Path.{refl, sym, ◌∙◌}
use lib.ListN.{get_or}
use Rattle.message.proofs.Codes.{passed_on}
use Rattle.keeping.proofs.Codes.{ends, none_to_end}
use Rattle.transactions.proofs.commit.Goals as goal

pub returns-in_err-may_end : goal.returns-in_err-may_end
returns-in_err-may_end c =
    let q = passed_on c.from_residual.result c.from_residual.ensures.1 c.in_err-may_end.was in
    let e = q.0 ∙ c.may_end.ensures in
    let f = none_to_end (get_or c.args.numbers.now 8 0) e q.1 in
    record { code = e; numbers = rw f }

pub returns : goal.returns
returns c =
    let e = sym c.in_ok-may_end.was ∙ c.may_end.ensures in
    let f = ends (get_or c.args.numbers.now 8 0) e refl in
    record { code = e; numbers = rw f c.forget.ensures }
