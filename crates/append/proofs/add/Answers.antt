-- `append::add` meets its contract: what is known when the code is decided (`Decided`) gives each step what it needs, and what the steps
-- leave is the answer (proofs/AddSteps.antt). Assumes nothing.
use mathlib.Core.Path.{refl, sym, ◌∙◌}
use borrow.Author.Rules.{rules}
use Rattle.message.proofs.Codes.{passed_on}
use Rattle.queues.proofs.Indexing.{sought}
use Rattle.append.proofs.AddSteps.{writable, low, countable, refused, taken}
use Rattle.append.proofs.add.Goals as goal

pub find-seat-requires : goal.find-seat-requires
find-seat-requires c = sought _ _ c.requires

pub write_row-requires : goal.write_row-requires
write_row-requires c =
    writable (record { account = c.account-x.ensures; found = c.find-seat.ensures; decision = sym c.in_ok-decide.was ∙ c.decide.ensures }) refl c.requires

pub count_in-requires : goal.count_in-requires
count_in-requires c =
    countable (record { account = c.account-x.ensures; found = c.find-seat.ensures; decision = sym c.in_ok-decide.was ∙ c.decide.ensures }) refl c.requires

pub seat_in-requires : goal.seat_in-requires
seat_in-requires c =
    low (record { account = c.account-x.ensures; found = c.find-seat.ensures; decision = sym c.in_ok-decide.was ∙ c.decide.ensures }) refl c.requires

pub returns : goal.returns
returns c =
    taken (record { account = c.account-x.ensures; found = c.find-seat.ensures; decision = sym c.in_ok-decide.was ∙ c.decide.ensures })
    refl c.requires (search rules) c.write_row.ensures c.count_in.ensures c.seat_in.ensures

pub returns-in_err-decide : goal.returns-in_err-decide
returns-in_err-decide c =
    let p = passed_on c.from_residual.result c.from_residual.ensures.1 c.in_err-decide.was in
    refused (record { account = c.account-x.ensures; found = c.find-seat.ensures; decision = p.0 ∙ c.decide.ensures }) p.1
