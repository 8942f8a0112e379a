-- `transactions::clear_half` meets its contract: the clearings of the columns together are `cleared_c`. Assumes nothing.
use mathlib.Core.List.{[]}
use Rattle.queues.specs.Transact.{cleared_c}
use Rattle.transactions.proofs.clear_half.Goals as goal

pub returns : goal.returns
unfolding cleared_c
returns c =
    λ i. record {
      owner = c.clear.ensures i;
      kind = c.clear-2.ensures i;
      form = c.clear-3.ensures i;
      time = c.clear-4.ensures i;
      address = c.clear-5.ensures i;
      hash = c.clear-6.ensures i;
      accounts = c.clear-7.ensures i;
      numbers = [];
    }
