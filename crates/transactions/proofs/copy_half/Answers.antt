-- `transactions::copy_half` meets its contract: the halves lie apart, so each column's copy may go, and the copies together are `copied_c`.
-- Assumes nothing.
use mathlib.Core.List.{[]}
use native.Mathlib.Omega.{arith}
use Rattle.queues.specs.Transact.{copied_c}
use Rattle.transactions.proofs.Steps.{from_fits, to_fits, places_from_fits, places_to_fits, copies_rows, copies_bytes, copies_accounts}
use Rattle.transactions.proofs.copy_half.Goals as goal

pub copy-requires : goal.copy-requires
copy-requires c = copies_rows c.requires.halves (omega arith) c.requires.long.owner

pub copy-requires-2 : goal.copy-requires-2
copy-requires-2 c = copies_rows c.requires.halves (omega arith) c.requires.long.kind

pub copy-requires-3 : goal.copy-requires-3
copy-requires-3 c = copies_rows c.requires.halves (omega arith) c.requires.long.form

pub copy-requires-4 : goal.copy-requires-4
copy-requires-4 c = copies_rows c.requires.halves (omega arith) c.requires.long.time

pub overflow_mul-f : goal.overflow_mul-f
overflow_mul-f c = from_fits c.requires.halves

pub overflow_mul-t : goal.overflow_mul-t
overflow_mul-t c = to_fits c.requires.halves

pub copy-requires-5 : goal.copy-requires-5
copy-requires-5 c =
    copies_bytes c.requires.halves (omega arith) c.requires.long.address

pub overflow_mul-f-2 : goal.overflow_mul-f-2
overflow_mul-f-2 c = from_fits c.requires.halves

pub overflow_mul-t-2 : goal.overflow_mul-t-2
overflow_mul-t-2 c = to_fits c.requires.halves

pub copy-requires-6 : goal.copy-requires-6
copy-requires-6 c =
    copies_bytes c.requires.halves (omega arith) c.requires.long.hash

pub overflow_mul-from : goal.overflow_mul-from
overflow_mul-from c = places_from_fits c.requires.halves

pub overflow_mul-to : goal.overflow_mul-to
overflow_mul-to c = places_to_fits c.requires.halves

pub copy-requires-7 : goal.copy-requires-7
copy-requires-7 c =
    copies_accounts c.requires.halves (omega arith) c.requires.long.accounts

pub returns : goal.returns
unfolding copied_c
returns c =
    λ i. record {
      owner = c.copy.ensures i;
      kind = c.copy-2.ensures i;
      form = c.copy-3.ensures i;
      time = c.copy-4.ensures i;
      address = c.copy-5.ensures i;
      hash = c.copy-6.ensures i;
      accounts = c.copy-7.ensures i;
      numbers = [];
    }
