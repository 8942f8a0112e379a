-- `merging::add` meets its contract: slots, accounts, messages, records and numbers one after the other (proofs/Merging.antt). Assumes
-- nothing.
use native.Mathlib.Omega.{arith}
use Rattle.merging.proofs.Merging.{may_add_slots, may_sum, added}
use Rattle.merging.proofs.add.Goals as goal

pub add_slots-requires : goal.add_slots-requires
add_slots-requires c = may_add_slots c.requires _ c.next_number-first.ensures

pub overflow_cast-held : goal.overflow_cast-held
overflow_cast-held c = omega (arith, c.requires.slots.room.room)

pub join_accounts-requires : goal.join_accounts-requires
join_accounts-requires c = c.requires.accounts

pub overflow_cast-members : goal.overflow_cast-members
overflow_cast-members c = omega (arith, c.requires.accounts.room)

pub join_messages-requires : goal.join_messages-requires
join_messages-requires c = c.requires.messages

pub join_records-requires : goal.join_records-requires
join_records-requires c = c.requires.records

pub join_numbers-requires : goal.join_numbers-requires
join_numbers-requires c = may_sum c.requires _ c.next_number-first.ensures

pub returns : goal.returns
returns c =
    added c.requires _ c.next_number-first.ensures c.add_slots.ensures c.join_accounts.ensures c.join_messages.ensures
    c.join_records.ensures c.join_numbers.ensures
