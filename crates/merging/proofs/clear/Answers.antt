-- `merging::clear` meets its contract: past what a well formed group holds its columns are clear (proofs/Cleared.antt). Assumes nothing.
use Rattle.merging.proofs.Cleared.{slots_in_use, accounts_in_use, messages_in_use, records_in_use, left_fresh}
use Rattle.merging.proofs.clear.Goals as goal

pub clear_slots-requires : goal.clear_slots-requires
clear_slots-requires c = slots_in_use _ c.requires

pub clear_accounts-requires : goal.clear_accounts-requires
clear_accounts-requires c = accounts_in_use _ c.requires

pub clear_messages-requires : goal.clear_messages-requires
clear_messages-requires c = messages_in_use _ c.requires

pub clear_records-requires : goal.clear_records-requires
clear_records-requires c = records_in_use _ c.requires

pub returns : goal.returns
returns c =
    left_fresh _ c.clear_slots.ensures c.clear_accounts.ensures c.clear_messages.ensures c.clear_records.ensures
    c.clear_buckets.ensures c.clear_numbers.ensures
