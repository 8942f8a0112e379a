-- The rules give what document 01 says at each of its worked cases P1 to P11: one test over one table, which antt computes. Then the two
-- inputs at which 000 and 01 part, and a table for each group of codes. Assumes nothing.
use lib.Dec.{T}
use Rattle.rules.specs.Computed.{rules}
use Rattle.rules.specs.Cases.{same_option, rows_of, sees, after, right, all_right, case, I, E, F, table, parting}
use Rattle.rules.specs.Codes.{is, set_ups, adds, transactions, fills, pair, joinings}

pub worked : T (all_right table)
unfolding rules same_option rows_of sees after right all_right case I E F table
worked = tt

pub parted : T (all_right parting)
unfolding rules same_option rows_of sees after right all_right case I E F parting
parted = tt

pub set_up_codes : T (all_right set_ups)
unfolding rules same_option rows_of sees after right all_right case I E F is set_ups
set_up_codes = tt

pub add_codes : T (all_right adds)
unfolding rules same_option rows_of sees after right all_right case I E F is adds
add_codes = tt

pub transaction_codes : T (all_right transactions)
unfolding rules same_option rows_of sees after right all_right case I E F is transactions
transaction_codes = tt

pub fill_codes : T (all_right fills)
unfolding rules same_option rows_of sees after right all_right case I E F is fills
fill_codes = tt

pub join_codes : T (all_right joinings)
unfolding rules same_option rows_of sees after right all_right case I E F is pair joinings
join_codes = tt
