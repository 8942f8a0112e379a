-- What a check has to see through to compute the rules on given numbers: one name whose unfolding opens every definition of the model.
-- Assumes nothing.
use Rattle.std.specs.Prelude.{ℕ}
use Rattle.rules.specs.World.{at_least0, most, is_member, others, is_nil, joined, keep, some_of, first_of, lowered, least_read}
use Rattle.rules.specs.Queues.{full_by_slots, has, at, edit, give, is_in, accounts, internals, externals, all_msgs, add, remove, remove_code, held_ints, held_exts, held_accounts, full_by_count, droppable, undroppable, count, count_of, accounts_of, has_slot, grown, grow}
use Rattle.rules.specs.Passes.{verdict_in, cost_in, marked, checked, pass_over, collect, moved, move_ops, room, is_full, move, try, meet, moves, seek, serve, opened, closed, first, own, reach, visit, second, sweep, to_open, listed, entered, passes, ended}
use Rattle.rules.specs.Fill.{changed, numbers, bucket, reindexed, fill_code, buffer_after, group_after, accepted, refused, fill, is_filled, group_ints, group_exts, group_accounts, group_slots, fresh, next_number, renumbered, last_of, listed_too, join, join_code}
use Rattle.rules.specs.Calls.{answer, within, is_open, back, no_messages, set_up_buffer, set_up_group, with_now, add_code, add_message, remove_accounts, begin, commit, rollback, written, fill_group, join_groups}
use Rattle.rules.specs.Scenario.{W, many, digit, start, with_store, with_groups, with_skips, answered, blank_keys, target, placed, offered, filled as desk_filled, joined as desk_joined, again, raised, does, into, rising, notes, row_line, slot_line, bucket_lines, last_number, group_lines, key_line, store_line, printed, same_line, same_lines, agrees}

unfoldable pub rules : ℕ
unfolding at_least0 most is_member others is_nil joined keep some_of first_of lowered least_read full_by_slots has at edit give is_in accounts internals externals all_msgs add remove remove_code held_ints held_exts held_accounts full_by_count droppable undroppable count count_of accounts_of has_slot grown grow verdict_in cost_in marked checked pass_over collect moved move_ops room is_full move try meet moves seek serve opened closed first own reach visit second sweep to_open listed entered passes ended changed numbers bucket reindexed fill_code buffer_after group_after accepted refused fill is_filled group_ints group_exts group_accounts group_slots fresh next_number renumbered last_of listed_too join join_code answer within is_open back no_messages set_up_buffer set_up_group with_now add_code add_message remove_accounts begin commit rollback written fill_group join_groups W many digit start with_store with_groups with_skips answered blank_keys target placed offered desk_filled desk_joined again raised does into rising notes row_line slot_line bucket_lines last_number group_lines key_line store_line printed same_line same_lines agrees
rules = 0
