-- What a well-formed call has: no account twice in the order or in the group, slots of at most 16 with numbers of their own, lists that are
-- not empty. Assumes nothing.
use mathlib.Core.Path.{◌≡◌, refl, sym, ap, subst, ◌∙◌}
use mathlib.Core.Bool.{Bool, true, false}
use mathlib.Core.List.{List, [], map}
use Prim.Native.Nat.{ℕ, zero, suc, ◌+◌, ◌-◌, ◌<◌, ◌≤◌}
use native.Mathlib.Nat.{zero-add}
use native.Mathlib.Omega.{arith}
use lib.Dec.{ltb}
use lib.ListN.{length, get_or}
use borrow.Author.Tests.{lt-ltb, le-ltb, ltb-true, ltb-false}
use Rattle.numbers.proofs.Bytes.{by_bool}
use Rattle.rules.specs.World.{Slot, Row, is_nil, at_least0}
use Rattle.rules.specs.Queues.{count_of, count}
use Rattle.rules.specs.Demand.{Once}
use Rattle.columns.specs.Lists.{tab_i, pick}
use Rattle.columns.specs.Rows.{row_at, rows_of}
use Rattle.columns.proofs.Tabs.{pick_cong, get_d_tab}
use Rattle.message.specs.Real.{Real}
use Rattle.queues.specs.Cols.{live, number}
use Rattle.queues.specs.Meant.{message_in, row_in, order_of, if_marked}
use Rattle.slots.specs.Table.{Table, count as count_t}
use Rattle.slots.specs.Meant.{listed, slot_in, slots_of}
use Rattle.slots.specs.Good.{Good}
use Rattle.moves.specs.Moves.{held_at}
use Rattle.entry_rules.specs.Calling.{Call, GoodCall, rows, places, members, order_accounts, group_accounts, message_of, entry_list, setting}
use Rattle.entry_rules.proofs.Tabs.{each_at, map_pick, nil_map}
use Rattle.entry_rules.proofs.Slotted.{has_slot_lem, once_slots, count_slots, not_above, accounts_rows}

-- ---- the group's slots
module _ (t : Table) (good : Good t) where
  pub numbered : (i j : ℕ) → i < count_t t 1 → j < count_t t 1 → get_or t.number i 0 ≡ get_or t.number j 0 → i ≡ j
  unfolding slots_of
  numbered i j a b e = once_slots Real (slot_in t) (count_t t 1) 0 good.tidy.sound.distinct i j (omega arith) (omega arith) (omega arith) (omega arith) e

  held : (j : ℕ) → j < count_t t 1 → held_at t.ints t.exts j ≤ 16
  unfolding slots_of count
  held j l =
      omega (
        arith,
        good.tidy.sound.small (get_or t.number j 0),
        count_slots Real (slot_in t) j (count_t t 1) 0 (omega arith) (omega arith) (λ g a b e. numbered j g l (omega arith) e),
      )

  pub slots_small : (j : ℕ) → j < 64 → held_at t.ints t.exts j ≤ 16
  slots_small j l =
      by_bool (ltb j (count_t t 1))
      (λ y. held j (ltb-true j (count_t t 1) y))
      (λ n. let h = ltb-false j (count_t t 1) n in omega (arith, good.blank.ints j h l, good.blank.exts j h l))

  pub slots_low : (i : ℕ) → i < count_t t 1 → get_or t.number i 0 ≤ at_least0 (if_marked (count_t t 7) (count_t t 6))
  unfolding slots_of
  slots_low i l =
      not_above Real (if_marked (count_t t 7) (count_t t 6)) (get_or t.number i 0)
      (good.tidy.sound.numbered (get_or t.number i 0) (has_slot_lem Real (slot_in t) (count_t t 1) 0 i (omega arith) (omega arith)))

  pub few_slots : count_t t 1 ≤ 64
  few_slots = omega (arith, good.slots, good.S·high)

  pub once_members : Once Real (rows_of (count_t t 2) t.accounts)
  unfolding order_of
  once_members = subst (Once Real) (accounts_rows (count_t t 2) t.accounts (row_in (listed t)) (λ j. refl)) good.tidy.tidy.rows

  full_list : (g : ℕ) → g < count_t t 2 → is_nil (pick (message_in (listed t)) g (count_t t 3) 0 t.owner) ≡ false
  unfolding order_of
  full_list g l =
      each_at (λ (r : Row Real). is_nil r.msgs ≡ false) (count_t t 2) 0 (row_in (listed t)) good.tidy.tidy.nonempty g (omega arith) (omega arith)

-- ---- a call
module _ (v : Call) (good : GoodCall v) where
  pub few_rows : rows v ≤ 1024
  few_rows = omega (arith, good.buffer.now.messages, good.buffer.M·high)

  pub few_places : places v ≤ 256
  few_places = omega (arith, good.buffer.now.places, good.buffer.A·high)

  pub few_members : members v ≤ 1024
  few_members = good.group.accounts

  pub order_once : Once Real (order_accounts v)
  unfolding order_of
  order_once =
      subst (Once Real) (accounts_rows (places v) v.buffer.accounts (row_in (live v.buffer)) (λ j. refl)) good.buffer.now.tidy.once

  pub group_once : Once Real (group_accounts v)
  group_once = once_members v.group good.group

  -- ---- messages
  pub buffer_message : (i : ℕ) → i < rows v → message_of v i ≡ message_in (live v.buffer) i
  unfolding message_of
  buffer_message i l = let h = few_rows in rw (lt-ltb i 2048 (omega arith))

  pub group_message : (k : ℕ) → message_of v (2048 + k) ≡ message_in (listed v.group) k
  unfolding message_of
  group_message k = let z : 2048 + k - 2048 ≡ k = omega arith in rw (le-ltb (2048 + k) 2048 (omega arith), z)

  -- the list of an account of the group
  pub list_messages : (g : ℕ) → map (message_of v) (entry_list v g) ≡ pick (message_in (listed v.group)) g (count_t v.group 3) 0 v.group.owner
  list_messages g =
      map_pick (message_of v) (λ (k : ℕ). 2048 + k) g (count_t v.group 3) 0 v.group.owner
      ∙ pick_cong (λ (k : ℕ). message_of v (2048 + k)) (message_in (listed v.group)) g (count_t v.group 3) 0 v.group.owner (λ k a b. group_message k)

  pub entry_list_lem : (g : ℕ) → g < members v → get_or (setting v).entry_lists g [] ≡ entry_list v g
  entry_list_lem g l = get_d_tab (members v) 0 g g (entry_list v) [] (sym (zero-add g)) l

  pub list_filled : (g : ℕ) → g < members v → is_nil (entry_list v g) ≡ false
  list_filled g l = sym (nil_map (message_of v) (entry_list v g)) ∙ ap is_nil (list_messages g) ∙ full_list v.group good.group g l
