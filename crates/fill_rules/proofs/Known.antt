-- What is known once an accepted fill has run (`Known`), over any lent columns, and the bounds that it gives: the rules bound the fill in
-- bytes, the fill on numbers is that fill renamed (`bytes_are`), and the columns are as long as the rules' lists. Assumes nothing.
use mathlib.Core.Path.{◌≡◌, refl, sym, ap, ◌∙◌, subst}
use mathlib.Core.List.{List}
use Prim.Native.Nat.{ℕ, ◌+◌, ◌<◌, ◌≤◌}
use native.Mathlib.Omega.{arith}
use lib.ListN.{length, get_or, length-map}
use Rattle.rules.specs.World.{Args, Buffer, Group}
use Rattle.rules.specs.Queues.{all_msgs}
use Rattle.rules.specs.Passes.{ended}
use Rattle.rules.specs.Fill.{Filled, fill_code, fill, accepted, group_after}
use Rattle.rules.specs.Made.{FitsSet}
use Rattle.rules.specs.Kept.{TidyGroup, TidyBuffer}
use Rattle.demands.proofs.Demand.{accepts}
use Rattle.demands.proofs.RoomFill.{room_fill, slots_fill, tidy_group_fill}
use Rattle.demands.proofs.TidyBuffer.{buffer_fill}
use Rattle.demands.proofs.Taken.{key_rows_lem}
use Rattle.demands.proofs.SkippedSet.{set_fill}
use Rattle.renaming.specs.Renaming.{on_filled, on_row, on_slot}
use Rattle.columns.specs.Lists.{rank}
use Rattle.columns.proofs.Rows.{length_rows}
use Rattle.message.specs.Real.{Real}
use Rattle.message.proofs.Real.{real_lawful}
use Rattle.queues.specs.Cols.{live}
use Rattle.queues.specs.Meant.{buffer_of}
use Rattle.queues.proofs.Counts.{all_counted}
use Rattle.slots.specs.Table.{count}
use Rattle.slots.specs.Meant.{group_of, listed, slots_of, slot_in}
use Rattle.columns.proofs.Tabs.{length_tab}
use Rattle.skipped.specs.Sets.{GoodRows}
use Rattle.settle.specs.Copies.{is_key}
use Rattle.settle.proofs.Copying.{gathered}
use Rattle.meaning.specs.Meaning.{Columns, state_of}
use Rattle.meaning.specs.Passes.{RanC}
use Rattle.meaning.specs.Means.{Ran}
use Rattle.entry_rules.specs.Calling.{Call, GoodCall, Lent, GoodLent, args, set_of, World', ext, time, back, num, acc, args_num, set_num, buffer_num, group_num, fixed, setting, owner_made, home_made, member_made, cost_made}
use Rattle.entry_rules.proofs.Renamed.{fill_on_numbers, code_on_numbers}
use Rattle.settle_rules.specs.Facts.{EntryFacts, Traced, BlankFrom, OpensAtMost, KeyFacts}
use Rattle.settle_rules.proofs.FactsAfter.{key_facts}
use Rattle.settle_rules.proofs.KeysAfter.{keys_are}
use Rattle.fill_rules.specs.Passing.{opens_of}
use Rattle.fill_rules.proofs.Told.{told, told_is, lists_many, slots_many, skipped_many}

-- buffer and group of a call, in bytes
abbrev pub buffer_in : Call → Buffer Real
buffer_in v = buffer_of (live v.buffer)

abbrev pub group_in : Call → Group Real
group_in v = group_of v.group

-- the fill of r key rows is accepted, and x is what its run left: m₀ the columns at entry, l what the entry was lent
pub record Known (v : Call) (l : Lent) (m₀ : Columns) (x : RanC) (r : ℕ) : Type 0 where
  pub good : GoodCall v
  pub lent : GoodLent v.said.cost l
  pub set : GoodRows v.said.k v.said.set
  pub ok : fill_code Real (count v.group 0) r (args v) (buffer_in v) (group_in v) (set_of v) ≡ 0
  pub ran : Ran (ext v) (time v) (args_num v) (cost_made v l) (fixed v) (setting v) (opens_of v) (buffer_num v (owner_made v l))
      (group_num v (home_made v l) (member_made v l)) (set_num v) x
  pub entry : EntryFacts (ext v) (time v) (back v) (fixed v) v.buffer v.group (setting v) m₀
  pub traced : Traced (fixed v) m₀ x.now
  pub blank : BlankFrom x.slots x.now x.number
  pub opens : OpensAtMost (opens_of v) (count v.group 1) (count v.group 6) x.slots x.last x.number
  pub stay : (j : ℕ) → j < count v.group 1 → get_or x.number j 0 ≡ get_or v.group.number j 0
  pub new : (j : ℕ) → count v.group 1 ≤ j → j < x.slots → count v.group 6 < get_or x.number j 0

-- ---- any fill in bytes, as the rules answer it

module _ (A : Args Real) (b : Buffer Real) (g : Group Real) (s : List (List ℕ)) where
  pub lists_at : (accepted Real A b g s).group.lists ≡ (ended Real A b g s).lists
  unfolding accepted group_after
  lists_at = refl

  pub collected_at : (accepted Real A b g s).collected ≡ length (ended Real A b g s).taken
  unfolding accepted
  collected_at = refl

module _ {v : Call} {l : Lent} {m₀ : Columns} {x : RanC} {r : ℕ} (p : Known v l m₀ x r) where
  abbrev pub bytes : Filled Real
  bytes = accepted Real (args v) (buffer_in v) (group_in v) (set_of v)

  pub taken_up : fill Real (count v.group 0) r (args v) (buffer_in v) (group_in v) (set_of v) ≡ bytes
  taken_up = accepts Real (count v.group 0) r (args v) (buffer_in v) (group_in v) (set_of v) p.ok

  pub bytes_are : bytes ≡ on_filled (back v) (told p.ran)
  bytes_are =
      sym taken_up
      ∙ fill_on_numbers v p.good l p.lent (count v.group 0) r
      ∙ ap (on_filled (back v))
      (accepts (World' v) (count v.group 0) r (args_num v) (buffer_num v (owner_made v l)) (group_num v (home_made v l) (member_made v l)) (set_num v)
      (sym (code_on_numbers v p.good l p.lent (count v.group 0) r) ∙ p.ok)
      ∙ told_is p.ran)

  -- ---- what the rules keep

  pub tidy_group : TidyGroup Real bytes.group
  tidy_group =
      tidy_group_fill Real real_lawful (count v.group 0) r (args v) (buffer_in v) (group_in v) (set_of v) p.good.group.tidy p.ok

  pub tidy_buffer : TidyBuffer Real bytes.buffer
  tidy_buffer = buffer_fill Real real_lawful (args v) (buffer_in v) (group_in v) (set_of v) p.good.buffer.now.tidy

  pub set_fits : FitsSet Real bytes.skipped
  set_fits =
      subst (λ (f : Filled Real). FitsSet Real f.skipped) taken_up
      (set_fill Real real_lawful (args v) (count v.group 0) r (buffer_in v) (group_in v) (set_of v) p.set.fits)

  keys_fit : length bytes.keys ≤ r
  keys_fit =
      subst (λ (f : Filled Real). length f.keys ≤ r) taken_up
      (key_rows_lem Real real_lawful (count v.group 0) r (args v) (buffer_in v) (group_in v) (set_of v))

  -- ---- the messages and the slots of the group at entry

  pub messages_held : length (all_msgs Real (group_in v).lists) ≡ count v.group 3
  messages_held =
      let g = p.good.group in
      all_counted (listed v.group) (omega (arith, g.messages, g.lengths.owner)) g.placed

  slots_held : length (group_in v).slots ≡ count v.group 1
  unfolding slots_of
  slots_held = length_tab (count v.group 1) 0 (slot_in v.group)

  slots_room : length (group_in v).slots ≤ count v.group 0
  slots_room = let g = p.good.group.slots in omega (arith, slots_held)

  -- ---- the bounds

  abbrev room : (length (all_msgs Real (group_in v).lists) + length (ended Real (args v) (buffer_in v) (group_in v) (set_of v)).taken ≤ 1024)
      × (length (ended Real (args v) (buffer_in v) (group_in v) (set_of v)).lists ≤ 1024)
  room =
      room_fill Real real_lawful (count v.group 0) r (args v) (buffer_in v) (group_in v) (set_of v)
      p.good.group.tidy p.ok p.good.group.S·high slots_room

  pub collected_is : length (ended Real (args v) (buffer_in v) (group_in v) (set_of v)).taken ≡ x.now.store.tally.taken
  collected_is =
      sym (collected_at (args v) (buffer_in v) (group_in v) (set_of v)) ∙ ap (λ (f : Filled Real). f.collected) bytes_are

  pub taken_room : count v.group 3 + x.now.store.tally.taken ≤ 1024
  taken_room = let h = room.0 in let a = messages_held in let b = collected_is in omega arith

  members_are : length (ended Real (args v) (buffer_in v) (group_in v) (set_of v)).lists ≡ x.now.store.tally.accounts
  members_are =
      ap length (sym (lists_at (args v) (buffer_in v) (group_in v) (set_of v)))
      ∙ ap (λ (f : Filled Real). length f.group.lists) bytes_are
      ∙ length-map (told p.ran).group.lists (on_row (back v))
      ∙ lists_many p.ran

  pub members_room : x.now.store.tally.accounts ≤ 1024
  members_room = let h = room.1 in let a = members_are in omega arith

  pub slots_are_few : x.slots ≤ count v.group 0
  slots_are_few =
      let h = slots_fill Real real_lawful (count v.group 0) r (args v) (buffer_in v) (group_in v) (set_of v) p.ok slots_room in
      let e : length bytes.group.slots ≡ x.slots =
      ap (λ (f : Filled Real). length f.group.slots) bytes_are ∙ length-map (told p.ran).group.slots (on_slot (back v)) ∙ slots_many p.ran in
      omega arith

  -- ---- the set

  set_held : length (setting v).entry_skipped ≡ v.said.k
  set_held = length-map (set_of v) (num v) ∙ length_rows v.said.k v.said.set

  pub set_room : v.said.k + x.now.store.tally.joined ≤ 512
  set_room =
      let h = set_fits.small in
      let e : length bytes.skipped ≡ length (setting v).entry_skipped + x.now.store.tally.joined =
      ap (λ (f : Filled Real). length f.skipped) bytes_are ∙ length-map (told p.ran).skipped (acc v) ∙ skipped_many p.ran in
      let s = set_held in
      omega arith

  -- ---- the key list

  pub known_keys : KeyFacts (ext v) (time v) (back v) v.buffer x.now.store.tally.taken x.now.store.taken
  known_keys = key_facts p.entry p.traced p.ran.means.good

  pub keys_many : length bytes.keys ≡ rank (is_key x.now.store.taken v.buffer.kind) x.now.store.tally.taken
  unfolding state_of
  keys_many =
      ap (λ (f : Filled Real). length f.keys) bytes_are
      ∙ ap length (sym (keys_are known_keys))
      ∙ gathered (is_key x.now.store.taken v.buffer.kind) _ x.now.store.tally.taken

  pub keys_room : rank (is_key x.now.store.taken v.buffer.kind) x.now.store.tally.taken ≤ r
  keys_room = let h = keys_fit in let e = keys_many in omega arith
