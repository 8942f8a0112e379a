-- The group after a fill as a whole: its index by the slots' counts before and after, and with the lists, the slots and the last number the
-- group that the rules leave, by the renaming (`group_after_lem`). Assumes nothing.
use mathlib.Core.Path.{◌≡◌, refl, sym, ap, ◌∙◌}
use mathlib.Core.Bool.{Bool}
use mathlib.Core.List.{List, map}
use Prim.Native.Nat.{ℕ, ◌+◌, ◌<◌, ◌≤◌}
use lib.ListN.{length, get_or, take}
use Rattle.columns.specs.Lists.{tab_i}
use Rattle.rules.specs.World.{Slot, Group, Args}
use Rattle.rules.specs.Queues as queues
use Rattle.rules.specs.Demand.{OnceN}
use Rattle.rules.specs.Fill.{reindexed, group_after}
use Rattle.message.specs.Real.{Real}
use Rattle.queues.specs.Cols.{Cols}
use Rattle.queues.specs.Meant.{if_marked}
use Rattle.buckets.specs.Cells.{index}
use Rattle.buckets.specs.Moves.{Plain, Leaves}
use Rattle.buckets.specs.Moves.{slots_of as plain_slots}
use Rattle.buckets.proofs.Worlds.{reindex_any}
use Rattle.slots.specs.Table.{Table, count}
use Rattle.slots.specs.Meant.{group_of}
use Rattle.moves.specs.declared.Fixed.{Fixed}
use Rattle.meaning.specs.Meaning.{Numbers, Columns, Setting, slot_at, state_of, Fits}
use Rattle.renaming.specs.Renaming.{Renaming, on_group}
use Rattle.settle_rules.specs.Facts.{GroupSettled, GroupFacts}
use Rattle.settle_rules.proofs.GroupAfter.{lists_after, slots_after}

-- the index: of the slots of the state, `olds` are the counts in the group at entry, `news` those now
pub index_after : {ext : ℕ → Bool} {time : ℕ → ℕ} (fx : Fixed) (b : Setting) (o : ℕ) (m : Columns) (entry : List (Slot (Numbers ext time)))
    (olds news cells made : List ℕ) → OnceN (take b.slots b.number) → b.slots ≤ length b.number
    → ((j : ℕ) → j < b.slots → queues.count_of (Numbers ext time) (get_or b.number j 0) entry ≡ get_or olds j 0)
    → ((j : ℕ) → j < b.slots → get_or m.store.ints j 0 + get_or m.store.exts j 0 ≡ get_or news j 0)
    → Leaves (reindexed Plain (plain_slots b.number olds b.slots) (plain_slots b.number news b.slots) 0 (index cells)) made
    → index made ≡ reindexed (Numbers ext time) entry (state_of ext time fx b o m).slots 0 (index cells)
unfolding state_of queues.count
index_after {ext} {time} fx b o m entry olds news cells made once long before now left =
    left.holds
    ∙ reindex_any b.number olds news b.slots once long (Numbers ext time) entry
    (slot_at ext time b.number (take m.store.tally.accounts m.store.member) m.store.home m.store.ints m.store.exts)
    (λ j l. record { named = refl; before = before j l; now = now j l }) cells

-- what the settled columns mean is the group that the rules leave
pub group_after_lem : {ext : ℕ → Bool} {time : ℕ → ℕ} {f : Renaming (Numbers ext time) Real} {A : Args (Numbers ext time)} {fx : Fixed} {b : Setting} {o : ℕ} {m : Columns}
    {c : Cols} {t t' : Table} {seat₀ : List ℕ} (g : Group (Numbers ext time))
    → GroupFacts ext time f c t b m → GroupSettled t t' c m seat₀ → Fits ext time A fx b o m
    → count t' 1 ≡ b.slots → t'.number ≡ b.number → t'.ints ≡ m.store.ints → t'.exts ≡ m.store.exts
    → if_marked (count t' 7) (count t' 6) ≡ b.last
    → index t'.buckets ≡ reindexed (Numbers ext time) g.slots (state_of ext time fx b o m).slots 0 g.index
    → group_of t' ≡ on_group f (group_after (Numbers ext time) g (state_of ext time fx b o m))
unfolding group_after state_of
group_after_lem g v s w slots numbers ints exts last indexed =
    let lists = lists_after v s w in
    let held = slots_after v s w slots numbers ints exts in
    λ i. record { lists = lists i; slots = held i; last = last i; index = indexed i }
