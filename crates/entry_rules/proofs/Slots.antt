-- What a fill reads off the group besides its columns: how many slots are to be opened, the last number, and the slots listed below the
-- height. Assumes nothing.
use mathlib.Core.Path.{◌≡◌, refl, sym, ap, ◌∙◌}
use mathlib.Core.List.{List, []}
use Prim.Native.Nat.{ℕ, zero, suc, ◌-◌, ◌≤◌}
use native.Mathlib.Omega.{arith}
use lib.ListN.{length, take}
use Rattle.rules.specs.World.{at_least0, joined}
use Rattle.rules.specs.Passes as rules
use Rattle.columns.proofs.Tabs.{length_tab}
use Rattle.columns.proofs.Laid.{middle_laid}
use Rattle.queues.specs.Meant.{if_marked}
use Rattle.buckets.specs.Cells.{index}
use Rattle.slots.specs.Table.{count}
use Rattle.slots.specs.Good.{Good}
use Rattle.meaning.specs.Meaning.{slot_at}
use Rattle.entry.specs.Entry.{Lists}
use Rattle.entry_rules.specs.Calling.{Call, GoodCall, members, ext, time, World', args_num, setting, group_num}

-- the slots asked for less those held
pub opens_rule : (v : Call) (home member : List ℕ) → rules.to_open (World' v) (args_num v) (group_num v home member).slots ≡ v.asked - count v.group 1
unfolding rules.to_open
opens_rule v home member =
    ap (λ (n : ℕ). v.asked - n)
    (length_tab (count v.group 1) 0 (slot_at (ext v) (time v) v.group.number (take (members v) member) home v.group.ints v.group.exts))

-- an absent last number is read as 0
pub marked_last : (m n : ℕ) → (m ≡ 0 → n ≡ 0) → at_least0 (if_marked m n) ≡ n
unfolding at_least0
marked_last zero n h = sym (h refl)
marked_last (suc m) n h = refl

pub last_rule : (v : Call) → GoodCall v → at_least0 (setting v).last ≡ count v.group 6
last_rule v good = marked_last (count v.group 7) (count v.group 6) good.group.unmarked

-- the slots listed
listed_rule : (v : Call) → rules.listed (World' v) (args_num v) (index v.group.buckets) ≡ joined (take v.height (index v.group.buckets))
unfolding rules.listed
listed_rule v = refl

-- what the code leaves at the front of the column is what the rules list
pub listed_is : (v : Call) (lent made : List ℕ) (count : ℕ) → length lent ≡ 1024
    → Lists (joined (take v.height (index v.group.buckets))) lent made count
    → take count made ≡ rules.listed (World' v) (args_num v) (index v.group.buckets)
listed_is v lent made count long h =
    let all = joined (take v.height (index v.group.buckets)) in
    ap (λ (k : ℕ). take k made) h.count_is ∙ ap (take (length all)) h.cells
    ∙ middle_laid 0 all lent (omega (arith, h.count_is, h.few)) ∙ sym (listed_rule v)
