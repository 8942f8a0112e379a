-- The index can follow an accepted fill (`index_fits`): the slots that stood keep their numbers, those opened have numbers above the last, no
-- number stands twice, and no slot's count falls or is above 16. Assumes nothing.
use mathlib.Core.Path.{◌≡◌, refl, sym, ap, subst, ◌∙◌}
use mathlib.Core.Bool.{true}
use mathlib.Core.List.{List, []}
use Prim.Native.Nat.{ℕ, ◌+◌, ◌<◌, ◌≤◌}
use native.Mathlib.Omega.{arith}
use lib.ListN.{length, get_or, take}
use Rattle.rules.specs.World.{World, Slot, is_member}
use Rattle.rules.specs.Queues.{has_slot, count_of, count as count_in}
use Rattle.rules.specs.Demand.{OnceN}
use Rattle.columns.specs.Lists.{tab_i}
use Rattle.columns.proofs.Tabs.{length_tab}
use Rattle.message.specs.Real.{Real}
use Rattle.buckets.specs.Moves.{MayReindex}
use Rattle.buckets.proofs.Picked.{number_among}
use Rattle.buckets.proofs.Groups.{may_reindex}
use Rattle.slots.specs.Table.{count}
use Rattle.slots.specs.Meant.{slot_in, slots_of}
use Rattle.meaning.specs.Meaning.{Columns, slot_at}
use Rattle.meaning.specs.Passes.{RanC}
use Rattle.entry_rules.specs.Calling.{Call, Lent, World', ext, time, members, group_num, home_made, member_made}
use Rattle.entry_rules.proofs.Facts.{numbered, slots_low}
use Rattle.entry_rules.proofs.Slots.{last_rule}
use Rattle.settle_rules.specs.Facts.{held_by}
use Rattle.fill_rules.proofs.Tables.{once_take, held_cell, count_before, stays_among, count_now}
use Rattle.fill_rules.proofs.Told.{told, slots_are, counts_rise}
use Rattle.fill_rules.proofs.Known.{Known}

module _ {v : Call} {l : Lent} {m₀ : Columns} {x : RanC} {r : ℕ} (p : Known v l m₀ x r) where
  abbrev pub old_counts : List ℕ
  old_counts = held_by 64 v.group.ints v.group.exts

  abbrev pub new_counts : List ℕ
  new_counts = held_by 64 x.now.store.ints x.now.store.exts

  pub slots_few : x.slots ≤ 64
  slots_few = p.ran.means.fits.few

  pub numbers_long : x.slots ≤ length x.number
  numbers_long = let a = slots_few in let b = p.opens.long in omega arith

  pub numbers_once : OnceN (take x.slots x.number)
  numbers_once = once_take x.slots x.number p.ran.means.fits.numbered

  low : (i : ℕ) → i < count v.group 1 → get_or v.group.number i 0 ≤ count v.group 6
  low i h = let a = slots_low v.group p.good.group i h in let e = last_rule v p.good in omega arith

  -- the counts at entry, of slots in any world
  before : (W : World) (s : ℕ → Slot W) → ((j : ℕ) → (s j).number ≡ get_or v.group.number j 0)
      → ((j : ℕ) → count_in W (s j) ≡ get_or v.group.ints j 0 + get_or v.group.exts j 0)
      → (j : ℕ) → j < x.slots → count_of W (get_or x.number j 0) (tab_i (count v.group 1) 0 s) ≡ get_or old_counts j 0
  before W s named counted j h =
      let f = slots_few in
      count_before W s v.group.number v.group.ints v.group.exts x.number (count v.group 1) (count v.group 6) x.slots named counted
      (numbered v.group p.good.group) low p.good.group.blank.ints p.good.group.blank.exts p.stay p.new j h (omega arith)

  before_bytes : (j : ℕ) → j < x.slots → count_of Real (get_or x.number j 0) (slots_of v.group) ≡ get_or old_counts j 0
  unfolding slots_of count_in
  before_bytes = before Real (slot_in v.group) (λ j. refl) (λ j. refl)

  pub before_numbers : (j : ℕ) → j < x.slots
      → count_of (World' v) (get_or x.number j 0) (group_num v (home_made v l) (member_made v l)).slots ≡ get_or old_counts j 0
  unfolding count_in
  before_numbers =
      before (World' v) (slot_at (ext v) (time v) v.group.number (take (members v) (member_made v l)) (home_made v l) v.group.ints v.group.exts)
      (λ j. refl) (λ j. refl)

  -- the counts now
  pub new_cell : (j : ℕ) → j < x.slots → get_or new_counts j 0 ≡ get_or x.now.store.ints j 0 + get_or x.now.store.exts j 0
  new_cell j h = let f = slots_few in held_cell x.now.store.ints x.now.store.exts j (omega arith)

  after_numbers : (j : ℕ) → j < x.slots → count_of (World' v) (get_or x.number j 0) (told p.ran).group.slots ≡ get_or new_counts j 0
  unfolding count_in
  after_numbers j h =
      ap (count_of (World' v) (get_or x.number j 0)) (slots_are p.ran)
      ∙ count_now (World' v)
      (slot_at (ext v) (time v) x.number (take x.now.store.tally.accounts x.now.store.member) x.now.store.home
      x.now.store.ints x.now.store.exts)
      x.number x.now.store.ints x.now.store.exts x.slots (λ j. refl) (λ j. refl) p.ran.means.fits.numbered j h
      ∙ sym (new_cell j h)

  rises : (j : ℕ) → j < x.slots → get_or old_counts j 0 ≤ get_or new_counts j 0
  rises j h =
      let a = before_numbers j h in
      let b = after_numbers j h in
      let c = counts_rise p.ran (get_or x.number j 0) in
      omega arith

  low_now : (j : ℕ) → j < x.slots → get_or new_counts j 0 ≤ 16
  low_now j h =
      let f = slots_few in
      let c = new_cell j h in
      let s = p.ran.means.good.store.small j (omega arith) in
      omega arith

  stays : (n : ℕ) → has_slot Real n (slots_of v.group) ≡ true → is_member n (take x.slots x.number) ≡ true
  unfolding slots_of count_in
  stays n h =
      let q =
      stays_among Real (slot_in v.group) v.group.number v.group.ints v.group.exts x.number (count v.group 1) (count v.group 6)
      x.slots (λ j. refl) (λ j. refl) (numbered v.group p.good.group) low p.good.group.blank.ints p.good.group.blank.exts
      p.stay p.new p.opens.more n h in
      subst (λ (y : ℕ). is_member y (take x.slots x.number) ≡ true) (sym q.1.1)
      (number_among x.number x.slots numbers_once numbers_long q.0 q.1.0)

  pub index_fits : MayReindex v.group.buckets x.number old_counts new_counts x.slots
  unfolding count_in
  index_fits =
      let long = slots_few in
      let a = length_tab 64 0 (λ j. get_or v.group.ints j 0 + get_or v.group.exts j 0) in
      let b = length_tab 64 0 (λ j. get_or x.now.store.ints j 0 + get_or x.now.store.exts j 0) in
      may_reindex Real (slots_of v.group) p.good.group.buckets p.good.group.tidy.index
      (λ j. record { number = get_or x.number j 0; accounts = []; ints = get_or x.now.store.ints j 0; exts = get_or x.now.store.exts j 0 })
      x.number old_counts new_counts x.slots
      (λ j h. record { named = refl; before = before_bytes j h; now = sym (new_cell j h) })
      slots_few numbers_long (omega arith, omega arith) numbers_once stays (λ j h. (rises j h, low_now j h))
