-- The group after an accepted fill: what the settled columns mean is the group of the rules' answer (`group_is`), and they are well formed
-- (`group_good`). Assumes nothing.
use mathlib.Core.Path.{◌≡◌, sym, ap, subst, ◌∙◌}
use mathlib.Core.Bool.{not}
use mathlib.Core.List.{List}
use mathlib.Core.Option.{Option}
use Prim.Native.Nat.{ℕ, zero, suc, ◌+◌, ◌-◌, ◌≤◌}
use native.Mathlib.Omega.{arith}
use lib.ListN.{length, get_or, length-map}
use Rattle.rules.specs.World.{Args, Buffer, Group, at_least0, keep}
use Rattle.rules.specs.Queues.{internals, externals}
use Rattle.rules.specs.Passes.{ended}
use Rattle.rules.specs.Fill.{Filled, accepted, group_after, group_ints, group_exts, reindexed}
use Rattle.rules.specs.Kept.{TidyGroup}
use Rattle.demands.proofs.Rows.{keep_both}
use Rattle.demands.proofs.RoomFill.{given_fill, last_fill}
use Rattle.columns.specs.Lists.{rank}
use Rattle.message.specs.Real.{Real, key_of}
use Rattle.message.proofs.Real.{real_lawful}
use Rattle.queues.specs.Cols.{live}
use Rattle.queues.specs.Meant.{buffer_of, if_marked}
use Rattle.buckets.specs.Cells.{index}
use Rattle.slots.specs.Table.{Table, count}
use Rattle.slots.specs.Meant.{group_of}
use Rattle.slots.specs.Good as slots
use Rattle.settle.specs.Copies.{is_key}
use Rattle.meaning.specs.Meaning.{Columns}
use Rattle.meaning.specs.Passes.{RanC}
use Rattle.meaning.specs.Means.{last_after}
use Rattle.entry_rules.specs.Calling.{Call, Lent, args, set_of, World', ext, time, back, group_num, fixed, home_made, member_made}
use Rattle.entry_rules.proofs.Slots.{last_rule}
use Rattle.settle_rules.specs.Facts.{EntryFacts, GroupFacts, TableSettled, Settling}
use Rattle.settle_rules.proofs.FactsAfter.{group_facts}
use Rattle.settle_rules.proofs.InCounts.{in_0, in_1, in_last}
use Rattle.settle_rules.proofs.WholeGroup.{index_after, group_after_lem}
use Rattle.settle_rules.proofs.GoodGroup.{settled, good_group_after}
use Rattle.fill_rules.specs.Passing.{opens_of}
use Rattle.fill_rules.proofs.Told.{after, state, last_is}
use Rattle.fill_rules.proofs.Known.{Known, buffer_in, group_in, bytes, bytes_are, tidy_group, taken_room, members_room, slots_are_few, keys_many}
use Rattle.fill_rules.proofs.IndexRule.{old_counts, new_counts, numbers_once, numbers_long, before_numbers, new_cell}

-- ---- any accepted fill in bytes: the group's counts

module _ (A : Args Real) (b : Buffer Real) (g : Group Real) (s : List (List ℕ)) where
  ints_fill : group_ints Real (accepted Real A b g s).group ≡ group_ints Real g + length (accepted Real A b g s).keys
  unfolding accepted group_after group_ints internals
  ints_fill =
      let e = length-map (keep (λ m. not (Real.external m)) (ended Real A b g s).taken) key_of in
      let h = given_fill Real real_lawful (λ m. not (Real.external m)) A b g s in
      omega arith

  exts_fill : group_exts Real (accepted Real A b g s).group ≡ group_exts Real g + ((accepted Real A b g s).collected - length (accepted Real A b g s).keys)
  unfolding accepted group_after group_exts externals
  exts_fill =
      let e = length-map (keep (λ m. not (Real.external m)) (ended Real A b g s).taken) key_of in
      let h = given_fill Real real_lawful Real.external A b g s in
      let k = keep_both Real.external (ended Real A b g s).taken in
      omega arith

-- the last number is the one given, where slots were to be opened
last_low : (k : ℕ) (l : Option ℕ) (last entry : ℕ) → entry ≤ 65535 → last ≤ entry + k → at_least0 (last_after k l last) ≤ 65535 → last ≤ 65535
unfolding last_after at_least0
last_low zero l last entry a b h = omega arith
last_low (suc k) l last entry a b h = h

module _ {v : Call} {l : Lent} {m₀ : Columns} {x : RanC} {r : ℕ} (p : Known v l m₀ x r) where
  -- ---- what the run left

  entry_after : EntryFacts (ext v) (time v) (back v) (fixed v) v.buffer v.group (after p.ran) m₀
  entry_after =
      let e = p.entry in
      record {
        good = e.good;
        group = e.group;
        rows = e.rows;
        places = e.places;
        accounts = e.accounts;
        acc = e.acc;
        member = e.member;
        parties = e.parties;
        homes = e.homes;
        msg = e.msg;
        old_msg = e.old_msg;
        entry = e.entry;
        external = e.external;
        key = e.key;
      }

  facts : GroupFacts (ext v) (time v) (back v) v.buffer v.group (after p.ran) x.now
  facts = group_facts entry_after p.traced p.ran.means.good (taken_room p) (members_room p)

  last_few : x.last ≤ 65535
  last_few =
      let g = p.good.group in
      let e = last_rule v p.good in
      last_low (opens_of v) _ x.last (count v.group 6) g.last p.opens.last_most
      (subst (λ (o : Option ℕ). at_least0 o ≤ 65535) (ap (λ (f : Filled Real). f.group.last) (bytes_are p) ∙ last_is p.ran)
      (last_fill Real real_lawful (count v.group 0) r (args v) (buffer_in v) (group_in v) (set_of v) p.ok (omega arith)))

  module _ {t' : Table} {seat₀ : List ℕ} (s : TableSettled v.group t' v.buffer x (opens_of v) seat₀) where
    abbrev taken : ℕ
    taken = x.now.store.tally.taken

    abbrev all : ℕ
    all = x.now.store.tally.accounts

    abbrev keys : ℕ
    keys = rank (is_key x.now.store.taken v.buffer.kind) taken

    long : length v.group.numbers ≡ 16
    long = p.good.group.lengths.numbers

    -- ---- the numbers

    pub size_same : count t' 0 ≡ count v.group 0
    size_same = ap (λ (ns : List ℕ). get_or ns 0 0) s.numbers ∙ in_0 x.slots all taken keys (opens_of v) x.last v.group.numbers

    slots_now_lem : count t' 1 ≡ x.slots
    slots_now_lem = ap (λ (ns : List ℕ). get_or ns 1 0) s.numbers ∙ in_1 x.slots all taken keys (opens_of v) x.last v.group.numbers long

    last_now : if_marked (count t' 7) (count t' 6) ≡ (after p.ran).last
    last_now =
        ap (λ (ns : List ℕ). if_marked (get_or ns 7 0) (get_or ns 6 0)) s.numbers
        ∙ in_last x.slots all taken keys (opens_of v) x.last v.group.numbers long

    -- ---- the meaning

    abbrev entry_group : Group (World' v)
    entry_group = group_num v (home_made v l) (member_made v l)

    index_is : index t'.buckets ≡ reindexed (World' v) entry_group.slots (state p.ran).slots 0 entry_group.index
    index_is =
        index_after (fixed v) (after p.ran) p.ran.means.ops x.now entry_group.slots (old_counts p) (new_counts p)
        v.group.buckets t'.buckets (numbers_once p) (numbers_long p) (before_numbers p) (λ j h. sym (new_cell p j h)) s.buckets

    pub group_is : group_of t' ≡ (bytes p).group
    group_is =
        group_after_lem entry_group facts (settled s long) p.ran.means.fits slots_now_lem s.number s.ints s.exts last_now index_is
        ∙ sym (ap (λ (f : Filled Real). f.group) (bytes_are p))

    -- ---- well formed

    ints_now : group_ints Real (group_of t') ≡ count v.group 4 + keys
    ints_now =
        let h = ints_fill (args v) (buffer_in v) (group_in v) (set_of v) in
        let e = ap (group_ints Real) group_is in
        let k = keys_many p in
        let g = p.good.group.ints in
        omega arith

    exts_now : group_exts Real (group_of t') ≡ count v.group 5 + (taken - keys)
    exts_now =
        let h = exts_fill (args v) (buffer_in v) (group_in v) (set_of v) in
        let e = ap (group_exts Real) group_is in
        let k = keys_many p in
        let n : (bytes p).collected ≡ taken = ap (λ (f : Filled Real). f.collected) (bytes_are p) in
        let g = p.good.group.exts in
        omega arith

    settling : Settling v.group t' v.buffer x
    settling = record {
      buffer = p.good.buffer;
      number_long = p.opens.long;
      ints_long = p.ran.means.good.store.ints_long;
      exts_long = p.ran.means.good.store.exts_long;
      number_clear = p.blank.number0;
      ints_clear = p.blank.ints0;
      exts_clear = p.blank.exts0;
      room = slots_are_few p;
      last = last_few;
      internals = ints_now;
      externals = exts_now;
      tidy = subst (TidyGroup Real) (sym group_is) (tidy_group p);
    }

    pub group_good : slots.Good t'
    group_good = good_group_after facts s p.ran.means.fits settling
