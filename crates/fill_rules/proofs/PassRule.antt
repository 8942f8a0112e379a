-- Entry and passes of a fill: a well-formed call has what they need (`may_pass`), and what they leave is known (`passed`). The parts are shown
-- for any columns that may be lent to the entry; the last part puts in the fresh ones. Assumes nothing.
use mathlib.Core.Path.{◌≡◌, refl, sym, ap, ◌∙◌}
use mathlib.Core.List.{List}
use Prim.Native.Nat.{ℕ, ◌+◌, ◌*◌, ◌<◌, ◌≤◌}
use native.Mathlib.Omega.{arith}
use lib.Dec.{ltb}
use lib.ListN.{length, get_or, take, replicate, length-replicate, length-take}
use Rattle.rules.specs.World.{joined}
use Rattle.rules.specs.Passes as rules
use Rattle.demands.proofs.Fits.{length_keep}
use Rattle.columns.specs.Laid.{laid_at}
use Rattle.columns.proofs.Laid.{length_laid}
use Rattle.message.specs.Real.{Real}
use Rattle.buckets.specs.Cells.{mark, index, GoodBuckets}
use Rattle.slots.specs.Table.{count}
use Rattle.entry.proofs.Listing.{listed_below}
use Rattle.meaning.specs.Meaning.{Columns, columns}
use Rattle.meaning.specs.Walks.{Good}
use Rattle.meaning.specs.Passes.{RanC, run_c}
use Rattle.meaning.specs.Means.{Ran}
use Rattle.meaning.specs.Begins.{Begun}
use Rattle.meaning.proofs.Begins.{begins}
use Rattle.meaning.proofs.Runs.{run_means}
use Rattle.works.specs.Begin.{Fit, works_w, begin_w}
use Rattle.entry_rules.specs.Calling.{Call, GoodCall, Lent, GoodLent, members, ext, time, World', back, args_num, set_num, fixed, setting, buffer_num, group_num, owner_made, plan_made, member_made, home_made, mark_made, cost_made}
use Rattle.entry_rules.proofs.Lents.{fresh_good}
use Rattle.entry_rules.proofs.Facts.{few_rows, few_places, few_members, few_slots, buffer_message, group_message}
use Rattle.entry_rules.proofs.Parties.{member_cell, member_small, party_acc, home_at}
use Rattle.entry_rules.proofs.Classes.{owner_place, rows_linked}
use Rattle.entry_rules.proofs.Renamed.{place_acc}
use Rattle.entry_rules.proofs.Begins.{entry_sizes, entry_begins, entry_agrees}
use Rattle.entry_rules.proofs.Slots.{opens_rule, last_rule, listed_is}
use Rattle.settle_rules.specs.Facts.{EntryFacts, Traced, BlankFrom, OpensAtMost}
use Rattle.settle_rules.proofs.RunTraced.{start_traced, run_traced}
use Rattle.settle_rules.proofs.RunBlank.{run_blank, run_slots, run_numbers, run_new}
use Rattle.fill_rules.specs.Passing.{MayPass, Passed, tally_by, accounts_of, held_of, slots_of, opens_of, ran_of, lent_of}

-- ---- the slots listed below the height

-- at most 64 a bucket
few_below : (cells : List ℕ) → GoodBuckets cells → (height : ℕ) → height ≤ 16 → length (joined (take height (index cells))) ≤ 1024
few_below cells good height h =
    omega (
      arith,
      ap length (listed_below cells good height (omega arith)),
      length_keep (λ (n : ℕ). ltb n mark) (take (64 * height) cells),
      length-take (64 * height) cells,
    )

abbrev below : Call → List ℕ
below v = joined (take v.height (index v.group.buckets))

module _ (v : Call) (good : GoodCall v) where
  below_few : length (below v) ≤ 1024
  below_few = few_below v.group.buckets good.group.buckets v.height good.height

  fit : Fit (accounts_of v) (held_of v) (slots_of v) v.said v.height
  fit = record {
    accounts_fit = record {
      order_long = good.buffer.lengths.accounts;
      places_fit = few_places v good;
      group_long = good.group.lengths.accounts;
      homes_long = good.group.lengths.home;
      members_fit = few_members v good;
    };
    rows_fit = record {
      owner_long = good.buffer.lengths.owner;
      kind_long = good.buffer.lengths.kind;
      time_long = good.buffer.lengths.time;
      n_fits = few_rows v good;
      owned = owner_place v good;
    };
    buckets_good = good.group.buckets;
    spoken = good.said;
    height_fits = good.height;
  }

  -- ---- columns that may be lent

  module _ (l : Lent) (lent : GoodLent v.said.cost l) where
    abbrev start : Columns
    start =
        columns (owner_made v l) l.taken (home_made v l) (member_made v l) v.group.ints v.group.exts (mark_made v l) l.joined
        (tally_by (accounts_of v))

    begun : Begun (ext v) (time v) (args_num v) (fixed v) (setting v) (buffer_num v (owner_made v l)) (group_num v (home_made v l) (member_made v l)) (set_num v)
        (cost_made v l) start
    begun =
        begins (ext v) (time v) (args_num v) (cost_made v l) (fixed v) (setting v) (buffer_num v (owner_made v l)) (group_num v (home_made v l) (member_made v l))
        (set_num v) (owner_made v l) l.taken (home_made v l) (member_made v l) v.group.ints v.group.exts (mark_made v l) l.joined (members v)
        (entry_sizes v good l lent) (entry_begins v good l lent)

    start_good : Good (fixed v) (cost_made v l) start
    start_good = begun.means.good

    entry_facts : EntryFacts (ext v) (time v) (back v) (fixed v) v.buffer v.group (setting v) start
    entry_facts = record {
      good = good.buffer;
      group = good.group;
      rows = refl;
      places = refl;
      accounts = refl;
      acc = place_acc v good l lent;
      member = λ g h. ap (back v).acc (member_cell v good l lent g h) ∙ party_acc v good g h;
      parties = member_small v good l lent;
      homes = λ g h. ap (λ (p : ℕ). get_or (home_made v l) p 0) (member_cell v good l lent g h) ∙ home_at v good l lent g h;
      msg = buffer_message v good;
      old_msg = λ k h. group_message v good k;
      entry = refl;
      external = λ i h. ap Real.external (buffer_message v good i h);
      key = λ i h. refl;
    }

    module _ (room : count v.group 1 + opens_of v ≤ 64) (xs : List ℕ) where
      abbrev left : RanC
      left = run_c (plan_made v l) (cost_made v l) (fixed v) (opens_of v) xs v.group.number (count v.group 1) (count v.group 6) start

      ran : xs ≡ rules.listed (World' v) (args_num v) (index v.group.buckets)
          → Ran (ext v) (time v) (args_num v) (cost_made v l) (fixed v) (setting v) (opens_of v) (buffer_num v (owner_made v l))
          (group_num v (home_made v l) (member_made v l)) (set_num v) left
      ran e =
          run_means (ext v) (time v) (args_num v) (plan_made v l) (cost_made v l) (fixed v) (entry_agrees v good l lent) (buffer_num v (owner_made v l))
          (group_num v (home_made v l) (member_made v l)) (set_num v) (setting v) start begun (opens_of v) room xs
          (sym (opens_rule v (home_made v l) (member_made v l))) e
          (ap (λ (n : ℕ). run_c (plan_made v l) (cost_made v l) (fixed v) (opens_of v) xs v.group.number (count v.group 1) n start)
          (sym (last_rule v good)))

      traced : Traced (fixed v) start left.now
      traced =
          run_traced (plan_made v l) (cost_made v l) (fixed v) (opens_of v) xs v.group.number (count v.group 1) (count v.group 6) start room start_good
          (start_traced (fixed v) start refl refl (entry_begins v good l lent).held)

      blank : BlankFrom left.slots left.now left.number
      blank =
          run_blank (plan_made v l) (cost_made v l) (fixed v) (opens_of v) xs v.group.number (count v.group 1) (count v.group 6) start room
          good.group.lengths.number start_good
          (record { number0 = good.group.blank.number; ints0 = good.group.blank.ints; exts0 = good.group.blank.exts })

      opens : OpensAtMost (opens_of v) (count v.group 1) (count v.group 6) left.slots left.last left.number
      opens =
          run_slots (plan_made v l) (cost_made v l) (fixed v) (opens_of v) xs v.group.number (count v.group 1) (count v.group 6) start
          good.group.lengths.number

      numbers_stay : (j : ℕ) → j < count v.group 1 → get_or left.number j 0 ≡ get_or v.group.number j 0
      numbers_stay =
          run_numbers (plan_made v l) (cost_made v l) (fixed v) (opens_of v) xs v.group.number (count v.group 1) (count v.group 6) start

      numbers_new : (j : ℕ) → count v.group 1 ≤ j → j < left.slots → count v.group 6 < get_or left.number j 0
      numbers_new =
          run_new (plan_made v l) (cost_made v l) (fixed v) (opens_of v) xs v.group.number (count v.group 1) (count v.group 6) start room
          good.group.lengths.number

  -- ---- the slots listed, in a column of n cells

  module _ (n : ℕ) (long : n ≡ 1024) where
    abbrev column : List ℕ
    column = replicate n 0

    column_long : length column ≡ 1024
    column_long = length-replicate n 0 ∙ long

    listed_long : length (laid_at 0 (below v) column) ≡ 1024
    listed_long = length_laid 0 (below v) column (omega (arith, below_few, column_long)) ∙ column_long

    listed_rules : take (length (below v)) (laid_at 0 (below v) column) ≡ rules.listed (World' v) (args_num v) (index v.group.buckets)
    listed_rules =
        listed_is v column (laid_at 0 (below v) column) (length (below v)) column_long (record { cells = refl; count_is = refl; few = below_few })

-- ---- the fresh columns

fresh_lent : (v : Call) → GoodLent v.said.cost (lent_of v)
fresh_lent v = fresh_good 1024 1280 2304 v.said.cost refl refl refl

-- the slots have room, and the numbers fit 16 bits
pub may_pass : (v : Call) → GoodCall v → count v.group 1 + opens_of v ≤ 64 → count v.group 6 + opens_of v ≤ 65535
    → MayPass (accounts_of v) (held_of v) (slots_of v) v.said v.filter v.height (opens_of v) (count v.group 1) (count v.group 6)
unfolding begin_w works_w
may_pass v good room numbers = record {
  fits = fit v good;
  runs = record {
    ready = record { good = start_good v good (lent_of v) (fresh_lent v); linked = rows_linked v good (lent_of v) (fresh_lent v) };
    number_long = good.group.lengths.number;
    slots_fit = room;
    numbers_fit = numbers;
    count_fits = below_few v good;
    listed_long = listed_long v good 1024 refl;
  };
}

-- so they have if at most 64 are asked for
pub opens_fit : (v : Call) → GoodCall v → v.asked ≤ 64 → count v.group 1 + opens_of v ≤ 64
opens_fit v good h = omega (arith, few_slots v.group good.group)

pub passed : (v : Call) → GoodCall v → count v.group 1 + opens_of v ≤ 64 → Passed v (ran_of v)
unfolding begin_w works_w
passed v good room =
    let l = lent_of v in
    let lent = fresh_lent v in
    let xs = take (length (below v)) (laid_at 0 (below v) (replicate 1024 0)) in
    record {
      ran = ran v good l lent room xs (listed_rules v good 1024 refl);
      entry = entry_facts v good l lent;
      traced = traced v good l lent room xs;
      blank = blank v good l lent room xs;
      opens = opens v good l lent room xs;
      numbers_stay = numbers_stay v good l lent room xs;
      numbers_new = numbers_new v good l lent room xs;
    }
