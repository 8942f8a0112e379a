-- `entry_begins`: the columns that the entry of a fill leaves hold the buffer, the group and the skipped set, on numbers, and say what the
-- arguments say; `entry_sizes` and `entry_agrees` with it. Assumes nothing.
use mathlib.Core.Path.{◌≡◌, refl, ap, ◌∙◌}
use Prim.Native.Nat.{ℕ, ◌<◌, ◌≤◌}
use native.Mathlib.Omega.{arith}
use lib.ListN.{length, get_or}
use Rattle.rules.specs.World.{is_nil}
use Rattle.columns.proofs.Tabs.{length_tab}
use Rattle.meaning.specs.Meaning.{Agrees}
use Rattle.meaning.specs.Begins.{Sizes, Begins}
use Rattle.entry_rules.specs.Calling.{Call, GoodCall, Lent, GoodLent, members, ext, time, args_num, set_num, entry_list, fixed, setting, buffer_num, group_num, owner_made, plan_made, member_made, home_made, mark_made, cost_made}
use Rattle.entry_rules.proofs.Facts.{few_rows, few_places, few_members, few_slots, entry_list_lem, list_filled, numbered, slots_small, slots_low}
use Rattle.entry_rules.proofs.Parties.{member_long, member_small, member_once, home_long, home_housed, home_lodged, mark_long, cost_long}
use Rattle.entry_rules.proofs.Says.{inset, says, costs}
use Rattle.entry_rules.proofs.Classes.{class_drops, class_kinds, owner_long, owner_cell}

module _ (v : Call) (good : GoodCall v) (l : Lent) (lent : GoodLent v.said.cost l) where
  pub entry_sizes : Sizes (fixed v) (cost_made v l) (owner_made v l) l.taken (home_made v l) (member_made v l) v.group.ints v.group.exts
      (mark_made v l) l.joined
  entry_sizes = record {
    owner_long = owner_long v good l lent;
    taken_long = lent.taken;
    home_long = home_long v good l lent;
    member_long = member_long v good l lent;
    ints_long = good.group.lengths.ints;
    exts_long = good.group.lengths.exts;
    mark_long = mark_long v good l lent;
    joined_long = lent.joined;
    cost_long = cost_long v good l lent;
    rows_fit = few_rows v good;
    places_fit = few_places v good;
    height_fit = good.height;
  }

  pub entry_begins : Begins (ext v) (time v) (args_num v) (fixed v) (setting v) (buffer_num v (owner_made v l))
      (group_num v (home_made v l) (member_made v l)) (set_num v) (owner_made v l) (home_made v l) (member_made v l) v.group.ints v.group.exts
      (mark_made v l) (members v)
  entry_begins = record {
    order = refl;
    held = λ i h. let e = owner_cell v good l lent i h in omega (arith, good.buffer.now.placed i h);
    lists = refl;
    as_many = omega (arith, length_tab (members v) 0 (entry_list v));
    filled = λ i h. ap is_nil (entry_list_lem v good i h) ∙ list_filled v good i h;
    most = omega (arith, few_members v good);
    parties = member_small v good l lent;
    once = member_once v good l lent;
    housed = home_housed v good l lent;
    lodged = home_lodged v good l lent;
    slots = refl;
    last = refl;
    few = few_slots v.group good.group;
    small = slots_small v.group good.group;
    numbers_long = good.group.lengths.number;
    numbered = numbered v.group good.group;
    low = slots_low v.group good.group;
    ints0 = good.group.blank.ints;
    exts0 = good.group.blank.exts;
    skipped = refl;
    inset = inset v good l lent;
    says = says v good l lent;
  }

  pub entry_agrees : Agrees (ext v) (time v) (args_num v) (plan_made v l) (cost_made v l) (fixed v)
  entry_agrees = record {
    drops = class_drops v good l lent;
    kinds = class_kinds v good l lent;
    height = refl;
    costs = costs v good l lent;
  }
