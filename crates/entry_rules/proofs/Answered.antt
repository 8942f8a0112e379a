-- `fill_group_on_numbers`: the answer of a fill in bytes, read off the fill on numbers. Assumes nothing.
use mathlib.Core.Path.{◌≡◌, refl, ap, ◌∙◌}
use mathlib.Core.List.{List}
use Prim.Native.Nat.{ℕ}
use lib.ListN.{length}
use Rattle.rules.specs.Fill.{Filled, fill}
use Rattle.rules.specs.Calls.{Store, Target, FillAnswer, fill_group, with_now, written}
use Rattle.renaming.specs.Renaming.{on_filled}
use Rattle.message.specs.Real.{Real, Key}
use Rattle.queues.specs.Meant as queues
use Rattle.slots.specs.Table.{count}
use Rattle.slots.specs.Meant as slots
use Rattle.entry_rules.specs.Calling.{Call, GoodCall, Lent, GoodLent, args, set_of, World', back, args_num, set_num, buffer_num, group_num, owner_made, member_made, home_made}
use Rattle.entry_rules.proofs.Renamed.{fill_on_numbers}

-- the answer that a fill gives
abbrev pub answered : (keys : List Key) → Store Real → Target Real → Filled Real → FillAnswer Real
answered keys s t f = record {
  code = f.code;
  collected = f.collected;
  ops = f.ops;
  dropped = f.dropped;
  keys = written Real f.keys keys;
  store = with_now Real s f.buffer;
  target = record { S = t.S; now = f.group };
  skipped = f.skipped;
}

module _ (v : Call) (good : GoodCall v) (l : Lent) (lent : GoodLent v.said.cost l) where
  pub fill_group_on_numbers : (keys : List Key)
      → fill_group Real (args v) keys (queues.meant v.buffer) (slots.meant v.group) (set_of v)
      ≡ answered keys (queues.meant v.buffer) (slots.meant v.group)
      (on_filled (back v) (fill (World' v) (count v.group 0) (length keys) (args_num v) (buffer_num v (owner_made v l)) (group_num v (home_made v l) (member_made v l)) (set_num v)))
  unfolding fill_group
  fill_group_on_numbers keys =
      ap (answered keys (queues.meant v.buffer) (slots.meant v.group)) (fill_on_numbers v good l lent (count v.group 0) (length keys))
