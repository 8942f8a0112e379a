-- An accepted fill that has run may be settled: what its end asks of the columns holds (`may_settle`). Assumes nothing.
use mathlib.Core.Path.{◌≡◌, refl}
use Prim.Native.Nat.{ℕ, ◌*◌, ◌<◌, ◌≤◌}
use native.Mathlib.Nat.{div-add-mod}
use native.Mathlib.Omega.{arith}
use lib.ListN.{length, get_or}
use Rattle.rules.specs.Fill.{fill_code}
use Rattle.message.specs.Real.{Real}
use Rattle.queues.specs.Cols.{live}
use Rattle.queues.specs.Meant.{buffer_of}
use Rattle.slots.specs.Table.{count}
use Rattle.slots.specs.Meant.{group_of}
use Rattle.skipped.specs.Sets.{GoodRows}
use Rattle.settle.specs.Copies.{TakesOwners, TakesKeys, TakesParties}
use Rattle.meaning.specs.Meaning.{Columns}
use Rattle.meaning.specs.Passes.{RanC}
use Rattle.entry_rules.specs.Calling.{Call, GoodCall, Lent, args, set_of}
use Rattle.entry_rules.proofs.Facts.{few_rows, few_places, slots_small}
use Rattle.entry_rules.proofs.Lents.{fresh_good}
use Rattle.settle_rules.specs.Settling.{MayRenumber, MaySettleGroup, MaySettle}
use Rattle.fill_rules.specs.Passing.{Passed, lent_of, start_of}
use Rattle.fill_rules.specs.Fills.{Keys, rows_of_keys}
use Rattle.fill_rules.proofs.Told.{taken_few, joined_few}
use Rattle.fill_rules.proofs.Known.{Known, taken_room, members_room, set_room, keys_room}
use Rattle.fill_rules.proofs.IndexRule.{index_fits}

-- what is known of an accepted call that has run
pub known_of : (v : Call) → GoodCall v → GoodRows v.said.k v.said.set → (k : Keys)
    → fill_code Real (count v.group 0) (rows_of_keys k) (args v) (buffer_of (live v.buffer)) (group_of v.group) (set_of v) ≡ 0
    → {x : RanC} → Passed v x → Known v (lent_of v) (start_of v) x (rows_of_keys k)
known_of v good set k ok p = record {
  good = good;
  lent = fresh_good 1024 1280 2304 v.said.cost refl refl refl;
  set = set;
  ok = ok;
  ran = p.ran;
  entry = p.entry;
  traced = p.traced;
  blank = p.blank;
  opens = p.opens;
  stay = p.numbers_stay;
  new = p.numbers_new;
}

module _ {v : Call} {l : Lent} {m₀ : Columns} {x : RanC} {r : ℕ} (p : Known v l m₀ x r) where
  taken_low : x.now.store.tally.taken ≤ 1024
  taken_low = let a = taken_few p.ran in let b = few_rows v p.good in omega arith

  row_low : (k : ℕ) → k < x.now.store.tally.taken → get_or x.now.store.taken k 0 < 1024
  row_low k h = let a = p.traced.store.rows k h in let b = few_rows v p.good in omega arith

  owners : TakesOwners x.now.store.tally.taken x.now.store.owner x.now.store.taken (count v.group 3) 1280 1024
  owners =
      let s = p.ran.means.good.store in
      record {
        few = taken_low;
        rows_long = s.taken_long;
        owners_long = s.owner_long;
        seats_long = refl;
        there = row_low;
        from = p.traced.store.from;
        party = p.traced.store.party;
        room_long = refl;
        fits = taken_room p;
      }

  slots_fit : MayRenumber x.slots x.number x.now.store.ints x.now.store.exts v.group.number v.group.ints v.group.exts
      v.group.buckets
  slots_fit =
      let s = p.ran.means.good.store in
      record {
        ints_long = s.ints_long;
        exts_long = s.exts_long;
        ints2_long = p.good.group.lengths.ints;
        exts2_long = p.good.group.lengths.exts;
        low = s.small;
        low2 = slots_small v.group p.good.group;
        index_fits = index_fits p;
      }

  group_fits : MaySettleGroup v.buffer v.group x
  group_fits =
      let s = p.ran.means.good.store in
      let c = p.good.buffer.lengths in
      let e = p.entry.accounts in
      record {
        kind_long = c.kind;
        form_long = c.form;
        time_long = c.time;
        address_long = c.address;
        hash_long = c.hash;
        accounts_long = c.accounts;
        group = p.good.group;
        home_long = s.home_long;
        member_long = s.member_long;
        owners = owners;
        more = let a = p.traced.store.more in omega arith;
        few = members_room p;
        parties = p.ran.means.good.parties;
        places = λ g a h. let y = p.traced.store.new g (omega arith) h in let z = few_places v p.good in omega arith;
        slots_fit = slots_fit;
      }

  keys_fit : (lts hashes : ℕ) → r ≤ lts → 32 * r ≤ hashes
      → TakesKeys x.now.store.tally.taken x.now.store.taken v.buffer.kind (length v.buffer.time) (length v.buffer.hash) lts hashes
  keys_fit lts hashes a b =
      let k = keys_room p in
      record {
        few = taken_low;
        rows_long = p.ran.means.good.store.taken_long;
        kinds_long = p.good.buffer.lengths.kind;
        times_long = p.good.buffer.lengths.time;
        hash_long = p.good.buffer.lengths.hash;
        there = row_low;
        fits = omega arith;
        hashes_fit = omega arith;
      }

  joins_fit : TakesParties x.now.store.tally.joined x.now.joined v.said.k
  joins_fit = record {
    joined_long = p.ran.means.good.marks.joined_long;
    named = joined_few p.ran;
    there = p.traced.joined;
    fits = set_room p;
  }

-- the key rows fit what is lent
pub rows_fit : (k : Keys) → (rows_of_keys k ≤ length k.lts) × (32 * rows_of_keys k ≤ length k.hashes)
rows_fit k = let e = div-add-mod (length k.hashes) 32 in (omega arith, omega arith)

pub may_settle : (v : Call) → GoodCall v → GoodRows v.said.k v.said.set → (k : Keys)
    → fill_code Real (count v.group 0) (rows_of_keys k) (args v) (buffer_of (live v.buffer)) (group_of v.group) (set_of v) ≡ 0
    → {x : RanC} → Passed v x → MaySettle v.buffer v.group x v.said.set v.said.k (length k.lts) (length k.hashes)
may_settle v good set k ok q =
    let p = known_of v good set k ok q in
    record {
      buffer = good.buffer;
      group = group_fits p;
      set_long = set.long;
      keys = keys_fit p (length k.lts) (length k.hashes) (rows_fit k).0 (rows_fit k).1;
      joins = joins_fit p;
    }
