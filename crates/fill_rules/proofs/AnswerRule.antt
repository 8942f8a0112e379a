-- An accepted fill that was settled leaves what the rules say: the buffer (`buffer_is`, `store_is`) and the key list (`keys_is`), what is lent
-- past the key rows stays (`lts_past`, `hashes_past`), and demand 3 holds of buffer and group (`demand_of`). Assumes nothing.
use mathlib.Core.Path.{◌≡◌, refl, sym, ap, subst, ◌∙◌}
use mathlib.Core.Bool.{Bool}
use mathlib.Core.List.{List, []}
use Prim.Native.Nat.{ℕ, ◌*◌, ◌≤◌}
use native.Mathlib.Omega.{arith}
use lib.ListN.{length, get_or, drop}
use Rattle.rules.specs.Fill.{Filled}
use Rattle.rules.specs.Calls.{with_now, written}
use Rattle.rules.specs.Demand.{Demand3}
use Rattle.rules.specs.Kept.{TidyBuffer}
use Rattle.demands.proofs.Demand.{demand_3}
use Rattle.columns.specs.Lists.{gather}
use Rattle.columns.specs.Rows.{row_at, flat}
use Rattle.columns.proofs.Laid.{drop_laid}
use Rattle.columns.proofs.Rows.{Wide, length_row, length_flat}
use Rattle.message.specs.Real.{Real}
use Rattle.message.proofs.Real.{real_lawful}
use Rattle.queues.specs.Cols.{Cols, live}
use Rattle.queues.specs.Meant.{buffer_of}
use Rattle.queues.specs.Meant as queues
use Rattle.queues.specs.Good as buffers
use Rattle.slots.specs.Table.{count}
use Rattle.slots.specs.Meant.{group_of}
use Rattle.settle.specs.Copies.{is_key, Keyed}
use Rattle.settle.specs.Ends.{filled_c}
use Rattle.settle.proofs.Copying.{gathered}
use Rattle.meaning.specs.Meaning.{Columns}
use Rattle.meaning.specs.Passes.{RanC}
use Rattle.entry_rules.specs.Calling.{Call, Lent, args, set_of, ext, time, back, buffer_num, fixed, owner_made}
use Rattle.settle_rules.specs.Facts.{BufferFacts, keys_of}
use Rattle.settle_rules.proofs.FactsAfter.{buffer_facts}
use Rattle.settle_rules.proofs.BufferAfter.{buffer_after_lem, store_after}
use Rattle.settle_rules.proofs.GoodBuffer.{good_buffer_after}
use Rattle.settle_rules.proofs.KeysAfter.{keys_after, wide_gather}
use Rattle.fill_rules.proofs.Told.{after}
use Rattle.fill_rules.proofs.Known.{Known, buffer_in, group_in, bytes, bytes_are, taken_up, tidy_buffer, known_keys, keys_room}

module _ {v : Call} {l : Lent} {m₀ : Columns} {x : RanC} {r : ℕ} (p : Known v l m₀ x r) where
  -- ---- the buffer

  facts : BufferFacts (ext v) (time v) (back v) (fixed v) v.buffer x.now.store.owner
  facts = buffer_facts p.entry p.traced p.ran.means.good

  filled_is : buffer_of (live (filled_c x.now.store.owner v.buffer)) ≡ (bytes p).buffer
  filled_is =
      buffer_after_lem x.now facts (after p.ran) p.ran.means.ops (buffer_num v (owner_made v l)) refl
      ∙ sym (ap (λ (f : Filled Real). f.buffer) (bytes_are p))

  module _ {c' : Cols} (made : c' ≡ filled_c x.now.store.owner v.buffer) where
    pub buffer_is : buffer_of (live c') ≡ (bytes p).buffer
    buffer_is = ap (λ (c : Cols). buffer_of (live c)) made ∙ filled_is

    pub store_is : queues.meant c' ≡ with_now Real (queues.meant v.buffer) (bytes p).buffer
    store_is = ap queues.meant made ∙ store_after facts ∙ ap (with_now Real (queues.meant v.buffer)) filled_is

    pub buffer_good : buffers.Good c'
    buffer_good = subst buffers.Good (sym made) (good_buffer_after facts (subst (TidyBuffer Real) (sym filled_is) (tidy_buffer p)))

  -- ---- the key list

  module _ {lts hashes lts' hashes' : List ℕ} {i : ℕ}
      (put : Keyed x.now.store.tally.taken x.now.store.taken v.buffer.kind v.buffer.time v.buffer.hash lts hashes lts' hashes' i)
      (times : r ≤ length lts) (room : 32 * r ≤ length hashes) where
    abbrev n : ℕ
    n = x.now.store.tally.taken

    abbrev test : ℕ → Bool
    test = is_key x.now.store.taken v.buffer.kind

    abbrev new_times : List ℕ
    new_times = gather test (λ k. get_or v.buffer.time (get_or x.now.store.taken k 0) 0) n 0

    abbrev new_rows : List (List ℕ)
    new_rows = gather test (λ k. row_at v.buffer.hash (get_or x.now.store.taken k 0)) n 0

    pub keys_is : keys_of r lts' hashes' ≡ written Real (bytes p).keys (keys_of r lts hashes)
    keys_is =
        keys_after x.now (known_keys p) put r times room (keys_room p) (fixed v) (after p.ran) p.ran.means.ops
        ∙ ap (λ (f : Filled Real). written Real f.keys (keys_of r lts hashes)) (sym (bytes_are p))

    pub lts_past : drop r lts' ≡ drop r lts
    lts_past =
        let e = gathered test (λ k. get_or v.buffer.time (get_or x.now.store.taken k 0) 0) n in
        let k = keys_room p in
        ap (drop r) put.lts_are ∙ drop_laid 0 new_times lts (omega arith) r (omega arith)

    rows_wide : Wide new_rows
    rows_wide =
        wide_gather test (λ k. row_at v.buffer.hash (get_or x.now.store.taken k 0)) n 0
        (λ k h. let a = (known_keys p).there k (omega arith) in let b = (known_keys p).hash_long in
        length_row v.buffer.hash (get_or x.now.store.taken k 0) (omega arith))

    pub hashes_past : drop (32 * r) hashes' ≡ drop (32 * r) hashes
    hashes_past =
        let e = gathered test (λ k. row_at v.buffer.hash (get_or x.now.store.taken k 0)) n in
        let f = length_flat new_rows rows_wide in
        let k = keys_room p in
        ap (drop (32 * r)) put.hashes_are ∙ drop_laid 0 (flat new_rows) hashes (omega arith) (32 * r) (omega arith)

  -- ---- demand 3

  -- it looks at the buffer and the group of an answer
  pub demand_of : (f : Filled Real) → f.buffer ≡ (bytes p).buffer → f.group ≡ (bytes p).group → 1 ≤ v.height
      → Demand3 Real (args v) (buffer_in v) (group_in v) (set_of v) f []
  demand_of f b g high =
      let d = subst (λ (q : Filled Real). Demand3 Real (args v) (buffer_in v) (group_in v) (set_of v) q []) (taken_up p)
      (demand_3 Real (count v.group 0) r (args v) (buffer_in v) (group_in v) (set_of v) p.ok real_lawful
      p.good.buffer.now.tidy.once p.good.group.tidy.sound p.good.group.tidy.tidy high) in
      let e : f ≡ record {
        code = f.code;
        collected = f.collected;
        ops = f.ops;
        dropped = f.dropped;
        keys = f.keys;
        buffer = (bytes p).buffer;
        group = (bytes p).group;
        skipped = f.skipped;
      } = λ i. record {
        code = f.code;
        collected = f.collected;
        ops = f.ops;
        dropped = f.dropped;
        keys = f.keys;
        buffer = b i;
        group = g i;
        skipped = f.skipped;
      } in
      subst (λ (q : Filled Real). Demand3 Real (args v) (buffer_in v) (group_in v) (set_of v) q []) (sym e)
      (record { parted = d.parted; not_past = d.not_past; few = d.few; served = d.served })
