-- A whole fill, by its code: taken, it leaves what the rules say and what is well formed (`fills_taken`); refused, it leaves all as it was, as
-- the rules do (`fills_refused`). Assumes nothing.
use mathlib.Core.Path.{◌≡◌, refl, sym, ap, subst, ◌∙◌}
use mathlib.Core.List.{List}
use Prim.Native.Nat.{ℕ, ◌*◌, ◌≤◌}
use lib.Dec.{eqb}
use lib.ListN.{length, drop}
use borrow.Author.Tests.{eqb-true}
use Rattle.numbers.proofs.Bytes.{by_bool}
use Rattle.rules.specs.World.{Args, Buffer, Group}
use Rattle.rules.specs.Fill.{Filled, fill_code, fill, accepted, refused}
use Rattle.rules.specs.Calls.{Store, Target, fill_group}
use Rattle.demands.proofs.Reached.{refusal_stays}
use Rattle.columns.specs.Rows.{rows_of}
use Rattle.columns.proofs.Tabs.{length_tab}
use Rattle.message.specs.Answers.{number as number_of}
use Rattle.message.specs.Real.{Real, Key}
use Rattle.message.proofs.Real.{real_lawful}
use Rattle.queues.specs.Cols.{live}
use Rattle.queues.specs.Meant.{buffer_of}
use Rattle.queues.specs.Meant as queues
use Rattle.queues.specs.Good as buffers
use Rattle.slots.specs.Table.{count}
use Rattle.slots.specs.Meant.{group_of}
use Rattle.slots.specs.Meant as slots
use Rattle.slots.specs.Good as groups
use Rattle.skipped.specs.Sets.{GoodRows}
use Rattle.meaning.specs.Meaning.{Columns}
use Rattle.meaning.specs.Passes.{RanC}
use Rattle.entry_rules.specs.Calling.{Call, GoodCall, Lent, args, set_of}
use Rattle.entry_rules.proofs.Answered.{answered}
use Rattle.settle_rules.specs.Facts.{key_at, keys_of}
use Rattle.settle_rules.specs.Settling.{Settled}
use Rattle.fill_rules.specs.Passing.{Passed, opens_of, ran_of}
use Rattle.fill_rules.specs.Fills.{Keys, rows_of_keys, Says, Left, code_of, answer_of, Stays, Takes, Fills}
use Rattle.fill_rules.proofs.Known.{Known, buffer_in, group_in, bytes, bytes_are, taken_up}
use Rattle.fill_rules.proofs.SettleRule.{known_of, rows_fit}
use Rattle.fill_rules.proofs.SetRule.{set_is, set_good}
use Rattle.fill_rules.proofs.GroupRule.{size_same, group_is, group_good}
use Rattle.fill_rules.proofs.AnswerRule.{buffer_is, store_is, buffer_good, keys_is, lts_past, hashes_past, demand_of}

-- ---- the rules' answer

keys_long : (r : ℕ) (lts hashes : List ℕ) → length (keys_of r lts hashes) ≡ r
unfolding keys_of
keys_long r lts hashes = length_tab r 0 (key_at lts hashes)

code_zero : (A : Args Real) (b : Buffer Real) (g : Group Real) (s : List (List ℕ)) → (accepted Real A b g s).code ≡ 0
unfolding accepted
code_zero A b g s = refl

answers : (A : Args Real) (keys : List Key) (s : Store Real) (t : Target Real) (k : List (List ℕ))
    → fill_group Real A keys s t k ≡ answered keys s t (fill Real t.S (length keys) A s.now t.now k)
unfolding fill_group
answers A keys s t k = refl

code_answered : (A : Args Real) (keys : List Key) (s : Store Real) (t : Target Real) (k : List (List ℕ))
    → (fill_group Real A keys s t k).code ≡ fill_code Real t.S (length keys) A s.now t.now k
unfolding fill_group fill accepted refused
code_answered A keys s t k =
    by_bool (eqb (fill_code Real t.S (length keys) A s.now t.now k) 0) (λ e. rw e (sym (eqb-true _ 0 e))) (λ e. rw e)

-- ---- a fill that is taken

module _ {v : Call} {l : Lent} {m₀ : Columns} {x : RanC} {r : ℕ} (p : Known v l m₀ x r) where
  module _ {lts hashes : List ℕ} (times : r ≤ length lts) (room : 32 * r ≤ length hashes) (a : Says) (z : Left)
      (s : Settled v.buffer z.buffer v.group z.group x (opens_of v) v.said.set z.set v.said.k z.held
      lts z.keys.lts hashes z.keys.hashes) where
    pub good_after : buffers.Good z.buffer × groups.Good z.group × GoodRows z.held z.set
    good_after = (buffer_good p s.buffer, group_good p s.group, set_good p s.set_is s.held_is)

    pub ruled_after : number_of a.code ≡ 0
        → a.collected ≡ x.now.store.tally.taken → a.operations ≡ x.now.store.tally.ops → a.dropped ≡ x.dropped
        → answer_of r a z
        ≡ fill_group Real (args v) (keys_of r lts hashes) (queues.meant v.buffer) (slots.meant v.group) (set_of v)
    ruled_after done collected operations dropped =
        let code = done ∙ sym (code_zero (args v) (buffer_in v) (group_in v) (set_of v)) in
        let taken = collected ∙ sym (ap (λ (f : Filled Real). f.collected) (bytes_are p)) in
        let ops = operations ∙ sym (ap (λ (f : Filled Real). f.ops) (bytes_are p)) in
        let gone = dropped ∙ sym (ap (λ (f : Filled Real). f.dropped) (bytes_are p)) in
        let keys = keys_is p s.keys times room in
        let store = store_is p s.buffer in
        let size = size_same p s.group in
        let group = group_is p s.group in
        let set = set_is p s.set_is s.held_is in
        let all : answer_of r a z ≡ answered (keys_of r lts hashes) (queues.meant v.buffer) (slots.meant v.group) (bytes p) = λ i. record {
          code = code i;
          collected = taken i;
          ops = ops i;
          dropped = gone i;
          keys = keys i;
          store = store i;
          target = record { S = size i; now = group i };
          skipped = set i;
        } in
        let same =
        ap (λ (n : ℕ). fill Real (count v.group 0) n (args v) (buffer_in v) (group_in v) (set_of v)) (keys_long r lts hashes) ∙ taken_up p in
        all
        ∙ ap (answered (keys_of r lts hashes) (queues.meant v.buffer) (slots.meant v.group)) (sym same)
        ∙ sym (answers (args v) (keys_of r lts hashes) (queues.meant v.buffer) (slots.meant v.group) (set_of v))

pub fills_taken : (v : Call) → GoodCall v → GoodRows v.said.k v.said.set → (k : Keys) (a : Says) (z : Left) → Passed v (ran_of v)
    → number_of (code_of v k) ≡ fill_code Real (count v.group 0) (rows_of_keys k) (args v) (buffer_of (live v.buffer)) (group_of v.group) (set_of v)
    → number_of a.code ≡ 0 → Takes v k a z → a.code ≡ code_of v k → Fills v k a z
fills_taken v good set k a z passed code_is done takes code =
    let p = known_of v good set k (sym code_is ∙ ap number_of (sym code) ∙ done) passed in
    let f = rows_fit k in
    let s = takes.left in
    record {
      good = good_after p f.0 f.1 a z s;
      ruled = ruled_after p f.0 f.1 a z s done takes.collected takes.operations takes.dropped;
      past = (lts_past p s.keys f.0 f.1, hashes_past p s.keys f.0 f.1);
      demand3 = λ e high. demand_of p _ (buffer_is p s.buffer) (group_is p s.group) high;
      exactly = record { code = code; refused = λ not0. absurd (not0 done); taken = λ e. takes };
    }

-- ---- a fill that is refused

pub fills_refused : (v : Call) → buffers.Good v.buffer → groups.Good v.group → GoodRows v.said.k v.said.set → (k : Keys) (a : Says) (z : Left)
    → number_of (code_of v k) ≡ fill_code Real (count v.group 0) (rows_of_keys k) (args v) (buffer_of (live v.buffer)) (group_of v.group) (set_of v)
    → (number_of a.code ≡ 0 → ⊥) → Stays v k a z → a.code ≡ code_of v k → Fills v k a z
fills_refused v buffer group set k a z code_is not0 stays code =
    let r = rows_of_keys k in
    let keys = keys_of r k.lts k.hashes in
    let long : fill_code Real (count v.group 0) (length keys) (args v) (buffer_in v) (group_in v) (set_of v) ≡ number_of a.code =
    ap (λ (n : ℕ). fill_code Real (count v.group 0) n (args v) (buffer_in v) (group_in v) (set_of v)) (keys_long r k.lts k.hashes)
    ∙ sym code_is ∙ ap number_of (sym code) in
    let b = stays.state.0 in
    let g = stays.state.1 in
    let n = stays.state.2 in
    let h = stays.state.3 in
    let rows : rows_of z.held z.set ≡ set_of v = λ i. rows_of (h i) (n i) in
    record {
      good = (
        subst buffers.Good (sym b) buffer,
        subst groups.Good (sym g) group,
        subst (λ (m : ℕ). GoodRows m z.set) (sym h) (subst (GoodRows v.said.k) (sym n) set),
      );
      ruled = (λ i. record {
        code = sym long i;
        collected = stays.counts.0 i;
        ops = stays.counts.1 i;
        dropped = stays.counts.2 i;
        keys = keys_of r (stays.lent i).lts (stays.lent i).hashes;
        store = queues.meant (b i);
        target = slots.meant (g i);
        skipped = rows i;
      })
          ∙ sym (refusal_stays Real real_lawful (args v) keys (queues.meant v.buffer) (slots.meant v.group) (set_of v)
          (λ e. not0 (sym long ∙ sym (code_answered (args v) keys (queues.meant v.buffer) (slots.meant v.group) (set_of v)) ∙ e)));
      past = (ap (λ (q : Keys). drop r q.lts) stays.lent, ap (λ (q : Keys). drop (32 * r) q.hashes) stays.lent);
      demand3 = λ e high. absurd (not0 e);
      exactly = record { code = code; refused = λ n. stays; taken = λ e. absurd (not0 e) };
    }
