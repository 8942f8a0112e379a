-- What each part of a join needs, from two well formed groups whose join is taken; and what the parts make together (crate group_rules).
-- Assumes nothing.
use mathlib.Core.Path.{◌≡◌, refl, sym, ap, subst, ◌∙◌}
use mathlib.Core.List.{List}
use Prim.Native.Nat.{ℕ, zero, suc, ◌+◌, ◌≤◌}
use native.Mathlib.Omega.{arith}
use lib.ListN.{length, get_or}
use borrow.Author.Tests.{ne_eqb}
use Rattle.rules.specs.Fill.{next_number, group_ints, group_exts, renumbered, listed_too}
use Rattle.rules.specs.Queues.{all_msgs}
use Rattle.rules.specs.Calls as calls
use Rattle.message.specs.Answers.{Code, Done, number as number_of}
use Rattle.message.specs.Real.{Real}
use Rattle.queues.specs.Meant.{order_of}
use Rattle.queues.proofs.Counts.{both_kinds}
use Rattle.buckets.specs.Cells.{index, GoodBuckets}
use Rattle.slots.specs.Table.{Table, count}
use Rattle.slots.specs.Meant.{listed, group_of, meant}
use Rattle.slots.specs.Good.{Good}
use Rattle.slots.specs.Join.{fresh_t, next_t, join_code_t, joined_numbers_by, joined_t, AccountsJoined, MessagesJoined, RecordsJoined}
use Rattle.joins.specs.Laying.{Rooms}
use Rattle.number_joins.specs.Sums.{Summable}
use Rattle.slot_joins.specs.Slots.{MayAddSlots, SlotsAdded}
use Rattle.group_rules.proofs.GroupLook.{messages_told}
use Rattle.group_rules.proofs.JoinCode.{refused_is, joins}
use Rattle.group_rules.proofs.JoinRoom.{Pair, pair, slots_fit, accounts_fit, messages_fit}
use Rattle.group_rules.proofs.JoinRule.{join_is}
use Rattle.group_rules.proofs.JoinIndex.{slot_small, listable_from, index_from}
use Rattle.group_rules.proofs.JoinGood.{join_good}
use Rattle.group_rules.proofs.FreshRule.{fresh_good}
use Rattle.merging.specs.Merges.{rows, Merges, MayAdd, Added}

-- a join that is taken
pub record Joinable (l r : Table) : Type 0 where
  pub left : Good l
  pub right : Good r
  pub taken : join_code_t l r ≡ Done

-- the buckets that list the new slots
pub record BucketsOf (l r : Table) (cells : List ℕ) : Type 0 where
  pub good : GoodBuckets cells
  pub holds : index cells ≡ listed_too Real (renumbered Real (next_number Real (group_of l).last) (group_of r).slots) 0 (index l.buckets)

-- past the refusal the join is taken
pub joinable : {l r : Table} {code : Code} → Good l → Good r → code ≡ join_code_t l r → code ≡ Done → Joinable l r
joinable g h e z = record { left = g; right = h; taken = sym e ∙ z }

-- a group's counts are few
kinds_few : (t : Table) → Good t → count t 4 + count t 5 ≤ 1024
unfolding group_ints group_exts
kinds_few t g = omega (arith, g.ints, g.exts, both_kinds Real (all_msgs Real (order_of (listed t))), messages_told t g, g.messages)

few_of : (t : Table) → Good t → (i : ℕ) → 1 ≤ i → i ≤ 5 → get_or t.numbers i 0 ≤ 1024
few_of t g zero a b = absurd (omega arith)
few_of t g (suc zero) a b = omega (arith, g.slots, g.S·high)
few_of t g (suc (suc zero)) a b = g.accounts
few_of t g (suc (suc (suc zero))) a b = g.messages
few_of t g (suc (suc (suc (suc zero)))) a b = omega (arith, kinds_few t g)
few_of t g (suc (suc (suc (suc (suc zero))))) a b = omega (arith, kinds_few t g)
few_of t g (suc (suc (suc (suc (suc (suc i)))))) a b = absurd (omega arith)

-- a code can be decided
pub rooms : (t : Table) → Good t → Rooms t.numbers
rooms t g = record {
  slots = omega (arith, g.slots, g.S·high);
  held = g.accounts;
  last = g.last;
}

-- ---- all rows; `first` is the number of the first new slot

module _ {l r : Table} (p : MayAdd l r) (first : ℕ) (e : first ≡ next_t l) where
  pub may_add_slots : MayAddSlots (count l 1) (count r 1) first (length l.number) (length l.ints) (length l.exts) l.buckets r.ints r.exts
  may_add_slots =
      subst (λ (f : ℕ). MayAddSlots (count l 1) (count r 1) f (length l.number) (length l.ints) (length l.exts) l.buckets r.ints r.exts)
      (sym e) p.slots

  pub may_sum : Summable first l.numbers r.numbers
  may_sum = subst (λ (f : ℕ). Summable f l.numbers r.numbers) (sym e) p.sums

  pub added : {l' : Table}
      → SlotsAdded (count l 1) (count r 1) first r.ints r.exts l.number l.ints l.exts l.buckets l'.number l'.ints l'.exts l'.buckets
      → AccountsJoined (count l 2) (count r 2) (count l 1) r.accounts r.home l.accounts l.home l'.accounts l'.home
      → MessagesJoined (count l 3) (count r 3) (count l 2) r.owner r.kind r.form r.time l.owner l.kind l.form l.time l'.owner l'.kind l'.form l'.time
      → RecordsJoined (count l 3) (count r 3) r.address r.hash l.address l.hash l'.address l'.hash
      → l'.numbers ≡ joined_numbers_by first l.numbers r.numbers → Added l r l'
  added {l'} s a m d n = record {
    slots = subst
        (λ (f : ℕ). SlotsAdded (count l 1) (count r 1) f r.ints r.exts l.number l.ints l.exts l.buckets l'.number l'.ints l'.exts l'.buckets)
        e s;
    accounts = a;
    messages = m;
    records = d;
    numbers = n ∙ ap (λ (f : ℕ). joined_numbers_by f l.numbers r.numbers) e;
  }

-- ---- what the parts need

-- the columns of the right that are read
abbrev pub read : Table → Table
read r = rows r.ints r.exts r.accounts r.home r.owner r.kind r.form r.time r.address r.hash r.numbers

module _ {l r : Table} (j : Joinable l r) where
  both : Pair l r
  both = pair j.left j.right j.taken

  pub may_add : MayAdd l (read r)
  may_add = record {
    slots = record {
      room = record {
        room = slots_fit both;
        low = omega (arith, (joins l r j.taken).numbers);
        number = j.left.lengths.number;
        int = j.left.lengths.ints;
        ext = j.left.lengths.exts;
        int2 = j.right.lengths.ints;
        ext2 = j.right.lengths.exts;
      };
      few = record {
        few = omega (arith, j.right.slots, j.right.S·high);
        low = λ i h. omega (arith, slot_small r j.right i h);
      };
      lists = λ counts c. listable_from l r j.left j.right j.taken counts c.each c.long;
    };
    accounts = record {
      room = accounts_fit both;
      low = λ i h. let y = j.right.housed i h in let z = slots_fit both in omega arith;
      account = j.left.lengths.accounts;
      home = j.left.lengths.home;
      account2 = j.right.lengths.accounts;
      long2 = j.right.lengths.home;
    };
    messages = record {
      room = messages_fit both;
      low = λ i h. let y = j.right.placed i h in let z = accounts_fit both in omega arith;
      owner = j.left.lengths.owner;
      kind = j.left.lengths.kind;
      form = j.left.lengths.form;
      time = j.left.lengths.time;
      long2 = j.right.lengths.owner;
      kind2 = j.right.lengths.kind;
      form2 = j.right.lengths.form;
      time2 = j.right.lengths.time;
    };
    records = record {
      room = messages_fit both;
      address = j.left.lengths.address;
      hash = j.left.lengths.hash;
      address2 = j.right.lengths.address;
      hash2 = j.right.lengths.hash;
    };
    sums = record {
      many = j.left.lengths.numbers;
      many2 = j.right.lengths.numbers;
      low = λ i a b. let x = few_of l j.left i a b in let y = few_of r j.right i a b in omega arith;
      next = omega (arith, (joins l r j.taken).numbers);
    };
    last = j.left.last;
  }

  -- the parts together
  module _ {l' : Table} (a : Added l (read r) l') where
    pub added_is : l' ≡ joined_t l r l'.buckets
    unfolding joined_t
    added_is = λ i. record {
      number = a.slots.joined.number i;
      ints = a.slots.joined.ints i;
      exts = a.slots.joined.exts i;
      accounts = a.accounts.accounts i;
      home = a.accounts.home i;
      owner = a.messages.owner i;
      kind = a.messages.kind i;
      form = a.messages.form i;
      time = a.messages.time i;
      address = a.records.address i;
      hash = a.records.hash i;
      buckets = l'.buckets;
      numbers = a.numbers i;
    }

    pub lists_new : BucketsOf l r l'.buckets
    lists_new =
        let s = a.slots in
        record { good = s.listed.good; holds = index_from l r j.left j.right j.taken s.counts s.counted.each s.listed }

-- ---- both answers

abbrev answered : ℕ → Table → Table → calls.JoinAnswer Real
answered c l r = record { code = c; left = meant l; right = meant r }

module _ (l r : Table) (code : Code) (e : code ≡ join_code_t l r) where
  pub join_refused : Good l → Good r → (number_of code ≡ 0 → ⊥) → Merges l r code l r
  join_refused g h n =
      let m : number_of (join_code_t l r) ≡ 0 → ⊥ = λ z. n (ap number_of e ∙ z) in
      record {
        good = (g, h);
        ruled = ap (λ (c : Code). answered (number_of c) l r) e ∙ sym (refused_is l r m);
        exactly = record { code = e; left = rw (ne_eqb _ 0 m); right = rw (ne_eqb _ 0 m) };
      }

  pub join_taken : (l' r' : Table) → Joinable l r → Added l (read r) l' → r' ≡ fresh_t (count r 0) → Merges l r code l' r'
  join_taken l' r' j x f =
      let done : code ≡ Done = e ∙ j.taken in
      let a = added_is j x in
      let b = lists_new j x in
      record {
        good = (
          subst Good (sym a) (join_good l r j.left j.right j.taken l'.buckets b.good b.holds),
          subst Good (sym f) (fresh_good (count r 0) j.right.S·low j.right.S·high),
        );
        ruled = (λ i. answered (number_of (done i)) (a i) (f i)) ∙ sym (join_is l r j.left j.right j.taken l'.buckets b.holds);
        exactly = record { code = e; left = a ∙ rw j.taken; right = f ∙ rw j.taken };
      }
