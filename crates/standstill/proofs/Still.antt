-- A fill with nothing to do takes what `Fills` says of a fill that is taken, and leaves all as it was: `stands_still`. The parts are shown for
-- any columns that may be lent to the entry; the last part puts in the fresh ones. Assumes nothing.
use mathlib.Core.Path.{◌≡◌, refl, sym, ap, subst, ◌∙◌}
use mathlib.Core.Bool.{Bool, true, false, cond}
use mathlib.Core.List.{List, [], ◌∷◌}
use Prim.Native.Nat.{ℕ, ◌-◌, ◌<◌}
use native.Mathlib.Nat.{add-zero, sub_self}
use native.Mathlib.Omega.{arith}
use lib.Dec.{eqb}
use lib.ListN.{length, get_or, take, replicate, length-replicate}
use lib.Seq.{length-take-le, set-get_or}
use borrow.Author.Tests.{eqb-true, eqb-false}
use Rattle.numbers.proofs.Bytes.{clash}
use Rattle.rules.specs.World.{is_nil, joined}
use Rattle.rules.specs.Queues.{droppable}
use Rattle.columns.specs.Lists.{tab_i, gather, rank}
use Rattle.columns.specs.Laid.{laid_at}
use Rattle.columns.specs.Rows.{flat}
use Rattle.columns.proofs.Laid.{middle_laid, laid_none}
use Rattle.message.specs.Answers.{Code}
use Rattle.message.specs.declared.Filter.{Filter}
use Rattle.message.specs.declared.Filter.TheVariants.{Off, Below}
use Rattle.message.specs.Real.{filter_of}
use Rattle.buckets.specs.Cells.{index}
use Rattle.slots.specs.Table.{count}
use Rattle.entry.specs.Entry.{owners_c}
use Rattle.works.specs.Begin.{works_w, begin_w}
use Rattle.moves.specs.Moves.{sum}
use Rattle.meaning.specs.Meaning.{Columns, columns}
use Rattle.meaning.specs.Passes.{RanC, ran_c, left_c, run_c}
use Rattle.meaning.proofs.Begins.{begins}
use Rattle.entry_rules.specs.Calling.{Call, GoodCall, Lent, GoodLent, rows, places, members, ext, time, World', args_num, set_num, fixed, setting, buffer_num, group_num, owner_made, plan_made, member_made, home_made, mark_made, cost_made}
use Rattle.entry_rules.proofs.Facts.{few_rows, few_places, numbered}
use Rattle.entry_rules.proofs.Lents.{fresh_good}
use Rattle.entry_rules.proofs.Classes.{class_drops}
use Rattle.entry_rules.proofs.Begins.{entry_sizes, entry_begins}
use Rattle.settle.specs.Ends.{in_counts}
use Rattle.settle_rules.specs.Facts.{held_by, TableSettled}
use Rattle.settle_rules.specs.Settling.{no_seats, Settled}
use Rattle.fill_rules.specs.Passing.{opens_of, ran_of, lent_of}
use Rattle.fill_rules.specs.Fills.{Keys, says, left, Takes}
use Rattle.standstill.specs.Idle.{off, idle_c}
use Rattle.standstill.proofs.Index.{index_same}
use Rattle.standstill.proofs.Passes.{run_still}
use Rattle.standstill.proofs.Buffer.{filled_same}

-- the slots listed below the height
abbrev below : Call → List ℕ
below v = joined (take v.height (index v.group.buckets))

-- ---- what the test says

-- nothing is to be done
record Idle (v : Call) : Type 0 where
  pub some : places v ≡ 0 → ⊥
  pub opens : opens_of v ≡ 0
  pub filter : v.filter ≡ Off
  pub listed : below v ≡ []

all : (b₁ b₂ b₃ b₄ : Bool) → cond b₁ false (cond b₂ (cond b₃ b₄ false) false) ≡ true → (b₁ ≡ false) × (b₂ ≡ true) × (b₃ ≡ true) × (b₄ ≡ true)
all true b₂ b₃ b₄ e = clash false e refl
all false true true b₄ e = (refl, refl, refl, e)
all false true false b₄ e = clash false e refl
all false false b₃ b₄ e = clash false e refl

is_off : (f : Filter) → off f ≡ true → f ≡ Off
is_off Off e = refl
is_off (Below threshold) e = clash false e refl

is_nil_lem : (xs : List ℕ) → is_nil xs ≡ true → xs ≡ []
unfolding is_nil
is_nil_lem [] e = refl
is_nil_lem (x ∷ xs) e = clash false e refl

idle_of : (v : Call) → idle_c (places v) (opens_of v) v.height v.filter v.group.buckets ≡ true → Idle v
unfolding idle_c
idle_of v e =
    let t = all (eqb (places v) 0) (eqb (opens_of v) 0) (off v.filter) (is_nil (below v)) e in
    record {
      some = eqb-false (places v) 0 t.0;
      opens = eqb-true (opens_of v) 0 t.1;
      filter = is_off v.filter t.2;
      listed = is_nil_lem (below v) t.3;
    }

-- ---- the group's numbers, written again

counts_same : (ns : List ℕ) (last : ℕ) → in_counts (get_or ns 1 0) (get_or ns 2 0) 0 0 0 last ns ≡ ns
unfolding in_counts
counts_same ns last =
    rw (add-zero (get_or ns 3 0), add-zero (get_or ns 4 0), add-zero (get_or ns 5 0), set-get_or ns 1 0, set-get_or ns 2 0, set-get_or ns 3 0, set-get_or ns 4 0, set-get_or ns 5 0)

-- ---- the run, on columns that may be lent

module _ (v : Call) (l : Lent) where
  abbrev columns_by : (ops : ℕ) → Columns
  columns_by ops =
      columns (owner_made v l) l.taken (home_made v l) (member_made v l) v.group.ints v.group.exts (mark_made v l) l.joined
      (record { joined = 0; accounts = members v; taken = 0; ops = ops })

  abbrev ran_by : (opens : ℕ) (listed : List ℕ) → RanC
  ran_by opens xs =
      run_c (plan_made v l) (cost_made v l) (fixed v) opens xs v.group.number (count v.group 1) (count v.group 6) (columns_by 0)

  -- what it leaves: one operation per account was spent
  abbrev still : RanC
  still = ran_c (columns_by (places v)) v.group.number (count v.group 1) (count v.group 6) 0

module _ (v : Call) (good : GoodCall v) (idle : Idle v) where
  sum_small : sum 0 (places v) ≡ places v
  sum_small = let h = few_places v good in omega arith

  module _ (l : Lent) (lent : GoodLent v.said.cost l) where
    none_droppable : (q : ℕ) → q < rows v → eqb (get_or (plan_made v l) q 0) 2 ≡ false
    unfolding droppable
    none_droppable q h = sym (class_drops v good l lent q h) ∙ ap (λ (f : Filter). droppable (World' v) (filter_of f) q) idle.filter

    all_held : left_c (rows v) (places v) (owner_made v l) ≡ rows v
    all_held =
        (begins (ext v) (time v) (args_num v) (cost_made v l) (fixed v) (setting v) (buffer_num v (owner_made v l)) (group_num v (home_made v l) (member_made v l))
        (set_num v) (owner_made v l) l.taken (home_made v l) (member_made v l) v.group.ints v.group.exts (mark_made v l) l.joined (members v)
        (entry_sizes v good l lent) (entry_begins v good l lent)).held

    ran_still : (opens : ℕ) (xs : List ℕ) → opens ≡ 0 → xs ≡ [] → ran_by v l opens xs ≡ still v l
    ran_still opens xs e f =
        let none : rows v - left_c (rows v) (places v) (owner_made v l) - 0 ≡ 0 = omega (arith, all_held) in
        (λ i. ran_by v l (e i) (f i))
        ∙ run_still (plan_made v l) (cost_made v l) (fixed v) (columns_by v l 0) none_droppable v.group.number (count v.group 1) (count v.group 6)
        ∙ (λ i. ran_c (columns_by v l (sum_small i)) v.group.number (count v.group 1) (count v.group 6) (none i))

    -- ---- the end

    owners_same : take (rows v) (owner_made v l) ≡ take (rows v) v.buffer.owner
    unfolding owners_c
    owners_same =
        let n = few_rows v good in
        let e = length-take-le (rows v) v.buffer.owner (omega (arith, good.buffer.lengths.owner)) in
        ap (λ (k : ℕ). take k (owner_made v l)) (sym e)
        ∙ middle_laid 0 (take (rows v) v.buffer.owner) l.owner (omega (arith, lent.owner))

    table_same : TableSettled v.group v.group v.buffer (still v l) 0 no_seats
    unfolding tab_i flat rank
    table_same =
        let t = v.group in
        record {
          fields = record { kinds = sym (laid_none _ _); forms = sym (laid_none _ _); times = sym (laid_none _ _) };
          bodies = record { addresses = sym (laid_none _ _); hashes = sym (laid_none _ _) };
          owners = sym (laid_none _ _);
          entered = rw (sub_self (members v)) (record { accounts_are = sym (laid_none _ _); homes_are = sym (laid_none _ _) });
          seats_long = length-replicate {A = ℕ} 1280 0;
          number = refl;
          ints = refl;
          exts = refl;
          numbers = sym (counts_same t.numbers (count t 6));
          buckets = record {
            good = good.group.buckets;
            holds = sym (index_same t.number (held_by 64 t.ints t.exts) (count t 1) (numbered t good.group) 0 (index t.buckets));
          };
        }

    abbrev SettledBy : (lts hashes : List ℕ) → RanC → (opens : ℕ) → Type 0
    SettledBy lts hashes x o =
        Settled v.buffer v.buffer v.group v.group x o v.said.set v.said.set v.said.k v.said.k lts lts hashes hashes

    settled_same : (lts hashes : List ℕ) → SettledBy lts hashes (still v l) 0
    unfolding tab_i gather flat
    settled_same lts hashes = record {
      keys = record { count = refl; lts_are = sym (laid_none _ _); hashes_are = sym (laid_none _ _) };
      set_is = sym (laid_none _ _);
      held_is = sym (add-zero v.said.k);
      group = table_same;
      buffer = sym (filled_same v.buffer good.buffer idle.some (owner_made v l) owners_same);
    }

    taken_still : (code : Code) (k : Keys) → ran_of v ≡ still v l
        → Takes v k (says code 0 (places v) 0) (left v.buffer v.group v.said.set v.said.k k)
    taken_still code k e = record {
      collected = sym (ap (λ (x : RanC). x.now.store.tally.taken) e);
      operations = sym (ap (λ (x : RanC). x.now.store.tally.ops) e);
      dropped = sym (ap (λ (x : RanC). x.dropped) e);
      left = subst (SettledBy k.lts k.hashes (ran_of v)) (sym idle.opens)
          (subst (λ (x : RanC). SettledBy k.lts k.hashes x 0) (sym e) (settled_same k.lts k.hashes));
    }

-- ---- the fresh columns

none_listed : (xs column : List ℕ) → xs ≡ [] → take (length xs) (laid_at 0 xs column) ≡ []
none_listed xs column e = rw e

pub stands_still : (v : Call) → GoodCall v → idle_c (places v) (opens_of v) v.height v.filter v.group.buckets ≡ true → (code : Code) (k : Keys)
    → Takes v k (says code 0 (places v) 0) (left v.buffer v.group v.said.set v.said.k k)
unfolding begin_w works_w
stands_still v good e code k =
    let idle = idle_of v e in
    let l = lent_of v in
    let lent = fresh_good 1024 1280 2304 v.said.cost refl refl refl in
    let xs = take (length (below v)) (laid_at 0 (below v) (replicate 1024 0)) in
    taken_still v good idle l lent code k
    (ran_still v good idle l lent (opens_of v) xs idle.opens (none_listed (below v) (replicate 1024 0) idle.listed))
