-- A whole fill: what its parts need, from well formed columns, and what they leave together (crate fill_rules). Assumes nothing.
use mathlib.Core.Path.{◌≡◌, refl, sym, ap, subst, ◌∙◌}
use mathlib.Core.Bool.{true}
use mathlib.Core.List.{List}
use Prim.Native.Nat.{ℕ, ◌+◌, ◌-◌, ◌*◌, ◌/◌, ◌≤◌, min}
use native.Mathlib.Nat.{div-add-mod'}
use native.Mathlib.Omega.{arith}
use lib.ListN.{length, get_or}
use Rattle.rules.specs.Fill.{fill_code}
use Rattle.message.specs.declared.Filter.{Filter}
use Rattle.message.specs.Answers.{Code, number as number_of}
use Rattle.message.specs.Real.{Real}
use Rattle.queues.specs.Cols.{Cols, live}
use Rattle.queues.specs.Meant.{buffer_of}
use Rattle.queues.specs.Good as queues
use Rattle.slots.specs.Table.{Table, count}
use Rattle.slots.specs.Meant.{group_of}
use Rattle.slots.specs.Good as slots
use Rattle.skipped.specs.Sets.{GoodRows}
use Rattle.entry.specs.Entry.{Sayings, sayings, Spoken}
use Rattle.entry_rules.specs.Calling.{Call, GoodCall, places, args, set_of}
use Rattle.meaning.specs.Passes.{RanC}
use Rattle.works.specs.Works.{ran_w}
use Rattle.works.specs.declared.Done.{Done}
use Rattle.limits.specs.Limits.{rows_in}
use Rattle.refusals.specs.Refusals.{MayDecide, code_c}
use Rattle.settle_rules.specs.Settling.{MaySettle, Settled}
use Rattle.fill_rules.specs.Passing.{MayPass, Passed, pass_w, accounts_of, held_of, slots_of, opens_of, ran_of}
use Rattle.fill_rules.specs.Fills.{call_of, Keys, keys, rows_of_keys, code_of, Accepted, Says, says, Left, left, Stays, Takes, Fills}
use Rattle.fill_rules.proofs.CodeRule.{code_is, accepted_of}
use Rattle.fill_rules.proofs.PassRule.{may_pass, passed}
use Rattle.fill_rules.proofs.SettleRule.{may_settle}
use Rattle.fill_rules.proofs.Ruled.{fills_taken, fills_refused}
use Rattle.standstill.specs.Idle.{idle_c}
use Rattle.standstill.proofs.Still.{stands_still}
use Rattle.moves.specs.declared.Tally.{Tally}
use Rattle.fill_answer.specs.Answers.{answered}
use Rattle.fill_answer.specs.declared.Answer.{Answer}

-- the rows that all three columns have stand in them
pub spoken : (set : List ℕ) (held : ℕ) (names verdicts costs : List ℕ) (cost : ℕ) → GoodRows held set
    → Spoken (sayings set held names verdicts costs (rows_in (length names) (length verdicts) (length costs)) cost)
spoken set held names verdicts costs cost good = record {
  set = omega (arith, good.long, good.few);
  names = omega (arith, div-add-mod' (length names) 32);
  verdicts = omega arith;
  costs = omega arith;
}

-- the answer made of the counts says them
pub told : {v : Call} {k : Keys} {z : Left} {code : Code} (t : Tally) {n : ℕ} (r : Answer) → r ≡ answered code t n
    → Fills v k (says code t.taken t.ops n) z → Fills v k (says r.code r.collected r.operations r.dropped) z
told {v} {k} {z} t r e f = subst (λ (x : Answer). Fills v k (says x.code x.collected x.operations x.dropped) z) (sym e) f

-- what is said, with n rows
abbrev said_of : Sayings → ℕ → Sayings
said_of s n = sayings s.set s.k s.names s.verdicts s.costs n s.cost

-- ---- a call on well formed columns, `rows` skip rows being said

pub record Called (v : Call) (rows : ℕ) : Type 0 where
  pub buffer : queues.Good v.buffer
  pub group : slots.Good v.group
  pub set : GoodRows v.said.k v.said.set
  pub said : Spoken v.said
  pub rows_are : rows ≡ v.said.n

-- a call by its arguments
pub called : {c : Cols} {t : Table} {set : List ℕ} {held : ℕ} → queues.Good c × slots.Good t × GoodRows held set → (asked height : ℕ) (f : Filter)
    (names verdicts costs : List ℕ) (default rows : ℕ) → rows ≡ rows_in (length names) (length verdicts) (length costs)
    → Called (call_of c t set held asked height f names verdicts costs default) rows
called p asked height f names verdicts costs default rows e = record {
  buffer = p.0;
  group = p.1;
  set = p.2;
  said = spoken _ _ names verdicts costs default p.2;
  rows_are = e;
}

module _ {v : Call} {rows : ℕ} (p : Called v rows) where
  pub may_decide : MayDecide rows v.said.verdicts v.said.k v.group.buckets v.group.numbers
  may_decide = record {
    rows_fit = omega (arith, p.rows_are, p.said.verdicts);
    held_fits = p.set.few;
    buckets_good = p.group.buckets;
    few = p.group.S·high;
    slots_fit = p.group.slots;
    last_fits = p.group.last;
  }

  abbrev code_by : (n rows : ℕ) → Code
  code_by n rows =
      code_c v.asked v.height n rows v.said.verdicts v.said.k v.buffer.numbers v.group.number v.group.ints v.group.exts
      v.group.buckets v.group.numbers

  -- n key rows
  pub decided : (k : Keys) (n : ℕ) → n ≡ rows_of_keys k → (code : Code) → code ≡ code_by n rows → code ≡ code_of v k
  decided k n e code d = d ∙ ap (λ (x : ℕ). code_by x rows) e ∙ ap (λ (x : ℕ). code_by (rows_of_keys k) x) p.rows_are

  pub refused : (k : Keys) (code : Code) → code ≡ code_of v k → (number_of code ≡ 0 → ⊥)
      → Fills v k (says code 0 0 0) (left v.buffer v.group v.said.set v.said.k k)
  refused k code e h =
      fills_refused v p.buffer p.group p.set k _ _ (code_is v k p.buffer p.group p.said) h
      (record { counts = (refl, refl, refl); state = (refl, refl, refl, refl); lent = refl }) e

-- ---- a call that is taken

pub record Taken (v : Call) (k : Keys) (rows : ℕ) (code : Code) : Type 0 where
  pub called : Called v rows
  pub decided : code ≡ code_of v k
  pub done : number_of code ≡ 0

-- the code of a call with n key rows is 0
pub taken : {v : Call} {rows : ℕ} (p : Called v rows) (k : Keys) (n : ℕ) → n ≡ rows_of_keys k → (code : Code) → code ≡ code_by p n rows
    → number_of code ≡ 0 → Taken v k rows code
taken p k n e code d z = record { called = p; decided = decided p k n e code d; done = z }

module _ {v : Call} {k : Keys} {rows : ℕ} {code : Code} (p : Taken v k rows code) where
  abbrev c : Called v rows
  c = p.called

  accepted : Accepted v k
  accepted = accepted_of v k c.group (ap number_of (sym p.decided) ∙ p.done)

  good : GoodCall v
  good = record { buffer = c.buffer; group = c.group; said = c.said; height = accepted.height_fits }

  ran_so : Passed v (ran_of v)
  ran_so = passed v good accepted.slots_fit

  is_code : number_of (code_of v k)
      ≡ fill_code Real (count v.group 0) (rows_of_keys k) (args v) (buffer_of (live v.buffer)) (group_of v.group) (set_of v)
  is_code = code_is v k c.buffer c.group c.said

  taken_so : fill_code Real (count v.group 0) (rows_of_keys k) (args v) (buffer_of (live v.buffer)) (group_of v.group) (set_of v) ≡ 0
  taken_so = sym is_code ∙ ap number_of (sym p.decided) ∙ p.done

  module _ (opens : ℕ) (opens-are : opens ≡ opens_of v) where
    abbrev MayPassBy : (rows opens : ℕ) → Type 0
    MayPassBy rows opens =
        MayPass (accounts_of v) (held_of v) (slots_of v) (said_of v.said rows) v.filter v.height opens (count v.group 1) (count v.group 6)

    abbrev pass_by : (rows opens : ℕ) → RanC
    pass_by rows opens =
        pass_w (accounts_of v) (held_of v) (slots_of v) (said_of v.said rows) v.filter v.height opens (count v.group 1) (count v.group 6)

    pub pass_needs : MayPassBy rows opens
    pass_needs =
        subst (λ (x : ℕ). MayPassBy x opens) (sym c.rows_are)
        (subst (λ (x : ℕ). MayPassBy v.said.n x) (sym opens-are) (may_pass v good accepted.slots_fit accepted.last_fits))

    -- a fill with nothing to do has ended here
    pub stood : idle_c (places v) opens v.height v.filter v.group.buckets ≡ true
        → Fills v k (says code 0 (places v) 0) (left v.buffer v.group v.said.set v.said.k k)
    stood e =
        let idle = subst (λ (o : ℕ). idle_c (places v) o v.height v.filter v.group.buckets ≡ true) opens-are e in
        fills_taken v good c.set k _ _ ran_so is_code p.done (stands_still v good idle code k) p.decided

    module _ (d : Done) (ran : ran_w d ≡ pass_by rows opens) where
      ran_is : ran_w d ≡ ran_of v
      ran_is = ran ∙ ap (λ (x : ℕ). pass_by x opens) c.rows_are ∙ ap (λ (x : ℕ). pass_by v.said.n x) opens-are

      pub settle_needs : MaySettle v.buffer v.group (ran_w d) v.said.set v.said.k (length k.lts) (length k.hashes)
      settle_needs =
          subst (λ (x : RanC). MaySettle v.buffer v.group x v.said.set v.said.k (length k.lts) (length k.hashes)) (sym ran_is)
          (may_settle v good c.set k taken_so ran_so)

      module _ {c' : Cols} {t' : Table} {set' : List ℕ} {held' : ℕ} {lts' hashes' : List ℕ}
          (ended : Settled v.buffer c' v.group t' (ran_w d) opens v.said.set set' v.said.k held' k.lts lts' k.hashes hashes')
        where
          abbrev SettledBy : RanC → ℕ → Type 0
          SettledBy x o = Settled v.buffer c' v.group t' x o v.said.set set' v.said.k held' k.lts lts' k.hashes hashes'

          takes : Takes v k (says code d.tally.taken d.tally.ops d.dropped) (left c' t' set' held' (keys lts' hashes'))
          takes = record {
            collected = ap (λ (x : RanC). x.now.store.tally.taken) ran_is;
            operations = ap (λ (x : RanC). x.now.store.tally.ops) ran_is;
            dropped = ap (λ (x : RanC). x.dropped) ran_is;
            left = subst (λ (x : RanC). SettledBy x (opens_of v)) ran_is (subst (λ (o : ℕ). SettledBy (ran_w d) o) opens-are ended);
          }

          pub filled : Fills v k (says code d.tally.taken d.tally.ops d.dropped) (left c' t' set' held' (keys lts' hashes'))
          filled = fills_taken v good c.set k _ _ ran_so is_code p.done takes p.decided
