-- The code that a fill on columns answers is the rules' code of what the columns mean, `code_is`; and what a code of 0 says of the numbers,
-- `accepted_of`. Assumes nothing.
use mathlib.Core.Path.{◌≡◌, refl, sym, ap, ◌∙◌}
use mathlib.Core.Bool.{Bool, true, false, cond, not, ◌&&◌, ◌||◌}
use mathlib.Core.List.{List, [], ◌∷◌}
use Prim.Native.Nat.{ℕ, zero, suc, ◌+◌, ◌-◌, ◌<◌, ◌≤◌}
use native.Mathlib.Nat.{not-suc-le-zero, le_of_suc-le-suc, zero-add, add-zero}
use native.Mathlib.Omega.{arith}
use lib.Dec.{eqb, ltb}
use lib.ListN.{length, get_or, take}
use borrow.Author.Tests.{eq-eqb, ne_eqb, eqb-true, eqb-false, lt-ltb, le-ltb, ltb-false}
use Rattle.std.specs.Prelude.{Err}
use Rattle.numbers.proofs.Bytes.{by_bool}
use Rattle.rules.specs.World.{Skip, at_least0, first_of, joined, keep, some_of}
use Rattle.rules.specs.Queues as rules
use Rattle.rules.specs.Passes.{to_open, listed}
use Rattle.rules.specs.Fill.{fill_code}
use Rattle.demands.proofs.Rows.{or_false}
use Rattle.columns.specs.Lists.{tab_i, count_i}
use Rattle.columns.proofs.Tabs.{length_tab}
use Rattle.columns.proofs.Rows.{length_rows}
use Rattle.message.specs.declared.Refusal.TheVariants.{TooLarge, FewKeys, ManySkips, NumbersUsedUp, Overfull}
use Rattle.message.specs.Answers.{Code, Done, number as number_of}
use Rattle.message.specs.Real.{Real}
use Rattle.queues.specs.Cols.{live, number}
use Rattle.queues.specs.Meant.{if_marked, buffer_of}
use Rattle.queues.specs.Good as queues
use Rattle.buckets.specs.Cells.{index}
use Rattle.slots.specs.Table.{Table, count}
use Rattle.slots.specs.Meant.{slot_in, slots_of, group_of}
use Rattle.slots.specs.Good as slots
use Rattle.meaning.specs.Passes.{position_from}
use Rattle.entry.specs.Entry.{Spoken}
use Rattle.entry_rules.specs.Calling.{Call, skip_in, args, set_of}
use Rattle.entry_rules.proofs.Slots.{marked_last}
use Rattle.limits.specs.Limits.{skips_in, too_large, many_skips, used_up}
use Rattle.limits.proofs.Counting.{not_large}
use Rattle.over_height.specs.Heights.{held_of, some_above}
use Rattle.refusals.specs.Refusals.{code_c}
use Rattle.fill_rules.specs.Passing.{opens_of}
use Rattle.fill_rules.specs.Fills.{Keys, rows_of_keys, code_of, Accepted}

-- ---- what a slot holds

-- the first slot of a number is the one that the rules find
module _ (t : Table) (x : ℕ) where
  abbrev at : (r j : ℕ) → ℕ
  at r j = position_from t.number x r j

  held_from : (r j : ℕ)
      → cond (ltb (at r j) (j + r)) (get_or t.ints (at r j) 0 + get_or t.exts (at r j) 0) 0 ≡ rules.count_of Real x (tab_i r j (slot_in t))
  unfolding position_from rules.count_of rules.count tab_i
  held_from zero j = rw (le-ltb j (j + 0) (omega arith))
  held_from (suc r) j =
      let e : j + 1 + r ≡ j + suc r = omega arith in
      let n = get_or t.number j 0 in
      by_bool (eqb n x)
      (λ b. rw (b, eq-eqb x n (sym (eqb-true n x b)), lt-ltb j (j + suc r) (omega arith)))
      (λ b. rw (b, ne_eqb x n (λ z. eqb-false n x b (sym z)), ← e) (held_from r (j + 1)))

  held_is : held_of t.number t.ints t.exts (count t 1) x ≡ rules.count_of Real x (slots_of t)
  unfolding held_of slots_of
  held_is = rw zero-add at (held_from (count t 1) 0)

-- ---- the rows that say skip

skips_from : (vs : List ℕ) (m i : ℕ) (f : ℕ → Skip Real) → m ≤ length vs → ((j : ℕ) → j < m → (f (i + j)).skip ≡ not (eqb (get_or vs j 0) 0))
    → count_i (λ (i v : ℕ). not (eqb v 0)) m i vs ≡ length (keep (λ (r : Skip Real). r.skip) (tab_i m i f))
unfolding count_i keep tab_i
skips_from vs zero i f l h = refl
skips_from [] (suc m) i f l h = absurd (not-suc-le-zero l)
skips_from (x ∷ xs) (suc m) i f l h =
    let e : (f i).skip ≡ not (eqb x 0) = rw add-zero at (h 0 (omega arith)) in
    let on = skips_from xs m (i + 1) f (le_of_suc-le-suc l) (λ j q. let z : i + 1 + j ≡ i + suc j = omega arith in rw z (h (suc j) (omega arith))) in
    by_bool (not (eqb x 0)) (λ b. rw (b, e ∙ b) (omega (arith, on))) (λ b. rw (b, e ∙ b) (omega (arith, on)))

skips_are : (v : Call) → Spoken v.said
    → skips_in v.said.n v.said.verdicts ≡ length (keep (λ (r : Skip Real). r.skip) (args v).rows)
skips_are v spoken =
    skips_from v.said.verdicts v.said.n 0 (skip_in v.said) spoken.verdicts
    (λ j l. ap (λ (i : ℕ). not (eqb (get_or v.said.verdicts i 0) 0)) (zero-add j))

-- ---- the code

-- the first test that holds
abbrev code : (b₁ b₂ b₃ b₄ b₅ : Bool) → Code
code b₁ b₂ b₃ b₄ b₅ = cond b₁ (Err TooLarge) (cond b₂ (Err FewKeys) (cond b₃ (Err ManySkips) (cond b₄ (Err NumbersUsedUp) (cond b₅ (Err Overfull) Done))))

codes : (b₁ b₂ b₃ b₄ b₅ : Bool)
    → number_of (code b₁ b₂ b₃ b₄ b₅) ≡ first_of b₁ 9 (first_of b₂ 10 (first_of b₃ 11 (first_of b₄ 12 (first_of b₅ 13 0))))
unfolding first_of
codes true b₂ b₃ b₄ b₅ = refl
codes false true b₃ b₄ b₅ = refl
codes false false true b₄ b₅ = refl
codes false false false true b₅ = refl
codes false false false false true = refl
codes false false false false false = refl

pub code_is : (v : Call) (k : Keys) → queues.Good v.buffer → slots.Good v.group → Spoken v.said
    → number_of (code_of v k)
    ≡ fill_code Real (count v.group 0) (rows_of_keys k) (args v) (buffer_of (live v.buffer)) (group_of v.group) (set_of v)
unfolding code_c too_large many_skips used_up some_above fill_code to_open listed slots_of
code_is v k buffer group spoken =
    let t = v.group in
    let ints = buffer.now.ints in
    let rows : v.said.n ≡ length (args v).rows = sym (length_tab v.said.n 0 (skip_in v.said)) in
    let set : v.said.k ≡ length (set_of v) = sym (length_rows v.said.k v.said.set) in
    let skips = skips_are v spoken in
    let opens : opens_of v ≡ v.asked - length (slots_of t) = ap (λ (n : ℕ). v.asked - n) (sym (length_tab (count t 1) 0 (slot_in t))) in
    let last : count t 6 ≡ at_least0 (if_marked (count t 7) (count t 6)) = sym (marked_last (count t 7) (count t 6) group.unmarked) in
    codes _ _ _ _ _ ∙ (λ i. first_of (ltb (count t 0) v.asked || ltb 16 v.height) 9
    (first_of (ltb (rows_of_keys k) (ints i)) 10
    (first_of (ltb 256 (rows i) || ltb 512 (set i + skips i)) 11
    (first_of (ltb 0 (opens i) && ltb 65535 (last i + opens i)) 12
    (first_of (some_of (λ (n : ℕ). ltb v.height (held_is t n i)) (joined (take v.height (index t.buckets)))) 13 0)))))

-- ---- what a code of 0 says

-- no test holds
record None (b₁ b₂ b₃ b₄ b₅ : Bool) : Type 0 where
  pub first : b₁ ≡ false
  pub second : b₂ ≡ false
  pub third : b₃ ≡ false
  pub fourth : b₄ ≡ false
  pub fifth : b₅ ≡ false

none : (b₁ b₂ b₃ b₄ b₅ : Bool) → number_of (code b₁ b₂ b₃ b₄ b₅) ≡ 0 → None b₁ b₂ b₃ b₄ b₅
none true b₂ b₃ b₄ b₅ e = absurd (omega arith)
none false true b₃ b₄ b₅ e = absurd (omega arith)
none false false true b₄ b₅ e = absurd (omega arith)
none false false false true b₅ e = absurd (omega arith)
none false false false false true e = absurd (omega arith)
none false false false false false e = record { first = refl; second = refl; third = refl; fourth = refl; fifth = refl }

not_many : (rows : ℕ) (verdicts : List ℕ) (held : ℕ) → many_skips rows verdicts held ≡ false → (rows ≤ 256) × (held + skips_in rows verdicts ≤ 512)
unfolding many_skips
not_many rows verdicts held e =
    let p = or_false (ltb 256 rows) (ltb 512 (held + skips_in rows verdicts)) e in
    (ltb-false 256 rows p.0, ltb-false 512 (held + skips_in rows verdicts) p.1)

not_used : (opens last : ℕ) → last ≤ 65535 → used_up opens last ≡ false → last + opens ≤ 65535
unfolding used_up
not_used opens last h e =
    by_bool (ltb 0 opens)
    (λ b. ltb-false 65535 (last + opens) (rw b at e))
    (λ b. omega (arith, ltb-false 0 opens b))

pub accepted_of : (v : Call) (k : Keys) → slots.Good v.group → number_of (code_of v k) ≡ 0 → Accepted v k
unfolding code_c
accepted_of v k group e =
    let t = v.group in
    let n =
    none (too_large v.asked v.height (count t 0)) (ltb (rows_of_keys k) (number v.buffer 4))
    (many_skips v.said.n v.said.verdicts v.said.k) (used_up (opens_of v) (count t 6))
    (some_above v.height t.number t.ints t.exts (count t 1) (joined (take v.height (index t.buckets)))) e in
    let large = not_large v.asked v.height (count t 0) n.first in
    let many = not_many v.said.n v.said.verdicts v.said.k n.third in
    record {
      asked_fits = large.0;
      height_fits = large.1;
      keys_fit = ltb-false (rows_of_keys k) (number v.buffer 4) n.second;
      rows_fit = many.0;
      set_fits = many.1;
      slots_fit = omega (arith, large.0, group.slots, group.S·high);
      last_fits = not_used (opens_of v) (count t 6) group.last n.fourth;
    }
