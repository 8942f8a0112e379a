-- What the rules ask of the skipped set and of the skip rows, on numbers, is what the marks and the costs of the columns say: of a number
-- that is somebody's by what is said of its account, of any other since no row and no member of the set has it. Assumes nothing.
use mathlib.Core.Path.{◌≡◌, refl, sym, ap, ◌∙◌}
use mathlib.Core.Bool.{Bool, true, false, cond, not}
use mathlib.Core.Logic.{⊎_elim}
use mathlib.Core.List.{List, [], ◌++◌, map}
use Prim.Native.Nat.{ℕ, ◌+◌, ◌<◌, ◌≤◌}
use native.Mathlib.Nat.{zero-add}
use native.Mathlib.Omega.{arith}
use lib.Dec.{eqb, ltb}
use lib.ListN.{length, get_or, length-append, get_or-append}
use lib.Seq.{get_or-append-add}
use Rattle.numbers.specs.Bytes.{eq_l}
use Rattle.rules.specs.Queues.{is_in}
use Rattle.rules.specs.Passes.{verdict_in, cost_in}
use Rattle.columns.specs.Rows.{row_at, rows_of, index_of}
use Rattle.columns.proofs.Rows.{length_rows, get_d_rows}
use Rattle.message.specs.Real.{Real}
use Rattle.entry.specs.Entry.{mark_of, cost_of}
use Rattle.entry_rules.specs.Naming.{IsNumber, Named}
use Rattle.entry_rules.specs.Calling.{Call, GoodCall, Lent, GoodLent, places, members, set_of, order_accounts, group_accounts, other_accounts, num, acc, ext, time, World', skip_num, args_num, set_num, mark_made, cost_made}
use Rattle.entry_rules.proofs.Naming.{named_other, test_number, test_nobody}
use Rattle.entry_rules.proofs.Said.{verdict_none, cost_none, verdict_first, cost_first, in_none, in_same, mark_two, mark_one}
use Rattle.entry_rules.proofs.Judged.{Somebody, Nobody}
use Rattle.entry_rules.proofs.Parties.{whose}
use Rattle.entry_rules.proofs.Facts.{few_places, few_members}

module _ (v : Call) (good : GoodCall v) where
  pub few : length (order_accounts v) ≤ 256
  few = omega (arith, few_places v good, length_rows (places v) v.buffer.accounts)

  pub some : length (group_accounts v) ≤ 1024
  some = omega (arith, few_members v good, length_rows (members v) v.group.accounts)

  abbrev pub IsNumberOf : ℕ → Type 0
  IsNumberOf p = IsNumber (order_accounts v) (group_accounts v) (other_accounts v) p

  abbrev pub NamedIn : List ℕ → Type 0
  NamedIn x = Named (order_accounts v) (group_accounts v) (other_accounts v) x

  abbrev names : List (List ℕ)
  names = rows_of v.said.n v.said.names

  -- the accounts of the set and of the rows have numbers
  pub set_named : (j : ℕ) → j < length (set_of v) → NamedIn (get_or (set_of v) j [])
  set_named j l =
      let e : get_or (other_accounts v) j [] ≡ get_or (set_of v) j [] = get_or-append (set_of v) names [] j l in
      rw e at (named_other (order_accounts v) (group_accounts v) (other_accounts v) few some j (omega (arith, length-append (set_of v) names)))

  pub row_named : (j : ℕ) → j < v.said.n → NamedIn (row_at v.said.names j)
  row_named j l =
      let e : get_or (other_accounts v) (length (set_of v) + j) [] ≡ row_at v.said.names j =
      get_or-append-add (set_of v) names j [] ∙ get_d_rows v.said.n j v.said.names [] l in
      rw e at (named_other (order_accounts v) (group_accounts v) (other_accounts v) few some (length (set_of v) + j)
      (omega (arith, length-append (set_of v) names, length_rows v.said.n v.said.names)))

  pub test_one : (p : ℕ) (x : List ℕ) → IsNumberOf p → NamedIn x → eqb p (num v x) ≡ eq_l (acc v p) x
  test_one p x = test_number (order_accounts v) (group_accounts v) (other_accounts v) few some p x

  test_none : (p : ℕ) (x : List ℕ) → (IsNumberOf p → ⊥) → NamedIn x → eqb p (num v x) ≡ false
  test_none p x = test_nobody (order_accounts v) (group_accounts v) (other_accounts v) few some p x

  abbrev row_at_lem : ℕ → ℕ
  row_at_lem p = index_of (acc v p) names

  -- a row as its number's owner sees it
  row_test : (p : ℕ) → IsNumberOf p → (j : ℕ) → j < v.said.n → eqb p (skip_num v (0 + j)).acc ≡ eq_l (acc v p) (get_or names j [])
  row_test p h j l =
      ap (λ (k : ℕ). eqb p (skip_num v k).acc) (zero-add j)
      ∙ test_one p (row_at v.said.names j) h (row_named j l)
      ∙ ap (eq_l (acc v p)) (sym (get_d_rows v.said.n j v.said.names [] l))

  -- ---- somebody
  module _ (p mark cost : ℕ) (b : Somebody (order_accounts v) (group_accounts v) (other_accounts v) v.said p mark cost) where
    some_inset : is_in (World' v) p (set_num v) ≡ eqb mark 2
    some_inset =
        in_same (ext v) (time v) (num v) p (acc v p) (set_of v) (λ j l. test_one p (get_or (set_of v) j []) b.is (set_named j l))
        ∙ sym (mark_two v.said (acc v p)) ∙ ap (λ (m : ℕ). eqb m 2) (sym b.mark_is)

    some_says : eqb mark 2 ≡ false → verdict_in (World' v) (args_num v) p (args_num v).rows ≡ eqb mark 1
    some_says e =
        verdict_first (World' v) (args_num v) p (skip_num v) (acc v p) names v.said.n 0 (sym (length_rows v.said.n v.said.names)) (row_test p b.is)
        ∙ ap (λ (k : ℕ). cond (ltb (row_at_lem p) v.said.n) (skip_num v k).skip false) (zero-add (row_at_lem p))
        ∙ sym (mark_one v.said (acc v p) (ap (λ (m : ℕ). eqb m 2) (sym b.mark_is) ∙ e))
        ∙ ap (λ (m : ℕ). eqb m 1) (sym b.mark_is)

    some_cost : cost_in (World' v) (args_num v) p (args_num v).rows ≡ cost
    unfolding cost_of
    some_cost =
        cost_first (World' v) (args_num v) p (skip_num v) (acc v p) names v.said.n 0 (sym (length_rows v.said.n v.said.names)) (row_test p b.is)
        ∙ ap (λ (k : ℕ). cond (ltb (row_at_lem p) v.said.n) (skip_num v k).cost v.said.cost) (zero-add (row_at_lem p))
        ∙ sym b.cost_is

  -- ---- nobody
  module _ (p mark cost : ℕ) (b : Nobody (order_accounts v) (group_accounts v) (other_accounts v) v.said p mark cost) where
    no_row : (j : ℕ) → 0 ≤ j → j < 0 + v.said.n → eqb p (skip_num v j).acc ≡ false
    no_row j a l = test_none p (row_at v.said.names j) b.not_one (row_named j (omega arith))

    none_inset : is_in (World' v) p (set_num v) ≡ eqb mark 2
    none_inset =
        in_none (ext v) (time v) (num v) p (set_of v) (λ j l. test_none p (get_or (set_of v) j []) b.not_one (set_named j l))
        ∙ ap (λ (m : ℕ). eqb m 2) (sym b.mark_is)

    none_says : verdict_in (World' v) (args_num v) p (args_num v).rows ≡ eqb mark 1
    none_says = verdict_none (World' v) (args_num v) p (skip_num v) v.said.n 0 no_row ∙ ap (λ (m : ℕ). eqb m 1) (sym b.mark_is)

    none_cost : cost_in (World' v) (args_num v) p (args_num v).rows ≡ cost
    none_cost = cost_none (World' v) (args_num v) p (skip_num v) v.said.n 0 no_row ∙ sym b.cost_is

  -- ---- the columns
  module _ (l : Lent) (lent : GoodLent v.said.cost l) where
    pub inset : (p : ℕ) → p < 1280 → is_in (World' v) p (set_num v) ≡ eqb (get_or (mark_made v l) p 0) 2
    inset p h = ⊎_elim (λ b. some_inset p _ _ b) (λ b. none_inset p _ _ b) (whose v good l lent p h)

    pub says : (p : ℕ) → p < 1280 → eqb (get_or (mark_made v l) p 0) 2 ≡ false
        → verdict_in (World' v) (args_num v) p (args_num v).rows ≡ eqb (get_or (mark_made v l) p 0) 1
    says p h e = ⊎_elim (λ b. some_says p _ _ b e) (λ b. none_says p _ _ b) (whose v good l lent p h)

    pub costs : (p : ℕ) → p < 1280 → cost_in (World' v) (args_num v) p (args_num v).rows ≡ get_or (cost_made v l) p 0
    costs p h = ⊎_elim (λ b. some_cost p _ _ b) (λ b. none_cost p _ _ b) (whose v good l lent p h)
