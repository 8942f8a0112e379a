-- The skipped set after an accepted fill: a party that joins it is a place of the order or a member of the group (`party_account`), so the rows
-- laid behind those held are the accounts that the rules add (`set_is`), and the set is well formed (`set_good`). Assumes nothing.
use mathlib.Core.Path.{◌≡◌, sym, ap, subst, ◌∙◌}
use mathlib.Core.Logic.{◌⊎◌, inl, inr, ⊎_elim}
use mathlib.Core.List.{List, [], ◌∷◌, ◌++◌}
use Prim.Native.Nat.{ℕ, zero, suc, ◌+◌, ◌-◌, ◌*◌, ◌<◌, ◌≤◌}
use native.Mathlib.Nat.{not-suc-le-zero, le_of_suc-le-suc}
use native.Mathlib.Omega.{arith}
use lib.Dec.{ltb}
use lib.ListN.{length, get_or, take}
use borrow.Author.Tests.{ltb-true}
use Rattle.numbers.proofs.Bytes.{by_bool}
use Rattle.rules.specs.World.{Each}
use Rattle.rules.specs.Fill.{Filled}
use Rattle.rules.specs.Made.{FitsSet}
use Rattle.demands.proofs.Demand.{accepts}
use Rattle.columns.specs.Laid.{laid_at}
use Rattle.columns.specs.Rows.{rows_of, flat, index_of}
use Rattle.columns.proofs.Rows.{Wide, length_rows, get_d_rows, length_flat}
use Rattle.columns.proofs.Tabs.{length_tab}
use Rattle.message.specs.Real.{Real}
use Rattle.slots.specs.Table.{count}
use Rattle.skipped.specs.Sets.{GoodRows}
use Rattle.group_rules.proofs.Follows.{Follows, laid_follows, zeros_behind}
use Rattle.settle.specs.Copies.{party_row, accounts_at}
use Rattle.settle.proofs.Copying.{party_low, party_high}
use Rattle.meaning.specs.Meaning.{Columns, state_of}
use Rattle.meaning.specs.Passes.{RanC}
use Rattle.entry_rules.specs.Naming.{acc_of, IsNumber}
use Rattle.entry_rules.specs.Calling.{Call, GoodCall, Lent, places, members, order_accounts, group_accounts, other_accounts, World', ext, time, back, acc, args_num, set_num, buffer_num, group_num, fixed, owner_made, home_made, member_made}
use Rattle.entry_rules.proofs.Naming.{num_order, num_group, num_other, acc_order, acc_group}
use Rattle.entry_rules.proofs.Says.{few, some, IsNumberOf}
use Rattle.entry_rules.proofs.Renamed.{filled_in, set_back, code_on_numbers}
use Rattle.settle_rules.specs.Facts.{SetFacts}
use Rattle.settle_rules.proofs.SetAfter.{set_after, wide_tab, party_long}
use Rattle.fill_rules.proofs.Told.{told, told_is, after, joined_few}
use Rattle.fill_rules.proofs.Known.{Known, bytes, bytes_are, set_fits, set_room}

-- ---- what holds of each of a list

each_right : {X : Type 0} (P : X → Type 0) (xs ys : List X) → Each P (xs ++ ys) → Each P ys
each_right P [] ys h = h
each_right P (x ∷ xs) ys h = each_right P xs ys h.1

each_cell : (P : ℕ → Type 0) (n : ℕ) (xs : List ℕ) → n ≤ length xs → Each P (take n xs) → (i : ℕ) → i < n → P (get_or xs i 0)
each_cell P zero xs a h i l = absurd (not-suc-le-zero l)
each_cell P (suc n) [] a h i l = absurd (not-suc-le-zero a)
each_cell P (suc n) (x ∷ xs) a h zero l = h.0
each_cell P (suc n) (x ∷ xs) a h (suc i) l = each_cell P n xs (le_of_suc-le-suc a) h.1 i (le_of_suc-le-suc l)

-- ---- the account of a party

-- a number of an account below 1,280 is a place of the order, or a member of the group
in_lists : (os gs ls : List (List ℕ)) → length os ≤ 256 → length gs ≤ 1024 → (p : ℕ) → IsNumber os gs ls p → p < 1280
    → (p < length os) ⊎ ((256 ≤ p) × (p < 256 + length gs))
in_lists os gs ls short long p e h =
    let x = acc_of os gs ls p in
    by_bool (ltb (index_of x os) (length os))
    (λ t. let a = ltb-true (index_of x os) (length os) t in
    let n : p ≡ index_of x os = sym e ∙ num_order os gs ls short long x a in inl (omega arith))
    (λ t. by_bool (ltb (index_of x gs) (length gs))
    (λ u. let a = ltb-true (index_of x gs) (length gs) u in
    let n : p ≡ 256 + index_of x gs = sym e ∙ num_group os gs ls short long x t a in inr (omega arith, omega arith))
    (λ u. let n : p ≡ 1280 + index_of x ls = sym e ∙ num_other os gs ls short long x t u in absurd (omega arith)))

module _ (v : Call) (good : GoodCall v) where
  place_account : (p : ℕ) → p < length (order_accounts v) → acc v p ≡ party_row v.buffer.accounts v.group.accounts p
  place_account p h =
      let n = length_rows (places v) v.buffer.accounts in
      let s = few v good in
      acc_order (order_accounts v) (group_accounts v) (other_accounts v) (few v good) (some v good) p h
      ∙ get_d_rows (places v) p v.buffer.accounts [] (omega arith)
      ∙ sym (party_low v.buffer.accounts v.group.accounts p (omega arith))

  member_account : (p : ℕ) → 256 ≤ p → p < 256 + length (group_accounts v) → acc v p ≡ party_row v.buffer.accounts v.group.accounts p
  member_account p a h =
      let n = length_rows (members v) v.group.accounts in
      let z : p ≡ 256 + (p - 256) = omega arith in
      ap (acc v) z
      ∙ acc_group (order_accounts v) (group_accounts v) (other_accounts v) (few v good) (some v good) (p - 256) (omega arith)
      ∙ get_d_rows (members v) (p - 256) v.group.accounts [] (omega arith)
      ∙ sym (party_high v.buffer.accounts v.group.accounts p a)

  pub party_account : (p : ℕ) → IsNumberOf v good p → p < 1280 → acc v p ≡ party_row v.buffer.accounts v.group.accounts p
  party_account p e h =
      ⊎_elim (λ a. place_account p a) (λ a. member_account p a.0 a.1)
      (in_lists (order_accounts v) (group_accounts v) (other_accounts v) (few v good) (some v good) p e h)

-- ---- the set

module _ {v : Call} {l : Lent} {m₀ : Columns} {x : RanC} {r : ℕ} (p : Known v l m₀ x r) where
  abbrev joins : ℕ
  joins = x.now.store.tally.joined

  joined_fit : joins ≤ length x.now.joined
  joined_fit = let a = joined_few p.ran in let b = p.ran.means.good.marks.joined_long in omega arith

  -- the rules' set on numbers holds numbers of accounts only
  all_numbers : Each (IsNumberOf v p.good) (told p.ran).skipped
  all_numbers =
      subst (λ (f : Filled (World' v)). Each (IsNumberOf v p.good) f.skipped)
      (accepts (World' v) (count v.group 0) r (args_num v) (buffer_num v (owner_made v l)) (group_num v (home_made v l) (member_made v l)) (set_num v)
      (sym (code_on_numbers v p.good l p.lent (count v.group 0) r) ∙ p.ok)
      ∙ told_is p.ran)
      (filled_in v p.good l p.lent (count v.group 0) r).set

  joined_numbers : (i : ℕ) → i < joins → IsNumberOf v p.good (get_or x.now.joined i 0)
  unfolding state_of
  joined_numbers =
      each_cell (IsNumberOf v p.good) joins x.now.joined joined_fit
      (each_right (IsNumberOf v p.good) (set_num v) (take joins x.now.joined) all_numbers)

  set_facts : SetFacts (ext v) (time v) (back v) v.said.k joins (set_num v) x.now.joined v.buffer.accounts v.group.accounts v.said.set
  set_facts = record {
    named = joined_fit;
    there = p.traced.joined;
    fits = set_room p;
    accounts_long = p.good.buffer.lengths.accounts;
    others_long = p.good.group.lengths.accounts;
    set_long = p.set.long;
    entry_is = sym (set_back v p.good);
    acc = λ i h. party_account v p.good (get_or x.now.joined i 0) (joined_numbers i h) (p.traced.joined i h);
  }

  abbrev added : List (List ℕ)
  added = accounts_at joins x.now.joined v.buffer.accounts v.group.accounts

  module _ {set' : List ℕ} {held' : ℕ} (made : set' ≡ laid_at (32 * v.said.k) (flat added) v.said.set)
      (holds : held' ≡ v.said.k + joins) where
    pub set_is : rows_of held' set' ≡ (bytes p).skipped
    set_is =
        ap (λ (n : ℕ). rows_of n set') holds
        ∙ set_after x.now (after p.ran) set_facts made (fixed v) p.ran.means.ops
        ∙ sym (ap (λ (f : Filled Real). f.skipped) (bytes_are p))

    rows_wide : Wide added
    rows_wide =
        wide_tab (λ i. party_row v.buffer.accounts v.group.accounts (get_or x.now.joined i 0)) joins 0
        (λ i a h. party_long v.buffer.accounts v.group.accounts (get_or x.now.joined i 0) p.good.buffer.lengths.accounts
        p.good.group.lengths.accounts (p.traced.joined i (omega arith)))

    rows_many : length (flat added) ≡ 32 * joins
    rows_many =
        length_flat added rows_wide
        ∙ ap (λ (n : ℕ). 32 * n) (length_tab joins 0 (λ i. party_row v.buffer.accounts v.group.accounts (get_or x.now.joined i 0)))

    follows : Follows (32 * v.said.k) (32 * joins) (flat added) v.said.set set'
    follows =
        let xs = flat added in
        let a = set_room p in
        let b = p.set.long in
        let c = rows_many in
        subst (λ (n : ℕ). Follows (32 * v.said.k) n xs v.said.set set') rows_many
        (subst (Follows (32 * v.said.k) (length xs) xs v.said.set) (sym made) (laid_follows (32 * v.said.k) xs v.said.set (omega arith)))

    pub set_good : GoodRows held' set'
    set_good =
        let a = set_room p in
        record {
          long = follows.long ∙ p.set.long;
          fits = subst (FitsSet Real) (sym set_is) (set_fits p);
          few = omega arith;
          blank = zeros_behind follows (32 * v.said.k) 16384 (32 * held') (omega arith) (omega arith) p.set.blank;
        }
