-- The column of the group's parties: it keeps its length, and each of its first cells holds a party. The columns of marks and costs and the
-- plan keep their lengths. Assumes nothing.
use mathlib.Core.Path.{◌≡◌, sym, ap, subst, ◌∙◌}
use mathlib.Core.List.{List}
use Prim.Native.Nat.{ℕ, ◌+◌, ◌<◌, ◌≤◌}
use native.Mathlib.Nat.{zero-add}
use native.Mathlib.Omega.{arith}
use lib.Dec.{ltb}
use lib.ListN.{length, get_or, replicate, length-replicate}
use borrow.Author.Tests.{ltb-true}
use Rattle.numbers.proofs.Bytes.{by_bool}
use Rattle.columns.specs.Lists.{tab_i}
use Rattle.columns.specs.Laid.{laid_at}
use Rattle.columns.specs.Rows.{row_at}
use Rattle.columns.proofs.Tabs.{length_tab, get_d_tab}
use Rattle.columns.proofs.Laid.{length_laid, get_d_laid_in}
use Rattle.message.specs.declared.Filter.{Filter}
use Rattle.entry.specs.Entry.{Sayings, seat_in, party_of, numbered_c, mark_of, cost_of, order_marks, order_costs, class_of, classes_c, Judges}
use Rattle.works.specs.Begin.{Accounts, FitAccounts, member_w}

-- a column as it is made
abbrev fresh : ℕ → List ℕ
fresh x = replicate 1280 x

pub length_fresh : (x : ℕ) → length (fresh x) ≡ 1280
length_fresh x = length-replicate 1280 x

module _ (order : List ℕ) (places : ℕ) (group : List ℕ) where
  -- a place is below 256, and 256 and a row of the group below 1280
  party_low : (n g : ℕ) → places ≤ 256 → n ≤ 1024 → g < n → party_of order places group g < 1280
  party_low n g a b l =
      by_bool (ltb (seat_in order places (row_at group g)) places)
      (λ e. rw e (omega (arith, ltb-true (seat_in order places (row_at group g)) places e)))
      (λ e. rw e (omega arith))

  module _ (n : ℕ) (member : List ℕ) (fits : n ≤ length member) where
    room : 0 + length (tab_i n 0 (party_of order places group)) ≤ length member
    room = omega (arith, length_tab n 0 (party_of order places group))

    pub length_numbered : length (numbered_c order places group n member) ≡ length member
    unfolding numbered_c
    length_numbered = length_laid 0 (tab_i n 0 (party_of order places group)) member room

    numbered_at : (g : ℕ) → g < n → get_or (numbered_c order places group n member) g 0 ≡ party_of order places group g
    unfolding numbered_c
    numbered_at g l =
        ap (λ (i : ℕ). get_or (laid_at 0 (tab_i n 0 (party_of order places group)) member) i 0) (sym (zero-add g))
        ∙ get_d_laid_in 0 (tab_i n 0 (party_of order places group)) member room g 0 (omega (arith, length_tab n 0 (party_of order places group)))
        ∙ get_d_tab n 0 g g (party_of order places group) 0 (sym (zero-add g)) l

    pub numbered_low : places ≤ 256 → n ≤ 1024 → (g : ℕ) → g < n → get_or (numbered_c order places group n member) g 0 < 1280
    numbered_low a b g l = rw (numbered_at g l) (party_low n g a b l)

-- the column made at the entry
module _ (a : Accounts) (p : FitAccounts a) (m : List ℕ) (e : m ≡ member_w a) where
  fits : a.members ≤ length (fresh 0)
  fits = omega (arith, p.members_fit, length_fresh 0)

  pub member_long : length m ≡ 1280
  member_long =
      ap length e ∙ length_numbered a.order a.places a.group a.members (fresh 0) fits ∙ length_fresh 0

  pub member_low : (g : ℕ) → g < a.members → get_or m g 0 < 1280
  member_low g l =
      subst (λ (x : List ℕ). get_or x g 0 < 1280) (sym e)
      (numbered_low a.order a.places a.group a.members (fresh 0) fits p.places_fit p.members_fit g l)

-- marks and costs of the order are laid over columns that are long enough
module _ (s : Sayings) (order : List ℕ) (places : ℕ) (l : places ≤ 256) {m c : List ℕ}
    (e : Judges (order_marks s order places (fresh 0)) (order_costs s order places (fresh s.cost)) m c) where
  pub marks_long : length m ≡ 1280
  unfolding order_marks
  marks_long =
      ap length e.mark_is
      ∙ length_laid 0 (tab_i places 0 (λ (p : ℕ). mark_of s (row_at order p))) (fresh 0)
      (omega (arith, length_tab places 0 (λ (p : ℕ). mark_of s (row_at order p)), length_fresh 0))
      ∙ length_fresh 0

  pub costs_long : length c ≡ 1280
  unfolding order_costs
  costs_long =
      ap length e.cost_is
      ∙ length_laid 0 (tab_i places 0 (λ (p : ℕ). cost_of s (row_at order p))) (fresh s.cost)
      (omega (arith, length_tab places 0 (λ (p : ℕ). cost_of s (row_at order p)), length_fresh s.cost))
      ∙ length_fresh s.cost

-- the plan with the classes
length_blank : (x : ℕ) → length (replicate 2304 x) ≡ 2304
length_blank x = length-replicate 2304 x

classes_long : (f : Filter) (kind time : List ℕ) (n : ℕ) (plan : List ℕ) → n ≤ length plan → length (classes_c f kind time n plan) ≡ length plan
unfolding classes_c
classes_long f kind time n plan fits =
    length_laid 0 (tab_i n 0 (class_of f kind time)) plan (omega (arith, length_tab n 0 (class_of f kind time)))

pub plan_long : (f : Filter) (kind time : List ℕ) (n : ℕ) → n ≤ 1024 → (q : List ℕ) → q ≡ classes_c f kind time n (replicate 2304 1024)
    → length q ≡ 2304
plan_long f kind time n fits q e =
    ap length e ∙ classes_long f kind time n (replicate 2304 1024) (omega (arith, length_blank 1024)) ∙ length_blank 1024
