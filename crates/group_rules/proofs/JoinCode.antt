-- The code of a join is the rules' code: `code_is`. A group of the rules has as many slots as its table has rows, its next number is the
-- table's, and an account is shared where one of the right's rows is a row of the left's. A join refused leaves both as they were:
-- `refused_is`. Assumes nothing.
use mathlib.Core.Path.{◌≡◌, refl, sym, ap, ◌∙◌}
use mathlib.Core.Bool.{Bool, true, false, cond, ◌||◌}
use mathlib.Core.List.{List, [], ◌∷◌, ◌++◌}
use Prim.Native.Nat.{ℕ, zero, suc, ◌+◌, ◌<◌, ◌≤◌}
use native.Mathlib.Nat.{add-zero, zero-add}
use native.Mathlib.Numerals.{add-one}
use native.Mathlib.Omega.{arith}
use lib.Dec.{eqb, leb, ltb, leb-suc-suc}
use lib.ListN.{length, get_or}
use borrow.Author.Tests.{lt-ltb, ne_eqb, ltb-false, leb-false}
use Rattle.std.specs.Prelude.{Err}
use Rattle.numbers.specs.Bytes.{eq_l}
use Rattle.numbers.proofs.Bytes.{by_bool, clash, eq_l_sym, eq_l_true}
use Rattle.columns.specs.Lists.{tab_i}
use Rattle.columns.specs.Rows.{row_at, rows_of, index_of}
use Rattle.columns.proofs.Tabs.{length_tab, tab_snoc}
use Rattle.columns.proofs.Rows.{length_rows, get_d_rows}
use Rattle.rules.specs.World.{Row, first_of, some_of}
use Rattle.rules.specs.Queues.{has}
use Rattle.rules.specs.Fill.{next_number, join_code}
use Rattle.rules.specs.Calls.{join_groups}
use Rattle.demands.proofs.Rows.{or_false}
use Rattle.demands.proofs.Demand.{first_code}
use Rattle.message.specs.declared.Refusal.TheVariants.{ManySlots, SharedAccount, NumbersUsedUp}
use Rattle.message.specs.Answers.{Code, Done, number as number_of}
use Rattle.message.specs.Real.{Real}
use Rattle.queues.specs.Meant.{row_in, order_of, if_marked}
use Rattle.slots.specs.Table.{Table, count}
use Rattle.slots.specs.Meant.{listed, slot_in, slots_of, group_of, meant}
use Rattle.slots.specs.Join.{next_by, next_t, shared_t, join_code_by, join_code_t}

-- ---- an account of the right among the left's

-- rows of bytes, and rows of the rules with these accounts
found : (x : List ℕ) (rs : List (List ℕ)) (i : ℕ) (f : ℕ → Row Real) → ((j : ℕ) → j < length rs → (f (i + j)).acc ≡ get_or rs j [])
    → ltb (index_of x rs) (length rs) ≡ has Real x (tab_i (length rs) i f)
unfolding index_of has tab_i
found x [] i f h = refl
found x (r ∷ rs) i f h =
    let here : (f i).acc ≡ r = rw (add-zero i) at (h 0 (omega arith)) in
    let ih = found x rs (i + 1) f (λ j l. let z : i + 1 + j ≡ i + suc j = omega arith in rw z (h (suc j) (omega arith))) in
    rw (here, eq_l_sym r x)
    (by_bool (eq_l x r)
    (λ e. rw e (lt-ltb 0 (suc (length rs)) (omega arith)))
    (λ e. rw e (leb-suc-suc (suc (index_of x rs)) (length rs) ∙ ih)))

some_append : {X : Type 0} (p : X → Bool) (xs ys : List X) → some_of p (xs ++ ys) ≡ (some_of p xs || some_of p ys)
unfolding some_of
some_append p [] ys = refl
some_append p (x ∷ xs) ys = by_bool (p x) (λ e. rw e) (λ e. rw e (some_append p xs ys))

last_first : (t s : Bool) → cond t true s ≡ (s || (t || false))
last_first true true = refl
last_first true false = refl
last_first false true = refl
last_first false false = refl

module _ (l : Table) where
  among : (x : List ℕ) → ltb (index_of x (rows_of (count l 2) l.accounts)) (count l 2) ≡ has Real x (order_of (listed l))
  unfolding order_of
  among x =
      let rows = rows_of (count l 2) l.accounts in
      let size : length rows ≡ count l 2 = length_rows (count l 2) l.accounts in
      ap (ltb (index_of x rows)) (sym size)
      ∙ found x rows 0 (row_in (listed l)) (λ j h. ap (row_at l.accounts) (omega arith) ∙ sym (get_d_rows (count l 2) j l.accounts [] (omega (arith, size))))
      ∙ ap (λ (n : ℕ). has Real x (tab_i n 0 (row_in (listed l)))) size

  shared_is : (r : Table) (n : ℕ)
      → shared_t (count l 2) l.accounts n r.accounts ≡ some_of (λ (x : Row Real). has Real x.acc (order_of (listed l))) (tab_i n 0 (row_in (listed r)))
  unfolding shared_t some_of tab_i
  shared_is r zero = refl
  shared_is r (suc n) =
      (λ i. cond (among (row_at r.accounts n) i) true (shared_is r n i))
      ∙ last_first (has Real (row_at r.accounts n) (order_of (listed l))) _
      ∙ sym (some_append shares (tab_i n 0 (row_in (listed r))) (row_in (listed r) n ∷ []))
      ∙ ap (some_of shares) (sym (tab_snoc n 0 n (row_in (listed r)) (sym (zero-add n))))
    where
      shares : Row Real → Bool
      shares x = has Real x.acc (order_of (listed l))

-- ---- the numbers

pub next_is : (marked last : ℕ) → cond (eqb marked 0) 0 (last + 1) ≡ next_number Real (if_marked marked last)
unfolding next_number
next_is zero last = refl
next_is (suc n) last = rw (ne_eqb (suc n) 0 (λ e. omega arith)) (add-one last)

pub next_t_is : (t : Table) → next_t t ≡ next_number Real (group_of t).last
unfolding next_by
next_t_is t = next_is (count t 7) (count t 6)

pub slots_many : (t : Table) → length (slots_of t) ≡ count t 1
unfolding slots_of
slots_many t = length_tab (count t 1) 0 (slot_in t)

-- ---- the code

number_first : (t : Bool) (x y : Code) → number_of (cond t x y) ≡ first_of t (number_of x) (number_of y)
unfolding first_of
number_first true x y = refl
number_first false x y = refl

module _ (l r : Table) where
  abbrev many : Bool
  many = ltb (count l 0) (count l 1 + count r 1)

  abbrev shared : Bool
  shared = shared_t (count l 2) l.accounts (count r 2) r.accounts

  abbrev used : Bool
  used = leb 65535 (next_t l + count r 1)

  code_first : number_of (join_code_t l r) ≡ first_of many 14 (first_of shared 15 (first_of used 12 0))
  unfolding join_code_by
  code_first =
      number_first many (Err ManySlots) _
      ∙ ap (first_of many 14) (number_first shared (Err SharedAccount) _
      ∙ ap (first_of shared 15) (number_first used (Err NumbersUsedUp) Done))

  pub code_is : number_of (join_code_t l r) ≡ join_code Real (count l 0) (group_of l) (group_of r)
  unfolding join_code order_of
  code_is =
      code_first
      ∙ (λ i. first_of (ltb (count l 0) (sym (slots_many l) i + sym (slots_many r) i)) 14
      (first_of (shared_is l r (count r 2) i) 15
      (first_of (leb 65535 (next_t_is l i + sym (slots_many r) i)) 12 0)))

  -- "A refusal returns its code .. and all state and lent memory stay"
  pub refused_is : (number_of (join_code_t l r) ≡ 0 → ⊥) → join_groups Real (meant l) (meant r) ≡ record { code = number_of (join_code_t l r); left = meant l; right = meant r }
  unfolding join_groups
  refused_is n = rw (← code_is, ne_eqb (number_of (join_code_t l r)) 0 n)

-- ---- what an accepted join may rely on
pub record Joins (l r : Table) : Type 0 where
  pub slots : count l 1 + count r 1 ≤ count l 0
  pub numbers : next_t l + count r 1 < 65535
  pub apart : (a : List ℕ) → has Real a (order_of (listed l)) ≡ true → has Real a (order_of (listed r)) ≡ false

-- where no row of the second has an account of the first, no account has a row in both
none_of : (o p : List (Row Real)) → some_of (λ (x : Row Real). has Real x.acc o) p ≡ false → (a : List ℕ) → has Real a o ≡ true → has Real a p ≡ false
unfolding some_of has
none_of o [] h a i = refl
none_of o (r ∷ p) h a i =
    let parts = or_false (has Real r.acc o) (some_of (λ (x : Row Real). has Real x.acc o) p) h in
    by_bool (eq_l a r.acc)
    (λ e. clash (has Real a o) i (ap (λ (x : List ℕ). has Real x o) (eq_l_true a r.acc e) ∙ parts.0))
    (λ e. rw e (none_of o p parts.1 a i))

pub joins : (l r : Table) → join_code_t l r ≡ Done → Joins l r
unfolding order_of
joins l r e =
    let enough = first_code (many l r) 14 _ (λ e. omega arith) (sym (code_first l r) ∙ ap number_of e) in
    let other = first_code (shared l r) 15 _ (λ e. omega arith) enough.1 in
    let left = first_code (used l r) 12 _ (λ e. omega arith) other.1 in
    record {
      slots = ltb-false (count l 0) (count l 1 + count r 1) enough.0;
      numbers = leb-false 65535 (next_t l + count r 1) left.0;
      apart = none_of (order_of (listed l)) (order_of (listed r)) (sym (shared_is l r (count r 2)) ∙ other.0);
    }
