-- The cells that an add writes, column by column and over any number of cells: the numbers with one message more, a row laid over a flat
-- column, and the accounts with one more where the seat is new. Assumes nothing.
use mathlib.Core.Path.{◌≡◌, refl, sym, ap, ◌∙◌}
use mathlib.Core.Bool.{Bool, true, false, cond}
use mathlib.Core.List.{List, []}
use mathlib.Core.Option.{Option, some}
use Prim.Native.Nat.{ℕ, zero, suc, ◌+◌, ◌*◌, ◌<◌, ◌≤◌}
use native.Mathlib.Omega.{arith}
use lib.Dec.{eqb, leb, ltb}
use lib.ListN.{length, get_or, set, drop, length-set}
use lib.Seq.{get_or-set_same, get_or-set_other}
use borrow.Author.Tests.{eqb-false, ne_eqb, le-leb, leb-true, ltb-true}
use Rattle.numbers.proofs.Bytes.{by_bool}
use Rattle.columns.specs.Laid.{laid_at}
use Rattle.columns.specs.Rows.{row_at, rows_of}
use Rattle.columns.proofs.Laid.{length_laid, take_laid, middle_laid, drop_laid, get_d_laid_behind}
use Rattle.columns.proofs.Rows.{length_zeros, get_d_rows, rows_first}
use Rattle.rules.specs.World.{lowered}
use Rattle.message.specs.declared.Form.{Form}
use Rattle.message.specs.declared.Form.TheVariants.{Standard, Other}
use Rattle.message.specs.Records.{account_by}
use Rattle.records.specs.Records.{form_byte, form_of}
use Rattle.queues.specs.Meant.{if_marked}
use Rattle.queues.specs.Append.{more, lowest, counted_c, seated_c}

-- ---- the numbers

-- a store, read beside its place and at it: what `simp` decides at numerals
away : (l : List ℕ) (i j v : ℕ) → eqb j i ≡ false → get_or (set l i v) j 0 ≡ get_or l j 0
away l i j v e = get_or-set_other l i j v 0 (eqb-false j i e)

here : (l : List ℕ) (i v : ℕ) → ltb i (length l) ≡ true → get_or (set l i v) i 0 ≡ v
here l i v e = get_or-set_same l i v 0 (ltb-true i (length l) e)

module _ (kind time seat : ℕ) (ns : List ℕ) where
  pub counted_length : length (counted_c kind time seat ns) ≡ length ns
  unfolding counted_c
  counted_length = simp length-set

  -- M and A, and what a transaction keeps
  pub counted_rest : (j : ℕ) → (2 ≤ j → j ≤ 7 → ⊥) → get_or (counted_c kind time seat ns) j 0 ≡ get_or ns j 0
  unfolding counted_c
  counted_rest j n =
      let no : (i : ℕ) → 2 ≤ i → i ≤ 7 → eqb j i ≡ false = λ i a b. ne_eqb j i (λ e. n (omega arith) (omega arith)) in
      simp (away, no 2 (omega arith) (omega arith), no 3 (omega arith) (omega arith), no 4 (omega arith) (omega arith), no 5 (omega arith) (omega arith), no 6 (omega arith) (omega arith), no 7 (omega arith) (omega arith))

  module _ (e : length ns ≡ 528) where
    pub counted_2 : get_or (counted_c kind time seat ns) 2 0 ≡ get_or ns 2 0 + 1
    unfolding counted_c
    counted_2 = simp (away, here, e)

    pub counted_3 : get_or (counted_c kind time seat ns) 3 0 ≡ more (leb (get_or ns 3 0) seat) (get_or ns 3 0)
    unfolding counted_c
    counted_3 = simp (away, here, length-set, e)

    pub counted_4 : get_or (counted_c kind time seat ns) 4 0 ≡ more (eqb kind 0) (get_or ns 4 0)
    unfolding counted_c
    counted_4 = simp (away, here, length-set, e)

    pub counted_5 : get_or (counted_c kind time seat ns) 5 0 ≡ more (eqb kind 1) (get_or ns 5 0)
    unfolding counted_c
    counted_5 = simp (away, here, length-set, e)

    pub counted_6 : get_or (counted_c kind time seat ns) 6 0 ≡ cond (eqb kind 1) (lowest (get_or ns 7 0) (get_or ns 6 0) time) (get_or ns 6 0)
    unfolding counted_c
    counted_6 = simp (away, here, length-set, e)

    pub counted_7 : get_or (counted_c kind time seat ns) 7 0 ≡ cond (eqb kind 1) 1 (get_or ns 7 0)
    unfolding counted_c
    counted_7 = simp (here, length-set, e)

-- the minimum
lowest_lowered : (marked least time : ℕ) → ◌≡◌ {A = Option ℕ} (some (lowest marked least time)) (lowered (if_marked marked least) time)
unfolding lowered
lowest_lowered zero least time = refl
lowest_lowered (suc n) least time = refl

pub least_more : (t : Bool) (marked least time : ℕ)
    → if_marked (cond t 1 marked) (cond t (lowest marked least time) least) ≡ cond t (lowered (if_marked marked least) time) (if_marked marked least)
least_more true marked least time = lowest_lowered marked least time
least_more false marked least time = refl

-- ---- the columns

pub wide_account : (f : Form) (address : List ℕ) → length address ≡ 32 → length (account_by f address) ≡ 32
wide_account Standard address e = e
wide_account Other address e = length_zeros

pub form_back : (f : Form) → form_of (form_byte f) ≡ f
form_back Standard = refl
form_back Other = refl

-- a row laid over a flat column: those before it stay, and it is read back
module _ (n : ℕ) (x bytes : List ℕ) (wide : length x ≡ 32) (fits : 32 * n + 32 ≤ length bytes) where
  pub row_before : (i : ℕ) → i < n → row_at (laid_at (32 * n) x bytes) i ≡ row_at bytes i
  row_before i l =
      let long : 32 * n ≤ length (laid_at (32 * n) x bytes) = omega (arith, length_laid (32 * n) x bytes (omega arith)) in
      sym (get_d_rows n i (laid_at (32 * n) x bytes) [] l)
      ∙ ap (λ (rs : List (List ℕ)). get_or rs i [])
      (sym (rows_first n (laid_at (32 * n) x bytes) long)
      ∙ ap (rows_of n) (take_laid (32 * n) x bytes (omega arith) (32 * n) (omega arith))
      ∙ rows_first n bytes (omega arith))
      ∙ get_d_rows n i bytes [] l

  pub row_laid : row_at (laid_at (32 * n) x bytes) n ≡ x
  unfolding row_at
  row_laid = rw wide at (middle_laid (32 * n) x bytes (omega arith))

-- the accounts with one more where the seat is behind the last
module _ (seat a : ℕ) (x accounts : List ℕ) (wide : length x ≡ 32) (most : seat ≤ a) (fits : a ≤ seat → 32 * a + 32 ≤ length accounts) where
  pub seated_before : (p : ℕ) → p < a → row_at (seated_c seat a x accounts) p ≡ row_at accounts p
  unfolding seated_c
  seated_before p l =
      by_bool (leb a seat)
      (λ t. let u = leb-true a seat t in let z : seat ≡ a = omega arith in rw (t, z) (row_before a x accounts wide (fits u) p l))
      (λ f. rw f)

  pub seated_new : a ≤ seat → row_at (seated_c seat a x accounts) a ≡ x
  unfolding seated_c
  seated_new u = let z : seat ≡ a = omega arith in rw (le-leb a seat u, z) (row_laid a x accounts wide (fits u))

  pub seated_length : length (seated_c seat a x accounts) ≡ length accounts
  unfolding seated_c
  seated_length =
      by_bool (leb a seat)
      (λ t. let u = leb-true a seat t in let y = fits u in rw t (length_laid (32 * seat) x accounts (omega arith)))
      (λ f. rw f)

  -- what stands behind the places
  pub seated_drop : (k : ℕ) → (a ≤ seat → 32 * a + 32 ≤ k) → drop k (seated_c seat a x accounts) ≡ drop k accounts
  unfolding seated_c
  seated_drop k h =
      by_bool (leb a seat)
      (λ t. let u = leb-true a seat t in let y = fits u in let v = h u in rw t (drop_laid (32 * seat) x accounts (omega arith) k (omega arith)))
      (λ f. rw f)

  pub seated_behind : (k : ℕ) → (a ≤ seat → 32 * a + 32 ≤ k) → get_or (seated_c seat a x accounts) k 0 ≡ get_or accounts k 0
  unfolding seated_c
  seated_behind k h =
      by_bool (leb a seat)
      (λ t. let u = leb-true a seat t in let y = fits u in let v = h u in rw t (get_d_laid_behind (32 * seat) x accounts (omega arith) k 0 (omega arith)))
      (λ f. rw f)
