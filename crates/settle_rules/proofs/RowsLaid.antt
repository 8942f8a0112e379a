-- Rows laid over a flat column: what stands before them and what they are, row by row. With it, that a table laid over a column of numbers
-- is read back, and the seats of the members. Assumes nothing.
use mathlib.Core.Path.{◌≡◌, refl, sym, ap, ap₂, ◌∙◌}
use mathlib.Core.Bool.{Bool, true, false, not, ◌||◌}
use mathlib.Core.List.{List, [], ◌∷◌, ◌++◌, map}
use Prim.Native.Nat.{ℕ, zero, suc, ◌+◌, ◌-◌, ◌*◌, ◌<◌, ◌≤◌}
use native.Mathlib.Nat.{not-suc-le-zero, le_of_suc-le-suc, zero-add}
use native.Mathlib.Omega.{arith}
use lib.Dec.{eqb}
use lib.ListN.{length, get_or, set, take, drop, length-set}
use lib.Seq.{get_or-set_same, get_or-set_other}
use borrow.Author.Tests.{eqb-true, eqb-false, eq-eqb, ne_eqb}
use Rattle.numbers.proofs.Bytes.{by_bool, clash}
use Rattle.columns.specs.Lists.{tab_i, pick}
use Rattle.columns.specs.Laid.{laid_at}
use Rattle.columns.specs.Rows.{row_at, rows_of, flat}
use Rattle.columns.proofs.Laid.{get_d_laid_before, get_d_laid_in}
use Rattle.columns.proofs.Tabs.{length_tab, get_d_tab}
use Rattle.columns.proofs.Rows.{Wide, length_rows, get_d_rows, length_flat, rows_flat, rows_laid}
use Rattle.rules.specs.World.{keep}
use Rattle.rules.specs.Queues.{is_in}
use Rattle.settle.specs.Copies.{seated_by}
use Rattle.meaning.specs.Meaning.{Numbers}

-- ---- rows

module _ (K to n : ℕ) (f : ℕ → List ℕ) (first : ℕ) (bytes : List ℕ) (wide : Wide (tab_i n first f)) (fits : to + n ≤ K) (room : 32 * K ≤ length bytes) where
  abbrev rs : List (List ℕ)
  rs = tab_i n first f

  laid : rows_of K (laid_at (32 * to) (flat rs) bytes) ≡ laid_at to rs (rows_of K bytes)
  laid =
      rows_laid K to n (flat rs) bytes (length_flat rs wide ∙ ap (λ (k : ℕ). 32 * k) (length_tab n first f)) fits room
      ∙ ap (λ l. laid_at to l (rows_of K bytes)) (rows_flat n rs (length_tab n first f) wide)

  row_at_lem : (j : ℕ) → j < K → row_at (laid_at (32 * to) (flat rs) bytes) j ≡ get_or (laid_at to rs (rows_of K bytes)) j []
  row_at_lem j l = sym (get_d_rows K j (laid_at (32 * to) (flat rs) bytes) [] l) ∙ ap (λ h. get_or h j []) laid

  pub row_before : (j : ℕ) → j < to → row_at (laid_at (32 * to) (flat rs) bytes) j ≡ row_at bytes j
  row_before j l =
      row_at_lem j (omega arith)
      ∙ get_d_laid_before to rs (rows_of K bytes) (omega (arith, length_tab n first f, length_rows K bytes)) j [] l
      ∙ get_d_rows K j bytes [] (omega arith)

  pub row_in_lem : (j : ℕ) → j < n → row_at (laid_at (32 * to) (flat rs) bytes) (to + j) ≡ f (first + j)
  row_in_lem j l =
      row_at_lem (to + j) (omega arith)
      ∙ get_d_laid_in to rs (rows_of K bytes) (omega (arith, length_tab n first f, length_rows K bytes)) j [] (omega (arith, length_tab n first f))
      ∙ get_d_tab n first j (first + j) f [] refl l

-- ---- cells

module _ (to n : ℕ) (f : ℕ → ℕ) (first : ℕ) (col : List ℕ) (room : to + n ≤ length col) where
  pub cell_before : (j : ℕ) → j < to → get_or (laid_at to (tab_i n first f) col) j 0 ≡ get_or col j 0
  cell_before j l = get_d_laid_before to (tab_i n first f) col (omega (arith, length_tab n first f)) j 0 l

  pub cell_in : (j : ℕ) → j < n → get_or (laid_at to (tab_i n first f) col) (to + j) 0 ≡ f (first + j)
  cell_in j l =
      get_d_laid_in to (tab_i n first f) col (omega (arith, length_tab n first f)) j 0 (omega (arith, length_tab n first f))
      ∙ get_d_tab n first j (first + j) f 0 refl l

-- ---- the seats of the members

length_seated_by : (n : ℕ) (member seat : List ℕ) → length (seated_by n member seat) ≡ length seat
unfolding seated_by
length_seated_by zero member seat = refl
length_seated_by (suc n) member seat = length-set (seated_by n member seat) (get_or member n 0) n ∙ length_seated_by n member seat

pub seat_of_lem : (n : ℕ) (member seat : List ℕ) → ((g h : ℕ) → g < n → h < n → get_or member g 0 ≡ get_or member h 0 → g ≡ h)
    → ((g : ℕ) → g < n → get_or member g 0 < length seat) → (g : ℕ) → g < n → get_or (seated_by n member seat) (get_or member g 0) 0 ≡ g
unfolding seated_by
seat_of_lem zero member seat once small g l = absurd (not-suc-le-zero l)
seat_of_lem (suc n) member seat once small g l =
    by_bool (eqb g n)
    (λ e. let z = eqb-true g n e in
    rw z (get_or-set_same (seated_by n member seat) (get_or member n 0) n 0 (omega (arith, small n (omega arith), length_seated_by n member seat))))
    (λ e. let z = eqb-false g n e in
    get_or-set_other (seated_by n member seat) (get_or member n 0) (get_or member g 0) n 0 (λ w. z (once g n l (omega arith) w))
    ∙ seat_of_lem n member seat (λ x y a b. once x y (omega arith) (omega arith)) (λ x a. small x (omega arith)) g (omega arith))

-- ---- a party among the first n

pub record Among (p n : ℕ) (xs : List ℕ) : Type 0 where
  pub at : ℕ
  pub low : at < n
  pub is : get_or xs at 0 ≡ p

pub among : (ext : ℕ → Bool) (time : ℕ → ℕ) (p n : ℕ) (xs : List ℕ) → is_in (Numbers ext time) p (take n xs) ≡ true → Among p n xs
unfolding is_in
among ext time p zero xs e = clash false e refl
among ext time p (suc n) [] e = clash false e refl
among ext time p (suc n) (x ∷ xs) e =
    by_bool (eqb p x)
    (λ t. record { at = 0; low = omega arith; is = sym (eqb-true p x t) })
    (λ t. let r = among ext time p n xs (rw t at e) in record { at = suc r.at; low = omega (arith, r.low); is = r.is })

-- something that is kept
abbrev is_cons : List ℕ → ℕ
is_cons [] = 0
is_cons (x ∷ xs) = 1

pub keep_some : (q : ℕ → Bool) (n k : ℕ) (xs : List ℕ) → k < n → k < length xs → q (get_or xs k 0) ≡ true → keep q (take n xs) ≡ [] → ⊥
unfolding keep
keep_some q zero k xs l h e z = not-suc-le-zero l
keep_some q (suc n) k [] l h e z = not-suc-le-zero h
keep_some q (suc n) zero (x ∷ xs) l h e z = let w : ◌≡◌ {A = ℕ} 1 0 = ap is_cons (rw e at z) in omega arith
keep_some q (suc n) (suc k) (x ∷ xs) l h e z =
    by_bool (q x)
    (λ t. let w : ◌≡◌ {A = ℕ} 1 0 = ap is_cons (rw t at z) in omega arith)
    (λ t. keep_some q n k xs (le_of_suc-le-suc l) (le_of_suc-le-suc h) e (rw t at z))

-- ---- what one owner has of a table of owners

pub pick_keep : {B : Type 0} (F h : ℕ → B) (q : ℕ → Bool) (S T : ℕ → ℕ) (g d n i j : ℕ) → i ≡ j + d
    → ((k : ℕ) → j ≤ k → k < j + n → eqb (S k) g ≡ q (T k)) → ((k : ℕ) → j ≤ k → k < j + n → F (k + d) ≡ h (T k))
    → pick F g n i (tab_i n j S) ≡ map h (keep q (tab_i n j T))
unfolding pick keep tab_i
pick_keep F h q S T g d zero i j e a b = refl
pick_keep F h q S T g d (suc n) i j e a b =
    let ih = pick_keep F h q S T g d n (i + 1) (j + 1) (omega arith) (λ k x y. a k (omega arith) (omega arith)) (λ k x y. b k (omega arith) (omega arith)) in
    let test = a j (omega arith) (omega arith) in
    by_bool (eqb (S j) g)
    (λ c. let z : q (T j) ≡ true = sym test ∙ c in rw (c, z) (ap₂ ◌∷◌ (ap F e ∙ b j (omega arith) (omega arith)) ih))
    (λ c. let z : q (T j) ≡ false = sym test ∙ c in rw (c, z) ih)
