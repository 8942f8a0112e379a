-- The skip rows laid out on three columns, one cell a turn. Assumes nothing.
use mathlib.Core.Path.{◌≡◌, sym, ap, ◌∙◌}
use mathlib.Core.Bool.{cond, not}
use mathlib.Core.List.{List}
use Prim.Native.Nat.{ℕ, ◌+◌, ◌*◌, ◌<◌}
use native.Mathlib.Omega.{arith}
use lib.Dec.{eqb}
use lib.ListN.{length, get_or, set}
use lib.Seq.{get_or-set_same, get_or-set_other}
use borrow.Author.Tests.{eqb-true, eqb-false}
use Rattle.numbers.proofs.Bytes.{by_bool}
use Rattle.columns.specs.Laid.{laid_at}
use Rattle.columns.specs.Rows.{rows_of, row_at}
use Rattle.columns.proofs.Rows.{length_rows, get_d_rows, rows_set}
use Rattle.columns.proofs.Tabs.{tab_cong}
use Rattle.words.specs.Digits.{name_of}
use Rattle.words.proofs.Naming.{name_long}
use Rattle.sheet_fills.specs.declared.skips.Rows.{Rows}
use Rattle.sheet_rows.specs.Answer.{skip_at, skips_at}
use Rattle.sheet_fills.specs.Steps.{skip_in, skips_in, NamesLaid, VerdictsLaid, CostsLaid}

-- a column whose cells are f of their index, one cell more
pub cell_more : (f : ℕ → ℕ) (col : List ℕ) (i x : ℕ) → i < length col → x ≡ f i → ((j : ℕ) → j < i → get_or col j 0 ≡ f j)
    → (j : ℕ) → j < i + 1 → get_or (set col i x) j 0 ≡ f j
cell_more f col i x l e v j h =
    by_bool (eqb j i)
    (λ t. let same = eqb-true j i t in rw same (get_or-set_same col i x 0 l ∙ e))
    (λ n. get_or-set_other col i j x 0 (eqb-false j i n) ∙ v j (let d = eqb-false j i n in omega arith))

-- row j after a row was put at i
row_after : (bytes x : List ℕ) (i j : ℕ) → length bytes ≡ 2048 → i < 64 → j < 64 → length x ≡ 32
    → row_at (laid_at (32 * i) x bytes) j ≡ get_or (set (rows_of 64 bytes) i x) j x
row_after bytes x i j long l m w =
    sym (get_d_rows 64 j (laid_at (32 * i) x bytes) x m) ∙ ap (λ (rs : List (List ℕ)). get_or rs j x) (rows_set 64 bytes (omega arith) i x l w)

-- a name more
pub name_more : (cells bytes x : List ℕ) (i : ℕ) → length bytes ≡ 2048 → i < 64 → x ≡ name_of (get_or cells (3 * i) 0) → NamesLaid cells i bytes
    → NamesLaid cells (i + 1) (laid_at (32 * i) x bytes)
name_more cells bytes x i long l e v j h =
    let wide : length x ≡ 32 = ap length e ∙ name_long _ in
    row_after bytes x i j long l (omega arith) wide
    ∙ by_bool (eqb j i)
    (λ t. let same = eqb-true j i t in rw same (get_or-set_same (rows_of 64 bytes) i x x (omega (arith, length_rows 64 bytes)) ∙ e))
    (λ n.
    let d = eqb-false j i n in
    get_or-set_other (rows_of 64 bytes) i j x x d ∙ get_d_rows 64 j bytes x (omega arith) ∙ v j (omega arith))

-- a verdict is told by whether it is 0
verdict_told : (n : ℕ) → not (eqb (cond (eqb n 0) 0 1) 0) ≡ not (eqb n 0)
verdict_told n = by_bool (eqb n 0) (λ t. rw t) (λ f. rw f)

-- the three columns hold the rows
pub rows_same : (cells : List ℕ) (r : Rows) → NamesLaid cells r.count r.names → VerdictsLaid cells r.count r.verdicts
    → CostsLaid cells r.count r.costs → skips_in r ≡ skips_at cells r.count
unfolding skip_at
rows_same cells r a b c =
    tab_cong r.count 0 (skip_in r) (skip_at cells) (λ j _ h.
    let l : j < r.count = omega arith in
    λ k. record {
      acc = a j l k;
      skip = (ap (λ (n : ℕ). not (eqb n 0)) (b j l) ∙ verdict_told (get_or cells (3 * j + 1) 0)) k;
      cost = c j l k;
    })
