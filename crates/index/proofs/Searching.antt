-- A search along a chain: every place that was passed, and every one between two links, has another name. Assumes nothing.
use mathlib.Core.Path.{◌≡◌, sym, ap, ◌∙◌}
use mathlib.Core.Bool.{true, false}
use mathlib.Core.List.{List, []}
use Prim.Native.Nat.{ℕ, ◌+◌, ◌-◌, ◌≤◌, ◌<◌}
use native.Mathlib.Omega.{arith}
use lib.Dec.{ltb, eqb}
use lib.ListN.{get_or}
use lib.Seq.{get_or-drop}
use borrow.Author.Tests.{ltb-true, ltb-false, eqb-true, eqb-false}
use Rattle.numbers.specs.Bytes.{eq_l}
use Rattle.numbers.proofs.Bytes.{by_bool, eq_l_true, eq_l_false}
use Rattle.columns.specs.Rows.{row_at, rows_of, index_of}
use Rattle.columns.proofs.Index.{index_le, index_found, index_is}
use Rattle.columns.proofs.Rows.{length_rows, get_d_rows}
use Rattle.index.specs.Names.{hash_of, index_of_names}
use Rattle.index.specs.Needs.{Sought}
use Rattle.index.proofs.Chains.{Last, Chained, hash_at, chained}

-- `next` is 1 + the place to be compared next, or 0
pub record Searching (accounts : List ℕ) (places : ℕ) (x : List ℕ) (next : ℕ) : Type 0 where
  pub within : next ≤ places
  pub same : (p : ℕ) → next ≡ p + 1 → hash_of (row_at accounts p) ≡ hash_of x
  pub none : (p : ℕ) → next ≤ p → p < places → row_at accounts p ≡ x → ⊥

module _ {accounts : List ℕ} {places : ℕ} {numbers x : List ℕ} (s : Sought accounts places numbers x) where
  name : (p : ℕ) → p < places → get_or (rows_of places accounts) p [] ≡ row_at accounts p
  name p l = get_d_rows places p accounts [] l

  index : Chained (rows_of places accounts) (index_of_names (rows_of places accounts))
  index = chained (rows_of places accounts) (omega (arith, length_rows places accounts, s.few))

  cell : (i : ℕ) → get_or (index_of_names (rows_of places accounts)) i 0 ≡ get_or numbers (16 + i) 0
  cell i = ap (λ (l : List ℕ). get_or l i 0) (sym s.index) ∙ get_or-drop 16 numbers i 0

  -- the last place below q with the hash of x, where every place from q on has another name
  from : (q k : ℕ) → q ≤ places → Last (rows_of places accounts) (hash_of x) q k → ((p : ℕ) → q ≤ p → p < places → row_at accounts p ≡ x → ⊥)
      → Searching accounts places x k
  from q k h v past = record {
    within = omega (arith, v.within);
    same = λ p e. ap hash_of (sym (name p (omega (arith, v.within)))) ∙ v.same p e;
    none = λ p a b e.
        by_bool (ltb p q)
        (λ t. v.none p a (ltb-true p q t) (ap hash_of (name p b ∙ e)))
        (λ f. past p (ltb-false p q f) b e);
  }

  pub search_start : (hash : ℕ) → hash ≡ hash_of x → hash < 256 → Searching accounts places x (get_or numbers (272 + hash) 0)
  search_start hash e l =
      let many = length_rows places accounts in
      let z : 272 + hash_of x ≡ 16 + (256 + hash_of x) = omega arith in
      rw (e, z, ← cell (256 + hash_of x))
      (from places _ (omega arith) (rw many at (index.heads (hash_of x) (rw e at l))) (λ p a b. absurd (omega arith)))

  module _ {next : ℕ} (v : Searching accounts places x next) (more : next ≡ 0 → ⊥) where
    low : next - 1 < places
    low = omega (arith, v.within)

    -- the link of the place compared
    before : hash_of x < 256 → Last (rows_of places accounts) (hash_of x) (next - 1) (get_or numbers (16 + (next - 1)) 0)
    before l =
        let many = length_rows places accounts in
        let p = next - 1 in
        let h : hash_at (rows_of places accounts) p ≡ hash_of x = ap hash_of (name p low) ∙ v.same p (omega arith) in
        rw (← cell p) (rw h at (index.links p (omega (arith, low)) (rw h l)))

    pub search_lower : hash_of x < 256 → get_or numbers (16 + (next - 1)) 0 < next
    search_lower l = omega (arith, (before l).within)

    pub search_step : hash_of x < 256 → eq_l (row_at accounts (next - 1)) x ≡ false → Searching accounts places x (get_or numbers (16 + (next - 1)) 0)
    search_step l f =
        from (next - 1) _ (omega (arith, low)) (before l)
        (λ q a b e.
        by_bool (eqb q (next - 1))
        (λ t. eq_l_false _ x f (rw (← eqb-true q (next - 1) t) e))
        (λ n. v.none q (omega (arith, eqb-false q (next - 1) n)) b e))

    pub search_found : eq_l (row_at accounts (next - 1)) x ≡ true → next - 1 ≡ index_of x (rows_of places accounts)
    search_found t =
        let p = next - 1 in
        let is = eq_l_true (row_at accounts p) x t in
        sym (index_is x [] (rows_of places accounts) p (omega (arith, low, length_rows places accounts)) (name p low ∙ is)
        (λ k a e. s.once k p a low (sym (name k (omega (arith, low))) ∙ e ∙ sym is)))

  pub search_end : {next : ℕ} → Searching accounts places x next → next ≡ 0 → places ≡ index_of x (rows_of places accounts)
  search_end {next} v z =
      let r = index_of x (rows_of places accounts) in
      let many = length_rows places accounts in
      let most = index_le x [] (rows_of places accounts) in
      by_bool (ltb r places)
      (λ t. let l = ltb-true r places t in
      absurd (v.none r (omega arith) l (sym (name r l) ∙ index_found x [] (rows_of places accounts) (omega arith))))
      (λ f. let l = ltb-false r places f in omega arith)
