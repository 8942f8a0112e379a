-- The index made anew: the names entered and those that are left together are all names. Assumes nothing.
use mathlib.Core.Path.{◌≡◌, refl, sym, ap, ap₂, ◌∙◌}
use mathlib.Core.List.{List, [], ◌++◌}
use Prim.Native.Nat.{ℕ, ◌+◌, ◌*◌, ◌≤◌, ◌<◌}
use native.Mathlib.Numerals.{add-one}
use native.Mathlib.Omega.{arith}
use lib.ListN.{length, get_or, take, drop, replicate, length-drop, length-replicate, take-append-drop, drop_of_length-le}
use lib.Seq.{take_all, drop-cons}
use Rattle.columns.specs.Laid.{laid_at}
use Rattle.columns.specs.Rows.{rows_of}
use Rattle.columns.proofs.Laid.{length_laid, take_laid, middle_laid}
use Rattle.columns.proofs.Rows.{length_rows, get_d_rows, row_cell}
use Rattle.index.specs.Names.{linked_c, entered, no_names, index_of_names, with_index}
use Rattle.index.proofs.Cells.{length_linked, length_with, take_with, drop_with}

pub record Rebuilding (accounts : List ℕ) (places : ℕ) (numbers₀ numbers : List ℕ) (place : ℕ) : Type 0 where
  pub within : place ≤ places
  pub many : length numbers ≡ 528
  pub first : take 16 numbers ≡ take 16 numbers₀
  pub rest : entered place (drop place (rows_of places accounts)) (drop 16 numbers) ≡ index_of_names (rows_of places accounts)

module _ (accounts : List ℕ) (places : ℕ) (numbers : List ℕ) (many : length numbers ≡ 528) where
  fits : 16 + length (replicate {A = ℕ} 512 0) ≤ length numbers
  fits = omega (arith, length-replicate {A = ℕ} 512 0)

  cleared : drop 16 (laid_at 16 (replicate 512 0) numbers) ≡ no_names
  unfolding no_names
  cleared =
      let all = laid_at 16 (replicate {A = ℕ} 512 0) numbers in
      let long = length_laid 16 (replicate 512 0) numbers fits in
      let size = length-drop 16 all in
      let n = length-replicate {A = ℕ} 512 0 in
      sym (take_all (length (replicate {A = ℕ} 512 0)) (drop 16 all) (omega arith)) ∙ middle_laid 16 (replicate 512 0) numbers fits

  -- the numbers with a cleared index
  module _ {clear : List ℕ} (e : clear ≡ laid_at 16 (replicate 512 0) numbers) where
    pub rebuild_start : Rebuilding accounts places clear clear 0
    unfolding index_of_names
    rebuild_start = rw e record {
      within = omega arith;
      many = length_laid 16 (replicate 512 0) numbers fits ∙ many;
      first = refl;
      rest = ap (entered 0 (rows_of places accounts)) cleared;
    }

    pub same_first : (cells : List ℕ) → with_index cells clear ≡ with_index cells numbers
    unfolding with_index
    same_first cells = ap (λ (l : List ℕ). l ++ cells) (ap (take 16) e ∙ take_laid 16 (replicate 512 0) numbers fits 16 (omega arith))

module _ {accounts : List ℕ} {places : ℕ} {numbers₀ numbers : List ℕ} {place : ℕ} (v : Rebuilding accounts places numbers₀ numbers place) where
  pub rebuild_step : {now : List ℕ} (hash : ℕ) → place < places → hash ≡ get_or accounts (32 * place + 31) 0
      → now ≡ with_index (linked_c hash place (drop 16 numbers)) numbers → Rebuilding accounts places numbers₀ now (place + 1)
  unfolding entered
  rebuild_step {now} hash l h e =
      let cells = linked_c hash place (drop 16 numbers) in
      let enough : 16 ≤ length numbers = omega (arith, v.many) in
      let names = rows_of places accounts in
      let hashed = h ∙ sym (row_cell accounts place 31 (omega arith)) in
      rw e record {
        within = omega arith;
        many = length_with cells numbers enough ∙ omega (arith, length_linked hash place (drop 16 numbers), length-drop 16 numbers, v.many);
        first = take_with cells numbers enough ∙ v.first;
        rest = rw (drop_with cells numbers enough, hashed)
            (rw (drop-cons names place [] (omega (arith, length_rows places accounts)), get_d_rows places place accounts [] l, ← add-one place) at v.rest);
      }

  pub rebuild_end : places ≤ place → numbers ≡ with_index (index_of_names (rows_of places accounts)) numbers₀
  unfolding entered with_index
  rebuild_end h =
      let last = rw (drop_of_length-le (rows_of places accounts) {i = place} (omega (arith, length_rows places accounts))) at v.rest in
      sym (take-append-drop 16 numbers) ∙ ap₂ ◌++◌ v.first last
