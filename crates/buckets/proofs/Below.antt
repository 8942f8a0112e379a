-- Whole indexes: of fresh cells, and the loop that looks for a slot in the buckets below the height. Assumes nothing.
use mathlib.Core.Path.{◌≡◌, sym, ap, ◌∙◌, subst}
use mathlib.Core.Bool.{true, false}
use mathlib.Core.List.{List, [], ◌∷◌, ◌++◌}
use Prim.Native.Nat.{ℕ, ◌+◌, ◌-◌, ◌*◌, ◌<◌, ◌≤◌}
use native.Mathlib.Nat.{sub-zero, sub-eq-zero_of_le, add-zero}
use native.Mathlib.Numerals.{add-one}
use native.Mathlib.Omega.{arith}
use lib.ListN.{length, get_or, take, drop, length-replicate, drop_of_length-le, replicate-append-replicate}
use lib.Seq.{take_at, drop_at, drop-cons, take-nil}
use borrow.Author.Tests.{lt-ltb, le-ltb}
use Rattle.rules.specs.World.{is_nil, joined}
use Rattle.rules.specs.Fill as rules
use Rattle.columns.specs.Lists.{tab_i}
use Rattle.columns.proofs.Tabs.{tab_cong}
use Rattle.columns.proofs.Scans.{turns}
use Rattle.buckets.specs.Cells.{mark, up_to, cells_of, bucket_of, index, GoodBucket}
use Rattle.buckets.specs.Moves.{Plain, Leaves}
use Rattle.buckets.proofs.Cells.{length_cells, cell_at, length_index, at_index}
use Rattle.buckets.proofs.Entries.{marks, entries, good_bucket}

-- ---- fresh cells

module _ (n : ℕ) (size : n ≡ 1088) where
  fresh_cells : (c : ℕ) → c < 17 → cells_of (marks n) c ≡ marks 64
  unfolding cells_of
  fresh_cells c l =
      let rest = 1088 - (64 * c + 64) in
      let z : n ≡ 64 * c + (64 + rest) = omega arith in
      let split : marks n ≡ marks (64 * c) ++ (marks 64 ++ marks rest) =
      ap marks z ∙ sym (replicate-append-replicate (64 * c) (64 + rest) mark)
      ∙ ap (λ (l : List ℕ). marks (64 * c) ++ l) (sym (replicate-append-replicate 64 rest mark)) in
      ap (λ (l : List ℕ). take 64 (drop (64 * c) l)) split
      ∙ ap (take 64) (drop_at (marks (64 * c)) _ (64 * c) (length-replicate (64 * c) mark))
      ∙ take_at (marks 64) (marks rest) 64 (length-replicate 64 mark)

  pub fresh_leaves : Leaves (rules.fresh Plain).index (marks n)
  unfolding index bucket_of tab_i rules.fresh
  fresh_leaves = record {
    good = record {
      size = length-replicate n mark ∙ size;
      each = λ c l. subst GoodBucket (sym (fresh_cells c l)) (good_bucket [] tt tt);
    };
    holds = tab_cong 17 0 (bucket_of (marks n)) (λ c. []) (λ c a l. ap up_to (fresh_cells c l) ∙ entries [] tt);
  }

-- ---- the loop

pub record Passing (cells : List ℕ) (height c : ℕ) : Type 0 where
  pub within : c ≤ 17
  pub rest : is_nil (joined (take (height - c) (drop c (index cells)))) ≡ is_nil (joined (take height (index cells)))

pub pass_start : (cells : List ℕ) (height : ℕ) → Passing cells height 0
pass_start cells height = record { within = omega arith; rest = rw sub-zero }

module _ {cells : List ℕ} {height c : ℕ} (v : Passing cells height c) where
  module _ (size : length cells ≡ 1088) (l : c < 17) (h : c < height) where
    first : cells_of cells c ≡ get_or cells (64 * c) 0 ∷ drop 1 (cells_of cells c)
    first =
        let q : 0 < length (cells_of cells c) = omega (arith, length_cells cells c size l) in
        drop-cons (cells_of cells c) 0 0 q
        ∙ ap (λ (x : ℕ). x ∷ drop 1 (cells_of cells c)) (cell_at cells c 0 0 (omega arith) ∙ ap (λ (k : ℕ). get_or cells k 0) (add-zero (64 * c)))

    split : is_nil (joined (take height (index cells))) ≡ is_nil (bucket_of cells c ++ joined (take (height - (c + 1)) (drop (c + 1) (index cells))))
    unfolding joined
    split =
        sym v.rest
        ∙ rw (turns height c h, drop-cons (index cells) c [] (omega (arith, length_index cells)), at_index cells c l, ← add-one c)

    none : mark ≤ get_or cells (64 * c) 0 → bucket_of cells c ≡ []
    unfolding bucket_of up_to
    none e = rw (first, le-ltb (get_or cells (64 * c) 0) mark e)

    one : get_or cells (64 * c) 0 < mark → bucket_of cells c ≡ get_or cells (64 * c) 0 ∷ up_to (drop 1 (cells_of cells c))
    unfolding bucket_of up_to
    one e = ap up_to first ∙ rw (lt-ltb (get_or cells (64 * c) 0) mark e)

    pub pass_step : mark ≤ get_or cells (64 * c) 0 → Passing cells height (c + 1)
    pass_step e = record { within = omega arith; rest = sym (rw (none e) at split) }

    pub pass_found : get_or cells (64 * c) 0 < mark → false ≡ is_nil (joined (take height (index cells)))
    unfolding is_nil
    pass_found e = sym (rw (one e) at split)

  -- the height is reached
  pub pass_end : height ≤ c → true ≡ is_nil (joined (take height (index cells)))
  unfolding is_nil joined
  pass_end h = rw (sub-eq-zero_of_le h) at v.rest

  -- or all buckets are passed
  pub pass_all : 17 ≤ c → true ≡ is_nil (joined (take height (index cells)))
  unfolding is_nil joined
  pass_all h = rw (drop_of_length-le (index cells) {i = c} (omega (arith, length_index cells)), take-nil {A = List ℕ} (height - c)) at v.rest
