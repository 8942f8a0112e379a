-- The 1,088 cells by buckets: a store in one bucket's cells, which leaves the other buckets as they are, and the index read bucket by
-- bucket. `Edits` is what a call that writes one bucket keeps; `edits_leave` is what it leaves. Assumes nothing.
use mathlib.Core.Path.{◌≡◌, refl, sym, ap, ◌∙◌, subst}
use mathlib.Core.List.{List, []}
use Prim.Native.Nat.{ℕ, ◌+◌, ◌-◌, ◌*◌, ◌<◌}
use native.Mathlib.Nat.{zero-add}
use native.Mathlib.Omega.{arith}
use lib.Dec.{eqb, ltb}
use lib.ListN.{length, get_or, take, drop, set, length-set, length-drop}
use lib.Seq.{length-take-le, take-set-le, take-set-lt, drop-set-add, drop-set-lt, get_or-take, get_or-drop}
use borrow.Author.Tests.{eqb-true, eqb-false, ltb-true, ltb-false}
use Rattle.numbers.proofs.Bytes.{by_bool}
use Rattle.columns.proofs.Tabs.{length_tab, get_d_tab, tab_set}
use Rattle.buckets.specs.Cells.{up_to, cells_of, bucket_of, index, GoodBucket, GoodBuckets}
use Rattle.buckets.specs.Moves.{Leaves}

-- ---- a cell, and a store

pub length_cells : (cells : List ℕ) (c : ℕ) → length cells ≡ 1088 → c < 17 → length (cells_of cells c) ≡ 64
unfolding cells_of
length_cells cells c e l = length-take-le 64 (drop (64 * c) cells) (simp length-drop (omega arith))

pub cell_at : (cells : List ℕ) (c k d : ℕ) → k < 64 → get_or (cells_of cells c) k d ≡ get_or cells (64 * c + k) d
unfolding cells_of
cell_at cells c k d l = get_or-take 64 (drop (64 * c) cells) k d l ∙ get_or-drop (64 * c) cells k d

pub store_here : (cells : List ℕ) (c k v : ℕ) → k < 64 → cells_of (set cells (64 * c + k) v) c ≡ set (cells_of cells c) k v
unfolding cells_of
store_here cells c k v l = ap (take 64) (drop-set-add (64 * c) cells k v) ∙ take-set-lt 64 (drop (64 * c) cells) k v l

pub store_there : (cells : List ℕ) (c e k v : ℕ) → k < 64 → (e ≡ c → ⊥) → cells_of (set cells (64 * c + k) v) e ≡ cells_of cells e
unfolding cells_of
store_there cells c e k v l n =
    by_bool (ltb e c)
    (λ t. let lower = ltb-true e c t in
    let z : 64 * c + k ≡ 64 * e + (64 * (c - e) + k) = omega arith in
    ap (λ (x : ℕ). take 64 (drop (64 * e) (set cells x v))) z
    ∙ ap (take 64) (drop-set-add (64 * e) cells (64 * (c - e) + k) v)
    ∙ take-set-le 64 (drop (64 * e) cells) (64 * (c - e) + k) v (omega arith))
    (λ f. let upper = ltb-false e c f in ap (take 64) (drop-set-lt (64 * e) cells (64 * c + k) v (omega arith)))

-- ---- the index, bucket by bucket

pub length_index : (cells : List ℕ) → length (index cells) ≡ 17
unfolding index
length_index cells = length_tab 17 0 (bucket_of cells)

pub at_index : (cells : List ℕ) (c : ℕ) → c < 17 → get_or (index cells) c [] ≡ bucket_of cells c
unfolding index
at_index cells c l = get_d_tab 17 0 c c (bucket_of cells) [] (sym (zero-add c)) l

-- ---- a call that writes one bucket

pub record Edits (c : ℕ) (cells₀ cells : List ℕ) : Type 0 where
  pub there : (e : ℕ) → (e ≡ c → ⊥) → cells_of cells e ≡ cells_of cells₀ e
  pub long : length cells ≡ length cells₀

pub edit_start : (c : ℕ) (cells : List ℕ) → Edits c cells cells
edit_start c cells = record { there = λ e n. refl; long = refl }

module _ {c : ℕ} {cells₀ cells : List ℕ} (v : Edits c cells₀ cells) where
  pub edit_step : (k x : ℕ) → k < 64 → Edits c cells₀ (set cells (64 * c + k) x)
  edit_step k x l = record {
    there = λ e n. store_there cells c e k x l n ∙ v.there e n;
    long = length-set cells (64 * c + k) x ∙ v.long;
  }

  pub edit_more : {cells' : List ℕ} → Edits c cells cells' → Edits c cells₀ cells'
  edit_more w = record { there = λ e n. w.there e n ∙ v.there e n; long = w.long ∙ v.long }

  pub edits_leave : GoodBuckets cells₀ → c < 17 → GoodBucket (cells_of cells c) → Leaves (set (index cells₀) c (bucket_of cells c)) cells
  unfolding index bucket_of
  edits_leave g l h = record {
    good = record {
      size = v.long ∙ g.size;
      each = λ e m. by_bool (eqb e c)
          (λ t. subst GoodBucket (sym (ap (cells_of cells) (eqb-true e c t))) h)
          (λ f. subst GoodBucket (sym (v.there e (eqb-false e c f))) (g.each e m));
    };
    holds = tab_set 17 0 c c (bucket_of cells₀) (bucket_of cells) (bucket_of cells c) (sym (zero-add c)) l refl
        (λ e m n. ap up_to (v.there e n));
  }
