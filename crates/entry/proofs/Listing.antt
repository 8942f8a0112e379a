-- The slots that the buckets below the height list are the cells below the mark among the first 64 cells a bucket, since a bucket has its
-- entries before its marks; and what the loop keeps that copies such cells. Assumes nothing.
use mathlib.Core.Path.{◌≡◌, refl, sym, ap, ap₂, ◌∙◌}
use mathlib.Core.Bool.{Bool, true, false, cond}
use mathlib.Core.List.{List, [], ◌∷◌, ◌++◌, append-nil, append_assoc}
use Prim.Native.Nat.{ℕ, zero, suc, ◌+◌, ◌*◌, ◌-◌, ◌<◌, ◌≤◌}
use native.Mathlib.Nat.{not-suc-le-zero, le_of_suc-le-suc, zero-add}
use native.Mathlib.Numerals.{add-one}
use native.Mathlib.Omega.{arith}
use lib.Dec.{ltb}
use lib.ListN.{length, get_or, take, drop, set, length-set, length-append, take-append-drop}
use lib.Seq.{take-suc, take-add, take-suc-set, drop-set-lt, length-take-le}
use borrow.Author.Tests.{lt-ltb, le-ltb}
use Rattle.rules.specs.World.{joined, keep}
use Rattle.demands.proofs.Rows.{keep_append}
use Rattle.demands.proofs.Fits.{length_keep}
use Rattle.columns.specs.Lists.{tab_i}
use Rattle.columns.specs.Laid.{laid_at}
use Rattle.columns.proofs.Tabs.{tab_snoc}
use Rattle.columns.proofs.Laid.{drop_same}
use Rattle.buckets.specs.Cells.{mark, up_to, cells_of, bucket_of, index, GoodBucket, GoodBuckets}
use Rattle.buckets.proofs.Entries.{Small, small_entries, marks}
use Rattle.entry.specs.Entry.{Lists}

-- the entries among cells
abbrev pub entries_of : List ℕ → List ℕ
entries_of cells = keep (λ (n : ℕ). ltb n mark) cells

of_small : (xs : List ℕ) → Small xs → entries_of xs ≡ xs
unfolding keep
of_small [] s = refl
of_small (x ∷ xs) s = rw (lt-ltb x mark s.0) (ap (λ (l : List ℕ). x ∷ l) (of_small xs s.1))

of_marks : (m : ℕ) → entries_of (marks m) ≡ []
unfolding keep
of_marks zero = refl
of_marks (suc m) = of_marks m

of_bucket : {cells : List ℕ} → GoodBucket cells → entries_of cells ≡ up_to cells
of_bucket {cells} g =
    let xs = up_to cells in
    ap entries_of g.gapless ∙ keep_append (λ (n : ℕ). ltb n mark) xs (marks (64 - length xs))
    ∙ ap₂ ◌++◌ (of_small xs (small_entries cells)) (of_marks (64 - length xs)) ∙ append-nil xs

take_tab : {A : Type 0} (n m i : ℕ) (f : ℕ → A) → n ≤ m → take n (tab_i m i f) ≡ tab_i n i f
unfolding tab_i
take_tab zero m i f h = refl
take_tab (suc n) zero i f h = absurd (not-suc-le-zero h)
take_tab (suc n) (suc m) i f h = ap (λ l. f i ∷ l) (take_tab n m (i + 1) f (le_of_suc-le-suc h))

joined_last : {A : Type 0} (xs : List (List A)) (y : List A) → joined (xs ++ (y ∷ [])) ≡ joined xs ++ y
unfolding joined
joined_last [] y = append-nil y
joined_last (x ∷ xs) y = ap (λ l. x ++ l) (joined_last xs y) ∙ sym (append_assoc x (joined xs) y)

module _ (cells : List ℕ) (good : GoodBuckets cells) where
  below : (h : ℕ) → h ≤ 17 → joined (tab_i h 0 (bucket_of cells)) ≡ entries_of (take (64 * h) cells)
  unfolding joined tab_i keep bucket_of cells_of
  below zero l = refl
  below (suc h) l =
      let e : 64 * suc h ≡ 64 * h + 64 = omega arith in
      ap joined (tab_snoc h 0 h (bucket_of cells) (sym (zero-add h)))
      ∙ joined_last (tab_i h 0 (bucket_of cells)) (bucket_of cells h)
      ∙ ap₂ ◌++◌ (below h (omega arith)) (sym (of_bucket (good.each h l)))
      ∙ sym (keep_append (λ (n : ℕ). ltb n mark) (take (64 * h) cells) (take 64 (drop (64 * h) cells)))
      ∙ ap entries_of (sym (take-add (64 * h) 64 cells))
      ∙ ap (λ (k : ℕ). entries_of (take k cells)) (sym e)

  pub listed_below : (height : ℕ) → height ≤ 17 → joined (take height (index cells)) ≡ entries_of (take (64 * height) cells)
  unfolding index
  listed_below height h = ap joined (take_tab height 17 0 (bucket_of cells) h) ∙ below height h

-- ---- the loop: i cells are looked at, `count` entries stand at the front of the column
pub record Listing (cells : List ℕ) (top : ℕ) (lent listed : List ℕ) (i count : ℕ) : Type 0 where
  pub within : i ≤ top
  pub few : count ≤ i
  pub long : length listed ≡ length lent
  pub many : count ≡ length (entries_of (take i cells))
  pub front : take count listed ≡ entries_of (take i cells)
  pub back : drop count listed ≡ drop count lent

pub list_start : (cells : List ℕ) (top : ℕ) (lent : List ℕ) → Listing cells top lent lent 0 0
unfolding keep
list_start cells top lent = record {
  within = omega arith;
  few = omega arith;
  long = refl;
  many = refl;
  front = refl;
  back = refl;
}

module _ {cells : List ℕ} {top : ℕ} {lent listed : List ℕ} {i count : ℕ} (v : Listing cells top lent listed i count) where
  module _ (l : i < top) (fits : top ≤ length cells) (room : top ≤ length lent) where
    next : entries_of (take (i + 1) cells) ≡ entries_of (take i cells) ++ cond (ltb (get_or cells i 0) mark) (get_or cells i 0 ∷ []) []
    unfolding keep
    next =
        ap entries_of (ap (λ (k : ℕ). take k cells) (add-one i) ∙ take-suc cells i 0 (omega arith))
        ∙ keep_append (λ (n : ℕ). ltb n mark) (take i cells) (get_or cells i 0 ∷ [])

    pub list_pass : mark ≤ get_or cells i 0 → Listing cells top lent listed (i + 1) count
    list_pass h =
        let e : entries_of (take (i + 1) cells) ≡ entries_of (take i cells) =
        next ∙ rw (le-ltb (get_or cells i 0) mark h) (append-nil (entries_of (take i cells))) in
        record {
          within = omega arith;
          few = omega (arith, v.few);
          long = v.long;
          many = v.many ∙ ap length (sym e);
          front = v.front ∙ sym e;
          back = v.back;
        }

    pub list_keep : get_or cells i 0 < mark → (x : ℕ) → x ≡ get_or cells i 0 → Listing cells top lent (set listed count x) (i + 1) (count + 1)
    list_keep h x z =
        let e : entries_of (take (i + 1) cells) ≡ entries_of (take i cells) ++ (x ∷ []) = next ∙ rw (lt-ltb (get_or cells i 0) mark h, z) in
        let q : count < length listed = omega (arith, v.few, v.long) in
        record {
          within = omega arith;
          few = omega (arith, v.few);
          long = length-set listed count x ∙ v.long;
          many = ap (λ (k : ℕ). k + 1) v.many ∙ sym (ap length e ∙ length-append (entries_of (take i cells)) (x ∷ []));
          front = rw (add-one count) (take-suc-set listed count x q ∙ ap (λ (r : List ℕ). r ++ (x ∷ [])) v.front ∙ sym e);
          back = drop-set-lt (count + 1) listed count x (omega arith) ∙ drop_same listed lent count (count + 1) v.back (omega arith);
        }

  pub list_end : GoodBuckets cells → (height : ℕ) → height ≤ 16 → top ≡ 64 * height → top ≤ i
      → Lists (joined (take height (index cells))) lent listed count
  unfolding laid_at
  list_end good height h t b =
      let z : i ≡ 64 * height = omega (arith, v.within) in
      let e : entries_of (take i cells) ≡ joined (take height (index cells)) =
      ap (λ (k : ℕ). entries_of (take k cells)) z ∙ sym (listed_below cells good height (omega arith)) in
      let n : count ≡ length (joined (take height (index cells))) = v.many ∙ ap length e in
      record {
        cells = sym (take-append-drop count listed) ∙ ap₂ ◌++◌ (v.front ∙ e) (v.back ∙ ap (λ (k : ℕ). drop k lent) (n ∙ sym (zero-add _)));
        count_is = n;
        few = omega (arith, v.few, v.within);
      }
