-- One slot put into a bucket and one taken out: what the stores of proofs/Entries.antt leave of the whole index. Assumes nothing.
use mathlib.Core.Path.{◌≡◌, sym, ap, ap₂, ◌∙◌, subst}
use mathlib.Core.List.{List, [], ◌∷◌, ◌++◌}
use Prim.Native.Nat.{ℕ, ◌+◌, ◌-◌, ◌*◌, ◌<◌, ◌≤◌}
use native.Mathlib.Omega.{arith}
use lib.Dec.{ltb}
use borrow.Author.Tests.{ltb-true, ltb-false}
use Rattle.std.proofs.lemmas.List.{drop-take, drop-append-le}
use Rattle.std.proofs.lemmas.Slice.{take-put_mid, take-put_mid_below, drop-put_mid}
use borrow.Rule.Slice.PartMut.{put_mid, same_len_mid, mid_len}
use lib.Seq.{length-take-le, take-take}
use Rattle.numbers.proofs.Bytes.{by_bool}
use lib.ListN.{length, get_or, take, drop, set, length-append, length-replicate}
use Rattle.rules.specs.World.{keep}
use Rattle.rules.specs.Demand.{OnceN}
use Rattle.demands.proofs.First.{once_last}
use Rattle.demands.proofs.Accounts.{each_keep}
use Rattle.demands.proofs.TidyIndex.{once_kept}
use Rattle.buckets.specs.Cells.{mark, up_to, cells_of, bucket_of, index, GoodBucket, GoodBuckets}
use Rattle.buckets.specs.Moves.{Leaves, MayPut, put_last, taken_out}
use Rattle.buckets.proofs.Cells.{length_cells, cell_at, store_here, at_index, Edits, edit_start, edit_step, edit_more, edits_leave}
use Rattle.buckets.proofs.Entries.{Small, small_entries, bucket, entries, good_bucket, put_bucket, small_last, other, marks, Closing, close_start, close_skip, close_keep, marked}

-- a bucket written anew with the entries xs
leave : {c : ℕ} {cells₀ cells : List ℕ} → Edits c cells₀ cells → GoodBuckets cells₀ → c < 17
    → (xs : List ℕ) → cells_of cells c ≡ bucket xs → Small xs → OnceN xs → Leaves (set (index cells₀) c xs) cells
unfolding bucket_of
leave {c} {cells₀} {cells} v g l xs e s o =
    subst (λ (b : List ℕ). Leaves (set (index cells₀) c b) cells) (ap up_to e ∙ entries xs s)
    (edits_leave v g l (subst GoodBucket (sym e) (good_bucket xs s o)))

-- a bucket has 64 cells at most
pub few_entries : {cells : List ℕ} → GoodBuckets cells → (c : ℕ) → c < 17 → length (bucket_of cells c) ≤ 64
unfolding bucket_of
few_entries {cells} g c l =
    omega (arith, sym (length_cells cells c g.size l) ∙ ap length (g.each c l).gapless ∙ length-append (up_to (cells_of cells c)) _)

pub put_leaves : {cells : List ℕ} {c number k : ℕ} → MayPut cells c number → number < mark → k ≡ length (bucket_of cells c)
    → Leaves (put_last c number (index cells)) (set cells (64 * c + k) number)
unfolding put_last bucket_of
put_leaves {cells} {c} {number} {k} may h e =
    let l = may.bucket in
    let xs = bucket_of cells c in
    let g = may.good.each c l in
    let r : k < 64 = omega (arith, may.room) in
    subst (λ (b : List ℕ). Leaves (set (index cells) c (b ++ (number ∷ []))) (set cells (64 * c + k) number)) (sym (at_index cells c l))
    (leave (edit_step (edit_start c cells) k number r) may.good l (xs ++ (number ∷ []))
    (store_here cells c k number r ∙ ap₂ (λ (b : List ℕ) (j : ℕ). set b j number) g.gapless e ∙ put_bucket xs number may.room)
    (small_last xs number (small_entries (cells_of cells c)) h)
    (once_last number xs may.new g.once))

-- ---- the loop that takes one out, and the cells behind it, which are marked

-- the cells of bucket c from the w-th on, written anew
abbrev pub freed : (c w : ℕ) → List ℕ → List ℕ → List ℕ
freed c w cells ys = put_mid (64 * c + w) (64 * c + 64 - (64 * c + w)) cells ys

module _ {c w : ℕ} (cells ys : List ℕ) (size : length cells ≡ 1088) (l : c < 17) (low : w ≤ 64) (long : length ys ≡ 64 - w) where
  free_here : cells_of (freed c w cells ys) c ≡ take w (cells_of cells c) ++ ys
  unfolding cells_of
  free_here =
      sym (drop-take (64 * c) 64 (freed c w cells ys))
      ∙ ap (drop (64 * c)) (take-put_mid (64 * c + w) (64 * c + 64 - (64 * c + w)) cells ys (64 * c + 64) (omega arith) (omega arith))
      ∙ drop-append-le (64 * c) (take (64 * c + w) cells) ys (omega (arith, length-take-le (64 * c + w) cells (omega arith)))
      ∙ ap (λ (b : List ℕ). b ++ ys) (drop-take (64 * c) w cells ∙ sym (take-take w 64 (drop (64 * c) cells) low))

  free_edits : Edits c cells (freed c w cells ys)
  unfolding cells_of
  free_edits = record {
    there = λ e n. by_bool (ltb e c)
        (λ t. let lower = ltb-true e c t in
        sym (drop-take (64 * e) 64 (freed c w cells ys))
        ∙ ap (drop (64 * e)) (take-put_mid_below (64 * c + w) (64 * c + 64 - (64 * c + w)) cells ys (64 * e + 64) (omega arith) (omega arith))
        ∙ drop-take (64 * e) 64 cells)
        (λ f. let upper = ltb-false e c f in
        ap (take 64) (drop-put_mid (64 * c + w) (64 * c + 64 - (64 * c + w)) cells ys (64 * e) (omega arith) (omega arith) (omega arith)));
    long = same_len_mid (64 * c + w) (64 * c + 64 - (64 * c + w)) cells ys (omega (arith, mid_len (64 * c + w) (64 * c + 64) cells (omega arith)));
  }

pub record Taking (c gone : ℕ) (cells₀ cells : List ℕ) (i w : ℕ) : Type 0 where
  pub edits : Edits c cells₀ cells
  pub closing : Closing gone (cells_of cells₀ c) (cells_of cells c) i w

pub take_start : (c gone : ℕ) (cells : List ℕ) → length cells ≡ 1088 → c < 17 → Taking c gone cells cells 0 0
take_start c gone cells e l = record { edits = edit_start c cells; closing = close_start gone (cells_of cells c) (length_cells cells c e l) }

module _ {c gone : ℕ} {cells₀ cells : List ℕ} {i w : ℕ} (v : Taking c gone cells₀ cells i w) (size : length cells₀ ≡ 1088) (l : c < 17) where
  long : length (cells_of cells₀ c) ≡ 64
  long = length_cells cells₀ c size l

  pub take_skip : i < 64 → get_or cells (64 * c + i) 0 ≡ gone → Taking c gone cells₀ cells (i + 1) w
  take_skip h e = record { edits = v.edits; closing = close_skip v.closing long h (cell_at cells c i 0 h ∙ e) }

  pub take_keep : i < 64 → (get_or cells (64 * c + i) 0 ≡ gone → ⊥)
      → Taking c gone cells₀ (set cells (64 * c + w) (get_or cells (64 * c + i) 0)) (i + 1) (w + 1)
  take_keep h n =
      let x = get_or cells (64 * c + i) 0 in
      let e = cell_at cells c i 0 h in
      let q : w < 64 = omega (arith, v.closing.low) in
      record {
        edits = edit_step v.edits w x q;
        closing = rw (store_here cells c w x q, ← e) (close_keep v.closing long h (λ p. n (sym e ∙ p)));
      }

  take_end : 64 ≤ i → gone < mark → GoodBuckets cells₀ → take w (cells_of cells c) ++ marks (64 - w) ≡ bucket (keep (other gone) (bucket_of cells₀ c))
  unfolding bucket_of
  take_end h g good = marked v.closing h g (up_to (cells_of cells₀ c)) (few_entries good c l) (good.each c l).gapless

  pub take_leaves : 64 ≤ i → gone < mark → GoodBuckets cells₀ → (ys : List ℕ) → ys ≡ marks (64 - w)
      → Leaves (taken_out c gone (index cells₀)) (freed c w cells ys)
  unfolding taken_out bucket_of
  take_leaves h r good ys e =
      let xs = bucket_of cells₀ c in
      let low : w ≤ 64 = omega (arith, v.closing.low, v.closing.within) in
      let wide : length cells ≡ 1088 = v.edits.long ∙ size in
      subst (λ (b : List ℕ). Leaves (set (index cells₀) c (keep (other gone) b)) (freed c w cells ys)) (sym (at_index cells₀ c l))
      (leave (edit_more v.edits (free_edits cells ys wide l low (ap length e ∙ length-replicate (64 - w) mark))) good l (keep (other gone) xs)
      (free_here cells ys wide l low (ap length e ∙ length-replicate (64 - w) mark) ∙ ap (λ (b : List ℕ). take w (cells_of cells c) ++ b) e ∙ take_end h r good)
      (each_keep (λ (n : ℕ). n < mark) (other gone) xs (small_entries (cells_of cells₀ c)))
      (once_kept (other gone) xs (good.each c l).once))
