-- What the loop of `keys` keeps: the keys of the internals among the rows looked at lie at the front of the key list. Assumes nothing.
use mathlib.Core.Path.{◌≡◌, refl, sym, ap, ◌∙◌}
use mathlib.Core.Bool.{true, false, not}
use mathlib.Core.List.{List}
use Prim.Native.Nat.{ℕ, ◌+◌, ◌*◌, ◌<◌, ◌≤◌}
use native.Mathlib.Nat.{zero-add}
use native.Mathlib.Omega.{arith}
use lib.ListN.{length, get_or, set}
use borrow.Author.Tests.{eq-eqb, ne_eqb}
use Rattle.columns.specs.Lists.{gather, rank}
use Rattle.columns.specs.Laid.{laid_at}
use Rattle.columns.specs.Rows.{row_at, flat}
use Rattle.columns.proofs.Gathers.{rank_kept, rank_left, rank_less, rank_mono}
use Rattle.settle.specs.Copies.{is_key, Keyed}
use Rattle.settle.proofs.Copying.{gather_keeps, gather_skips, gathered, Celling, cell_start, cell_step, Rowing, row_start, row_step}

pub record Keying (n : ℕ) (rows kind time hash lts₀ hashes₀ lts hashes : List ℕ) (k w : ℕ) : Type 0 where
  pub within : k ≤ n
  pub count : w ≡ rank (is_key rows kind) k
  pub low : w ≤ k
  pub lts_done : Celling (gather (is_key rows kind) (λ j. get_or time (get_or rows j 0) 0) k 0) 0 lts₀ lts
  pub hashes_done : Rowing (gather (is_key rows kind) (λ j. row_at hash (get_or rows j 0)) k 0) 0 hashes₀ hashes

pub key_start : (n : ℕ) (rows kind time hash lts hashes : List ℕ) → Keying n rows kind time hash lts hashes lts hashes 0 0
unfolding gather rank
key_start n rows kind time hash lts hashes = record {
  within = omega arith;
  count = refl;
  low = omega arith;
  lts_done = cell_start 0 lts;
  hashes_done = row_start 0 hashes;
}

module _ {n : ℕ} {rows kind time hash lts₀ hashes₀ lts hashes : List ℕ} {k w : ℕ} (v : Keying n rows kind time hash lts₀ hashes₀ lts hashes k w) (l : k < n) where
  -- there is room for one more
  pub key_room : is_key rows kind k ≡ true → w < rank (is_key rows kind) n
  key_room e = omega (arith, v.count, rank_less (is_key rows kind) k n e l)

  pub key_step : is_key rows kind k ≡ true → rank (is_key rows kind) n ≤ length lts₀ → 32 * rank (is_key rows kind) n ≤ length hashes₀
      → (t : ℕ) → t ≡ get_or time (get_or rows k 0) 0 → (x : List ℕ) → x ≡ row_at hash (get_or rows k 0) → length x ≡ 32
      → Keying n rows kind time hash lts₀ hashes₀ (set lts w t) (laid_at (32 * w) x hashes) (k + 1) (w + 1)
  key_step e a b t f x g wide =
      let test = is_key rows kind in
      let here : (A : Type 0) → (h : ℕ → A) → w ≡ 0 + length (gather test h k 0) = λ A h. v.count ∙ sym (zero-add _ ∙ gathered test h k) in
      let room = key_room e in
      record {
        within = omega arith;
        count = ap (λ (i : ℕ). i + 1) v.count ∙ sym (rank_kept test k e);
        low = omega (arith, v.low);
        lts_done = rw (gather_keeps test (λ j. get_or time (get_or rows j 0) 0) k e, ← f) (cell_step v.lts_done w t (here ℕ (λ j. get_or time (get_or rows j 0) 0)) (omega arith));
        hashes_done = rw (gather_keeps test (λ j. row_at hash (get_or rows j 0)) k e, ← g) (row_step v.hashes_done w x (here (List ℕ) (λ j. row_at hash (get_or rows j 0))) wide (omega arith));
      }

  pub key_skip : is_key rows kind k ≡ false → Keying n rows kind time hash lts₀ hashes₀ lts hashes (k + 1) w
  key_skip e =
      let test = is_key rows kind in
      record {
        within = omega arith;
        count = v.count ∙ sym (rank_left test k e);
        low = omega (arith, v.low);
        lts_done = rw (gather_skips test (λ j. get_or time (get_or rows j 0) 0) k e) v.lts_done;
        hashes_done = rw (gather_skips test (λ j. row_at hash (get_or rows j 0)) k e) v.hashes_done;
      }

pub key_end : {n : ℕ} {rows kind time hash lts₀ hashes₀ lts hashes : List ℕ} {k w : ℕ} → Keying n rows kind time hash lts₀ hashes₀ lts hashes k w → n ≤ k
    → Keyed n rows kind time hash lts₀ hashes₀ lts hashes w
key_end {n} {rows} {kind} {time} {hash} {lts₀} {hashes₀} {lts} {hashes} {k} {w} v h =
    let e : k ≡ n = omega (arith, v.within) in
    record {
      count = v.count ∙ ap (rank (is_key rows kind)) e;
      lts_are = v.lts_done.cells ∙ ap (λ (i : ℕ). laid_at 0 (gather (is_key rows kind) (λ j. get_or time (get_or rows j 0) 0) i 0) lts₀) e;
      hashes_are = v.hashes_done.cells ∙ ap (λ (i : ℕ). laid_at 0 (flat (gather (is_key rows kind) (λ j. row_at hash (get_or rows j 0)) i 0)) hashes₀) e;
    }

-- the test of a row
pub key_true : (rows kind : List ℕ) (k r : ℕ) → r ≡ get_or rows k 0 → (get_or kind r 0 ≡ 1 → ⊥) → is_key rows kind k ≡ true
key_true rows kind k r e n = ap not (ne_eqb _ _ (λ z. n (rw e z)))

pub key_false : (rows kind : List ℕ) (k r : ℕ) → r ≡ get_or rows k 0 → get_or kind r 0 ≡ 1 → is_key rows kind k ≡ false
key_false rows kind k r e n = ap not (eq-eqb _ _ (rw e at n))
