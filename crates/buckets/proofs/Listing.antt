-- The loop of `list_new`: after i slots each bucket is its entries before the join, and behind them those of the first i whose count it is
-- for. Assumes nothing.
use mathlib.Core.Path.{◌≡◌, sym, ap, ◌∙◌}
use mathlib.Core.Bool.{false, cond}
use mathlib.Core.List.{List, [], ◌∷◌, ◌++◌, append-nil, append_assoc}
use Prim.Native.Nat.{ℕ, ◌+◌, ◌<◌, ◌≤◌}
use native.Mathlib.Omega.{arith}
use lib.Dec.{eqb}
use lib.ListN.{length, get_or, length-append}
use Rattle.rules.specs.World.{is_member}
use Rattle.demands.proofs.Slots.{is_member_append}
use Rattle.numbers.proofs.Bytes.{by_bool}
use Rattle.columns.specs.Lists.{gather}
use Rattle.buckets.specs.Cells.{bucket_of, index, GoodBuckets}
use Rattle.buckets.specs.Moves.{Leaves, put_last, MayPut, MayList}
use Rattle.buckets.proofs.Cells.{length_index, at_index}
use Rattle.buckets.proofs.Leaving.{put_at}
use Rattle.buckets.proofs.Picked.{picked_next, few_picked, not_picked, numbers_apart}

-- those of the first i slots whose count is c
unfoldable pub newcomers : (numbers counts : List ℕ) → ℕ → ℕ → List ℕ
newcomers numbers counts c i = gather (λ j. eqb (get_or counts j 0) c) (λ j. get_or numbers j 0) i 0

pub record Listing (cells numbers counts : List ℕ) (n : ℕ) (made : List ℕ) (i : ℕ) : Type 0 where
  pub within : i ≤ n
  pub good : GoodBuckets made
  pub holds : (c : ℕ) → c < 17 → bucket_of made c ≡ bucket_of cells c ++ newcomers numbers counts c i

module _ {cells numbers counts : List ℕ} {n : ℕ} (may : MayList cells numbers counts n) where
  pub list_start : Listing cells numbers counts n cells 0
  unfolding newcomers gather
  list_start = record { within = omega arith; good = may.good; holds = λ c l. sym (append-nil (bucket_of cells c)) }

  module _ {made : List ℕ} {i : ℕ} (v : Listing cells numbers counts n made i) (l : i < n) where
    abbrev x : ℕ
    x = get_or numbers i 0

    abbrev k : ℕ
    k = get_or counts i 0

    not_yet : is_member x (newcomers numbers counts k i) ≡ false
    unfolding newcomers
    not_yet = not_picked _ (λ j. get_or numbers j 0) x i 0 (λ j m. numbers_apart numbers n may.once may.numbered j i (omega arith) l)

    few : length (newcomers numbers counts k i) ≤ i
    unfolding newcomers
    few = few_picked _ (λ j. get_or numbers j 0) i 0

    pub list_put : MayPut made k x
    list_put =
        let h = may.low i l in
        record {
          good = v.good;
          bucket = h;
          room = omega (arith, ap length (v.holds k h), length-append (bucket_of cells k) (newcomers numbers counts k i), few, may.room k h);
          new = ap (is_member x) (v.holds k h) ∙ is_member_append x (bucket_of cells k) (newcomers numbers counts k i) ∙ rw (may.new k i h l) not_yet;
        }

    next : (c : ℕ) → newcomers numbers counts c (i + 1) ≡ newcomers numbers counts c i ++ cond (eqb k c) (x ∷ []) []
    unfolding newcomers
    next c = picked_next (λ j. eqb (get_or counts j 0) c) (λ j. get_or numbers j 0) i

    pub list_step : {made' : List ℕ} → Leaves (put_last k x (index made)) made' → Listing cells numbers counts n made' (i + 1)
    list_step {made'} m = record {
      within = omega arith;
      good = m.good;
      holds = λ c h.
          sym (at_index made' c h)
          ∙ ap (λ (b : List (List ℕ)). get_or b c []) m.holds
          ∙ put_at (index made) k x c (omega (arith, length_index made, may.low i l))
          ∙ by_bool (eqb k c)
          (λ t. rw (t, at_index made c h, v.holds c h, next c, t) (append_assoc (bucket_of cells c) (newcomers numbers counts c i) (x ∷ [])))
          (λ f. rw (f, at_index made c h, v.holds c h, next c, f, append-nil));
    }
