-- What the loops leave is what the rules say, of slots in any world that stand in a table and whose numbers and counts are those of the
-- columns; the contracts say it of slots that are no more than a number and a count. Assumes nothing.
use mathlib.Core.Path.{◌≡◌, refl, sym, ap, ap₂, ◌∙◌}
use mathlib.Core.Bool.{Bool, not, ◌&&◌}
use mathlib.Core.List.{List, ◌∷◌, ◌++◌}
use Prim.Native.Nat.{ℕ, zero, suc, ◌+◌, ◌<◌, ◌≤◌}
use native.Mathlib.Nat.{not-suc-le-zero, add-zero, le_antisymm}
use native.Mathlib.Numerals.{add-one}
use native.Mathlib.Omega.{arith}
use lib.Dec.{eqb}
use lib.ListN.{length, get_or, take}
use borrow.Author.Tests.{eq-eqb, ne_eqb, eqb-true, eqb-false}
use Rattle.rules.specs.World.{World, Slot, keep, is_member, others}
use Rattle.rules.specs.Queues.{count, count_of}
use Rattle.rules.specs.Fill as fill
use Rattle.rules.specs.Fill.{changed, bucket, reindexed, listed_too}
use Rattle.rules.specs.Demand.{OnceN}
use Rattle.demands.proofs.Sound.{keep_keep}
use Rattle.numbers.proofs.Bytes.{by_bool}
use Rattle.columns.specs.Lists.{tab_i, gather}
use Rattle.columns.proofs.Tabs.{tab_cong}
use Rattle.columns.proofs.Gathers.{gather_cong}
use Rattle.buckets.specs.Cells.{bucket_of, index}
use Rattle.buckets.specs.Moves.{Plain, slots_of, Leaves}
use Rattle.buckets.proofs.Picked.{numbers_apart}
use Rattle.buckets.proofs.Moving.{leaves, comes, leavers, comers, after, Moving}
use Rattle.buckets.proofs.Listing.{newcomers, Listing}

module _ (W : World) where
  -- ---- tables of slots and of buckets

  kept_numbers : (p : Slot W → Bool) (f : ℕ → Slot W) (m i : ℕ) → fill.numbers W (keep p (tab_i m i f)) ≡ gather (λ j. p (f j)) (λ j. (f j).number) m i
  unfolding fill.numbers keep tab_i gather
  kept_numbers p f zero i = refl
  kept_numbers p f (suc m) i =
      let ih = kept_numbers p f m (i + 1) in
      by_bool (p (f i)) (λ t. rw t (ap (λ (l : List ℕ). (f i).number ∷ l) ih)) (λ e. rw e ih)

  reindexed_table : (entry slots : List (Slot W)) (b : ℕ → List ℕ) (m c : ℕ) → reindexed W entry slots c (tab_i m c b) ≡ tab_i m c (λ k. bucket W entry slots k (b k))
  unfolding reindexed tab_i
  reindexed_table entry slots b zero c = refl
  reindexed_table entry slots b (suc m) c =
      ap (λ (l : List (List ℕ)). bucket W entry slots c (b c) ∷ l)
      (ap (λ (k : ℕ). reindexed W entry slots k (tab_i m (c + 1) b)) (sym (add-one c)) ∙ reindexed_table entry slots b m (c + 1))

  listed_table : (new : List (Slot W)) (b : ℕ → List ℕ) (m c : ℕ)
      → listed_too W new c (tab_i m c b) ≡ tab_i m c (λ k. b k ++ fill.numbers W (keep (λ s. eqb (count W s) k) new))
  unfolding listed_too tab_i
  listed_table new b zero c = refl
  listed_table new b (suc m) c =
      ap (λ (l : List (List ℕ)). (b c ++ fill.numbers W (keep (λ s. eqb (count W s) c) new)) ∷ l)
      (ap (λ (k : ℕ). listed_too W new k (tab_i m (c + 1) b)) (sym (add-one c)) ∙ listed_table new b m (c + 1))

  -- the count of a slot that stands in a table, its number in no earlier place
  count_table : (g : ℕ → Slot W) (j m i : ℕ) → i ≤ j → j < i + m → ((k : ℕ) → k < j → (g k).number ≡ (g j).number → ⊥)
      → count_of W (g j).number (tab_i m i g) ≡ count W (g j)
  unfolding count_of tab_i
  count_table g j zero i a l h = absurd (not-suc-le-zero {n = 0} (omega arith))
  count_table g j (suc m) i a l h =
      by_bool (eqb i j)
      (λ t. let e = eqb-true i j t in rw (eq-eqb (g j).number (g i).number (ap (λ (k : ℕ). (g k).number) (sym e))) (ap (λ (k : ℕ). count W (g k)) e))
      (λ f. let n = eqb-false i j f in
      rw (ne_eqb (g j).number (g i).number (λ e. h i (omega arith) (sym e))) (count_table g j m (i + 1) (omega arith) (omega arith) h))

  -- ---- a fill

  -- slot j of the table, and its count before the fill, as the columns have them
  pub record InFill (entry : List (Slot W)) (s : Slot W) (number old new : ℕ) : Type 0 where
    pub named : s.number ≡ number
    pub before : count_of W s.number entry ≡ old
    pub now : count W s ≡ new

  module _ (entry : List (Slot W)) (f : ℕ → Slot W) (numbers olds news : List ℕ) (n : ℕ)
      (same : (j : ℕ) → j < n → InFill entry (f j) (get_or numbers j 0) (get_or olds j 0) (get_or news j 0)) where
    bucket_after : (c : ℕ) (b : List ℕ) → bucket W entry (tab_i n 0 f) c b ≡ after numbers olds news c n b
    unfolding bucket changed leavers comers
    bucket_after c b =
        ap₂ (λ (k l : List ℕ). keep (λ x. not (is_member x (others k))) b ++ l)
        (picked (λ s. eqb (count_of W s.number entry) c) (leaves numbers olds news c) (λ j l. rw ((same j l).before, (same j l).now)))
        (picked (λ s. eqb (count W s) c) (comes numbers olds news c) (λ j l. rw ((same j l).before, (same j l).now)))
      where
        p : Slot W → Bool
        p s = not (eqb (count W s) (count_of W s.number entry))

        picked : (q : Slot W → Bool) (t : ℕ → Bool) → ((j : ℕ) → j < n → (p (f j) && q (f j)) ≡ t j)
            → fill.numbers W (keep q (keep p (tab_i n 0 f))) ≡ gather t (λ j. get_or numbers j 0) n 0
        picked q t h =
            ap (fill.numbers W) (keep_keep p q (tab_i n 0 f)) ∙ kept_numbers (λ s. p s && q s) f n 0
            ∙ gather_cong t (λ j. get_or numbers j 0) (λ j. p (f j) && q (f j)) (λ j. (f j).number) n 0 (λ j a l. (h j (omega arith), (same j (omega arith)).named))

    pub reindexed_is : (cells : List ℕ) → reindexed W entry (tab_i n 0 f) 0 (index cells) ≡ tab_i 17 0 (λ c. after numbers olds news c n (bucket_of cells c))
    unfolding index
    reindexed_is cells = reindexed_table entry (tab_i n 0 f) (bucket_of cells) 17 0 ∙ tab_cong 17 0 _ _ (λ c a l. bucket_after c (bucket_of cells c))

  -- ---- a join

  pub record InJoin (s : Slot W) (number new : ℕ) : Type 0 where
    pub named : s.number ≡ number
    pub now : count W s ≡ new

  module _ (f : ℕ → Slot W) (numbers counts : List ℕ) (n : ℕ) (same : (j : ℕ) → j < n → InJoin (f j) (get_or numbers j 0) (get_or counts j 0)) where
    pub listed_is : (cells : List ℕ) → listed_too W (tab_i n 0 f) 0 (index cells) ≡ tab_i 17 0 (λ c. bucket_of cells c ++ newcomers numbers counts c n)
    unfolding index newcomers
    listed_is cells =
        listed_table (tab_i n 0 f) (bucket_of cells) 17 0
        ∙ tab_cong 17 0 _ _ (λ c a l. ap (λ (k : List ℕ). bucket_of cells c ++ k)
        (kept_numbers (λ s. eqb (count W s) c) f n 0
        ∙ gather_cong (λ j. eqb (get_or counts j 0) c) (λ j. get_or numbers j 0) (λ j. eqb (count W (f j)) c) (λ j. (f j).number) n 0
        (λ j x y. (ap (λ (k : ℕ). eqb k c) (same j (omega arith)).now, (same j (omega arith)).named))))

-- ---- the slots of the contracts

module _ (numbers olds news : List ℕ) (n : ℕ) (once : OnceN (take n numbers)) (long : n ≤ length numbers) where
  plain_filled : (cells : List ℕ) → reindexed Plain (slots_of numbers olds n) (slots_of numbers news n) 0 (index cells)
      ≡ tab_i 17 0 (λ c. after numbers olds news c n (bucket_of cells c))
  unfolding slots_of count
  plain_filled cells = reindexed_is Plain (slots_of numbers olds n) _ numbers olds news n (λ j l. record {
    named = refl;
    before = count_table Plain _ j n 0 (omega arith) (omega arith) (λ k m. numbers_apart numbers n once long k j m l) ∙ add-zero (get_or olds j 0);
    now = add-zero (get_or news j 0);
  }) cells

  -- the loop of `reindex` ends in the index of the rules
  pub move_end : {cells made left : List ℕ} {i : ℕ} → Moving cells numbers olds news n made left i → n ≤ i
      → Leaves (reindexed Plain (slots_of numbers olds n) (slots_of numbers news n) 0 (index cells)) made
  unfolding index
  move_end {cells} {made} {left} {i} v h =
      let e : i ≡ n = le_antisymm v.within h in
      record {
        good = v.good;
        holds = tab_cong 17 0 (bucket_of made) (λ c. after numbers olds news c n (bucket_of cells c))
            (λ c a l. v.holds c l ∙ ap (λ (k : ℕ). after numbers olds news c k (bucket_of cells c)) e)
            ∙ sym (plain_filled cells);
      }

  -- and so it is for the slots of any world
  pub reindex_any : (W : World) (entry : List (Slot W)) (f : ℕ → Slot W)
      → ((j : ℕ) → j < n → InFill W entry (f j) (get_or numbers j 0) (get_or olds j 0) (get_or news j 0))
      → (cells : List ℕ) → reindexed Plain (slots_of numbers olds n) (slots_of numbers news n) 0 (index cells) ≡ reindexed W entry (tab_i n 0 f) 0 (index cells)
  reindex_any W entry f same cells = plain_filled cells ∙ sym (reindexed_is W entry f numbers olds news n same cells)

module _ (numbers counts : List ℕ) (n : ℕ) where
  plain_joined : (cells : List ℕ) → listed_too Plain (slots_of numbers counts n) 0 (index cells) ≡ tab_i 17 0 (λ c. bucket_of cells c ++ newcomers numbers counts c n)
  unfolding slots_of count
  plain_joined cells = listed_is Plain _ numbers counts n (λ j l. record { named = refl; now = add-zero (get_or counts j 0) }) cells

  -- the loop of `list_new` ends in the index of the rules
  pub list_end : {cells made : List ℕ} {i : ℕ} → Listing cells numbers counts n made i → n ≤ i
      → Leaves (listed_too Plain (slots_of numbers counts n) 0 (index cells)) made
  unfolding index
  list_end {cells} {made} {i} v h =
      let e : i ≡ n = le_antisymm v.within h in
      record {
        good = v.good;
        holds = tab_cong 17 0 (bucket_of made) (λ c. bucket_of cells c ++ newcomers numbers counts c n)
            (λ c a l. v.holds c l ∙ ap (λ (k : ℕ). bucket_of cells c ++ newcomers numbers counts c k) e)
            ∙ sym (plain_joined cells);
      }

  pub list_any : (W : World) (f : ℕ → Slot W) → ((j : ℕ) → j < n → InJoin W (f j) (get_or numbers j 0) (get_or counts j 0))
      → (cells : List ℕ) → listed_too Plain (slots_of numbers counts n) 0 (index cells) ≡ listed_too W (tab_i n 0 f) 0 (index cells)
  list_any W f same cells = plain_joined cells ∙ sym (listed_is W f numbers counts n same cells)
