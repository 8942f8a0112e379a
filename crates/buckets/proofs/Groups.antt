-- The calls ask no more than the group of the rules gives: what `Indexed` says of an index, with at most 64 slots, is what `reindex` and
-- `list_new` need. And well-formed cells are known by the index that they hold, so each call leaves one possible array. Assumes nothing.
use mathlib.Core.Path.{◌≡◌, sym, ap, ◌∙◌}
use mathlib.Core.Bool.{true, false}
use mathlib.Core.Logic.{inl, inr}
use mathlib.Core.List.{List, []}
use Prim.Native.Nat.{ℕ, ◌+◌, ◌*◌, ◌/◌, ◌%◌, ◌<◌, ◌≤◌}
use native.Mathlib.Nat.{div-add-mod, mod-lt}
use native.Mathlib.Omega.{arith}
use lib.ListN.{length, get_or, take}
use lib.Seq.{ext_get_or}
use Rattle.rules.specs.World.{World, Slot, is_member}
use Rattle.rules.specs.Queues.{count_of, has_slot}
use Rattle.rules.specs.Fill as fill
use Rattle.rules.specs.Demand.{OnceN}
use Rattle.rules.specs.Kept.{Indexed}
use Rattle.demands.proofs.Rows.{which, clash}
use Rattle.demands.proofs.Slots.{has_slot_numbers}
use Rattle.buckets.specs.Cells.{cells_of, bucket_of, index, GoodBuckets}
use Rattle.buckets.specs.Moves.{MayReindex, MayList}
use Rattle.buckets.proofs.Cells.{cell_at, at_index}
use Rattle.buckets.proofs.Entries.{bucket}
use Rattle.buckets.proofs.Picked.{no_longer}
use Rattle.buckets.proofs.Worlds.{InFill}

module _ (W : World) (slots : List (Slot W)) {cells : List ℕ} (good : GoodBuckets cells) (indexed : Indexed W slots (index cells)) where
  -- an entry is a slot of the group, in a bucket not above its count
  known : (m c : ℕ) → c < 17 → is_member m (bucket_of cells c) ≡ true → (has_slot W m slots ≡ true) × (c ≤ count_of W m slots)
  known m c l h = indexed.known m c (ap (is_member m) (at_index cells c l) ∙ h)

  -- a bucket lists at most as many slots as there are
  pub few_listed : (c : ℕ) → c < 17 → length (bucket_of cells c) ≤ length (fill.numbers W slots)
  unfolding bucket_of
  few_listed c l = no_longer (bucket_of cells c) (fill.numbers W slots) (good.each c l).once (λ m h. sym (has_slot_numbers W m slots) ∙ (known m c l h).0)

  -- a fill: slots stay, and counts do not fall
  pub may_reindex : (f : ℕ → Slot W) (numbers olds news : List ℕ) (n : ℕ)
      → ((j : ℕ) → j < n → InFill W slots (f j) (get_or numbers j 0) (get_or olds j 0) (get_or news j 0))
      → n ≤ 64 → n ≤ length numbers → (n ≤ length olds) × (n ≤ length news) → OnceN (take n numbers)
      → ((m : ℕ) → has_slot W m slots ≡ true → is_member m (take n numbers) ≡ true)
      → ((j : ℕ) → j < n → (get_or olds j 0 ≤ get_or news j 0) × (get_or news j 0 ≤ 16))
      → MayReindex cells numbers olds news n
  may_reindex f numbers olds news n same few a b once stay rise = record {
    good = good;
    few = few;
    numbered = a;
    counted = b;
    once = once;
    low = λ i l. (omega (arith, rise i l), omega (arith, rise i l));
    known = λ c m l h. stay m (known m c l h).0;
    new = λ i l changed. elim (which (is_member (get_or numbers i 0) (bucket_of cells (get_or news i 0)))) [
      | inr e ↦ e
      | inl e ↦ absurd (changed (omega (
        arith,
        rise i l,
        (known (get_or numbers i 0) (get_or news i 0) (omega (arith, rise i l)) e).1,
        ap (λ (k : ℕ). count_of W k slots) (sym (same i l).named) ∙ (same i l).before,
      )))
    ];
  }

  -- a join: the new slots have other numbers than those of the group
  pub may_list : (numbers counts : List ℕ) (n : ℕ) → length (fill.numbers W slots) + n ≤ 64 → n ≤ length numbers → n ≤ length counts
      → OnceN (take n numbers) → ((i : ℕ) → i < n → get_or counts i 0 ≤ 16) → ((i : ℕ) → i < n → has_slot W (get_or numbers i 0) slots ≡ false)
      → MayList cells numbers counts n
  may_list numbers counts n few a b once low other = record {
    good = good;
    room = λ c l. omega (arith, few_listed c l);
    numbered = a;
    counted = b;
    once = once;
    low = λ i l. omega (arith, low i l);
    new = λ c i l h. elim (which (is_member (get_or numbers i 0) (bucket_of cells c))) [
      | inr e ↦ e
      | inl e ↦ clash _ (known (get_or numbers i 0) c l e).0 (other i h)
    ];
  }

-- well-formed cells that hold one index are the same cells
pub one_way : (a b : List ℕ) → GoodBuckets a → GoodBuckets b → index a ≡ index b → a ≡ b
unfolding bucket_of
one_way a b g h e = ext_get_or 0 a b (g.size ∙ sym h.size) cell
  where
    same : (c : ℕ) → c < 17 → cells_of a c ≡ cells_of b c
    same c l =
        (g.each c l).gapless
        ∙ ap bucket (sym (at_index a c l) ∙ ap (λ (k : List (List ℕ)). get_or k c []) e ∙ at_index b c l)
        ∙ sym (h.each c l).gapless

    cell : (i : ℕ) → i < length a → get_or a i 0 ≡ get_or b i 0
    cell i l =
        let r : i % 64 < 64 = mod-lt i {m = 64} (omega arith) in
        let k : 64 * (i / 64) + i % 64 ≡ i = div-add-mod i 64 in
        let c : i / 64 < 17 = omega (arith, g.size, k) in
        ap (λ (j : ℕ). get_or a j 0) (sym k)
        ∙ sym (cell_at a (i / 64) (i % 64) 0 r)
        ∙ ap (λ (x : List ℕ). get_or x (i % 64) 0) (same (i / 64) c)
        ∙ cell_at b (i / 64) (i % 64) 0 r
        ∙ ap (λ (j : ℕ). get_or b j 0) k
