-- The new slots' numbers are lent as a slice of their column: that slice is the numbers that were laid there, so they can be listed, and the
-- listing is theirs. Assumes nothing.
use mathlib.Core.Path.{◌≡◌, sym, ap, subst, ◌∙◌}
use mathlib.Core.List.{List}
use Prim.Native.Nat.{ℕ, ◌+◌, ◌-◌, ◌≤◌}
use native.Mathlib.Omega.{arith}
use lib.ListN.{length, take, drop}
use Rattle.rules.specs.Fill.{listed_too}
use Rattle.columns.specs.Lists.{tab_i}
use Rattle.columns.specs.Laid.{laid_at}
use Rattle.columns.proofs.Laid.{length_laid, middle_laid}
use Rattle.columns.proofs.Tabs.{length_tab}
use Rattle.buckets.specs.Cells.{index}
use Rattle.buckets.specs.Moves as moves
use Rattle.buckets.specs.Moves.{Plain, Leaves, MayList}
use Rattle.slots.specs.Join.{SlotsJoined}
use Rattle.slot_joins.specs.Slots.{Counts, MayAddSlots, SlotsAdded}

abbrev new : (n first : ℕ) → List ℕ
new n first = tab_i n first (λ k. k)

module _ {held n first ints exts : ℕ} {buckets ints2 exts2 : List ℕ} (number number' : List ℕ)
    (p : MayAddSlots held n first (length number) ints exts buckets ints2 exts2) (e : number' ≡ laid_at held (new n first) number) where
  fits : held + length (new n first) ≤ length number
  fits = omega (arith, length_tab n first (λ (k : ℕ). k), p.room.room, p.room.number)

  pub ends : held + n ≤ length number'
  ends = omega (arith, ap length e, length_laid held (new n first) number fits, p.room.room, p.room.number)

  slice_is : take (held + n - held) (drop held number') ≡ new n first
  slice_is =
      let z : held + n - held ≡ n = omega arith in
      rw (z, e) (rw (length_tab n first (λ (k : ℕ). k)) at (middle_laid held (new n first) number fits))

  pub listable : (counts : List ℕ) → Counts n ints2 exts2 counts → MayList buckets (take (held + n - held) (drop held number')) counts n
  listable counts c = subst (λ (ns : List ℕ). MayList buckets ns counts n) (sym slice_is) (p.lists counts c)

  pub slots_added : {ints₀ exts₀ ints' exts' : List ℕ} → SlotsJoined held n first ints2 exts2 number ints₀ exts₀ number' ints' exts'
      → (counts : List ℕ) → Counts n ints2 exts2 counts → (cells : List ℕ)
      → Leaves (listed_too Plain (moves.slots_of (take (held + n - held) (drop held number')) counts n) 0 (index buckets)) cells
      → SlotsAdded held n first ints2 exts2 number ints₀ exts₀ buckets number' ints' exts' cells
  slots_added s counts c cells v = record {
    joined = s;
    counts = counts;
    counted = c;
    listed = subst (λ (ns : List ℕ). Leaves (listed_too Plain (moves.slots_of ns counts n) 0 (index buckets)) cells) slice_is v;
  }
