-- The buffer at the end of a fill: what the packing needs, and that what it leaves, with the numbers put right and the index made anew, is `filled_c`. Assumes nothing.
use mathlib.Core.Path.{◌≡◌, ap, ◌∙◌}
use mathlib.Core.List.{List, []}
use Prim.Native.Nat.{ℕ, ◌-◌, ◌≤◌}
use native.Mathlib.Omega.{arith}
use lib.ListN.{length, take, replicate}
use lib.Seq.{length-take-le}
use Rattle.columns.specs.Lists.{count_i, rank}
use Rattle.columns.specs.Laid.{laid_at, held}
use Rattle.columns.proofs.Laid.{length_laid}
use Rattle.columns.proofs.Gathers.{rank_le}
use Rattle.columns.proofs.Packed.{length_packed}
use Rattle.index.specs.Names.{indexed_by}
use Rattle.queues.specs.Cols.{Cols, cols, number, with_numbers}
use Rattle.queues.specs.Indexed.{indexed_c}
use Rattle.queues.specs.Good.{Long, Good}
use Rattle.queues.specs.Compact.{gone, moved_c, packed_c, compact_c, Compacted}
use Rattle.leaving.specs.Seats.{Seated}
use Rattle.leaving.proofs.Staying.{few}
use Rattle.settle.specs.Ends.{emptied, left_counts, with_owners, seats_left, settled_c, filled_by, filled_c}
use Rattle.leftover.proofs.Internals.{internal}

-- the columns lent to the packing, but for the numbers
abbrev pub lent : (owner : List ℕ) → Cols → Cols
lent owner c = cols owner c.kind c.form c.time c.address c.hash c.accounts []

module _ (left : List ℕ) (c : Cols) (g : Good c) (wide : length left ≡ 1024) (owner : List ℕ) (copied : owner ≡ laid_at 0 (take (number c 2) left) c.owner) where
  owner_long : length owner ≡ 2048
  owner_long =
      let l = length-take-le (number c 2) left (omega (arith, few c g)) in
      ap length copied ∙ length_laid 0 (take (number c 2) left) c.owner (omega (arith, few c g, g.lengths.owner)) ∙ g.lengths.owner

  pub lent_long : Long (lent owner c)
  lent_long =
      let l = g.lengths in
      record {
        owner = owner_long;
        kind = l.kind;
        form = l.form;
        time = l.time;
        address = l.address;
        hash = l.hash;
        accounts = l.accounts;
      }

  module _ {seats : List ℕ} {c₁ : Cols} {r : ℕ} (done : Compacted (number c 2) (number c 3) seats (lent owner c) c₁ r) where
    pub left_few : r ≤ 2048
    left_few = omega (arith, done.count, rank_le (held (moved_c (number c 2) seats owner)) (number c 2), few c g)

    pub kind_long : length c₁.kind ≡ 2048
    unfolding compact_c packed_c
    kind_long =
        ap (λ (x : Cols). length x.kind) done.cols
        ∙ length_packed 0 (held (moved_c (number c 2) seats owner)) (number c 2) c.kind (omega (arith, few c g, g.lengths.kind))
        ∙ g.lengths.kind

module _ (left : List ℕ) (c : Cols) (owner : List ℕ) (copied : owner ≡ laid_at 0 (take (number c 2) left) c.owner)
    (seats : List ℕ) (stay : ℕ) (seat : Seated (emptied (number c 2) left) (number c 3) (replicate 256 gone) seats stay)
    (c₁ : Cols) (r : ℕ) (done : Compacted (number c 2) (number c 3) seats (lent owner c) c₁ r)
    (i : ℕ) (counted : i ≡ count_i internal r 0 c₁.kind) (ns : List ℕ) (numbered : ns ≡ left_counts r stay i c.numbers)
    (made : List ℕ) (indexed : made ≡ indexed_by stay c₁.accounts ns) where
  -- the columns packed by any seats, with any counts
  packed : with_numbers ns c₁ ≡ settled_c (number c 2) (number c 3) seats r stay (with_owners (number c 2) left c)
  unfolding settled_c compact_c packed_c
  packed =
      let n = number c 2 in
      let a = number c 3 in
      let after : List ℕ → Cols = λ o. compact_c n a seats (lent o c) in
      (λ j. with_numbers ((numbered ∙ ap (λ (x : ℕ). left_counts r stay x c.numbers) counted) j) c₁)
      ∙ (λ j. with_numbers (left_counts r stay (count_i internal r 0 (done.cols j).kind) c.numbers) (done.cols j))
      ∙ (λ j. with_numbers (left_counts r stay (count_i internal r 0 (after (copied j)).kind) c.numbers) (after (copied j)))

  is_count : r ≡ rank (held (moved_c (number c 2) seats (laid_at 0 (take (number c 2) left) c.owner))) (number c 2)
  is_count = done.count ∙ ap (λ (o : List ℕ). rank (held (moved_c (number c 2) seats o)) (number c 2)) copied

  of_seats : seats ≡ seats_left (number c 2) (number c 3) left
  unfolding seats_left
  of_seats = seat.seats

  filled : with_numbers ns c₁ ≡ filled_by (number c 2) (number c 3) left c
  unfolding filled_by
  filled =
      let n = number c 2 in
      let a = number c 3 in
      let at = with_owners n left c in
      packed
      ∙ ap (λ (x : ℕ). settled_c n a seats x stay at) is_count
      ∙ (λ j. settled_c n a (of_seats j) (rank (held (moved_c n (of_seats j) at.owner)) n) (seat.stay j) at)

  pub settled : with_numbers made c₁ ≡ filled_c left c
  unfolding indexed_c
  settled =
      (λ j. with_numbers (indexed j) c₁)
      ∙ ap (indexed_c stay) filled
      ∙ ap (λ (b : ℕ). indexed_c b (filled_by (number c 2) (number c 3) left c)) seat.stay
