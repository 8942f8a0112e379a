-- What well-formed columns give a removal or the end of a fill: few messages, few accounts, owners that have a seat; and that those that stay
-- can be indexed once the columns are packed. Assumes nothing.
use mathlib.Core.Path.{◌≡◌, ap, ◌∙◌}
use mathlib.Core.Bool.{Bool, not}
use mathlib.Core.List.{List}
use Prim.Native.Nat.{ℕ, ◌*◌, ◌≤◌}
use native.Mathlib.Omega.{arith}
use lib.ListN.{length}
use Rattle.columns.proofs.Scans.{length_map_i}
use Rattle.columns.proofs.Gathers.{rank_le}
use Rattle.columns.proofs.PackedRows.{length_packed_rows}
use Rattle.columns.specs.Laid.{held}
use Rattle.queues.specs.Cols.{Cols, number}
use Rattle.queues.specs.Good.{Good}
use Rattle.queues.specs.Compact.{packed_c, compact_c, Compacted, seats_c}
use Rattle.leaving.specs.Seats.{Seated, Owned}
use Rattle.leaving.proofs.Seating.{seat_for}

module _ (c : Cols) (g : Good c) where
  pub few : number c 2 ≤ 1024
  few = omega (arith, g.now.messages, g.M·high)

  pub seated : number c 3 ≤ 256
  seated = omega (arith, g.now.places, g.A·high)

  pub owned : (seats : ℕ) → seats ≡ 256 → Owned (number c 2) c.owner (length c.kind) seats
  owned seats e = record {
    few = few;
    rows = g.lengths.owner;
    kinds = g.lengths.kind;
    table = e;
    owners = λ i l. omega (arith, g.now.placed i l, seated);
  }

-- the seats keep their number
pub length_seated : {goes : ℕ → Bool} {a : ℕ} {seats₀ seats : List ℕ} {r : ℕ} → Seated goes a seats₀ seats r → length seats ≡ length seats₀
unfolding seats_c
length_seated {goes} {a} {seats₀} s = ap length s.seats ∙ length_map_i (seat_for goes) a 0 seats₀

-- no more accounts stay than there were, and the packing keeps their column's length: the index of those that stay can be made
pub indexable : {goes : ℕ → Bool} {n a : ℕ} {seats₀ seats : List ℕ} {stay : ℕ} {c₀ c₁ : Cols} {r : ℕ} → a ≤ 256 → length c₀.accounts ≡ 16384
    → Seated goes a seats₀ seats stay → Compacted n a seats c₀ c₁ r → (32 * stay ≤ length c₁.accounts) × (stay ≤ 256)
unfolding compact_c packed_c
indexable {goes} {n} {a} {seats₀} {seats} {stay} {c₀} {c₁} few long seat done =
    let low : stay ≤ 256 = omega (arith, seat.stay, rank_le (λ p. not (goes p)) a) in
    let same = ap (λ (x : Cols). length x.accounts) done.cols ∙ length_packed_rows (held seats) a 512 c₀.accounts (omega arith) (omega arith) in
    (omega (arith, same), low)
