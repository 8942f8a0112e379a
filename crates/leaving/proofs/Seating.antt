-- What the loops over accounts and messages keep. `Seating`: the seats given so far, and how many accounts have one. `Losing`: the externals
-- counted so far. Assumes nothing.
use mathlib.Core.Path.{◌≡◌, refl, sym, ap, ◌∙◌}
use mathlib.Core.Bool.{Bool, true, false, cond, not, ◌&&◌}
use mathlib.Core.List.{List}
use Prim.Native.Nat.{ℕ, ◌+◌, ◌-◌, ◌<◌, ◌≤◌}
use native.Mathlib.Nat.{sub-zero, zero-add, add-zero, sub-eq-zero_of_le, le_antisymm}
use native.Mathlib.Omega.{arith}
use lib.Dec.{eqb}
use lib.ListN.{length, get_or, drop, set}
use borrow.Author.Tests.{eq-eqb, ne_eqb, lt-ltb, le-ltb}
use Rattle.columns.specs.Lists.{count_i, rank}
use Rattle.columns.specs.Laid.{is_place}
use Rattle.columns.specs.Rows.{row_at, rows_of, index_of}
use Rattle.columns.proofs.Gathers.{rank_kept, rank_left}
use Rattle.columns.proofs.Scans.{count_step}
use Rattle.owners.proofs.Passing.{Passing, pass_start, pass_store, pass_skip, pass_end}
use Rattle.queues.specs.Compact.{named_c, seats_c, lost_externals}
use Rattle.leaving.specs.Seats.{Seated}

-- ---- the accounts seated

abbrev pub seat_for : (ℕ → Bool) → ℕ → ℕ → ℕ
seat_for goes p o = cond (goes p) o (rank (λ q. not (goes q)) p)

pub record Seating (goes : ℕ → Bool) (a : ℕ) (seats₀ seats : List ℕ) (p w : ℕ) : Type 0 where
  pub cells : Passing (seat_for goes) a seats₀ seats p
  pub is_rank : w ≡ rank (λ q. not (goes q)) p
  pub low : w ≤ p

pub seat_start : (goes : ℕ → Bool) (a : ℕ) (seats : List ℕ) → Seating goes a seats seats 0 0
unfolding rank
seat_start goes a seats = record { cells = pass_start (seat_for goes) a seats; is_rank = refl; low = omega arith }

module _ {goes : ℕ → Bool} {a : ℕ} {seats₀ seats : List ℕ} {p w : ℕ} (v : Seating goes a seats₀ seats p w) where
  pub seat_stays : p < a → a ≤ length seats₀ → goes p ≡ false → Seating goes a seats₀ (set seats p w) (p + 1) (w + 1)
  seat_stays l h e = record {
    cells = pass_store v.cells l h w (rw e (sym v.is_rank));
    is_rank = ap (λ (x : ℕ). x + 1) v.is_rank ∙ sym (rank_kept (λ q. not (goes q)) p (ap not e));
    low = omega (arith, v.low);
  }

  pub seat_goes : p < a → a ≤ length seats₀ → goes p ≡ true → Seating goes a seats₀ seats (p + 1) w
  seat_goes l h e = record {
    cells = pass_skip v.cells l h (rw e);
    is_rank = v.is_rank ∙ sym (rank_left (λ q. not (goes q)) p (ap not e));
    low = omega (arith, v.low);
  }

  pub seat_end : a ≤ p → Seated goes a seats₀ seats w
  unfolding seats_c
  seat_end h = record { seats = pass_end v.cells h; stay = v.is_rank ∙ ap (rank (λ q. not (goes q))) (le_antisymm v.cells.within h) }

module _ (names : List ℕ) (k : ℕ) (accounts : List ℕ) (p : ℕ) (x : List ℕ) (r : ℕ)
    (row : x ≡ row_at accounts p) (found : r ≡ index_of x (rows_of k names)) where
  is_index : r ≡ index_of (row_at accounts p) (rows_of k names)
  is_index = found ∙ ap (λ (y : List ℕ). index_of y (rows_of k names)) row

  pub unnamed : k ≤ r → named_c names k accounts p ≡ false
  unfolding named_c
  unnamed l = rw (← is_index) (le-ltb r k l)

  pub named : r < k → named_c names k accounts p ≡ true
  unfolding named_c
  named l = rw (← is_index) (lt-ltb r k l)

-- ---- the externals counted

-- message i is an external of a place that goes
abbrev pub lost : (seats kind : List ℕ) → ℕ → ℕ → Bool
lost seats kind i o = eqb (get_or kind i 0) 1 && not (is_place (get_or seats o 0))

pub record Losing (seats kind : List ℕ) (n : ℕ) (owner : List ℕ) (i count : ℕ) : Type 0 where
  pub within : i ≤ n
  pub low : count ≤ i
  pub rest : count + count_i (lost seats kind) (n - i) i (drop i owner) ≡ lost_externals seats kind n owner

pub lose_start : (seats kind : List ℕ) (n : ℕ) (owner : List ℕ) → Losing seats kind n owner 0 0
unfolding lost_externals
lose_start seats kind n owner = record { within = omega arith; low = omega arith; rest = rw (sub-zero, zero-add) }

module _ {seats kind : List ℕ} {n : ℕ} {owner : List ℕ} {i count : ℕ} (v : Losing seats kind n owner i count) where
  pub lose_end : n ≤ i → count ≡ lost_externals seats kind n owner
  unfolding count_i
  lose_end h = rw (sub-eq-zero_of_le h, add-zero) at v.rest

  module _ (l : i < n) (h : n ≤ length owner) where
    step : count_i (lost seats kind) (n - i) i (drop i owner)
        ≡ cond (lost seats kind i (get_or owner i 0)) 1 0 + count_i (lost seats kind) (n - (i + 1)) (i + 1) (drop (i + 1) owner)
    step = count_step (lost seats kind) n i owner 0 l (omega arith)

    pub lose_one : get_or kind i 0 ≡ 1 → is_place (get_or seats (get_or owner i 0) 0) ≡ false → Losing seats kind n owner (i + 1) (count + 1)
    lose_one e f = record {
      within = omega arith;
      low = omega (arith, v.low);
      rest = omega (arith, v.rest, rw (eq-eqb _ _ e, f) at step);
    }

    pub lose_seated : get_or kind i 0 ≡ 1 → is_place (get_or seats (get_or owner i 0) 0) ≡ true → Losing seats kind n owner (i + 1) count
    lose_seated e f = record {
      within = omega arith;
      low = omega (arith, v.low);
      rest = omega (arith, v.rest, rw (eq-eqb _ _ e, f) at step);
    }

    pub lose_other : (get_or kind i 0 ≡ 1 → ⊥) → Losing seats kind n owner (i + 1) count
    lose_other e = record {
      within = omega arith;
      low = omega (arith, v.low);
      rest = omega (arith, v.rest, rw (ne_eqb _ _ e) at step);
    }
