-- The loop that looks for an account of both groups, from the right's last account down: none of those passed is one of the left's, so the
-- answer for those that are left is the answer for all. Assumes nothing.
use mathlib.Core.Path.{◌≡◌, refl, sym, ◌∙◌}
use mathlib.Core.Bool.{true, false, cond}
use mathlib.Core.List.{List}
use Prim.Native.Nat.{ℕ, suc, ◌-◌, ◌<◌, ◌≤◌}
use native.Mathlib.Omega.{arith}
use lib.Dec.{ltb}
use borrow.Author.Tests.{lt-ltb, le-ltb}
use Rattle.columns.specs.Rows.{row_at, rows_of, index_of}
use Rattle.slots.specs.Join.{shared_t}

pub record Seeking (m : ℕ) (left : List ℕ) (n : ℕ) (right : List ℕ) (k : ℕ) : Type 0 where
  pub within : k ≤ n
  pub same : shared_t m left k right ≡ shared_t m left n right

pub seek_start : (m : ℕ) (left : List ℕ) (n : ℕ) (right : List ℕ) → Seeking m left n right n
seek_start m left n right = record { within = omega arith; same = refl }

module _ {m : ℕ} {left : List ℕ} {n : ℕ} {right : List ℕ} {k : ℕ} (v : Seeking m left n right k) where
  -- the next account, and those that are left
  next : 0 < k → cond (ltb (index_of (row_at right (k - 1)) (rows_of m left)) m) true (shared_t m left (k - 1) right) ≡ shared_t m left n right
  unfolding shared_t
  next l = let e : k ≡ suc (k - 1) = omega arith in rw e at v.same

  module _ (l : 0 < k) {x : List ℕ} {r : ℕ} (row : x ≡ row_at right (k - 1)) (at : r ≡ index_of x (rows_of m left)) where
    pub seek_found : r < m → true ≡ shared_t m left n right
    seek_found h = rw (← row, ← at, lt-ltb r m h) at (next l)

    pub seek_step : m ≤ r → Seeking m left n right (k - 1)
    seek_step h = record { within = omega (arith, v.within); same = rw (← row, ← at, le-ltb r m h) at (next l) }

  pub seek_end : k ≤ 0 → false ≡ shared_t m left n right
  unfolding shared_t
  seek_end h = let e : k ≡ 0 = omega arith in rw e at v.same
