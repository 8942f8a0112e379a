-- What is read off the numbers of well formed columns is what the rules read off what they mean (crate buffer_rules, LookRule). Assumes nothing.
use mathlib.Core.Path.{◌≡◌, refl, sym}
use mathlib.Core.Bool.{false, not}
use Prim.Native.Nat.{ℕ, zero, suc}
use native.Mathlib.Omega.{arith}
use lib.Dec.{eqb}
use borrow.Author.Tests.{ne_eqb}
use Rattle.rules.specs.World.{least_read, most}
use Rattle.rules.specs.Queues.{full_by_slots}
use Rattle.rules.specs.Calls.{is_open}
use Rattle.queues.specs.Cols.{Cols, number, kept}
use Rattle.queues.specs.Meant.{if_marked, buffer_of, meant}
use Rattle.queues.specs.Good.{Good}
use Rattle.buffer_rules.proofs.LookRule.{held_told, accounts_told, full_told}
use Rattle.buffer_reads.specs.Shown.{counts_of, filled_by}
use Rattle.buffer_reads.specs.Lent.{counts_in, marked, filled_in}

-- ---- marks
open_is : {X : Type 0} (n : ℕ) (x : X) → not (eqb n 0) ≡ is_open (if_marked n x)
unfolding is_open
open_is zero x = refl
open_is (suc n) x = rw (ne_eqb (suc n) 0 (λ e. omega arith))

pub least_is : (n t : ℕ) → (n ≡ 0 → ⊥) → t ≡ least_read (if_marked n t)
unfolding least_read
least_is zero t e = absurd (e refl)
least_is (suc n) t e = refl

pub least_absent : (n t : ℕ) → n ≡ 0 → most ≡ least_read (if_marked n t)
unfolding least_read
least_absent zero t e = refl
least_absent (suc n) t e = absurd (omega arith)

module _ (c : Cols) where
  pub least_seen : marked c.numbers 7 ≡ is_open (meant c).now.least
  least_seen = open_is (number c 7) (number c 6)

  pub open_seen : marked c.numbers 8 ≡ is_open (meant c).kept
  open_seen = open_is (number c 8) (buffer_of (kept c))

-- ---- counts
module _ (c : Cols) (g : Good c) where
  pub counts_seen : counts_in c.numbers ≡ counts_of (meant c)
  counts_seen i = record {
    capacity = number c 0;
    places = number c 1;
    messages = sym (held_told c g) i;
    accounts = sym (accounts_told c) i;
    ints = g.now.ints i;
    exts = g.now.exts i;
  }

  pub filled_seen : (limit : ℕ) → filled_in c.numbers limit ≡ filled_by limit (meant c).now
  unfolding full_by_slots
  filled_seen limit i = record { count = sym (full_told c g limit) i; slots = false }
