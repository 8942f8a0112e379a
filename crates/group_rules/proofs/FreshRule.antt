-- A fresh group's columns mean a fresh group of the rules (`fresh_is`), and are well formed (`fresh_good`). Assumes nothing.
use mathlib.Core.Path.{◌≡◌, refl, sym, subst}
use mathlib.Core.List.{[], ◌∷◌}
use mathlib.Core.Option.{none}
use Prim.Native.Nat.{ℕ, zero, suc, ◌<◌, ◌≤◌}
use native.Mathlib.Nat.{not-suc-le-zero, le_of_suc-le-suc}
use native.Mathlib.Omega.{arith}
use lib.ListN.{get_or, replicate, length-replicate, get_or-replicate}
use Rattle.columns.specs.Lists.{tab_i}
use Rattle.rules.specs.World.{joined, keep}
use Rattle.rules.specs.Queues.{all_msgs, internals, externals}
use Rattle.rules.specs.Fill.{fresh, group_ints, group_exts}
use Rattle.rules.specs.Calls.{Target}
use Rattle.rules.specs.Kept.{TidyGroup}
use Rattle.demands.proofs.TidyJoin.{tidy_fresh}
use Rattle.message.specs.Real.{Real}
use Rattle.queues.specs.Meant.{order_of}
use Rattle.queues.specs.Good.{Zeros}
use Rattle.buckets.proofs.Below.{fresh_leaves}
use Rattle.slots.specs.Meant.{slots_of, meant}
use Rattle.slots.specs.Good.{Long, Blank, Good}
use Rattle.slots.specs.Join.{fresh_t}

pub fresh_is : (S : ℕ) → meant (fresh_t S) ≡ record { S = S; now = fresh Real }
unfolding fresh_t order_of slots_of tab_i fresh
fresh_is S = λ i. record { S = S; now = record { lists = []; slots = []; last = none; index = (fresh_leaves 1088 refl).holds i } }

zeros_of : (n first : ℕ) → Zeros (replicate n 0) first n
zeros_of n first i a b = get_or-replicate n i 0 0 b

past_first : (S n i : ℕ) → 1 ≤ i → i < suc n → get_or (S ∷ replicate n 0) i 0 ≡ 0
past_first S n zero a b = absurd (not-suc-le-zero a)
past_first S n (suc i) a b = get_or-replicate n i 0 0 (le_of_suc-le-suc b)

module _ (S : ℕ) where
  lengths : Long (fresh_t S)
  unfolding fresh_t
  lengths = record {
    number = length-replicate {A = ℕ} 64 0;
    ints = length-replicate {A = ℕ} 64 0;
    exts = length-replicate {A = ℕ} 64 0;
    accounts = length-replicate {A = ℕ} 32768 0;
    home = length-replicate {A = ℕ} 1024 0;
    owner = length-replicate {A = ℕ} 1024 0;
    kind = length-replicate {A = ℕ} 1024 0;
    form = length-replicate {A = ℕ} 1024 0;
    time = length-replicate {A = ℕ} 1024 0;
    address = length-replicate {A = ℕ} 32768 0;
    hash = length-replicate {A = ℕ} 32768 0;
    numbers = refl;
  }

  blank : Blank (fresh_t S)
  unfolding fresh_t
  blank = record {
    number = zeros_of 64 0;
    ints = zeros_of 64 0;
    exts = zeros_of 64 0;
    accounts = zeros_of 32768 0;
    home = zeros_of 1024 0;
    owner = zeros_of 1024 0;
    kind = zeros_of 1024 0;
    form = zeros_of 1024 0;
    time = zeros_of 1024 0;
    address = zeros_of 32768 0;
    hash = zeros_of 32768 0;
    numbers = λ i a b. past_first S 15 i (omega arith) b;
  }

  pub fresh_good : 1 ≤ S → S ≤ 64 → Good (fresh_t S)
  unfolding fresh_t order_of slots_of tab_i group_ints group_exts internals externals all_msgs joined keep
  fresh_good low high = record {
    lengths = lengths;
    S·low = low;
    S·high = high;
    slots = omega arith;
    accounts = omega arith;
    messages = omega arith;
    placed = λ i l. absurd (not-suc-le-zero l);
    housed = λ i l. absurd (not-suc-le-zero l);
    kinds = λ i l. absurd (not-suc-le-zero l);
    forms = λ i l. absurd (not-suc-le-zero l);
    ints = refl;
    exts = refl;
    last = omega arith;
    marked = omega arith;
    unmarked = λ e. refl;
    buckets = (fresh_leaves 1088 refl).good;
    blank = blank;
    tidy = subst (λ (t : Target Real). TidyGroup Real t.now) (sym (fresh_is S)) (tidy_fresh Real);
  }
