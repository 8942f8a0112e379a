-- What a fill keeps of the room. A group's lists grow by what is taken; an accepted fill leaves a group tidy, in its slots and numbers, and
-- with at most 1,024 messages and accounts; it leaves the buffer no more messages and accounts than it had. Assumes nothing.
use mathlib.Core.Path.{◌≡◌, refl}
use mathlib.Core.Bool.{Bool, true, false, not}
use mathlib.Core.List.{List, [], ◌∷◌}
use Prim.Native.Nat.{ℕ, ◌+◌, ◌*◌, ◌≤◌, ◌<◌}
use native.Mathlib.Omega.{arith}
use lib.ListN.{length, length-append}
use Rattle.rules.specs.World.{World, Row, Slot, Args, Buffer, Group, Each, is_nil, joined}
use Rattle.rules.specs.Queues.{internals, externals, all_msgs, count}
use Rattle.rules.specs.Passes.{State, checked, pass_over, move, opened, closed, entered, ended}
use Rattle.rules.specs.Fill.{fill_code, accepted, group_after}
use Rattle.rules.specs.Kept.{TidyGroup, total}
use Rattle.demands.proofs.Rows.{Lawful, clash, keep_both}
use Rattle.demands.proofs.Steps.{Steps, R_ended}
use Rattle.demands.proofs.Move.{got_of}
use Rattle.demands.proofs.Accounts.{num, num_nil, num_append, num_give}
use Rattle.demands.proofs.SoundJoin.{Small, to_small}
-- the steps that stand where calls are shown to keep them, passed on
pub use Rattle.demands.proofs.Reached.{tidy_group_fill}
pub use Rattle.demands.proofs.Fits.{fewer_fill}
pub use Rattle.demands.proofs.FitsGroup.{slots_fill, last_fill}

-- ---- any group
module _ (W : World) where
  total_small : (ss : List (Slot W)) → Small W ss → total (λ (s : Slot W). s.ints) ss + total (λ (s : Slot W). s.exts) ss ≤ 16 * length ss
  unfolding total count
  total_small [] p = omega arith
  total_small (s ∷ ss) p = omega (arith, p.0, total_small ss p.1)

  -- at most 16 messages a slot
  pub few_messages : (g : Group W) → TidyGroup W g → length (all_msgs W g.lists) ≤ 16 * length g.slots
  unfolding internals externals
  few_messages g t = omega (
    arith,
    keep_both W.external (all_msgs W g.lists),
    t.tidy.ints,
    t.tidy.exts,
    total_small g.slots (to_small W g.slots t.sound.distinct t.sound.small),
  )

  some_message : (ms : List W.Msg) → is_nil ms ≡ false → 0 < length ms
  unfolding is_nil
  some_message [] e = clash true refl e
  some_message (m ∷ ms) e = omega arith

  -- no more lists than messages
  pub few_accounts : (o : List (Row W)) → Each (λ (r : Row W). is_nil r.msgs ≡ false) o → length o ≤ length (all_msgs W o)
  unfolding all_msgs joined
  few_accounts [] e = omega arith
  few_accounts (r ∷ o) e = omega (arith, length-append r.msgs (all_msgs W o), some_message r.msgs e.0, few_accounts o e.1)

module _ (W : World) (L : Lawful W) where
  -- ---- what the group gets is what is taken
  module _ (p : W.Msg → Bool) (A : Args W) where
    Given : State W → State W → Type 0
    Given s t = num p (all_msgs W t.lists) + num p s.taken ≡ num p (all_msgs W s.lists) + num p t.taken

    given_steps : (N : ℕ) → Steps W A N Given
    unfolding Given checked pass_over move opened closed got_of
    given_steps N = record {
      core = record {
        stay = λ s. omega arith;
        and_then = λ s t u x y. omega arith;
        check = λ a s. omega arith;
        pass = λ a s. omega arith;
        mv = λ n a s. omega (arith, num_give W L p a (got_of W L A n a s) s.lists, num_append p s.taken (got_of W L A n a s));
      };
      opn = λ n s h. omega arith;
      cls = λ n s h z. omega arith;
    }

  pub given_fill : (p : W.Msg → Bool) (A : Args W) (b : Buffer W) (g : Group W) (skipped : List W.Acc) →
      num p (all_msgs W (ended W A b g skipped).lists) ≡ num p (all_msgs W g.lists) + num p (ended W A b g skipped).taken
  unfolding Given entered
  given_fill p A b g skipped = omega (arith, R_ended W L A 0 (Given p A) (given_steps p A 0) b g skipped (omega arith), num_nil p)

  -- ---- the room after a fill
  pub room_fill : (S key_rows : ℕ) (A : Args W) (b : Buffer W) (g : Group W) (skipped : List W.Acc) →
      TidyGroup W g → fill_code W S key_rows A b g skipped ≡ 0 → S ≤ 64 → length g.slots ≤ S →
      (length (all_msgs W g.lists) + length (ended W A b g skipped).taken ≤ 1024) × (length (ended W A b g skipped).lists ≤ 1024)
  unfolding accepted group_after
  room_fill S key_rows A b g skipped tg ok top h = (
    omega (arith, all, sum),
    omega (arith, all, few_accounts W (ended W A b g skipped).lists after.tidy.nonempty),
  )
    where
      after : TidyGroup W (accepted W A b g skipped).group
      after = tidy_group_fill W L S key_rows A b g skipped tg ok

      all : length (all_msgs W (ended W A b g skipped).lists) ≤ 1024
      all = omega (arith, few_messages W (accepted W A b g skipped).group after, slots_fill W L S key_rows A b g skipped ok h)

      sum : length (all_msgs W (ended W A b g skipped).lists) ≡ length (all_msgs W g.lists) + length (ended W A b g skipped).taken
      sum = omega (
        arith,
        given_fill (λ m. not (W.external m)) A b g skipped,
        given_fill W.external A b g skipped,
        keep_both W.external (all_msgs W (ended W A b g skipped).lists),
        keep_both W.external (all_msgs W g.lists),
        keep_both W.external (ended W A b g skipped).taken,
      )
