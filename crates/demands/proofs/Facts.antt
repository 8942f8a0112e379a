-- What calls keep, said of accounts and slot numbers: an account with a list stands in one slot and once there; an account of a slot has
-- a list that is not empty; a slot counts its accounts' messages. Assumes nothing.
use mathlib.Core.Path.{◌≡◌, refl, sym, ◌∙◌}
use mathlib.Core.Bool.{true, false}
use mathlib.Core.Logic.{inl, inr}
use mathlib.Core.List.{List, [], ◌∷◌}
use Prim.Native.Nat.{ℕ, ◌*◌, ◌≤◌}
use native.Mathlib.Omega.{arith}
use lib.Dec.{eqb}
use lib.ListN.{length}
use Rattle.rules.specs.World.{World, Row, Slot, Each, is_nil}
use Rattle.rules.specs.Queues.{has, at, is_in, internals, externals, count, count_of, accounts_of, all_msgs}
use Rattle.rules.specs.Fill.{numbers}
use Rattle.rules.specs.Fill.{group_ints, group_exts}
use Rattle.rules.specs.Demand.{Once}
use Rattle.rules.specs.Calls.{Target}
use Rattle.rules.specs.Made.{MadeTarget}
use Rattle.rules.specs.Kept.{held_by, Counted, Tidy, total}
use Rattle.demands.proofs.Rows.{Lawful, which, keep_both}
use Rattle.demands.proofs.Accounts.{in_slotted, slot_of, one_slot, once_in_slot}
use Rattle.demands.proofs.Tidy.{rising_once}
use Rattle.demands.proofs.TidyFill.{some_at}
use Rattle.demands.proofs.Reached.{tidy_target}
use Rattle.demands.proofs.FitsGroup.{fits_target}
use Rattle.demands.proofs.RoomFill.{few_messages}

module _ (W : World) (L : Lawful W) (t : Target W) (made : MadeTarget W t) where
  tidy : Tidy W t.now.lists t.now.slots
  tidy = (tidy_target W L made).tidy

  -- "each account of the group is in exactly one slot", and once in its account list
  pub in_one_slot : (a : W.Acc) → has W a t.now.lists ≡ true →
      (n : ℕ) × (is_in W a (accounts_of W n t.now.slots) ≡ true) × Once W (accounts_of W n t.now.slots) × ((m : ℕ) → is_in W a (accounts_of W m t.now.slots) ≡ true → m ≡ n)
  in_one_slot a h = let q = slot_of W L a t.now.slots (rising_once (numbers W t.now.slots) tidy.rising) (tidy.member a ∙ h) in (
    q.0,
    q.1,
    once_in_slot W L q.0 t.now.slots tidy.once,
    λ m i. one_slot W L a t.now.slots tidy.once m q.0 i q.1,
  )

  pub has_messages : (a : W.Acc) (n : ℕ) → is_in W a (accounts_of W n t.now.slots) ≡ true → (has W a t.now.lists ≡ true) × (is_nil (at W a t.now.lists) ≡ false)
  has_messages a n i =
      let h : has W a t.now.lists ≡ true = sym (tidy.member a) ∙ in_slotted W L a n t.now.slots i in
      (h, some_at W L a t.now.lists tidy.nonempty h)

  count_of_lem : (lists : List (Row W)) (n : ℕ) (ss : List (Slot W)) → Each (Counted W lists) ss → count_of W n ss ≡ length (held_by W lists (accounts_of W n ss))
  unfolding count_of accounts_of held_by count internals externals
  count_of_lem lists n [] c = refl
  count_of_lem lists n (s ∷ ss) c = elim (which (eqb n s.number)) [
    | inl e ↦ rw e (omega (arith, c.0, keep_both W.external (held_by W lists s.accounts)))
    | inr e ↦ rw e (count_of_lem lists n ss c.1)
  ]

  -- a slot's count is that of its accounts' lists together
  pub counts_lists : (n : ℕ) → count_of W n t.now.slots ≡ length (held_by W t.now.lists (accounts_of W n t.now.slots))
  counts_lists n = count_of_lem t.now.lists n t.now.slots tidy.counted

  -- the group's counts are the sums over its slots
  pub counts_sum : (group_ints W t.now ≡ total (λ (s : Slot W). s.ints) t.now.slots) × (group_exts W t.now ≡ total (λ (s : Slot W). s.exts) t.now.slots)
  unfolding group_ints group_exts
  counts_sum = (tidy.ints, tidy.exts)

  -- a group of S slots holds at most 16 · S messages, 1,024 at most
  pub at_most : length (all_msgs W t.now.lists) ≤ 16 * t.S
  at_most = omega (arith, few_messages W t.now (tidy_target W L made), (fits_target W L made).slots)
