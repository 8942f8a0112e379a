-- What is seen in well formed columns of a group is what the rules see in what they mean (crate group_rules, GroupLook); and such columns hold
-- what the walks ask for. Assumes nothing.
use mathlib.Core.Path.{◌≡◌, refl, sym, ap, ◌∙◌}
use mathlib.Core.Bool.{Bool, true, false, cond}
use mathlib.Core.List.{List, [], ◌∷◌}
use mathlib.Core.Option.{none, some}
use Prim.Native.Nat.{ℕ, zero, suc, ◌≤◌}
use native.Mathlib.Nat.{not-suc-le-zero, le_of_suc-le-suc}
use native.Mathlib.Omega.{arith}
use lib.Dec.{ltb}
use lib.ListN.{length, get_or}
use borrow.Author.Tests.{ltb-true, ltb-false}
use Rattle.numbers.proofs.Bytes.{by_bool}
use Rattle.columns.specs.Lists.{pick}
use Rattle.columns.specs.Rows.{row_at}
use Rattle.columns.proofs.Tabs.{pick_none}
use Rattle.rules.specs.World.{Slot, nth}
use Rattle.rules.specs.Queues.{at, accounts, account_at}
use Rattle.message.specs.Real.{Real}
use Rattle.message.specs.Seen.{seen_account, seen_message}
use Rattle.queues.specs.Look.{row_of}
use Rattle.buckets.specs.Cells.{mark, bucket_of, index}
use Rattle.buckets.proofs.Cells.{at_index, length_index}
use Rattle.buckets.proofs.Single.{few_entries}
use Rattle.slots.specs.Table.{Table, count}
use Rattle.slots.specs.Meant.{listed, slot_in, group_of}
use Rattle.slots.specs.Good.{Good}
use Rattle.buffer_rules.proofs.LookRule.{account_told}
use Rattle.group_rules.proofs.GroupLook.{slot_told, slot_account_told, list_told, entry_told}
use Rattle.group_reads.specs.Shown.{seen_id, seen_slot, accounts_at}
use Rattle.slots_seen.specs.Slots.{slot_found, entry_in, id_found}
use Rattle.accounts_seen.specs.Accounts.{account_found}
use Rattle.messages_seen.specs.Messages.{row_for, message_found}

slot_is : (b : Bool) (s : Slot Real) → cond b (seen_slot (some s)) (seen_slot none) ≡ seen_slot (cond b (some s) none)
slot_is true s = refl
slot_is false s = refl

id_is : (b : Bool) (n : ℕ) → cond b (seen_id (some n)) (seen_id none) ≡ seen_id (cond b (some n) none)
id_is true n = refl
id_is false n = refl

past_end : {A : Type 0} (xs : List A) (k : ℕ) (d : A) → length xs ≤ k → get_or xs k d ≡ d
past_end [] k d l = refl
past_end (x ∷ xs) zero d l = absurd (not-suc-le-zero l)
past_end (x ∷ xs) (suc k) d l = past_end xs k d (le_of_suc-le-suc l)

nth_none : {A : Type 0} (k : ℕ) → nth {A = A} k [] ≡ none
unfolding nth
nth_none k = refl

module _ (t : Table) where
  pub slot_seen : (s : ℕ) → slot_found t.number t.ints t.exts t.numbers s ≡ seen_slot (nth s (group_of t).slots)
  slot_seen s = slot_is (ltb s (count t 1)) (slot_in t s) ∙ ap seen_slot (sym (slot_told t s))

  pub account_seen : (k : ℕ) → account_found t.accounts t.numbers k ≡ seen_account (nth k (accounts Real (group_of t).lists))
  unfolding account_at
  account_seen k = ap seen_account (sym (account_told (listed t) k))

module _ (t : Table) (g : Good t) where
  -- the accounts of the slot at a position: those whose home it is, also where there is no such slot
  homes : (s : ℕ) → accounts_at (nth s (group_of t).slots) ≡ pick (row_at t.accounts) s (count t 2) 0 t.home
  homes s =
      by_bool (ltb s (count t 1))
      (λ e. rw (slot_told t s, e))
      (λ e. rw (slot_told t s, e) (sym (pick_none (row_at t.accounts) s (count t 2) 0 t.home (λ j l h. let y = g.housed j l in let z = ltb-false s (count t 1) e in omega arith))))

  pub slot_account_seen : (s k : ℕ) → account_found t.accounts t.numbers (row_of t.home (count t 2) s k) ≡ seen_account (nth k (accounts_at (nth s (group_of t).slots)))
  slot_account_seen s k = ap seen_account (sym (ap (nth k) (homes s) ∙ slot_account_told t s k))

  pub message_seen : (x : List ℕ) (k : ℕ)
      → message_found t.kind t.form t.time t.address t.hash t.numbers (row_for t.accounts t.owner t.numbers x k)
      ≡ seen_message (nth k (at Real x (group_of t).lists))
  message_seen x k = ap seen_message (sym (list_told t g x k))

  entry_seen : (c k : ℕ) → id_found (get_or (bucket_of t.buckets c) k mark) ≡ seen_id (nth k (bucket_of t.buckets c))
  entry_seen c k = let e = get_or (bucket_of t.buckets c) k mark in id_is (ltb e mark) e ∙ ap seen_id (sym (entry_told t c k))

  pub bucket_seen : (c k : ℕ) → id_found (entry_in t.buckets c k) ≡ seen_id (nth k (get_or (index t.buckets) c []))
  bucket_seen c k =
      by_bool (ltb c 17)
      (λ y. let l = ltb-true c 17 y in
      by_bool (ltb k 64)
      (λ z. rw (y, z, at_index t.buckets c l) (entry_seen c k))
      (λ z. let e = past_end (bucket_of t.buckets c) k mark (omega (arith, few_entries g.buckets c l, ltb-false k 64 z)) in
      rw (y, z, at_index t.buckets c l) (ap id_found (sym e) ∙ entry_seen c k)))
      (λ n. rw (n, past_end (index t.buckets) c [] (omega (arith, length_index t.buckets, ltb-false c 17 n)), nth_none {A = ℕ} k))

  -- ---- what the reads ask for, where the group's own clauses do not say it
  pub slots_in : count t 1 ≤ 64
  slots_in = omega (arith, g.slots, g.S·high)
