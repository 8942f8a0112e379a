-- The order with another behind it: where a half holds what one half holds and behind it what another holds, the owners raised by the
-- places of the first, its order is the first's order and behind it the second's. Assumes nothing.
use mathlib.Core.Path.{◌≡◌, ap, ap₂, ◌∙◌}
use mathlib.Core.List.{List, ◌++◌}
use Prim.Native.Nat.{ℕ, ◌+◌, ◌<◌}
use native.Mathlib.Nat.{zero-add}
use native.Mathlib.Omega.{arith}
use Rattle.columns.specs.Lists.{tab_i, pick}
use Rattle.columns.specs.Rows.{row_at}
use Rattle.columns.proofs.Tabs.{tab_cong}
use Rattle.message.specs.declared.Message.{Message}
use Rattle.queues.specs.Cols.{Half}
use Rattle.queues.specs.Meant.{message_in, row_in, order_of}
use Rattle.group_rules.proofs.Behind.{Owners, tab_from, tab_behind, pick_fore, pick_aft}

pub record Behind (h k j : Half) : Type 0 where
  pub messages : j.messages ≡ h.messages + k.messages
  pub places : j.places ≡ h.places + k.places
  pub owners : Owners h.places h.messages k.messages j.owner h.owner k.owner
  pub fore : (i : ℕ) → i < h.messages → message_in j i ≡ message_in h i
  pub aft : (i : ℕ) → i < k.messages → message_in j (h.messages + i) ≡ message_in k i
  pub account·fore : (p : ℕ) → p < h.places → row_at j.accounts p ≡ row_at h.accounts p
  pub account·aft : (p : ℕ) → p < k.places → row_at j.accounts (h.places + p) ≡ row_at k.accounts p

module _ {h k j : Half} (b : Behind h k j) where
  abbrev queue_of : ℕ → List Message
  queue_of p = pick (message_in j) p j.messages 0 j.owner

  both : (p : ℕ) → queue_of p ≡ pick (message_in j) p (h.messages + k.messages) 0 j.owner
  both p = ap (λ (n : ℕ). pick (message_in j) p n 0 j.owner) b.messages

  row_fore : (p : ℕ) → p < h.places → row_in j p ≡ row_in h p
  row_fore p l = λ i. record {
    acc = b.account·fore p l i;
    msgs = (both p ∙ pick_fore b.owners (message_in j) (message_in h) b.fore p l) i;
  }

  row_aft : (p : ℕ) → p < k.places → row_in j (h.places + p) ≡ row_in k p
  row_aft p l = λ i. record {
    acc = b.account·aft p l i;
    msgs = (both (h.places + p) ∙ pick_aft b.owners (message_in j) (message_in k) b.aft p) i;
  }

  pub order_behind : order_of j ≡ order_of h ++ order_of k
  unfolding order_of
  order_behind =
      ap (λ (n : ℕ). tab_i n 0 (row_in j)) b.places
      ∙ tab_behind h.places k.places 0 (row_in j)
      ∙ ap₂ ◌++◌
      (tab_cong h.places 0 (row_in j) (row_in h) (λ p x l. row_fore p (omega arith)))
      (tab_from k.places (0 + h.places) 0 (row_in j) (row_in k)
      (λ p l. ap (λ (n : ℕ). row_in j (n + p)) (zero-add h.places) ∙ row_aft p l ∙ ap (row_in k) (omega arith)))
