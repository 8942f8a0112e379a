-- What is read off well formed columns of a group is what the rules read off what they mean (crate group_rules, GroupLook). Assumes nothing.
use mathlib.Core.Path.{◌≡◌, refl, sym, ap, ◌∙◌}
use mathlib.Core.List.{List}
use Prim.Native.Nat.{ℕ, zero, suc}
use native.Mathlib.Omega.{arith}
use lib.Dec.{eqb}
use lib.ListN.{length}
use borrow.Author.Tests.{ne_eqb}
use Rattle.columns.specs.Lists.{tab_i}
use Rattle.rules.specs.World.{is_nil}
use Rattle.rules.specs.Fill.{is_filled}
use Rattle.message.specs.Real.{Real}
use Rattle.display.specs.Line.{written}
use Rattle.slots.specs.Table.{Table, count}
use Rattle.slots.specs.Meant.{slot_in, slots_of, group_of, meant}
use Rattle.slots.specs.Good.{Good}
use Rattle.group_rules.proofs.GroupLook.{accounts_told, slots_told, messages_told, filled_told}
use Rattle.group_reads.specs.Shown.{counts_of, seen_id, line_for, Displays}
use Rattle.group_reads.specs.Lent.{counts_in, empty_in, filled_in, last_in}

-- a number of slots that is 0
none_held : {A : Type 0} (n i : ℕ) (f : ℕ → A) → eqb n 0 ≡ is_nil (tab_i n i f)
unfolding is_nil tab_i
none_held zero i f = refl
none_held (suc n) i f = ne_eqb (suc n) 0 (λ e. omega arith)

module _ (t : Table) where
  pub empty_seen : empty_in t.numbers ≡ is_nil (group_of t).slots
  unfolding slots_of
  empty_seen = none_held (count t 1) 0 (slot_in t)

  pub filled_seen : (asked height : ℕ) → filled_in t.buckets t.numbers asked height ≡ is_filled Real asked height (group_of t)
  filled_seen asked height = sym (filled_told t asked height)

  pub last_seen : last_in t.numbers ≡ seen_id (group_of t).last
  last_seen = refl

module _ (t : Table) (g : Good t) where
  pub counts_seen : counts_in t.numbers ≡ counts_of (meant t)
  counts_seen i = record {
    capacity = count t 0;
    slots = sym (slots_told t) i;
    accounts = sym (accounts_told t) i;
    messages = sym (messages_told t g) i;
    ints = g.ints i;
    exts = g.exts i;
  }

  pub displayed : {out₀ out : List ℕ} {r : ℕ} → r ≡ length (line_for (counts_in t.numbers)) → out ≡ written (line_for (counts_in t.numbers)) out₀ → Displays (meant t) out₀ out r
  displayed {out₀} p q = record { long = p ∙ ap (λ k. length (line_for k)) counts_seen; bytes = q ∙ ap (λ k. written (line_for k) out₀) counts_seen }
