-- What a join makes of two groups' columns means what the rules' join makes of what they mean: `join_is`. Assumes nothing.
use mathlib.Core.Path.{◌≡◌, refl, sym, ap, ◌∙◌}
use mathlib.Core.List.{List, ◌++◌}
use mathlib.Core.Option.{some}
use mathlib.Core.Bool.{false, cond}
use Prim.Native.Nat.{ℕ, ◌+◌, ◌-◌}
use lib.Dec.{eqb}
use Rattle.rules.specs.Fill.{next_number, renumbered, last_of, listed_too, join, join_code}
use Rattle.rules.specs.Calls.{join_groups}
use Rattle.message.specs.Answers.{Done, number as number_of}
use Rattle.message.specs.Real.{Real}
use Rattle.records.specs.Records.{form_of}
use Rattle.queues.specs.Meant.{if_marked}
use Rattle.buckets.specs.Cells.{index}
use Rattle.slots.specs.Table.{Table, count}
use Rattle.slots.specs.Meant.{listed, slots_of, group_of, meant}
use Rattle.slots.specs.Good.{Good}
use Rattle.slots.specs.Join.{fresh_t, next_t, join_code_t, joined_t}
use Rattle.group_rules.proofs.Follows.{row_fore, row_aft}
use Rattle.group_rules.proofs.JoinOrder.{Behind, order_behind}
use Rattle.group_rules.proofs.JoinCode.{code_is, next_t_is, slots_many}
use Rattle.group_rules.proofs.JoinNumbers.{last_new, marked_new}
use Rattle.group_rules.proofs.JoinRoom.{Pair, pair, Laid, laid}
use Rattle.group_rules.proofs.JoinSlots.{slots_behind}
use Rattle.group_rules.proofs.FreshRule.{fresh_is}

-- the lists one behind the other
module _ {l r j : Table} (b : Laid l r j) where
  pub behind : Behind (listed l) (listed r) (listed j)
  behind = record {
    messages = b.messages·held;
    places = b.accounts·held;
    owners = b.owner;
    fore = λ k h i. record {
      kind = b.kind.before k h i;
      special = false;
      form = form_of (b.form.before k h i);
      address = row_fore (count l 3) (count r 3) b.address k h i;
      time = b.time.before k h i;
      hash = row_fore (count l 3) (count r 3) b.hash k h i;
    };
    aft = λ k h i. record {
      kind = b.kind.within k h i;
      special = false;
      form = form_of (b.form.within k h i);
      address = row_aft (count l 3) (count r 3) b.address k h i;
      time = b.time.within k h i;
      hash = row_aft (count l 3) (count r 3) b.hash k h i;
    };
    account·fore = row_fore (count l 2) (count r 2) b.accounts;
    account·aft = row_aft (count l 2) (count r 2) b.accounts;
  }

  last_is : (group_of j).last ≡ last_of Real (group_of l).last (renumbered Real (next_t l) (slots_of r))
  last_is =
      (λ i. if_marked (b.marked i) (b.last i))
      ∙ marked_new (eqb (count r 1) 0) (count l 7) (count l 6) (next_t l + count r 1 - 1)
      ∙ (λ i. cond (eqb (sym (slots_many r) i) 0) (group_of l).last (some (next_t l + sym (slots_many r) i - 1)))
      ∙ sym (last_new Real (group_of l).last (next_t l) (slots_of r))

-- the index lists the right's slots under their new numbers
abbrev pub ListsNew : Table → Table → List ℕ → Type 0
ListsNew l r cells = index cells ≡ listed_too Real (renumbered Real (next_number Real (group_of l).last) (group_of r).slots) 0 (index l.buckets)

module _ {l r : Table} (p : Pair l r) (cells : List ℕ) where
  abbrev after : Table
  after = joined_t l r cells

  held : index after.buckets ≡ index cells
  unfolding joined_t
  held = refl

  pub group_is : ListsNew l r cells → group_of after ≡ join Real (group_of l) (group_of r)
  unfolding join
  group_is e = λ i. record {
    lists = order_behind (behind (laid p cells)) i;
    slots = (slots_behind (laid p cells) ∙ ap (λ (n : ℕ). slots_of l ++ renumbered Real n (slots_of r)) (next_t_is l)) i;
    last = (last_is (laid p cells) ∙ ap (λ (n : ℕ). last_of Real (group_of l).last (renumbered Real n (slots_of r))) (next_t_is l)) i;
    index = (held ∙ e) i;
  }

-- "The right group's slots .. take the numbers after the left's last ..; the right is left fresh"
pub join_is : (l r : Table) → Good l → Good r → join_code_t l r ≡ Done → (cells : List ℕ) → ListsNew l r cells
    → join_groups Real (meant l) (meant r) ≡ record { code = 0; left = meant (joined_t l r cells); right = meant (fresh_t (count r 0)) }
unfolding join_groups
join_is l r good good2 done cells e =
    let p = pair good good2 done in
    let c : join_code Real (count l 0) (group_of l) (group_of r) ≡ 0 = sym (code_is l r) ∙ ap number_of done in
    rw c
    (λ i. record {
      code = 0;
      left = record { S = sym (laid p cells).S i; now = sym (group_is p cells e) i };
      right = sym (fresh_is (count r 0)) i;
    })
