-- The laws of the members, the homes, the marks and the costs, for a call: each column has its length, and each cell what the call says.
-- Assumes nothing.
use mathlib.Core.Path.{◌≡◌}
use mathlib.Core.Bool.{not}
use mathlib.Core.List.{List}
use Prim.Native.Nat.{ℕ, ◌<◌, ◌≤◌}
use lib.Dec.{eqb}
use lib.ListN.{length, get_or, take}
use Rattle.rules.specs.Queues.{is_in}
use Rattle.columns.specs.Lists.{tab_i}
use Rattle.columns.specs.Rows.{row_at}
use Rattle.slots.specs.Table.{count}
use Rattle.moves.specs.Moves.{nowhere}
use Rattle.entry.specs.Entry.{party_of}
use Rattle.entry_rules.specs.Naming.{IsNumber, Named}
use Rattle.entry_rules.specs.Calling.{Call, GoodCall, Lent, GoodLent, places, members, order_accounts, group_accounts, other_accounts, num, acc, ext, time, World', member_made, home_made, mark_made, cost_made}
use Rattle.entry_rules.proofs.Facts.{few_places, few_members, few_slots, order_once, group_once}
use Rattle.entry_rules.proofs.Members as laws
use Rattle.entry_rules.proofs.Judged as judged

-- the party of the g-th account of the group
abbrev pub party : Call → ℕ → ℕ
party v = party_of v.buffer.accounts (places v) v.group.accounts

module _ (v : Call) (good : GoodCall v) where
  pub party_num : (g : ℕ) → g < members v → party v g ≡ num v (row_at v.group.accounts g)
  party_num =
      laws.party_num v.buffer.accounts (places v) v.group.accounts (members v) (other_accounts v)
      (few_places v good) (few_members v good) (group_once v good)

  pub party_named : (g : ℕ) → g < members v → Named (order_accounts v) (group_accounts v) (other_accounts v) (row_at v.group.accounts g)
  party_named =
      laws.named_row v.buffer.accounts (places v) v.group.accounts (members v) (other_accounts v)
      (few_places v good) (few_members v good) (group_once v good)

  pub party_acc : (g : ℕ) → g < members v → acc v (party v g) ≡ row_at v.group.accounts g
  party_acc =
      laws.party_acc v.buffer.accounts (places v) v.group.accounts (members v) (other_accounts v)
      (few_places v good) (few_members v good) (group_once v good)

  module _ (l : Lent) (lent : GoodLent v.said.cost l) where
    -- ---- the members
    pub member_long : length (member_made v l) ≡ 1280
    member_long =
        laws.member_long v.buffer.accounts (places v) v.group.accounts (members v) (other_accounts v)
        (few_places v good) (few_members v good) (group_once v good) l.member lent.member

    pub member_cell : (g : ℕ) → g < members v → get_or (member_made v l) g 0 ≡ party v g
    member_cell =
        laws.member_cell v.buffer.accounts (places v) v.group.accounts (members v) (other_accounts v)
        (few_places v good) (few_members v good) (group_once v good) l.member lent.member

    pub member_take : take (members v) (member_made v l) ≡ tab_i (members v) 0 (party v)
    member_take =
        laws.member_take v.buffer.accounts (places v) v.group.accounts (members v) (other_accounts v)
        (few_places v good) (few_members v good) (group_once v good) l.member lent.member

    pub member_small : (g : ℕ) → g < members v → get_or (member_made v l) g 0 < 1280
    member_small =
        laws.member_small v.buffer.accounts (places v) v.group.accounts (members v) (other_accounts v)
        (few_places v good) (few_members v good) (group_once v good) l.member lent.member

    pub member_once : (i j : ℕ) → i < members v → j < members v → get_or (member_made v l) i 0 ≡ get_or (member_made v l) j 0 → i ≡ j
    member_once =
        laws.member_once v.buffer.accounts (places v) v.group.accounts (members v) (other_accounts v)
        (few_places v good) (few_members v good) (group_once v good) l.member lent.member

    -- ---- the homes
    pub home_long : length (home_made v l) ≡ 1280
    home_long =
        laws.home_long v.buffer.accounts (places v) v.group.accounts (members v) (other_accounts v)
        (few_places v good) (few_members v good) (group_once v good) l.member lent.member
        v.group.home l.home lent.home lent.homes (count v.group 1) (few_slots v.group good.group) good.group.housed

    pub home_at : (g : ℕ) → g < members v → get_or (home_made v l) (party v g) 0 ≡ get_or v.group.home g 0
    home_at =
        laws.home_of v.buffer.accounts (places v) v.group.accounts (members v) (other_accounts v)
        (few_places v good) (few_members v good) (group_once v good) l.member lent.member
        v.group.home l.home lent.home lent.homes (count v.group 1) (few_slots v.group good.group) good.group.housed

    pub home_housed : (p : ℕ) → p < 1280 → is_in (World' v) p (take (members v) (member_made v l)) ≡ not (eqb (get_or (home_made v l) p 0) nowhere)
    home_housed =
        laws.home_housed v.buffer.accounts (places v) v.group.accounts (members v) (other_accounts v)
        (few_places v good) (few_members v good) (group_once v good) l.member lent.member
        v.group.home l.home lent.home lent.homes (count v.group 1) (few_slots v.group good.group) good.group.housed
        (ext v) (time v)

    pub home_lodged : (p : ℕ) → p < 1280 → count v.group 1 ≤ get_or (home_made v l) p 0 → get_or (home_made v l) p 0 ≡ nowhere
    home_lodged =
        laws.home_lodged v.buffer.accounts (places v) v.group.accounts (members v) (other_accounts v)
        (few_places v good) (few_members v good) (group_once v good) l.member lent.member
        v.group.home l.home lent.home lent.homes (count v.group 1) (few_slots v.group good.group) good.group.housed

    -- ---- the marks and the costs
    pub mark_long : length (mark_made v l) ≡ 1280
    mark_long =
        judged.marks_long v.buffer.accounts (places v) v.group.accounts (members v) (other_accounts v)
        (few_places v good) (few_members v good) (group_once v good) (order_once v good) v.said l.member l.mark l.cost
        lent.member lent.mark lent.cost_long lent.marks lent.costs

    pub cost_long : length (cost_made v l) ≡ 1280
    cost_long =
        judged.costs_long v.buffer.accounts (places v) v.group.accounts (members v) (other_accounts v)
        (few_places v good) (few_members v good) (group_once v good) (order_once v good) v.said l.member l.mark l.cost
        lent.member lent.mark lent.cost_long lent.marks lent.costs

    pub whose : (p : ℕ) → p < 1280
        → judged.Judged (order_accounts v) (group_accounts v) (other_accounts v) v.said p (get_or (mark_made v l) p 0) (get_or (cost_made v l) p 0)
    whose =
        judged.judged v.buffer.accounts (places v) v.group.accounts (members v) (other_accounts v)
        (few_places v good) (few_members v good) (group_once v good) (order_once v good) v.said l.member l.mark l.cost
        lent.member lent.mark lent.cost_long lent.marks lent.costs

    pub place_number : (p : ℕ) → p < places v → IsNumber (order_accounts v) (group_accounts v) (other_accounts v) p
    place_number =
        judged.place_number v.buffer.accounts (places v) v.group.accounts (members v) (other_accounts v)
        (few_places v good) (few_members v good) (group_once v good) (order_once v good) v.said l.member l.mark l.cost
        lent.member lent.mark lent.cost_long lent.marks lent.costs
