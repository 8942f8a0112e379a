-- The arguments, the buffer, the group and the skipped set on numbers, renamed, are those in bytes; every account in them is the number of an
-- account, and among such numbers none is renamed to the account of another. So a fill in bytes is the fill on numbers, renamed
-- (`fill_on_numbers`). Assumes nothing.
use mathlib.Core.Path.{◌≡◌, refl, sym, ap, ap₂, ◌∙◌}
use mathlib.Core.Bool.{Bool, true, false, cond}
use mathlib.Core.List.{List, [], ◌∷◌, map}
use Prim.Native.Nat.{ℕ, zero, suc, ◌+◌, ◌<◌, ◌≤◌}
use native.Mathlib.Nat.{not-suc-le-zero, le_of_suc-le-suc, zero-add}
use native.Mathlib.Omega.{arith}
use lib.Dec.{eqb}
use lib.ListN.{length, get_or, take}
use Rattle.rules.specs.World.{World, Row, Slot, Skip, Each, keep}
use Rattle.rules.specs.Fill.{fill, fill_code}
use Rattle.demands.proofs.Accounts.{each_keep}
use Rattle.renaming.specs.Renaming.{Renaming, Kinds, on_row, on_slot, on_skip, on_args, on_buffer, on_group, on_filled, InArgs, InBuffer, InGroup, Agrees}
use Rattle.renaming.proofs.In.{FillIn, fill_in}
use Rattle.columns.specs.Lists.{tab_i, pick, gather}
use Rattle.columns.specs.Rows.{row_at, rows_of}
use Rattle.columns.proofs.Tabs.{tab_cong, pick_cong}
use Rattle.columns.proofs.Gathers.{gather_cong, pick_gather}
use Rattle.columns.proofs.Rows.{length_rows, get_d_rows}
use Rattle.message.specs.Real.{Real}
use Rattle.queues.specs.Cols.{live, number}
use Rattle.queues.specs.Meant.{message_in, row_in, order_of, buffer_of}
use Rattle.queues.proofs.Meaning.{pick_owners}
use Rattle.slots.specs.Table.{count}
use Rattle.slots.specs.Meant.{listed, slot_in, slots_of, group_of}
use Rattle.meaning.specs.Meaning.{Numbers, row, order_row, slot_at, homed}
use Rattle.entry_rules.specs.Calling.{Call, GoodCall, Lent, GoodLent, rows, places, members, skip_in, args, set_of, order_accounts, group_accounts, other_accounts, num, acc, message_of, ext, time, World', back, skip_num, args_num, set_num, entry_list, setting, buffer_num, group_num, owner_made, member_made, home_made}
use Rattle.entry_rules.proofs.Naming.{agrees, is_number, acc_order}
use Rattle.entry_rules.proofs.Tabs.{map_tab, map_pick, map_keep, each_tab}
use Rattle.entry_rules.proofs.Parties.{party, party_num, party_named, party_acc, member_cell, member_take, home_at, place_number}
use Rattle.entry_rules.proofs.Facts.{few_rows, few_members, buffer_message, list_messages, entry_list_lem}
use Rattle.entry_rules.proofs.Says.{few, some, IsNumberOf, NamedIn, set_named, row_named}
use Rattle.entry_rules.proofs.Classes.{owner_long, owner_cell}

-- a list of accounts, each the account of its number
map_back : (f : List ℕ → ℕ) (g : ℕ → List ℕ) (rs : List (List ℕ)) → ((j : ℕ) → j < length rs → g (f (get_or rs j [])) ≡ get_or rs j []) → map g (map f rs) ≡ rs
map_back f g [] h = refl
map_back f g (r ∷ rs) h = ap₂ ◌∷◌ (h 0 (omega arith)) (map_back f g rs (λ j l. h (suc j) (omega arith)))

each_num : (P : ℕ → Type 0) (f : List ℕ → ℕ) (rs : List (List ℕ)) → ((j : ℕ) → j < length rs → P (f (get_or rs j []))) → Each P (map f rs)
each_num P f [] h = tt
each_num P f (r ∷ rs) h = (h 0 (omega arith), each_num P f rs (λ j l. h (suc j) (omega arith)))

module _ (v : Call) (good : GoodCall v) where
  abbrev P : ℕ → Type 0
  P = IsNumberOf v good

  pub kinds : Kinds (World' v) Real (back v)
  kinds = record { external = λ m. refl; time = λ m. refl; key = λ m. refl }

  pub back_agrees : Agrees (World' v) Real (back v) P
  back_agrees a b p q = agrees (order_accounts v) (group_accounts v) (other_accounts v) (few v good) (some v good) a b p q

  number_of_lem : (x : List ℕ) → NamedIn v good x → P (num v x)
  number_of_lem x e = is_number (order_accounts v) (group_accounts v) (other_accounts v) (few v good) (some v good) x e

  -- ---- the arguments and the set
  pub args_back : on_args (back v) (args_num v) ≡ args v
  args_back i = record {
    asked = v.asked;
    height = v.height;
    filter = (args v).filter;
    rows = rows_back i;
    cost = v.said.cost;
  }
    where
      rows_back : map (on_skip (back v)) (tab_i v.said.n 0 (skip_num v)) ≡ tab_i v.said.n 0 (skip_in v.said)
      rows_back =
          map_tab (on_skip (back v)) v.said.n 0 (skip_num v)
          ∙ tab_cong v.said.n 0 (λ (j : ℕ). on_skip (back v) (skip_num v j)) (skip_in v.said)
          (λ j a l k. record { acc = row_named v good j (omega arith) k; skip = (skip_in v.said j).skip; cost = (skip_in v.said j).cost })

  pub args_in : InArgs (World' v) P (args_num v)
  args_in = each_tab (λ (r : Skip (World' v)). P r.acc) v.said.n 0 (skip_num v) (λ j a l. number_of_lem (row_at v.said.names j) (row_named v good j (omega arith)))

  pub set_back : map (acc v) (set_num v) ≡ set_of v
  set_back = map_back (num v) (acc v) (set_of v) (set_named v good)

  pub set_in : Each P (set_num v)
  set_in = each_num P (num v) (set_of v) (λ j l. number_of_lem (get_or (set_of v) j []) (set_named v good j l))

  module _ (l : Lent) (lent : GoodLent v.said.cost l) where
    -- ---- the buffer
    queue_back : (p : ℕ) → map (message_of v) (pick (λ (j : ℕ). j) p (rows v) 0 (owner_made v l)) ≡ pick (message_in (live v.buffer)) p (rows v) 0 v.buffer.owner
    queue_back p =
        map_pick (message_of v) (λ (j : ℕ). j) p (rows v) 0 (owner_made v l)
        ∙ pick_owners (message_of v) p (rows v) 0 (owner_made v l) v.buffer.owner (omega (arith, few_rows v good, owner_long v good l lent))
        (omega (arith, few_rows v good, good.buffer.lengths.owner)) (owner_cell v good l lent)
        ∙ pick_cong (message_of v) (message_in (live v.buffer)) p (rows v) 0 v.buffer.owner (λ j a b. buffer_message v good j (omega arith))

    pub place_acc : (p : ℕ) → p < places v → acc v p ≡ row_at v.buffer.accounts p
    place_acc p h =
        acc_order (order_accounts v) (group_accounts v) (other_accounts v) (few v good) (some v good) p (omega (arith, length_rows (places v) v.buffer.accounts))
        ∙ get_d_rows (places v) p v.buffer.accounts [] h

    order_back : map (on_row (back v)) (tab_i (places v) 0 (order_row (ext v) (time v) (rows v) (owner_made v l))) ≡ order_of (live v.buffer)
    unfolding order_of
    order_back =
        map_tab (on_row (back v)) (places v) 0 (order_row (ext v) (time v) (rows v) (owner_made v l))
        ∙ tab_cong (places v) 0 (λ (p : ℕ). on_row (back v) (order_row (ext v) (time v) (rows v) (owner_made v l) p)) (row_in (live v.buffer))
        (λ p a h k. record { acc = place_acc p (omega arith) k; msgs = queue_back p k })

    pub buffer_back : on_buffer (back v) (buffer_num v (owner_made v l)) ≡ buffer_of (live v.buffer)
    buffer_back i = record { order = order_back i; least = (buffer_of (live v.buffer)).least }

    pub buffer_in_lem : InBuffer (World' v) P (buffer_num v (owner_made v l))
    buffer_in_lem =
        each_tab (λ (r : Row (World' v)). P r.acc) (places v) 0 (order_row (ext v) (time v) (rows v) (owner_made v l))
        (λ p a h. place_number v good l lent p (omega arith))

    -- ---- the group
    party_in : (g : ℕ) → g < members v → P (party v g)
    party_in g h = rw (party_num v good g h) (number_of_lem (row_at v.group.accounts g) (party_named v good g h))

    abbrev list_row : ℕ → Row (World' v)
    list_row g = row (ext v) (time v) (get_or (member_made v l) g 0) (get_or (setting v).entry_lists g [])

    lists_back : map (on_row (back v)) (tab_i (members v) 0 list_row) ≡ order_of (listed v.group)
    unfolding order_of
    lists_back =
        map_tab (on_row (back v)) (members v) 0 list_row
        ∙ tab_cong (members v) 0 (λ (g : ℕ). on_row (back v) (list_row g)) (row_in (listed v.group))
        (λ g a h k. record {
          acc = (ap (acc v) (member_cell v good l lent g (omega arith)) ∙ party_acc v good g (omega arith)) k;
          msgs = (ap (map (message_of v)) (entry_list_lem v good g (omega arith)) ∙ list_messages v good g) k;
        })

    accounts_back : (j : ℕ) → map (acc v) (homed (ext v) (time v) (take (members v) (member_made v l)) (home_made v l) j)
        ≡ pick (row_at v.group.accounts) j (members v) 0 v.group.home
    accounts_back j =
        ap (λ (ps : List ℕ). map (acc v) (homed (ext v) (time v) ps (home_made v l) j)) (member_take v good l lent)
        ∙ map_keep (acc v) (party v) (λ (p : ℕ). eqb (get_or (home_made v l) p 0) j) (λ (g : ℕ). eqb (get_or v.group.home g 0) j) (members v) 0
        (λ g a h. ap (λ (x : ℕ). eqb x j) (home_at v good l lent g (omega arith)))
        ∙ gather_cong (λ (g : ℕ). eqb (get_or v.group.home g 0) j) (row_at v.group.accounts) (λ (g : ℕ). eqb (get_or v.group.home g 0) j) (λ (g : ℕ). acc v (party v g)) (members v) 0
        (λ g a h. (refl, party_acc v good g (omega arith)))
        ∙ sym (pick_gather (row_at v.group.accounts) j (members v) 0 v.group.home (omega (arith, few_members v good, good.group.lengths.home)))

    abbrev slot_num : ℕ → Slot (World' v)
    slot_num = slot_at (ext v) (time v) v.group.number (take (members v) (member_made v l)) (home_made v l) v.group.ints v.group.exts

    slots_back : map (on_slot (back v)) (tab_i (count v.group 1) 0 slot_num) ≡ slots_of v.group
    unfolding slots_of
    slots_back =
        map_tab (on_slot (back v)) (count v.group 1) 0 slot_num
        ∙ tab_cong (count v.group 1) 0 (λ (j : ℕ). on_slot (back v) (slot_num j)) (slot_in v.group)
        (λ j a h k. record {
          number = get_or v.group.number j 0;
          accounts = accounts_back j k;
          ints = get_or v.group.ints j 0;
          exts = get_or v.group.exts j 0;
        })

    pub group_back : on_group (back v) (group_num v (home_made v l) (member_made v l)) ≡ group_of v.group
    group_back i = record { lists = lists_back i; slots = slots_back i; last = (group_of v.group).last; index = (group_of v.group).index }

    members_in : Each P (take (members v) (member_made v l))
    members_in = rw (member_take v good l lent) (each_tab P (members v) 0 (party v) (λ g a h. party_in g (omega arith)))

    pub group_in_lem : InGroup (World' v) P (group_num v (home_made v l) (member_made v l))
    group_in_lem = (
      each_tab (λ (r : Row (World' v)). P r.acc) (members v) 0 list_row (λ g a h. let z : g < members v = omega arith in rw (member_cell v good l lent g z) (party_in g z)),
      each_tab (λ (s : Slot (World' v)). Each P s.accounts) (count v.group 1) 0 slot_num
          (λ j a h. each_keep P (λ (p : ℕ). eqb (get_or (home_made v l) p 0) j) (take (members v) (member_made v l)) members_in),
    )

    -- ---- a fill
    pub filled_in : (S key_rows : ℕ)
        → FillIn (back v) P S key_rows (args_num v) (buffer_num v (owner_made v l)) (group_num v (home_made v l) (member_made v l)) (set_num v)
    filled_in S key_rows =
        fill_in (back v) P back_agrees kinds S key_rows (args_num v) (buffer_num v (owner_made v l)) (group_num v (home_made v l) (member_made v l)) (set_num v)
        args_in buffer_in_lem group_in_lem set_in

    pub fill_on_numbers : (S key_rows : ℕ)
        → fill Real S key_rows (args v) (buffer_of (live v.buffer)) (group_of v.group) (set_of v)
        ≡ on_filled (back v) (fill (World' v) S key_rows (args_num v) (buffer_num v (owner_made v l)) (group_num v (home_made v l) (member_made v l)) (set_num v))
    fill_on_numbers S key_rows =
        (λ i. fill Real S key_rows (sym args_back i) (sym buffer_back i) (sym group_back i) (sym set_back i)) ∙ (filled_in S key_rows).there

    pub code_on_numbers : (S key_rows : ℕ)
        → fill_code Real S key_rows (args v) (buffer_of (live v.buffer)) (group_of v.group) (set_of v)
        ≡ fill_code (World' v) S key_rows (args_num v) (buffer_num v (owner_made v l)) (group_num v (home_made v l) (member_made v l)) (set_num v)
    code_on_numbers S key_rows =
        (λ i. fill_code Real S key_rows (sym args_back i) (sym buffer_back i) (sym group_back i) (sym set_back i)) ∙ (filled_in S key_rows).code
