-- The group after a fill: the settled columns mean the lists and the slots of the state that the columns on numbers mean, by the renaming
-- (`lists_after`, `slots_after`). A message goes to the member that it was taken from: its seat is the member's place in the group.
-- Assumes nothing.
use mathlib.Core.Path.{◌≡◌, refl, sym, ap, ap₂, ◌∙◌, subst}
use mathlib.Core.Bool.{Bool, true, false, not}
use mathlib.Core.List.{List, [], ◌∷◌, ◌++◌, map, map-append}
use Prim.Native.Nat.{ℕ, zero, suc, ◌+◌, ◌-◌, ◌*◌, ◌<◌, ◌≤◌}
use native.Mathlib.Nat.{not-suc-le-zero, le_of_suc-le-suc, zero-add}
use native.Mathlib.Omega.{arith}
use lib.Dec.{eqb, ltb}
use lib.ListN.{length, get_or, take, drop}
use lib.Seq.{length-take-le}
use borrow.Author.Tests.{eqb-true, eqb-false, eq-eqb, ne_eqb, ltb-true, ltb-false}
use Rattle.numbers.proofs.Bytes.{by_bool, clash}
use Rattle.columns.specs.Lists.{tab_i, pick, gather}
use Rattle.columns.specs.Laid.{laid_at}
use Rattle.columns.specs.Rows.{row_at, flat}
use Rattle.columns.proofs.Laid.{length_laid}
use Rattle.columns.proofs.Tabs.{length_tab, tab_cong, get_d_tab, pick_cong, pick_none}
use Rattle.columns.proofs.Gathers.{pick_gather}
use Rattle.columns.proofs.Rows.{length_row}
use Rattle.rules.specs.World.{Row, Slot, Args, keep}
use Rattle.rules.specs.Queues.{is_in}
use Rattle.message.specs.declared.Message.{Message}
use Rattle.message.specs.Real.{Real}
use Rattle.records.specs.Records.{message_at, form_of}
use Rattle.queues.specs.Cols.{Cols, Half, live, number}
use Rattle.queues.specs.Meant.{message_in, row_in, order_of}
use Rattle.slots.specs.Table.{Table, count}
use Rattle.slots.specs.Meant.{listed, slot_in, slots_of}
use Rattle.settle.specs.Copies.{cells_at, rows_at, seats_at, seated_by}
use Rattle.moves.specs.Moves.{nowhere, taken_from}
use Rattle.moves.specs.declared.Fixed.{Fixed}
use Rattle.meaning.specs.Meaning.{Numbers, Columns, Setting, row, slot, given, group_row, homed, slot_at, state_of, Fits}
use Rattle.renaming.specs.Renaming.{Renaming, on_row, on_slot}
use Rattle.settle_rules.specs.Facts.{GroupSettled, GroupFacts}
use Rattle.settle_rules.proofs.Maps.{map_tab, take_tab, gather_map, map_pick, pick_first, pick_take, pick_both}
use Rattle.settle_rules.proofs.SetAfter.{wide_tab}
use Rattle.settle_rules.proofs.RowsLaid.{row_before, row_in_lem, cell_before, cell_in, seat_of_lem, among, keep_some, pick_keep}

-- a message by its cells
abbrev message : (kind form time : ℕ) → (address hash : List ℕ) → Message
message kind form time address hash = record { kind = kind; special = false; form = form_of form; address = address; time = time; hash = hash }

-- two messages whose cells are the same
same : {k₁ k₂ g₁ g₂ t₁ t₂ : ℕ} {a₁ a₂ h₁ h₂ : List ℕ} → k₁ ≡ k₂ → g₁ ≡ g₂ → t₁ ≡ t₂ → a₁ ≡ a₂ → h₁ ≡ h₂ → message k₁ g₁ t₁ a₁ h₁ ≡ message k₂ g₂ t₂ a₂ h₂
same k g t a h i = message (k i) (g i) (t i) (a i) (h i)

get_d_behind : (xs : List (List ℕ)) (k : ℕ) → length xs ≤ k → get_or xs k [] ≡ []
get_d_behind [] k l = refl
get_d_behind (x ∷ xs) zero l = absurd (not-suc-le-zero l)
get_d_behind (x ∷ xs) (suc k) l = get_d_behind xs k (le_of_suc-le-suc l)

module _ {ext : ℕ → Bool} {time : ℕ → ℕ} {f : Renaming (Numbers ext time) Real} {A : Args (Numbers ext time)} {fx : Fixed} {b : Setting} {o : ℕ} {m : Columns}
    {c : Cols} {t t' : Table} {seat₀ : List ℕ}
    (v : GroupFacts ext time f c t b m) (s : GroupSettled t t' c m seat₀) (w : Fits ext time A fx b o m) where
  abbrev n : ℕ
  n = m.store.tally.taken

  abbrev rows : List ℕ
  rows = m.store.taken

  abbrev owner : List ℕ
  owner = m.store.owner

  abbrev member : List ℕ
  member = m.store.member

  abbrev all : ℕ
  all = m.store.tally.accounts

  -- ---- the messages

  pub wide : (col : List ℕ) → length col ≡ 65536 → (k : ℕ) → k < n → length (row_at col (get_or rows k 0)) ≡ 32
  wide col e k l = length_row col (get_or rows k 0) (omega (arith, v.there k l, v.few))

  module _ (j : ℕ) (l : j < count t 3) where
    body_before : (from col : List ℕ) → length from ≡ 65536 → length col ≡ 32768
        → row_at (laid_at (32 * count t 3) (flat (rows_at n 0 rows from)) col) j ≡ row_at col j
    body_before from col a e =
        row_before 1024 (count t 3) n (λ k. row_at from (get_or rows k 0)) 0 col (wide_tab _ n 0 (λ k x y. wide from a k (omega arith))) v.room (omega arith) j l

    pub message_before : message_in (listed t') j ≡ message_in (listed t) j
    message_before =
        let g = v.good.lengths in
        let kind = ap (λ x. get_or x j 0) s.fields.kinds ∙ cell_before (count t 3) n (λ k. get_or c.kind (get_or rows k 0) 0) 0 t.kind (omega (arith, v.room, g.kind)) j l in
        let form = ap (λ x. get_or x j 0) s.fields.forms ∙ cell_before (count t 3) n (λ k. get_or c.form (get_or rows k 0) 0) 0 t.form (omega (arith, v.room, g.form)) j l in
        let times = ap (λ x. get_or x j 0) s.fields.times ∙ cell_before (count t 3) n (λ k. get_or c.time (get_or rows k 0) 0) 0 t.time (omega (arith, v.room, g.time)) j l in
        let address = ap (λ x. row_at x j) s.bodies.addresses ∙ body_before c.address t.address v.long.address g.address in
        let hash = ap (λ x. row_at x j) s.bodies.hashes ∙ body_before c.hash t.hash v.long.hash g.hash in
        same kind form times address hash

  module _ (j : ℕ) (l : j < n) where
    body_in : (from col : List ℕ) → length from ≡ 65536 → length col ≡ 32768
        → row_at (laid_at (32 * count t 3) (flat (rows_at n 0 rows from)) col) (count t 3 + j) ≡ row_at from (get_or rows j 0)
    body_in from col a e =
        row_in_lem 1024 (count t 3) n (λ k. row_at from (get_or rows k 0)) 0 col (wide_tab _ n 0 (λ k x y. wide from a k (omega arith))) v.room (omega arith) j l
        ∙ ap (λ (k : ℕ). row_at from (get_or rows k 0)) (zero-add j)

    cell_of : (from col : List ℕ) → length col ≡ 1024 → get_or (laid_at (count t 3) (cells_at n 0 rows from) col) (count t 3 + j) 0 ≡ get_or from (get_or rows j 0) 0
    cell_of from col e =
        cell_in (count t 3) n (λ k. get_or from (get_or rows k 0) 0) 0 col (omega (arith, v.room)) j l
        ∙ ap (λ (k : ℕ). get_or from (get_or rows k 0) 0) (zero-add j)

    pub message_in_lem : message_in (listed t') (count t 3 + j) ≡ message_in (live c) (get_or rows j 0)
    message_in_lem =
        let g = v.good.lengths in
        let k = count t 3 + j in
        let kind = ap (λ x. get_or x k 0) s.fields.kinds ∙ cell_of c.kind t.kind g.kind in
        let form = ap (λ x. get_or x k 0) s.fields.forms ∙ cell_of c.form t.form g.form in
        let times = ap (λ x. get_or x k 0) s.fields.times ∙ cell_of c.time t.time g.time in
        let address = ap (λ x. row_at x k) s.bodies.addresses ∙ body_in c.address t.address v.long.address g.address in
        let hash = ap (λ x. row_at x k) s.bodies.hashes ∙ body_in c.hash t.hash v.long.hash g.hash in
        same kind form times address hash

  -- ---- the members

  member_row : (g : ℕ) → g < all → row_at t'.accounts g ≡ f.acc (get_or member g 0)
  member_row g l =
      let first = count t 2 in
      let col = t.accounts in
      let wide = wide_tab (λ k. row_at c.accounts (get_or member k 0)) (all - first) first
      (λ k x y. length_row c.accounts (get_or member k 0) (omega (arith, v.new_place_lem k x (omega (arith, v.more)), v.long.accounts))) in
      let room : first + (all - first) ≤ 1024 = omega (arith, v.more, v.seats) in
      let big : 32 * 1024 ≤ length col = omega (arith, v.good.lengths.accounts) in
      ap (λ x. row_at x g) s.entered.accounts_are
      ∙ by_bool (ltb g first)
      (λ e. let h = ltb-true g first e in row_before 1024 first (all - first) _ first col wide room big g h ∙ sym (v.old_acc g h))
      (λ e. let h = ltb-false g first e in
      let z : first + (g - first) ≡ g = omega arith in
      subst (λ (k : ℕ). row_at (laid_at (32 * first) (flat (rows_at (all - first) first member c.accounts)) col) k ≡ f.acc (get_or member k 0)) z
      (row_in_lem 1024 first (all - first) _ first col wide room big (g - first) (omega arith) ∙ sym (v.new_acc (first + (g - first)) (omega arith) (omega arith))))

  member_home : (g : ℕ) → g < all → get_or t'.home g 0 ≡ get_or m.store.home (get_or member g 0) 0
  member_home g l =
      let first = count t 2 in
      let col = t.home in
      let room : first + (all - first) ≤ length col = omega (arith, v.more, v.seats, v.good.lengths.home) in
      ap (λ x. get_or x g 0) s.entered.homes_are
      ∙ by_bool (ltb g first)
      (λ e. let h = ltb-true g first e in cell_before first (all - first) _ first col room g h ∙ sym (v.old_home g h))
      (λ e. let h = ltb-false g first e in
      let z : first + (g - first) ≡ g = omega arith in
      subst (λ (k : ℕ). get_or (laid_at first (cells_at (all - first) first member m.store.home) col) k 0 ≡ get_or m.store.home (get_or member k 0) 0) z
      (cell_in first (all - first) _ first col room (g - first) (omega arith)))

  homes_long : length t'.home ≡ 1024
  homes_long =
      let first = count t 2 in
      ap length s.entered.homes_are
      ∙ length_laid first (cells_at (all - first) first member m.store.home) t.home
      (omega (arith, length_tab (all - first) first (λ k. get_or m.store.home (get_or member k 0) 0), v.more, v.seats, v.good.lengths.home))
      ∙ v.good.lengths.home

  -- ---- the owners of the rows taken

  abbrev party_of : ℕ → ℕ
  party_of k = get_or owner (get_or rows k 0) 0 - 2048

  -- a row was taken from a member
  housed_at : (k : ℕ) → k < n → is_in (Numbers ext time) (party_of k) (take all member) ≡ true
  housed_at k l =
      let p = party_of k in
      let small : p < 1280 = omega (arith, v.party k l) in
      let mine : eqb (get_or owner (get_or rows k 0) 0) (taken_from p) ≡ true = eq-eqb (get_or owner (get_or rows k 0) 0) (taken_from p) (omega (arith, v.from k l)) in
      by_bool (eqb (get_or m.store.home p 0) nowhere)
      (λ e. absurd (keep_some (λ i. eqb (get_or owner i 0) (taken_from p)) n k rows l (omega (arith, v.taken_long)) mine (w.loose p small (eqb-true _ _ e))))
      (λ e. w.housed p small ∙ ap not e)

  -- whose place in the group is the row's seat
  seated : (k : ℕ) (l : k < n) → get_or (seated_by all member seat₀) (party_of k) 0 ≡ (among ext time (party_of k) all member (housed_at k l)).at
  seated k l =
      let r = among ext time (party_of k) all member (housed_at k l) in
      ap (λ (p : ℕ). get_or (seated_by all member seat₀) p 0) (sym r.is)
      ∙ seat_of_lem all member seat₀ w.once (λ x a. omega (arith, w.parties x a, s.seats_long)) r.at r.low

  pub seat_low : (k : ℕ) → k < n → get_or (seated_by all member seat₀) (party_of k) 0 < all
  seat_low k l = omega (arith, seated k l, (among ext time (party_of k) all member (housed_at k l)).low)

  seat_told : (g k : ℕ) → g < all → k < n
      → eqb (get_or (seated_by all member seat₀) (party_of k) 0) g ≡ eqb (get_or owner (get_or rows k 0) 0) (taken_from (get_or member g 0))
  seat_told g k h l =
      let r = among ext time (party_of k) all member (housed_at k l) in
      let here = seated k l in
      by_bool (eqb r.at g)
      (λ e. let z = eqb-true r.at g e in
      ap (λ (x : ℕ). eqb x g) here ∙ e
      ∙ sym (eq-eqb (get_or owner (get_or rows k 0) 0) (taken_from (get_or member g 0)) (omega (arith, v.from k l, r.is, ap (λ (x : ℕ). get_or member x 0) z))))
      (λ e. ap (λ (x : ℕ). eqb x g) here ∙ e
      ∙ sym (ne_eqb (get_or owner (get_or rows k 0) 0) (taken_from (get_or member g 0)) (λ x. eqb-false r.at g e (w.once r.at g r.low h (omega (arith, v.from k l, r.is))))))

  -- ---- the lists

  entry_list_lem : (g : ℕ) → map f.msg (get_or b.entry_lists g []) ≡ pick (message_in (listed t)) g (count t 3) 0 t.owner
  entry_list_lem g =
      let lists : List (List ℕ) = tab_i (count t 2) 0 (λ i. pick (λ k. 2048 + k) i (count t 3) 0 t.owner) in
      ap (λ x. map f.msg (get_or x g [])) v.entry
      ∙ by_bool (ltb g (count t 2))
      (λ e. let h = ltb-true g (count t 2) e in
      ap (map f.msg) (get_d_tab (count t 2) 0 g g _ [] (sym (zero-add g)) h)
      ∙ map_pick f.msg (λ k. 2048 + k) g (count t 3) 0 t.owner
      ∙ pick_cong _ (message_in (listed t)) g (count t 3) 0 t.owner (λ j x y. v.old_msg j (omega arith)))
      (λ e. let h = ltb-false g (count t 2) e in
      ap (map f.msg) (get_d_behind lists g (omega (arith, length_tab (count t 2) 0 (λ i. pick (λ k. 2048 + k) i (count t 3) 0 t.owner))))
      ∙ sym (pick_none (message_in (listed t)) g (count t 3) 0 t.owner (λ j x z. omega (arith, v.good.placed j x))))

  member_msgs : (g : ℕ) → g < all → pick (message_in (listed t')) g (count t 3 + n) 0 t'.owner
      ≡ map f.msg (get_or b.entry_lists g [] ++ given ext time owner (take n rows) (get_or member g 0))
  unfolding laid_at
  member_msgs g h =
      let F = message_in (listed t') in
      let k = count t 3 in
      let S : ℕ → ℕ = λ i. get_or (seated_by all member seat₀) (party_of i) 0 in
      let made = tab_i n 0 S in
      let front : length (take k t.owner) ≡ k = length-take-le k t.owner (omega (arith, v.good.lengths.owner, v.room)) in
      ap (pick F g (k + n) 0) s.owners
      ∙ pick_both F g k n 0 (take k t.owner) (made ++ drop (k + length made) t.owner) front
      ∙ ap₂ ◌++◌
      (pick_take F g k 0 t.owner ∙ pick_cong F (message_in (listed t)) g k 0 t.owner (λ j x y. message_before j (omega arith)) ∙ sym (entry_list_lem g))
      (pick_first F g n (0 + k) made _ (omega (arith, length_tab n 0 S))
      ∙ pick_keep F f.msg (λ i. eqb (get_or owner i 0) (taken_from (get_or member g 0))) S (λ i. get_or rows i 0) g k n (0 + k) 0 refl
      (λ i x y. seat_told g i h (omega arith))
      (λ i x y. let z : i + k ≡ k + i = omega arith in ap F z ∙ message_in_lem i (omega arith) ∙ sym (v.new_msg (get_or rows i 0) (v.there i (omega arith))))
      ∙ ap (λ l. map f.msg (keep (λ i. eqb (get_or owner i 0) (taken_from (get_or member g 0))) l)) (take_tab n rows v.taken_long))
      ∙ sym (map-append f.msg (get_or b.entry_lists g []) (given ext time owner (take n rows) (get_or member g 0)))

  pub lists_after : order_of (listed t') ≡ map (on_row f) (state_of ext time fx b o m).lists
  unfolding order_of state_of
  lists_after =
      let G = group_row ext time b.entry_lists member owner (take n rows) in
      (λ i. tab_i (s.accounts i) 0 (λ g. record { acc = row_at t'.accounts g; msgs = pick (message_in (listed t')) g (s.messages i) 0 t'.owner }))
      ∙ tab_cong all 0 _ (λ g. on_row f (G g))
      (λ g x y. let acc = member_row g (omega arith) in let msgs = member_msgs g (omega arith) in λ i. record { acc = acc i; msgs = msgs i })
      ∙ sym (map_tab (on_row f) G all 0)

  -- ---- the slots

  slot_accounts : (j : ℕ) → pick (row_at t'.accounts) j all 0 t'.home ≡ map f.acc (homed ext time (take all member) m.store.home j)
  slot_accounts j =
      let long : all ≤ length t'.home = omega (arith, v.seats, homes_long) in
      pick_gather (row_at t'.accounts) j all 0 t'.home (omega arith)
      ∙ gather_map (λ g. eqb (get_or t'.home g 0) j) (row_at t'.accounts) f.acc (λ p. eqb (get_or m.store.home p 0) j) (λ g. get_or member g 0) all 0
      (λ g x y. ap (λ (h : ℕ). eqb h j) (member_home g (omega arith)))
      (λ g x y e. member_row g (omega arith))
      ∙ ap (λ l. map f.acc (keep (λ p. eqb (get_or m.store.home p 0) j) l)) (take_tab all member (omega (arith, v.member_long, v.seats)))

  pub slots_after : count t' 1 ≡ b.slots → t'.number ≡ b.number → t'.ints ≡ m.store.ints → t'.exts ≡ m.store.exts
      → slots_of t' ≡ map (on_slot f) (state_of ext time fx b o m).slots
  unfolding slots_of state_of
  slots_after slots numbers ints exts =
      let L = slot_at ext time b.number (take all member) m.store.home m.store.ints m.store.exts in
      (λ i. tab_i (slots i) 0 (λ j. record { number = get_or (numbers i) j 0; accounts = pick (row_at t'.accounts) j (s.accounts i) 0 t'.home; ints = get_or (ints i) j 0; exts = get_or (exts i) j 0 }))
      ∙ tab_cong b.slots 0 _ (λ j. on_slot f (L j))
      (λ j x y. let accounts = slot_accounts j in λ i. record { number = get_or b.number j 0; accounts = accounts i; ints = get_or m.store.ints j 0; exts = get_or m.store.exts j 0 })
      ∙ sym (map_tab (on_slot f) L b.slots 0)
