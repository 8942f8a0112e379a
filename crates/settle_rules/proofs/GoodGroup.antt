-- The columns of a group that a fill leaves are well formed: `good_group_after`. Every column is the one before with what was taken laid behind,
-- so lengths stay and the cells behind hold nothing; a row taken has the seat of a member; homes, counts and buckets are those of a group that
-- is tidy. Assumes nothing.
use mathlib.Core.Path.{◌≡◌, sym, ap, subst, ◌∙◌}
use mathlib.Core.Bool.{Bool}
use mathlib.Core.List.{List}
use Prim.Native.Nat.{ℕ, ◌+◌, ◌-◌, ◌*◌, ◌<◌, ◌≤◌}
use native.Mathlib.Nat.{zero-add}
use native.Mathlib.Omega.{arith}
use lib.Dec.{eqb, ltb}
use lib.ListN.{length, get_or}
use borrow.Author.Tests.{eqb-true, eqb-false, ltb-true, ltb-false}
use Rattle.numbers.proofs.Bytes.{by_bool}
use Rattle.columns.specs.Lists.{tab_i, rank}
use Rattle.columns.specs.Laid.{laid_at}
use Rattle.columns.specs.Rows.{row_at, flat}
use Rattle.columns.proofs.Tabs.{length_tab, get_d_tab}
use Rattle.columns.proofs.Rows.{Wide, length_row, length_flat}
use Rattle.rules.specs.World.{Args}
use Rattle.message.specs.Real.{Real}
use Rattle.queues.specs.Cols.{Cols, number}
use Rattle.queues.specs.Good.{Zeros}
use Rattle.slots.specs.Table.{Table, count}
use Rattle.slots.specs.Good.{Long, Blank, Good}
use Rattle.group_rules.proofs.Follows.{Follows, laid_follows, zeros_behind, each_cell}
use Rattle.moves.specs.declared.Fixed.{Fixed}
use Rattle.meaning.specs.Meaning.{Numbers, Setting, Fits}
use Rattle.meaning.specs.Passes.{RanC}
use Rattle.renaming.specs.Renaming.{Renaming}
use Rattle.settle.specs.Copies.{is_key, cells_at, rows_at, seated_by}
use Rattle.settle.specs.Ends.{in_counts}
use Rattle.settle_rules.specs.Facts.{GroupSettled, GroupFacts, TableSettled, Settling}
use Rattle.settle_rules.proofs.SetAfter.{wide_tab}
use Rattle.settle_rules.proofs.InCounts.{in_long, in_0, in_1, in_2, in_3, in_4, in_5, in_6, in_7, in_still, in_rest}
use Rattle.settle_rules.proofs.GroupAfter.{wide, seat_low}
use Rattle.settle_rules.proofs.Homes.{home_low}

-- ---- a table laid over a column, of cells and of rows

cells_follow : (to n first : ℕ) (h : ℕ → ℕ) (col made : List ℕ) → made ≡ laid_at to (tab_i n first h) col → to + n ≤ length col
    → Follows to n (tab_i n first h) col made
cells_follow to n first h col made e room =
    let size = length_tab n first h in
    subst (λ (k : ℕ). Follows to k (tab_i n first h) col made) size
    (subst (Follows to (length (tab_i n first h)) (tab_i n first h) col) (sym e) (laid_follows to (tab_i n first h) col (omega arith)))

rows_follow : (to n first : ℕ) (h : ℕ → List ℕ) (col made : List ℕ) → Wide (tab_i n first h) → made ≡ laid_at (32 * to) (flat (tab_i n first h)) col
    → 32 * (to + n) ≤ length col → Follows (32 * to) (32 * n) (flat (tab_i n first h)) col made
rows_follow to n first h col made w e room =
    let xs = flat (tab_i n first h) in
    let size : length xs ≡ 32 * n = length_flat (tab_i n first h) w ∙ ap (λ (k : ℕ). 32 * k) (length_tab n first h) in
    subst (λ (k : ℕ). Follows (32 * to) k xs col made) size
    (subst (Follows (32 * to) (length xs) xs col) (sym e) (laid_follows (32 * to) xs col (omega arith)))

-- ---- the numbers

module _ {t t' : Table} {c : Cols} {x : RanC} {k : ℕ} {seat₀ : List ℕ} (s : TableSettled t t' c x k seat₀) (long : length t.numbers ≡ 16) where
  abbrev n : ℕ
  n = x.now.store.tally.taken

  abbrev all : ℕ
  all = x.now.store.tally.accounts

  abbrev keys : ℕ
  keys = rank (is_key x.now.store.taken c.kind) n

  -- number j is that of the numbers made
  told : (j : ℕ) {i : ℕ} → get_or (in_counts x.slots all n keys k x.last t.numbers) j 0 ≡ i → count t' j ≡ i
  told j e = ap (λ (l : List ℕ). get_or l j 0) s.numbers ∙ e

  pub settled : GroupSettled t t' c x.now seat₀
  settled = record {
    fields = s.fields;
    bodies = s.bodies;
    owners = s.owners;
    entered = s.entered;
    seats_long = s.seats_long;
    messages = told 3 (in_3 x.slots all n keys k x.last t.numbers long);
    accounts = told 2 (in_2 x.slots all n keys k x.last t.numbers long);
  }

  S_same : count t' 0 ≡ count t 0
  S_same = told 0 (in_0 x.slots all n keys k x.last t.numbers)

  slots_are : count t' 1 ≡ x.slots
  slots_are = told 1 (in_1 x.slots all n keys k x.last t.numbers long)

  ints_are : count t' 4 ≡ count t 4 + keys
  ints_are = told 4 (in_4 x.slots all n keys k x.last t.numbers long)

  exts_are : count t' 5 ≡ count t 5 + (n - keys)
  exts_are = told 5 (in_5 x.slots all n keys k x.last t.numbers long)

  rest_is : (j : ℕ) → 8 ≤ j → count t' j ≡ count t j
  rest_is j l = told j (in_rest x.slots all n keys k x.last t.numbers j l)

  sixteen : length t'.numbers ≡ 16
  sixteen = ap length s.numbers ∙ in_long x.slots all n keys k x.last t.numbers ∙ long

  -- the last number, and whether there is one: as they were, or the one given
  module _ (e : k ≡ 0) where
    last_stays : count t' 6 ≡ count t 6
    last_stays = told 6 (in_still x.slots all n keys k x.last t.numbers 6 (omega arith) e)

    mark_stays : count t' 7 ≡ count t 7
    mark_stays = told 7 (in_still x.slots all n keys k x.last t.numbers 7 (omega arith) e)

  module _ (h : k ≡ 0 → ⊥) where
    last_given : count t' 6 ≡ x.last
    last_given = told 6 (in_6 x.slots all n keys k x.last t.numbers long h)

    mark_given : count t' 7 ≡ 1
    mark_given = told 7 (in_7 x.slots all n keys k x.last t.numbers long h)

-- ---- the columns

module _ {ext : ℕ → Bool} {time : ℕ → ℕ} {f : Renaming (Numbers ext time) Real} {A : Args (Numbers ext time)} {fx : Fixed} {b : Setting} {o : ℕ} {x : RanC}
    {c : Cols} {t t' : Table} {k : ℕ} {seat₀ : List ℕ}
    (v : GroupFacts ext time f c t b x.now) (s : TableSettled t t' c x k seat₀) (w : Fits ext time A fx b o x.now) (y : Settling t t' c x) where
  abbrev taken : ℕ
  taken = x.now.store.tally.taken

  abbrev rows : List ℕ
  rows = x.now.store.taken

  abbrev member : List ℕ
  member = x.now.store.member

  abbrev first : ℕ
  first = count t 2

  abbrev new : ℕ
  new = x.now.store.tally.accounts - count t 2

  g : GroupSettled t t' c x.now seat₀
  g = settled s v.good.lengths.numbers

  -- of the messages
  module _ (from col made : List ℕ) where
    cells : length col ≡ 1024 → made ≡ laid_at (count t 3) (cells_at taken 0 rows from) col → Follows (count t 3) taken (cells_at taken 0 rows from) col made
    cells long e = cells_follow (count t 3) taken 0 (λ i. get_or from (get_or rows i 0) 0) col made e (omega (arith, v.room))

    bodies : length from ≡ 65536 → length col ≡ 32768 → made ≡ laid_at (32 * count t 3) (flat (rows_at taken 0 rows from)) col
        → Follows (32 * count t 3) (32 * taken) (flat (rows_at taken 0 rows from)) col made
    bodies wide_from long e =
        rows_follow (count t 3) taken 0 (λ i. row_at from (get_or rows i 0)) col made
        (wide_tab (λ i. row_at from (get_or rows i 0)) taken 0 (λ i a l. wide v g w from wide_from i (omega arith))) e (omega (arith, v.room))

  kinds : Follows (count t 3) taken (cells_at taken 0 rows c.kind) t.kind t'.kind
  kinds = cells c.kind t.kind t'.kind v.good.lengths.kind s.fields.kinds

  forms : Follows (count t 3) taken (cells_at taken 0 rows c.form) t.form t'.form
  forms = cells c.form t.form t'.form v.good.lengths.form s.fields.forms

  times : Follows (count t 3) taken (cells_at taken 0 rows c.time) t.time t'.time
  times = cells c.time t.time t'.time v.good.lengths.time s.fields.times

  addresses : Follows (32 * count t 3) (32 * taken) (flat (rows_at taken 0 rows c.address)) t.address t'.address
  addresses = bodies c.address t.address t'.address v.long.address v.good.lengths.address s.bodies.addresses

  hashes : Follows (32 * count t 3) (32 * taken) (flat (rows_at taken 0 rows c.hash)) t.hash t'.hash
  hashes = bodies c.hash t.hash t'.hash v.long.hash v.good.lengths.hash s.bodies.hashes

  abbrev seat : ℕ → ℕ
  seat i = get_or (seated_by x.now.store.tally.accounts member seat₀) (get_or x.now.store.owner (get_or rows i 0) 0 - 2048) 0

  owners : Follows (count t 3) taken (tab_i taken 0 seat) t.owner t'.owner
  owners = cells_follow (count t 3) taken 0 seat t.owner t'.owner s.owners (omega (arith, v.room, v.good.lengths.owner))

  -- of the members
  homes : Follows first new (cells_at new first member x.now.store.home) t.home t'.home
  homes =
      cells_follow first new first (λ i. get_or x.now.store.home (get_or member i 0) 0) t.home t'.home s.entered.homes_are
      (omega (arith, v.more, v.seats, v.good.lengths.home))

  accounts : Follows (32 * first) (32 * new) (flat (rows_at new first member c.accounts)) t.accounts t'.accounts
  accounts =
      rows_follow first new first (λ i. row_at c.accounts (get_or member i 0)) t.accounts t'.accounts
      (wide_tab (λ i. row_at c.accounts (get_or member i 0)) new first
      (λ i a l. length_row c.accounts (get_or member i 0) (omega (arith, v.new_place_lem i a (omega (arith, v.more)), v.long.accounts))))
      s.entered.accounts_are (omega (arith, v.more, v.seats, v.good.lengths.accounts))

  lengths : Long t'
  lengths =
      let h = v.good.lengths in
      record {
        number = ap length s.number ∙ y.number_long;
        ints = ap length s.ints ∙ y.ints_long;
        exts = ap length s.exts ∙ y.exts_long;
        accounts = accounts.long ∙ h.accounts;
        home = homes.long ∙ h.home;
        owner = owners.long ∙ h.owner;
        kind = kinds.long ∙ h.kind;
        form = forms.long ∙ h.form;
        time = times.long ∙ h.time;
        address = addresses.long ∙ h.address;
        hash = hashes.long ∙ h.hash;
        numbers = sixteen s h.numbers;
      }

  -- what the run left is clear behind the slots
  clear : (made col : List ℕ) → made ≡ col → Zeros col x.slots 64 → Zeros made (count t' 1) 64
  clear made col e z i a l =
      ap (λ (l : List ℕ). get_or l i 0) e ∙ z i (omega (arith, slots_are s v.good.lengths.numbers)) l

  blank : Blank t'
  blank =
      let h = v.good.blank in
      let m = g.messages in
      let a : count t' 2 ≡ first + new = g.accounts ∙ omega (arith, v.more) in
      record {
        number = clear t'.number x.number s.number y.number_clear;
        ints = clear t'.ints x.now.store.ints s.ints y.ints_clear;
        exts = clear t'.exts x.now.store.exts s.exts y.exts_clear;
        accounts = zeros_behind accounts (32 * first) 32768 (32 * count t' 2) (omega arith) (omega arith) h.accounts;
        home = zeros_behind homes first 1024 (count t' 2) a (omega arith) h.home;
        owner = zeros_behind owners (count t 3) 1024 (count t' 3) m (omega arith) h.owner;
        kind = zeros_behind kinds (count t 3) 1024 (count t' 3) m (omega arith) h.kind;
        form = zeros_behind forms (count t 3) 1024 (count t' 3) m (omega arith) h.form;
        time = zeros_behind times (count t 3) 1024 (count t' 3) m (omega arith) h.time;
        address = zeros_behind addresses (32 * count t 3) 32768 (32 * count t' 3) (omega arith) (omega arith) h.address;
        hash = zeros_behind hashes (32 * count t 3) 32768 (32 * count t' 3) (omega arith) (omega arith) h.hash;
        numbers = λ i a l. rest_is s v.good.lengths.numbers i a ∙ h.numbers i a l;
      }

  -- ---- what stands in them

  -- a row taken has the seat of a member, and a member at entry stays
  placed : (i : ℕ) → i < count t' 3 → get_or t'.owner i 0 < count t' 2
  placed i l =
      by_bool (ltb i (count t 3))
      (λ e. let h = ltb-true i (count t 3) e in omega (arith, owners.before i h, v.good.placed i h, v.more, g.accounts))
      (λ e. let h = ltb-false i (count t 3) e in
      let j = i - count t 3 in
      let small : j < taken = omega (arith, g.messages) in
      let z : i ≡ count t 3 + j = omega arith in
      let here : get_or t'.owner i 0 ≡ seat j =
      ap (λ (q : ℕ). get_or t'.owner q 0) z ∙ owners.within j small ∙ get_d_tab taken 0 j j seat 0 (sym (zero-add j)) small in
      omega (arith, here, seat_low v g w j small, g.accounts))

  -- a cell of a row taken is one of the buffer
  cell_low : (from : List ℕ) → ((i : ℕ) → i < number c 2 → get_or from i 0 ≤ 1) → (i : ℕ) → i < taken → get_or (cells_at taken 0 rows from) i 0 ≤ 1
  cell_low from low i l =
      omega (arith, get_d_tab taken 0 i i (λ q. get_or from (get_or rows q 0) 0) 0 (sym (zero-add i)) l, low (get_or rows i 0) (v.there i l))

  last_fits : count t' 6 ≤ 65535
  last_fits =
      let long = v.good.lengths.numbers in
      by_bool (eqb k 0)
      (λ e. omega (arith, last_stays s long (eqb-true k 0 e), v.good.last))
      (λ e. omega (arith, last_given s long (eqb-false k 0 e), y.last))

  marked_one : count t' 7 ≤ 1
  marked_one =
      let long = v.good.lengths.numbers in
      by_bool (eqb k 0)
      (λ e. omega (arith, mark_stays s long (eqb-true k 0 e), v.good.marked))
      (λ e. omega (arith, mark_given s long (eqb-false k 0 e)))

  unmarked_none : count t' 7 ≡ 0 → count t' 6 ≡ 0
  unmarked_none z =
      let long = v.good.lengths.numbers in
      by_bool (eqb k 0)
      (λ e. last_stays s long (eqb-true k 0 e) ∙ v.good.unmarked (sym (mark_stays s long (eqb-true k 0 e)) ∙ z))
      (λ e. absurd (omega (arith, mark_given s long (eqb-false k 0 e))))

  pub good_group_after : Good t'
  good_group_after =
      let long = v.good.lengths.numbers in
      record {
        lengths = lengths;
        S·low = omega (arith, S_same s long, v.good.S·low);
        S·high = omega (arith, S_same s long, v.good.S·high);
        slots = omega (arith, S_same s long, slots_are s long, y.room);
        accounts = omega (arith, g.accounts, v.seats);
        messages = omega (arith, g.messages, v.room);
        placed = placed;
        housed = home_low t' y.tidy;
        kinds = λ i l. each_cell kinds 1 v.good.kinds (cell_low c.kind y.buffer.now.kinds) i (omega (arith, g.messages));
        forms = λ i l. each_cell forms 1 v.good.forms (cell_low c.form y.buffer.now.forms) i (omega (arith, g.messages));
        ints = ints_are s long ∙ sym y.internals;
        exts = exts_are s long ∙ sym y.externals;
        last = last_fits;
        marked = marked_one;
        unmarked = unmarked_none;
        buckets = s.buckets.good;
        blank = blank;
        tidy = y.tidy;
      }
