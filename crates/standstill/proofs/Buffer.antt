-- The buffer stays where a fill leaves every row to its owner: no account is emptied, every place keeps its seat, the counts are those that
-- stand there, and the index is that of the names (`filled_same`). Assumes nothing.
use mathlib.Core.Path.{◌≡◌, sym, ap, ◌∙◌}
use mathlib.Core.Bool.{true, false, cond, not}
use mathlib.Core.List.{List, ◌++◌}
use Prim.Native.Nat.{ℕ, ◌-◌, ◌<◌, ◌≤◌}
use native.Mathlib.Nat.{zero-add}
use native.Mathlib.Omega.{arith}
use lib.Dec.{eqb}
use lib.ListN.{get_or, take, replicate, length-replicate, take-append-drop}
use lib.Seq.{set-get_or}
use borrow.Author.Tests.{ne_eqb, lt-ltb}
use Rattle.rules.specs.World.{Row, is_nil}
use Rattle.columns.specs.Lists.{pick, count_i, rank}
use Rattle.columns.specs.Laid.{laid_at, held}
use Rattle.columns.proofs.Scans.{get_d_map_i}
use Rattle.index.specs.Names.{with_index}
use Rattle.message.specs.Real.{Real}
use Rattle.queues.specs.Cols.{Cols, live, number, with_numbers}
use Rattle.queues.specs.Indexed.{indexed_c}
use Rattle.queues.specs.Meant.{message_in, row_in, order_of}
use Rattle.queues.specs.Good.{Good}
use Rattle.queues.specs.Compact.{gone, new_place, moved_c, packed_c, compact_c, seats_c}
use Rattle.queues.proofs.Counts.{counts_add}
use Rattle.entry_rules.proofs.Tabs.{each_at}
use Rattle.settle.specs.Ends.{emptied, left_counts, with_owners, seats_left, settled_c, filled_by, holders, filled_c}
use Rattle.settle_rules.proofs.Maps.{map_pick, pick_take, nil_map}
use Rattle.settle_rules.proofs.GoodBuffer.{kinds_counted}
use Rattle.standstill.proofs.Columns.{laid_same, map_same, rank_all, packed_all, packed_rows_all}

-- the numbers that stand there, written again
counts_same : (i : ℕ) (ns : List ℕ) → (get_or ns 3 0 ≡ 0 → ⊥) → i ≡ get_or ns 4 0 → get_or ns 2 0 - i ≡ get_or ns 5 0 → left_counts (get_or ns 2 0) (get_or ns 3 0) i ns ≡ ns
unfolding left_counts
counts_same i ns some ints exts = rw (ne_eqb (get_or ns 3 0) 0 some, exts, ints, set-get_or ns 2 0, set-get_or ns 3 0, set-get_or ns 4 0, set-get_or ns 5 0)

module _ (c : Cols) (good : Good c) (some : number c 3 ≡ 0 → ⊥) (left : List ℕ) (same : take (number c 2) left ≡ take (number c 2) c.owner) where
  abbrev n : ℕ
  n = number c 2

  abbrev a : ℕ
  a = number c 3

  few : n ≤ 1024
  few = omega (arith, good.now.messages, good.M·high)

  places : a ≤ 256
  places = omega (arith, good.now.places, good.A·high)

  -- ---- the seats

  -- no place is without a message
  none_emptied : (p : ℕ) → p < a → emptied n left p ≡ false
  unfolding emptied order_of
  none_emptied p l =
      ap is_nil (sym (pick_take (λ i. i) p n 0 left) ∙ ap (pick (λ i. i) p n 0) same ∙ pick_take (λ i. i) p n 0 c.owner)
      ∙ sym (nil_map (message_in (live c)) (pick (λ i. i) p n 0 c.owner))
      ∙ ap is_nil (map_pick (message_in (live c)) (λ i. i) p n 0 c.owner)
      ∙ each_at (λ (r : Row Real). is_nil r.msgs ≡ false) a 0 (row_in (live c)) good.now.tidy.nonempty p (omega arith) (omega arith)

  stays : (p : ℕ) → p < a → not (emptied n left p) ≡ true
  stays p l = ap not (none_emptied p l)

  abbrev seats : List ℕ
  seats = seats_left n a left

  -- each place has its own seat
  seat_is : (p : ℕ) → p < a → get_or seats p 0 ≡ p
  unfolding seats_left seats_c
  seat_is p l =
      get_d_map_i (λ p o. cond (emptied n left p) o (rank (λ q. not (emptied n left q)) p)) 0 a 0 p p (replicate 256 gone) (sym (zero-add p)) l
      (omega (arith, places, length-replicate 256 gone))
      ∙ rw (none_emptied p l) (rank_all (λ q. not (emptied n left q)) p (λ j h. stays j (omega arith)))

  owners_same : moved_c n seats c.owner ≡ c.owner
  unfolding moved_c
  owners_same =
      map_same (new_place seats) 0 n 0 c.owner
      (λ i l. let o = good.now.placed i l in rw (lt-ltb (get_or c.owner i 0) 256 (omega (arith, places))) (seat_is (get_or c.owner i 0) o))

  row_held : (i : ℕ) → i < n → held c.owner i ≡ true
  unfolding held
  row_held i l = lt-ltb (get_or c.owner i 0) 256 (omega (arith, good.now.placed i l, places))

  place_held : (p : ℕ) → p < a → held seats p ≡ true
  unfolding held
  place_held p l = rw (seat_is p l) (lt-ltb p 256 (omega (arith, places)))

  -- ---- the columns

  packed_same : packed_c n a seats c.owner c ≡ c
  unfolding packed_c
  packed_same =
      let l = good.lengths in
      let owner = packed_all (held c.owner) n row_held 0 c.owner (omega (arith, few, l.owner)) in
      let kind = packed_all (held c.owner) n row_held 0 c.kind (omega (arith, few, l.kind)) in
      let form = packed_all (held c.owner) n row_held 0 c.form (omega (arith, few, l.form)) in
      let time = packed_all (held c.owner) n row_held 0 c.time (omega (arith, few, l.time)) in
      let address = packed_rows_all (held c.owner) n row_held c.address (omega (arith, few, l.address)) in
      let hash = packed_rows_all (held c.owner) n row_held c.hash (omega (arith, few, l.hash)) in
      let accounts = packed_rows_all (held seats) a place_held c.accounts (omega (arith, places, l.accounts)) in
      λ i. record {
        owner = owner i;
        kind = kind i;
        form = form i;
        time = time i;
        address = address i;
        hash = hash i;
        accounts = accounts i;
        numbers = c.numbers;
      }

  compact_same : compact_c n a seats c ≡ c
  unfolding compact_c
  compact_same = ap (λ (os : List ℕ). packed_c n a seats os c) owners_same ∙ packed_same

  at_same : with_owners n left c ≡ c
  at_same =
      let owner = ap (λ (os : List ℕ). laid_at 0 os c.owner) same ∙ laid_same n c.owner (omega (arith, few, good.lengths.owner)) in
      λ i. record {
        owner = owner i;
        kind = c.kind;
        form = c.form;
        time = c.time;
        address = c.address;
        hash = c.hash;
        accounts = c.accounts;
        numbers = c.numbers;
      }

  -- ---- the counts

  rows_left : rank (held (moved_c n seats c.owner)) n ≡ n
  rows_left = ap (λ (os : List ℕ). rank (held os) n) owners_same ∙ rank_all (held c.owner) n row_held

  places_left_lem : rank (λ p. not (emptied n left p)) a ≡ a
  places_left_lem = rank_all (λ p. not (emptied n left p)) a stays

  ints_same : count_i (λ i k. not (eqb k 1)) n 0 c.kind ≡ number c 4
  ints_same =
      let l = good.lengths in
      sym (good.now.ints ∙ kinds_counted (live c) (omega (arith, few, l.owner)) (omega (arith, few, l.kind)) good.now.placed)

  numbers_same : left_counts n a (count_i (λ i k. not (eqb k 1)) n 0 c.kind) c.numbers ≡ c.numbers
  numbers_same =
      counts_same _ c.numbers some ints_same
      (omega (arith, ints_same, counts_add (live c) good.now (omega (arith, few, good.lengths.owner))))

  settled_same : settled_c n a seats n a c ≡ c
  unfolding settled_c
  settled_same =
      ap (λ (x : Cols). with_numbers (left_counts n a (count_i (λ i k. not (eqb k 1)) n 0 x.kind) c.numbers) x) compact_same
      ∙ (λ i. with_numbers (numbers_same i) c)

  filled_by_same : filled_by n a left c ≡ c
  unfolding filled_by
  filled_by_same =
      ap (λ (x : Cols). settled_c n a seats (rank (held (moved_c n seats x.owner)) n) (rank (λ p. not (emptied n left p)) a) x) at_same
      ∙ (λ i. settled_c n a seats (rows_left i) (places_left_lem i) c)
      ∙ settled_same

  -- ---- the index, which is that of the names

  indexed_same : indexed_c a c ≡ c
  unfolding indexed_c with_index
  indexed_same =
      let ns = c.numbers in
      let e = ap (λ (cells : List ℕ). take 16 ns ++ cells) (sym good.index) ∙ take-append-drop 16 ns in
      λ i. with_numbers (e i) c

  pub filled_same : filled_c left c ≡ c
  filled_same =
      ap (indexed_c (holders left c)) filled_by_same
      ∙ ap (λ (b : ℕ). indexed_c b c) places_left_lem
      ∙ indexed_same
