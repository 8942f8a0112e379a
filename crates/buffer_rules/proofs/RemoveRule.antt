-- A removal on the columns is the removal of the rules: the same accounts are named, an external is lost by the columns exactly if the rules
-- find one, and the columns packed mean the rows that the rules keep. Assumes nothing.
use mathlib.Core.Path.{◌≡◌, refl, sym, ap, ap₂, ◌∙◌}
use mathlib.Core.Bool.{Bool, true, false, cond, not, ◌&&◌}
use mathlib.Core.Logic.{inl}
use mathlib.Core.List.{List}
use Prim.Native.Nat.{ℕ, ◌+◌, ◌-◌, ◌/◌, ◌<◌, ◌≤◌}
use native.Mathlib.Nat.{zero-add}
use native.Mathlib.Omega.{arith}
use lib.Dec.{eqb, ltb, leb}
use lib.ListN.{length, get_or, drop, set, replicate, length-set, length-replicate, get_or-replicate}
use lib.Seq.{get_or-set_same, get_or-set_other}
use borrow.Author.Tests.{eq-eqb, ne_eqb, not-true, not-false}
use Rattle.numbers.proofs.Bytes.{by_bool, clash}
use Rattle.columns.specs.Lists.{rank}
use Rattle.columns.specs.Laid.{is_place, held}
use Rattle.columns.specs.Rows.{row_at, rows_of, index_of}
use Rattle.columns.proofs.Scans.{get_d_map_i}
use Rattle.columns.proofs.Rows.{length_rows}
use Rattle.rules.specs.World.{Row, keep, some_of}
use Rattle.rules.specs.Queues.{is_in, remove, remove_code}
use Rattle.rules.specs.Calls.{answer, with_now, remove_accounts}
use Rattle.message.specs.Real.{Real}
use Rattle.queues.specs.Cols.{Cols, live, kept, number}
use Rattle.queues.specs.Meant.{message_in, row_in, order_of, buffer_of, if_marked, meant}
use Rattle.queues.specs.Good.{Good}
use Rattle.queues.specs.Compact.{gone, compact_c, named_c, seats_c, lost_externals, left_numbers, goes_c, seats_of, stay_c, removed_c, remove_c}
use Rattle.queues.proofs.Indexing.{meant_indexed}
use Rattle.buffer_rules.specs.Ruled.{answer_of}
use Rattle.buffer_rules.proofs.Finds.{index_is_in, gather_keep, none_tab, tab_none, none_queue, queue_none, none_counted, counted_none}
use Rattle.buffer_rules.proofs.CompactRule.{half_of, Packable, seated, left_of, order_after, kept_after}

-- ---- tests

not_not : (b : Bool) → not (not b) ≡ b
not_not true = refl
not_not false = refl

and_false : (b : Bool) → (b && false) ≡ false
and_false true = refl
and_false false = refl

-- of two tests that do not both hold, the one beside a test that holds fails
fails : (b d : Bool) → d ≡ true → (b && d) ≡ false → b ≡ false
fails true d t e = clash d t e
fails false d t e = refl

-- ---- the numbers that are left

module _ (r b : ℕ) (ns : List ℕ) where
  pub number_stays : (k : ℕ) → (leb 2 k && leb k 4) ≡ false → get_or (left_numbers r b ns) k 0 ≡ get_or ns k 0
  unfolding left_numbers
  number_stays k h =
      get_or-set_other (set (set ns 2 r) 3 b) 4 k _ 0 (λ e. clash true refl (rw e at h))
      ∙ get_or-set_other (set ns 2 r) 3 k b 0 (λ e. clash true refl (rw e at h))
      ∙ get_or-set_other ns 2 k r 0 (λ e. clash true refl (rw e at h))

  module _ (long : length ns ≡ 528) where
    pub number_2 : get_or (left_numbers r b ns) 2 0 ≡ r
    unfolding left_numbers
    number_2 =
        get_or-set_other (set (set ns 2 r) 3 b) 4 2 _ 0 (λ e. omega arith)
        ∙ get_or-set_other (set ns 2 r) 3 2 b 0 (λ e. omega arith)
        ∙ get_or-set_same ns 2 r 0 (omega arith)

    pub number_3 : get_or (left_numbers r b ns) 3 0 ≡ b
    unfolding left_numbers
    number_3 =
        get_or-set_other (set (set ns 2 r) 3 b) 4 3 _ 0 (λ e. omega arith)
        ∙ get_or-set_same (set ns 2 r) 3 b 0 (omega (arith, length-set ns 2 r))

    pub number_4 : get_or (left_numbers r b ns) 4 0 ≡ get_or ns 4 0 - (get_or ns 2 0 - r)
    unfolding left_numbers
    number_4 = get_or-set_same (set (set ns 2 r) 3 b) 4 _ 0 (omega (arith, length-set (set ns 2 r) 3 b, length-set ns 2 r))

  pub numbers_long : length (left_numbers r b ns) ≡ length ns
  unfolding left_numbers
  numbers_long = length-set (set (set ns 2 r) 3 b) 4 _ ∙ length-set (set ns 2 r) 3 b ∙ length-set ns 2 r

-- ---- the seats

-- a place that goes keeps its mark, one that stays has its rank
seat_at : (goes : ℕ → Bool) (a w x p : ℕ) → a ≤ w → p < a → get_or (seats_c goes a (replicate w x)) p 0 ≡ cond (goes p) x (rank (λ q. not (goes q)) p)
unfolding seats_c
seat_at goes a w x p h l =
    get_d_map_i (λ p o. cond (goes p) o (rank (λ q. not (goes q)) p)) 0 a 0 p p (replicate w x) (sym (zero-add p)) l (omega (arith, length-replicate w x))
    ∙ ap (λ (o : ℕ). cond (goes p) o (rank (λ q. not (goes q)) p)) (get_or-replicate w p x 0 (omega arith))

-- the rules' names, and the rows that stay
abbrev pub names_of : List ℕ → List (List ℕ)
names_of names = rows_of (length names / 32) names

abbrev pub stays_c : List ℕ → Cols → ℕ → Bool
stays_c names c p = not (goes_c names c p)

-- a row that is named and holds an external
abbrev pub loses : List (List ℕ) → Row Real → Bool
loses names r = is_in Real r.acc names && some_of Real.external r.msgs

-- the messages and the accounts that an accepted removal leaves, and the columns
abbrev pub messages_left : List ℕ → Cols → ℕ
messages_left names c = left_of (number c 2) (seats_of names c) c

abbrev pub places_left : List ℕ → Cols → ℕ
places_left = stay_c

abbrev pub removed_by : List ℕ → Cols → Cols
removed_by names c = removed_c (seats_of names c) (places_left names c) c

module _ (names : List ℕ) (c : Cols) where
  pub named_is : (p : ℕ) → goes_c names c p ≡ is_in Real (row_at c.accounts p) (names_of names)
  unfolding named_c
  named_is p =
      ap (ltb (index_of (row_at c.accounts p) (names_of names))) (sym (length_rows (length names / 32) names))
      ∙ index_is_in (row_at c.accounts p) (names_of names)

  seat_is : number c 3 ≤ 256 → (p : ℕ) → p < number c 3 → get_or (seats_of names c) p 0 ≡ cond (goes_c names c p) gone (rank (stays_c names c) p)
  unfolding seats_of
  seat_is h p l = seat_at (goes_c names c) (number c 3) 256 gone p h l

module _ (names : List ℕ) (c : Cols) (g : Good c) where
  pub packable : Packable (number c 2) (number c 3) (stays_c names c) (seats_of names c) c
  packable =
      let places : number c 3 ≤ 256 = omega (arith, g.now.places, g.A·high) in
      record {
        long = g.lengths;
        messages = omega (arith, g.now.messages, g.M·high);
        places = places;
        owners = λ i l. inl (g.now.placed i l);
        stay = λ p l e. seat_is names c places p l ∙ rw (not-true (goes_c names c p) e);
        go = λ p l e. rw (seat_is names c places p l, not-false (goes_c names c p) e) (omega arith);
      }

  -- a place has a seat exactly if it is not named
  seat_told : (p : ℕ) → p < number c 3 → not (is_place (get_or (seats_of names c) p 0)) ≡ is_in Real (row_at c.accounts p) (names_of names)
  unfolding held
  seat_told p l = ap not (seated packable p l) ∙ not_not (goes_c names c p) ∙ named_is names c p

  -- the columns lose no external exactly if the rules find none
  none_lost : some_of (loses (names_of names)) (order_of (live c)) ≡ false → lost_externals (seats_of names c) c.kind (number c 2) c.owner ≡ 0
  unfolding lost_externals order_of
  none_lost e = none_counted (λ i o. eqb (get_or c.kind i 0) 1 && not (is_place (get_or (seats_of names c) o 0))) (number c 2) 0 c.owner each
    where
      each : (j k : ℕ) → k ≡ 0 + j → j < number c 2 → (eqb (get_or c.kind k 0) 1 && not (is_place (get_or (seats_of names c) (get_or c.owner j 0) 0))) ≡ false
      each j k z l =
          let p = get_or c.owner j 0 in
          let h = g.now.placed j l in
          let row = tab_none (loses (names_of names)) (row_in (live c)) (number c 3) 0 e p (omega arith) (omega arith) in
          rw (seat_told p h)
          (by_bool (is_in Real (row_at c.accounts p) (names_of names))
          (λ b. rw (queue_none Real.external (message_in (live c)) p (number c 2) 0 c.owner (rw b at row) j k z l (omega (arith, g.now.messages, g.M·high, g.lengths.owner)) refl))
          (λ b. rw b (and_false (eqb (get_or c.kind k 0) 1))))

  lost_none : lost_externals (seats_of names c) c.kind (number c 2) c.owner ≡ 0 → some_of (loses (names_of names)) (order_of (live c)) ≡ false
  unfolding lost_externals order_of
  lost_none e = none_tab (loses (names_of names)) (row_in (live c)) (number c 3) 0 (λ p a l.
      by_bool (is_in Real (row_at c.accounts p) (names_of names))
      (λ b. rw b (none_queue Real.external (message_in (live c)) p (number c 2) 0 c.owner (each p b)))
      (λ b. rw b))
    where
      each : (p : ℕ) → is_in Real (row_at c.accounts p) (names_of names) ≡ true → (j k : ℕ) → k ≡ 0 + j → j < number c 2 → get_or c.owner j 0 ≡ p → eqb (get_or c.kind k 0) 1 ≡ false
      each p b j k z l o =
          let goes : not (is_place (get_or (seats_of names c) (get_or c.owner j 0) 0)) ≡ true = seat_told (get_or c.owner j 0) (g.now.placed j l) ∙ rw o b in
          fails (eqb (get_or c.kind k 0) 1) (not (is_place (get_or (seats_of names c) (get_or c.owner j 0) 0))) goes
          (counted_none (λ i o. eqb (get_or c.kind i 0) 1 && not (is_place (get_or (seats_of names c) o 0))) (number c 2) 0 c.owner e j k z l
          (omega (arith, g.now.messages, g.M·high, g.lengths.owner)))

  pub lost_is : eqb (lost_externals (seats_of names c) c.kind (number c 2) c.owner) 0 ≡ not (some_of (loses (names_of names)) (order_of (live c)))
  lost_is =
      by_bool (some_of (loses (names_of names)) (order_of (live c)))
      (λ t. rw t (ne_eqb _ 0 (λ z. clash _ t (lost_none z))))
      (λ f. rw f (eq-eqb _ 0 (none_lost f)))

  -- ---- what is left

  -- the order is that of the rows that are not named
  order_is : order_of (half_of (messages_left names c) (places_left names c) (compact_c (number c 2) (number c 3) (seats_of names c) c))
      ≡ keep (λ r. not (is_in Real r.acc (names_of names))) (order_of (live c))
  unfolding order_of
  order_is =
      order_after packable
      ∙ gather_keep (λ r. not (is_in Real r.acc (names_of names))) (stays_c names c) (row_in (live c)) (number c 3) 0 (λ p a l. ap not (named_is names c p))

  pub many_left : length (removed_by names c).numbers ≡ 528
  unfolding removed_c
  many_left = numbers_long (messages_left names c) (places_left names c) c.numbers ∙ g.many

  enough : 16 ≤ length (removed_by names c).numbers
  enough = omega (arith, many_left)

  pub number_left : (k : ℕ) → (leb 2 k && leb k 4) ≡ false → number (removed_by names c) k ≡ number c k
  unfolding removed_c
  number_left k h = number_stays (messages_left names c) (places_left names c) c.numbers k h

  pub order_left : order_of (live (removed_by names c)) ≡ keep (λ r. not (is_in Real r.acc (names_of names))) (order_of (live c))
  unfolding order_of removed_c
  order_left =
      ap₂ (λ (m p : ℕ). order_of (half_of m p (compact_c (number c 2) (number c 3) (seats_of names c) c)))
      (number_2 (messages_left names c) (places_left names c) c.numbers g.many) (number_3 (messages_left names c) (places_left names c) c.numbers g.many)
      ∙ order_is

  pub buffer_left : buffer_of (live (removed_by names c)) ≡ remove Real (names_of names) (buffer_of (live c))
  unfolding remove
  buffer_left =
      let marked = number_left 7 refl in
      let least = number_left 6 refl in
      λ i. record { order = order_left i; least = if_marked (marked i) (least i) }

  pub kept_left : kept (removed_by names c) ≡ kept c
  unfolding removed_c
  kept_left =
      let messages = number_left 9 refl in
      let places = number_left 10 refl in
      let ints = number_left 11 refl in
      let exts = number_left 12 refl in
      let least = number_left 13 refl in
      let marked = number_left 14 refl in
      kept_after packable (left_numbers (messages_left names c) (places_left names c) c.numbers)
      ∙ (λ i. record {
        owner = drop 1024 c.owner;
        kind = drop 1024 c.kind;
        form = drop 1024 c.form;
        time = drop 1024 c.time;
        address = drop 32768 c.address;
        hash = drop 32768 c.hash;
        accounts = drop 8192 c.accounts;
        messages = messages i;
        places = places i;
        ints = ints i;
        exts = exts i;
        least = least i;
        marked = marked i;
      })

  meant_left : meant (removed_by names c) ≡ with_now Real (meant c) (remove Real (names_of names) (meant c).now)
  unfolding with_now
  meant_left =
      let M = number_left 0 refl in
      let A = number_left 1 refl in
      let opened = number_left 8 refl in
      λ i. record { M = M i; A = A i; now = buffer_left i; kept = if_marked (opened i) (buffer_of (kept_left i)) }

  -- ---- the call
  pub remove_is : answer_of (remove_c names c) ≡ remove_accounts Real (rows_of (length names / 32) names) (meant c)
  unfolding remove_c remove_accounts remove_code answer
  remove_is =
      by_bool (some_of (loses (names_of names)) (order_of (live c)))
      (λ t. rw (lost_is, t))
      (λ f. rw (lost_is, f) (λ i. record { code = 0; after = (meant_indexed (places_left names c) (removed_by names c) enough ∙ meant_left) i }))
