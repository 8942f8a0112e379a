-- What is read off a group's columns is what the rules read off the group that they mean: the counts, whether an account has a list, its
-- messages one by one, the slots with their accounts, the buckets, is filled, and the last number. Assumes nothing.
use mathlib.Core.Path.{◌≡◌, refl, sym, ap, ◌∙◌}
use mathlib.Core.Bool.{true, false, cond, ◌&&◌}
use mathlib.Core.List.{List, [], ◌∷◌}
use mathlib.Core.Option.{none, some}
use Prim.Native.Nat.{ℕ, zero, suc, ◌+◌, ◌<◌, ◌≤◌}
use native.Mathlib.Nat.{not-suc-le-zero, le_refl, zero-add, add-zero}
use native.Mathlib.Numerals.{add-one}
use native.Mathlib.Omega.{arith}
use lib.Dec.{eqb, leb, ltb}
use lib.ListN.{length, get_or, take}
use borrow.Author.Tests.{eqb-true, eqb-false, ne_eqb, lt-ltb, le-ltb, ltb-true, ltb-false}
use Rattle.numbers.proofs.Bytes.{by_bool}
use Rattle.columns.specs.Lists.{tab_i, pick}
use Rattle.columns.specs.Rows.{row_at, rows_of, index_of}
use Rattle.columns.proofs.Tabs.{later, length_tab, pick_none}
use Rattle.rules.specs.World.{World, Row, nth, is_nil, joined, at_least0}
use Rattle.rules.specs.Queues.{has, at, all_msgs}
use Rattle.rules.specs.Fill.{is_filled, group_accounts, group_slots, next_number}
use Rattle.message.specs.Real.{Real}
use Rattle.buckets.specs.Cells.{mark, cells_of, bucket_of, index}
use Rattle.buckets.proofs.Cells.{at_index}
use Rattle.buckets.proofs.Entries.{Small, small_entries}
use Rattle.queues.specs.Cols.{Half}
use Rattle.queues.specs.Meant.{message_in, row_in, if_marked, order_of}
use Rattle.queues.specs.Look.{seat_of, row_of}
use Rattle.queues.proofs.Counts.{all_counted}
use Rattle.buffer_rules.proofs.LookRule.{pick_nth}
use Rattle.buffer_rules.proofs.AddOrder.{has_tab, has_none, seat_found, seat_first}
use Rattle.slots.specs.Table.{Table, count}
use Rattle.slots.specs.Meant.{listed, slot_in, slots_of, group_of}
use Rattle.slots.specs.Good.{Good}
use Rattle.slots.specs.Join.{next_by}

-- ---- lists

module _ {A : Type 0} where
  nth_tab : (f : ℕ → A) (m i p : ℕ) → nth p (tab_i m i f) ≡ cond (ltb p m) (some (f (i + p))) none
  unfolding nth tab_i
  nth_tab f zero i p = rw (le-ltb p 0 (omega arith))
  nth_tab f (suc m) i zero = rw (lt-ltb 0 (suc m) (omega arith), add-zero)
  nth_tab f (suc m) i (suc p) =
      let e : i + 1 + p ≡ i + suc p = omega arith in
      by_bool (ltb p m)
      (λ t. let y = ltb-true p m t in rw (lt-ltb (suc p) (suc m) (omega arith), ← e) (nth_tab f m (i + 1) p ∙ rw t))
      (λ n. let y = ltb-false p m n in rw (le-ltb (suc p) (suc m) (omega arith)) (nth_tab f m (i + 1) p ∙ rw n))

-- the entry at a place, where the mark stands for none
nth_entry : (xs : List ℕ) → Small xs → (k : ℕ) → nth k xs ≡ cond (ltb (get_or xs k mark) mark) (some (get_or xs k mark)) none
unfolding nth
nth_entry [] s k = refl
nth_entry (x ∷ xs) s zero = rw (lt-ltb x mark s.0)
nth_entry (x ∷ xs) s (suc k) = nth_entry xs s.1 k

-- ---- the list of an account in a table of rows

module _ (W : World) (a : W.Acc) (f : ℕ → Row W) where
  -- its first row is row k
  at_tab : (m i k : ℕ) → i ≤ k → k < i + m → W.same a (f k).acc ≡ true → ((j : ℕ) → i ≤ j → j < k → W.same a (f j).acc ≡ false)
      → at W a (tab_i m i f) ≡ (f k).msgs
  unfolding at tab_i
  at_tab zero i k l u e h = absurd (not-suc-le-zero {n = 0} (omega arith))
  at_tab (suc m) i k l u e h =
      by_bool (eqb i k)
      (λ t. rw (eqb-true i k t, e))
      (λ n. let z = eqb-false i k n in
      rw (h i (le_refl i) (omega arith)) (at_tab m (i + 1) k (omega arith) (omega arith) e (λ j b. h j (omega arith))))

  at_none : (m i : ℕ) → ((j : ℕ) → i ≤ j → j < i + m → W.same a (f j).acc ≡ false) → at W a (tab_i m i f) ≡ []
  unfolding at tab_i
  at_none zero i h = refl
  at_none (suc m) i h = rw (h i (le_refl i) (omega arith)) (at_none m (i + 1) (later m i h))

-- ---- an account of a half, by its seat

module _ (h : Half) (x : List ℕ) where
  seat_has : ltb (seat_of h.accounts h.places x) h.places ≡ has Real x (order_of h)
  unfolding order_of
  seat_has =
      let seat = seat_of h.accounts h.places x in
      by_bool (ltb seat h.places)
      (λ t. let l = ltb-true seat h.places t in
      t ∙ sym (has_tab Real x h.places 0 seat (row_in h) (omega arith) (omega arith) (seat_found h x l)))
      (λ n. let l = ltb-false seat h.places n in
      n ∙ sym (has_none Real x (row_in h) h.places 0 (λ j b c. seat_first h x j (omega arith))))

  pub seat_list : ((i : ℕ) → i < h.messages → get_or h.owner i 0 < h.places)
      → at Real x (order_of h) ≡ pick (message_in h) (seat_of h.accounts h.places x) h.messages 0 h.owner
  unfolding order_of
  seat_list placed =
      let seat = seat_of h.accounts h.places x in
      by_bool (ltb seat h.places)
      (λ t. let l = ltb-true seat h.places t in
      at_tab Real x (row_in h) h.places 0 seat (omega arith) (omega arith) (seat_found h x l) (λ j b. seat_first h x j))
      (λ n. let l = ltb-false seat h.places n in
      at_none Real x (row_in h) h.places 0 (λ j b c. seat_first h x j (omega arith))
      ∙ sym (pick_none (message_in h) seat h.messages 0 h.owner (λ j c e. let y = placed j c in omega arith)))

-- ---- the group

module _ (t : Table) where
  -- the counts of its Display line; those of internals and externals are fields of `Good`
  pub accounts_told : group_accounts Real (group_of t) ≡ count t 2
  unfolding group_accounts order_of
  accounts_told = length_tab (count t 2) 0 (row_in (listed t))

  pub slots_told : group_slots Real (group_of t) ≡ count t 1
  unfolding group_slots slots_of
  slots_told = length_tab (count t 1) 0 (slot_in t)

  pub contains_told : (x : List ℕ) → ltb (index_of x (rows_of (count t 2) t.accounts)) (count t 2) ≡ has Real x (group_of t).lists
  contains_told x = seat_has (listed t) x

  -- the slots, and the accounts of one
  pub slot_told : (s : ℕ) → nth s (group_of t).slots ≡ cond (ltb s (count t 1)) (some (slot_in t s)) none
  unfolding slots_of
  slot_told s = nth_tab (slot_in t) (count t 1) 0 s ∙ rw zero-add

  pub slot_account_told : (s k : ℕ) → nth k (pick (row_at t.accounts) s (count t 2) 0 t.home)
      ≡ cond (ltb (row_of t.home (count t 2) s k) (count t 2)) (some (row_at t.accounts (row_of t.home (count t 2) s k))) none
  slot_account_told s k = pick_nth (row_at t.accounts) (count t 2) s (count t 2) 0 k t.home (omega arith)

  -- the buckets
  pub filled_told : (asked height : ℕ) → is_filled Real asked height (group_of t) ≡ (leb asked (count t 1) && is_nil (joined (take height (index t.buckets))))
  unfolding is_filled slots_of
  filled_told asked height = rw (length_tab (count t 1) 0 (slot_in t))

  pub bucket_nth : (c : ℕ) → nth c (group_of t).index ≡ cond (ltb c 17) (some (bucket_of t.buckets c)) none
  unfolding index
  bucket_nth c = nth_tab (bucket_of t.buckets) 17 0 c ∙ rw zero-add

  pub bucket_told : (c : ℕ) → c < 17 → get_or (group_of t).index c [] ≡ bucket_of t.buckets c
  bucket_told c l = at_index t.buckets c l

  pub entry_told : (c k : ℕ) → nth k (bucket_of t.buckets c)
      ≡ cond (ltb (get_or (bucket_of t.buckets c) k mark) mark) (some (get_or (bucket_of t.buckets c) k mark)) none
  unfolding bucket_of
  entry_told c k = nth_entry (bucket_of t.buckets c) (small_entries (cells_of t.buckets c)) k

  -- the number of the first new slot
  pub next_told : next_by t.numbers ≡ next_number Real (group_of t).last
  unfolding next_by next_number
  next_told = next_of (count t 7) (count t 6)
    where
      next_of : (n x : ℕ) → cond (eqb n 0) 0 (x + 1) ≡ next_number Real (if_marked n x)
      next_of zero x = refl
      next_of (suc n) x = rw (ne_eqb (suc n) 0 (λ e. omega arith), add-one x)

module _ (t : Table) (good : Good t) where
  pub messages_told : length (all_msgs Real (group_of t).lists) ≡ count t 3
  messages_told = all_counted (listed t) (omega (arith, good.messages, good.lengths.owner)) good.placed

  -- the message at position k of the list of account x
  pub list_told : (x : List ℕ) (k : ℕ) →
      let row = row_of t.owner (count t 3) (seat_of t.accounts (count t 2) x) k in
      nth k (at Real x (group_of t).lists) ≡ cond (ltb row (count t 3)) (some (message_in (listed t) row)) none
  list_told x k =
      ap (nth k) (seat_list (listed t) x good.placed)
      ∙ pick_nth (message_in (listed t)) (count t 3) (seat_of t.accounts (count t 2) x) (count t 3) 0 k t.owner (omega arith)

  -- the last number, 0 if there is none
  pub last_told : at_least0 (group_of t).last ≡ count t 6
  unfolding at_least0
  last_told = last_of (count t 7) (count t 6) good.unmarked
    where
      last_of : (n x : ℕ) → (n ≡ 0 → x ≡ 0) → at_least0 (if_marked n x) ≡ x
      last_of zero x e = sym (e refl)
      last_of (suc n) x e = refl
