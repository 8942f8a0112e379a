-- The buffer after a fill: the packed columns mean the accounts that still hold a message, each with what is left of its queue, and the
-- minimum is cleared with the last account (`buffer_after_lem`). Assumes nothing.
use mathlib.Core.Path.{◌≡◌, refl, sym, ap, ap₂, ◌∙◌, subst}
use mathlib.Core.Bool.{Bool, true, false, cond, not}
use mathlib.Core.Logic.{◌⊎◌}
use mathlib.Core.List.{List, map}
use mathlib.Core.Option.{Option, none}
use Prim.Native.Nat.{ℕ, ◌+◌, ◌-◌, ◌<◌, ◌≤◌}
use native.Mathlib.Nat.{zero-add}
use native.Mathlib.Omega.{arith}
use lib.Dec.{eqb}
use lib.ListN.{length, get_or, set, take, drop, replicate, length-set, length-replicate, get_or-replicate}
use lib.Seq.{length-take-le, get_or-take, get_or-set_same, get_or-set_other}
use borrow.Author.Tests.{not-true, not-false}
use Rattle.numbers.proofs.Bytes.{by_bool}
use Rattle.columns.specs.Lists.{tab_i, pick, gather, count_i, rank}
use Rattle.columns.specs.Laid.{laid_at, held}
use Rattle.columns.specs.Rows.{row_at}
use Rattle.columns.proofs.Laid.{length_laid, get_d_laid_in, drop_laid}
use Rattle.columns.proofs.Scans.{get_d_map_i}
use Rattle.columns.proofs.Tabs.{pick_cong}
use Rattle.rules.specs.World.{Row, Buffer, is_nil, keep}
use Rattle.rules.specs.Passes.{State}
use Rattle.rules.specs.Fill.{buffer_after}
use Rattle.rules.specs.Calls.{with_now}
use Rattle.message.specs.Real.{Real}
use Rattle.queues.specs.Cols.{Cols, Half, live, number, with_numbers}
use Rattle.queues.specs.Cols.{kept as kept_half}
use Rattle.queues.specs.Meant.{message_in, row_in, order_of, buffer_of, if_marked, meant}
use Rattle.queues.specs.Good.{Long, Good}
use Rattle.queues.proofs.Indexing.{live_indexed, meant_indexed}
use Rattle.queues.specs.Compact.{gone, moved_c, compact_c, seats_c}
use Rattle.settle.proofs.Copying.{gathered}
use Rattle.settle.specs.Ends.{emptied, left_counts, with_owners, seats_left, settled_c, filled_by, holders, filled_c}
use Rattle.settle.proofs.Counts.{counts_long}
use Rattle.moves.specs.declared.Fixed.{Fixed}
use Rattle.meaning.specs.Meaning.{Numbers, Columns, Setting, row, order_row, state_of}
use Rattle.renaming.specs.Renaming.{Renaming, on_row, on_buffer}
use Rattle.buffer_rules.proofs.CompactRule.{half_of, Packable, left_of, order_after, kept_after}
use Rattle.settle_rules.specs.Facts.{BufferFacts}
use Rattle.settle_rules.proofs.Maps.{gather_map, map_pick, pick_laid, nil_length, nil_map}

-- ---- the numbers that are left

module _ (r b i : ℕ) (ns : List ℕ) where
  abbrev kept : List ℕ
  kept = set (set (set (set ns 2 r) 3 b) 4 i) 5 (r - i)

  kept_at : (k : ℕ) → (k ≡ 2 → ⊥) → (k ≡ 3 → ⊥) → (k ≡ 4 → ⊥) → (k ≡ 5 → ⊥) → get_or kept k 0 ≡ get_or ns k 0
  kept_at k x y z w =
      get_or-set_other (set (set (set ns 2 r) 3 b) 4 i) 5 k (r - i) 0 w
      ∙ get_or-set_other (set (set ns 2 r) 3 b) 4 k i 0 z
      ∙ get_or-set_other (set ns 2 r) 3 k b 0 y
      ∙ get_or-set_other ns 2 k r 0 x

  -- the minimum apart, the counts do not look at the accounts
  count_at : (k : ℕ) → (k ≡ 6 → ⊥) → (k ≡ 7 → ⊥) → get_or (left_counts r b i ns) k 0 ≡ get_or kept k 0
  unfolding left_counts
  count_at k x y =
      by_bool (eqb b 0)
      (λ e. rw e (get_or-set_other (set kept 6 0) 7 k 0 0 y ∙ get_or-set_other kept 6 k 0 0 x))
      (λ e. rw e)

  pub count_stays : (k : ℕ) → (k ≡ 2 → ⊥) → (k ≡ 3 → ⊥) → (k ≡ 4 → ⊥) → (k ≡ 5 → ⊥) → (k ≡ 6 → ⊥) → (k ≡ 7 → ⊥) → get_or (left_counts r b i ns) k 0 ≡ get_or ns k 0
  count_stays k a c d e g h = count_at k g h ∙ kept_at k a c d e

  module _ (long : length ns ≡ 528) where
    pub count_2 : get_or (left_counts r b i ns) 2 0 ≡ r
    count_2 =
        count_at 2 (λ e. omega arith) (λ e. omega arith)
        ∙ get_or-set_other (set (set (set ns 2 r) 3 b) 4 i) 5 2 (r - i) 0 (λ e. omega arith)
        ∙ get_or-set_other (set (set ns 2 r) 3 b) 4 2 i 0 (λ e. omega arith)
        ∙ get_or-set_other (set ns 2 r) 3 2 b 0 (λ e. omega arith)
        ∙ get_or-set_same ns 2 r 0 (omega arith)

    pub count_3 : get_or (left_counts r b i ns) 3 0 ≡ b
    count_3 =
        count_at 3 (λ e. omega arith) (λ e. omega arith)
        ∙ get_or-set_other (set (set (set ns 2 r) 3 b) 4 i) 5 3 (r - i) 0 (λ e. omega arith)
        ∙ get_or-set_other (set (set ns 2 r) 3 b) 4 3 i 0 (λ e. omega arith)
        ∙ get_or-set_same (set ns 2 r) 3 b 0 (omega (arith, length-set ns 2 r))

    pub count_4 : get_or (left_counts r b i ns) 4 0 ≡ i
    count_4 =
        count_at 4 (λ e. omega arith) (λ e. omega arith)
        ∙ get_or-set_other (set (set (set ns 2 r) 3 b) 4 i) 5 4 (r - i) 0 (λ e. omega arith)
        ∙ get_or-set_same (set (set ns 2 r) 3 b) 4 i 0 (omega (arith, length-set (set ns 2 r) 3 b, length-set ns 2 r))

    pub count_5 : get_or (left_counts r b i ns) 5 0 ≡ r - i
    count_5 =
        count_at 5 (λ e. omega arith) (λ e. omega arith)
        ∙ get_or-set_same (set (set (set ns 2 r) 3 b) 4 i) 5 (r - i) 0 (omega (arith, length-set (set (set ns 2 r) 3 b) 4 i, length-set (set ns 2 r) 3 b, length-set ns 2 r))

    -- the minimum and its mark, cleared exactly if no account is left
    pub count_6 : get_or (left_counts r b i ns) 6 0 ≡ cond (eqb b 0) 0 (get_or ns 6 0)
    unfolding left_counts
    count_6 =
        let wide = length-set (set (set (set ns 2 r) 3 b) 4 i) 5 (r - i) ∙ length-set (set (set ns 2 r) 3 b) 4 i ∙ length-set (set ns 2 r) 3 b ∙ length-set ns 2 r in
        by_bool (eqb b 0)
        (λ e. rw e (get_or-set_other (set kept 6 0) 7 6 0 0 (λ z. omega arith) ∙ get_or-set_same kept 6 0 0 (omega (arith, wide))))
        (λ e. rw e (kept_at 6 (λ z. omega arith) (λ z. omega arith) (λ z. omega arith) (λ z. omega arith)))

    pub count_7 : get_or (left_counts r b i ns) 7 0 ≡ cond (eqb b 0) 0 (get_or ns 7 0)
    unfolding left_counts
    count_7 =
        let wide = length-set (set (set (set ns 2 r) 3 b) 4 i) 5 (r - i) ∙ length-set (set (set ns 2 r) 3 b) 4 i ∙ length-set (set ns 2 r) 3 b ∙ length-set ns 2 r in
        by_bool (eqb b 0)
        (λ e. rw e (get_or-set_same (set kept 6 0) 7 0 0 (omega (arith, wide, length-set kept 6 0))))
        (λ e. rw e (kept_at 7 (λ z. omega arith) (λ z. omega arith) (λ z. omega arith) (λ z. omega arith)))

    pub least_left : if_marked (get_or (left_counts r b i ns) 7 0) (get_or (left_counts r b i ns) 6 0) ≡ cond (eqb b 0) none (if_marked (get_or ns 7 0) (get_or ns 6 0))
    least_left = rw (count_7, count_6) (by_bool (eqb b 0) (λ e. rw e) (λ e. rw e))

-- ---- the seats

seat_at : (goes : ℕ → Bool) (a w x p : ℕ) → a ≤ w → p < a → get_or (seats_c goes a (replicate w x)) p 0 ≡ cond (goes p) x (rank (λ q. not (goes q)) p)
unfolding seats_c
seat_at goes a w x p h l =
    get_d_map_i (λ p o. cond (goes p) o (rank (λ q. not (goes q)) p)) 0 a 0 p p (replicate w x) (sym (zero-add p)) l (omega (arith, length-replicate w x))
    ∙ ap (λ (o : ℕ). cond (goes p) o (rank (λ q. not (goes q)) p)) (get_or-replicate w p x 0 (omega arith))

module _ {ext : ℕ → Bool} {time : ℕ → ℕ} {f : Renaming (Numbers ext time) Real} {fx : Fixed} {c : Cols} {left : List ℕ}
    (v : BufferFacts ext time f fx c left) where
  -- the places that stay, their seats, and the columns before the packing
  abbrev pub stays_at : ℕ → Bool
  stays_at p = not (emptied (number c 2) left p)

  abbrev pub seats_in : List ℕ
  seats_in = seats_left (number c 2) (number c 3) left

  abbrev pub before : Cols
  before = with_owners (number c 2) left c

  pub few : number c 2 ≤ 1024
  few = omega (arith, v.good.now.messages, v.good.M·high)

  seated : number c 3 ≤ 256
  seated = omega (arith, v.good.now.places, v.good.A·high)

  pub taken_long : length (take (number c 2) left) ≡ number c 2
  taken_long = length-take-le (number c 2) left (omega (arith, v.long, few))

  pub fits : 0 + length (take (number c 2) left) ≤ length c.owner
  fits = omega (arith, taken_long, few, v.good.lengths.owner)

  pub owner_at : (i : ℕ) → i < number c 2 → get_or before.owner i 0 ≡ get_or left i 0
  owner_at i l =
      ap (λ (k : ℕ). get_or before.owner k 0) (sym (zero-add i))
      ∙ get_d_laid_in 0 (take (number c 2) left) c.owner fits i 0 (omega (arith, taken_long))
      ∙ get_or-take (number c 2) left i 0 l

  long_before : Long before
  long_before =
      let l = v.good.lengths in
      record {
        owner = length_laid 0 (take (number c 2) left) c.owner fits ∙ l.owner;
        kind = l.kind;
        form = l.form;
        time = l.time;
        address = l.address;
        hash = l.hash;
        accounts = l.accounts;
      }

  seat_is : (p : ℕ) → p < number c 3 → get_or seats_in p 0 ≡ cond (emptied (number c 2) left p) gone (rank stays_at p)
  unfolding seats_left
  seat_is p l = seat_at (emptied (number c 2) left) (number c 3) 256 gone p seated l

  pub packable : Packable (number c 2) (number c 3) stays_at seats_in before
  packable = record {
    long = long_before;
    messages = few;
    places = seated;
    owners = λ i l. subst (λ (o : ℕ). (o < number c 3) ⊎ (256 ≤ o)) (sym (owner_at i l)) (v.owners i l);
    stay = λ p l e. seat_is p l ∙ rw (not-true (emptied (number c 2) left p) e);
    go = λ p l e. rw (seat_is p l, not-false (emptied (number c 2) left p) e) (omega arith);
  }

  -- the row of a place, by the renaming
  row_is : (p : ℕ) → p < number c 3 → row_in (half_of (number c 2) (number c 3) before) p ≡ on_row f (order_row ext time (number c 2) left p)
  row_is p l =
      let n = number c 2 in
      let acc = sym (v.acc p l) in
      let msgs =
      pick_laid (message_in (live c)) p n left c.owner (omega (arith, v.long, few))
      ∙ pick_cong (message_in (live c)) f.msg p n 0 left (λ j a b. sym (v.msg j (omega arith)))
      ∙ sym (map_pick f.msg (λ i. i) p n 0 left) in
      λ i. record { acc = acc i; msgs = msgs i }

  pub order_is : gather stays_at (row_in (half_of (number c 2) (number c 3) before)) (number c 3) 0
      ≡ map (on_row f) (keep (λ r. not (is_nil r.msgs)) (tab_i (number c 3) 0 (order_row ext time (number c 2) left)))
  unfolding emptied
  order_is = gather_map stays_at _ (on_row f) _ (order_row ext time (number c 2) left) (number c 3) 0 (λ j a l. refl) (λ j a l e. row_is j (omega arith))

  -- ---- what is left

  abbrev pub messages_left : ℕ
  messages_left = left_of (number c 2) seats_in before

  abbrev pub places_left : ℕ
  places_left = rank stays_at (number c 3)

  abbrev pub made : Cols
  made = compact_c (number c 2) (number c 3) seats_in before

  abbrev pub counts_left : List ℕ
  counts_left = left_counts messages_left places_left (count_i (λ i k. not (eqb k 1)) messages_left 0 made.kind) c.numbers

  pub many_left : length counts_left ≡ 528
  many_left = counts_long messages_left places_left (count_i (λ i k. not (eqb k 1)) messages_left 0 made.kind) c.numbers ∙ v.good.many

  -- the index apart
  pub filled_is : filled_by (number c 2) (number c 3) left c ≡ with_numbers counts_left made
  unfolding filled_by settled_c
  filled_is = refl

  enough : 16 ≤ length (filled_by (number c 2) (number c 3) left c).numbers
  unfolding filled_by settled_c
  enough = omega (arith, many_left)

  -- the index says nothing of what is held
  pub live_filled : live (filled_c left c) ≡ live (filled_by (number c 2) (number c 3) left c)
  live_filled = live_indexed (holders left c) (filled_by (number c 2) (number c 3) left c) enough

  meant_filled : meant (filled_c left c) ≡ meant (filled_by (number c 2) (number c 3) left c)
  meant_filled = meant_indexed (holders left c) (filled_by (number c 2) (number c 3) left c) enough

  order_left : order_of (live (with_numbers counts_left made))
      ≡ map (on_row f) (keep (λ r. not (is_nil r.msgs)) (tab_i (number c 3) 0 (order_row ext time (number c 2) left)))
  unfolding order_of
  order_left =
      ap₂ (λ (m p : ℕ). order_of (half_of m p made))
      (count_2 messages_left places_left _ c.numbers v.good.many) (count_3 messages_left places_left _ c.numbers v.good.many)
      ∙ order_after packable
      ∙ order_is

  none_left : eqb places_left 0 ≡ is_nil (keep (λ r. not (is_nil r.msgs)) (tab_i (number c 3) 0 (order_row ext time (number c 2) left)))
  none_left =
      let rows = gather stays_at (row_in (half_of (number c 2) (number c 3) before)) (number c 3) 0 in
      ap (λ (k : ℕ). eqb k 0) (sym (gathered stays_at (row_in (half_of (number c 2) (number c 3) before)) (number c 3)))
      ∙ sym (nil_length rows)
      ∙ ap is_nil order_is
      ∙ nil_map (on_row f) _

  least_is : (bf : Buffer (Numbers ext time)) → bf.least ≡ if_marked (number c 7) (number c 6)
      → if_marked (get_or counts_left 7 0) (get_or counts_left 6 0)
      ≡ cond (is_nil (keep (λ r. not (is_nil r.msgs)) (tab_i (number c 3) 0 (order_row ext time (number c 2) left)))) none bf.least
  least_is bf e =
      least_left messages_left places_left _ c.numbers v.good.many
      ∙ ap₂ (λ (t : Bool) (l : Option ℕ). cond t none l) none_left (sym e)

  -- the order on numbers, by the buffer's counts and by those of the fill
  order_same : keep (λ r. not (is_nil r.msgs)) (tab_i (number c 3) 0 (order_row ext time (number c 2) left))
      ≡ keep (λ r. not (is_nil r.msgs)) (tab_i fx.places 0 (order_row ext time fx.rows left))
  order_same = ap₂ (λ (a n : ℕ). keep (λ r. not (is_nil r.msgs)) (tab_i a 0 (order_row ext time n left))) (sym v.places) (sym v.rows)

  -- the rest of the numbers stays, and so does what was held at begin
  pub number_stays : (k : ℕ) → (k ≡ 2 → ⊥) → (k ≡ 3 → ⊥) → (k ≡ 4 → ⊥) → (k ≡ 5 → ⊥) → (k ≡ 6 → ⊥) → (k ≡ 7 → ⊥) → get_or counts_left k 0 ≡ number c k
  number_stays = count_stays messages_left places_left _ c.numbers

  pub kept_stays : kept_half (with_numbers counts_left made) ≡ kept_half c
  kept_stays =
      let owner = drop_laid 0 (take (number c 2) left) c.owner fits 1024 (omega (arith, taken_long, few)) in
      let messages = number_stays 9 (λ e. omega arith) (λ e. omega arith) (λ e. omega arith) (λ e. omega arith) (λ e. omega arith) (λ e. omega arith) in
      let places = number_stays 10 (λ e. omega arith) (λ e. omega arith) (λ e. omega arith) (λ e. omega arith) (λ e. omega arith) (λ e. omega arith) in
      let ints = number_stays 11 (λ e. omega arith) (λ e. omega arith) (λ e. omega arith) (λ e. omega arith) (λ e. omega arith) (λ e. omega arith) in
      let exts = number_stays 12 (λ e. omega arith) (λ e. omega arith) (λ e. omega arith) (λ e. omega arith) (λ e. omega arith) (λ e. omega arith) in
      let least = number_stays 13 (λ e. omega arith) (λ e. omega arith) (λ e. omega arith) (λ e. omega arith) (λ e. omega arith) (λ e. omega arith) in
      let marked = number_stays 14 (λ e. omega arith) (λ e. omega arith) (λ e. omega arith) (λ e. omega arith) (λ e. omega arith) (λ e. omega arith) in
      kept_after packable counts_left
      ∙ (λ i. record {
        owner = owner i;
        kind = drop 1024 c.kind;
        form = drop 1024 c.form;
        time = drop 1024 c.time;
        address = drop 32768 c.address;
        hash = drop 32768 c.hash;
        accounts = drop 8192 c.accounts;
        messages = messages i;
        places = places i;
        ints = ints i;
        exts = exts i;
        least = least i;
        marked = marked i;
      })

  store_packed : meant (filled_by (number c 2) (number c 3) left c)
      ≡ with_now Real (meant c) (buffer_of (live (filled_by (number c 2) (number c 3) left c)))
  unfolding with_now filled_by settled_c
  store_packed =
      let M = number_stays 0 (λ e. omega arith) (λ e. omega arith) (λ e. omega arith) (λ e. omega arith) (λ e. omega arith) (λ e. omega arith) in
      let A = number_stays 1 (λ e. omega arith) (λ e. omega arith) (λ e. omega arith) (λ e. omega arith) (λ e. omega arith) (λ e. omega arith) in
      let opened = number_stays 8 (λ e. omega arith) (λ e. omega arith) (λ e. omega arith) (λ e. omega arith) (λ e. omega arith) (λ e. omega arith) in
      λ i. record { M = M i; A = A i; now = buffer_of (live (with_numbers counts_left made)); kept = if_marked (opened i) (buffer_of (kept_stays i)) }

  pub store_after : meant (filled_c left c) ≡ with_now Real (meant c) (buffer_of (live (filled_c left c)))
  store_after = meant_filled ∙ store_packed ∙ ap (λ (h : Half). with_now Real (meant c) (buffer_of h)) (sym live_filled)

-- what the settled columns mean is what the rules leave of the buffer, by the renaming
buffer_packed : {ext : ℕ → Bool} {time : ℕ → ℕ} {f : Renaming (Numbers ext time) Real} {fx : Fixed} {c : Cols} (m : Columns)
    → BufferFacts ext time f fx c m.store.owner → (b : Setting) (o : ℕ) (bf : Buffer (Numbers ext time))
    → bf.least ≡ if_marked (number c 7) (number c 6)
    → buffer_of (live (filled_by (number c 2) (number c 3) m.store.owner c)) ≡ on_buffer f (buffer_after (Numbers ext time) bf (state_of ext time fx b o m))
unfolding state_of buffer_after filled_by settled_c
buffer_packed {ext} {time} {f} {fx} {c} m v b o bf e =
    let order = order_left v ∙ ap (map (on_row f)) (order_same v) in
    let least = least_is v bf e ∙ ap (λ l. cond (is_nil l) none bf.least) (order_same v) in
    λ i. record { order = order i; least = least i }

pub buffer_after_lem : {ext : ℕ → Bool} {time : ℕ → ℕ} {f : Renaming (Numbers ext time) Real} {fx : Fixed} {c : Cols} (m : Columns)
    → BufferFacts ext time f fx c m.store.owner → (b : Setting) (o : ℕ) (bf : Buffer (Numbers ext time))
    → bf.least ≡ if_marked (number c 7) (number c 6)
    → buffer_of (live (filled_c m.store.owner c)) ≡ on_buffer f (buffer_after (Numbers ext time) bf (state_of ext time fx b o m))
buffer_after_lem m v b o bf e = ap buffer_of (live_filled v) ∙ buffer_packed m v b o bf e
