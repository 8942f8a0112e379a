-- The buffer after a fill is well formed, where what it means is tidy (`good_buffer_after`). The internals that the columns count are those of
-- the queues, for every message has its owner in the order (`kinds_counted`). Assumes nothing.
use mathlib.Core.Path.{◌≡◌, refl, sym, ap, subst, ◌∙◌}
use mathlib.Core.Bool.{Bool, true, false, cond, not, ◌&&◌}
use mathlib.Core.List.{List, [], ◌∷◌}
use Prim.Native.Nat.{ℕ, zero, suc, ◌+◌, ◌<◌, ◌≤◌}
use native.Mathlib.Nat.{not-suc-le-zero, le_of_suc-le-suc, add-zero}
use native.Mathlib.Omega.{arith}
use lib.Dec.{eqb, leb}
use lib.ListN.{length, get_or, take}
use borrow.Author.Tests.{eqb-true, eqb-false, le-leb, lt-leb, leb-true, leb-false}
use Rattle.numbers.proofs.Bytes.{by_bool, clash}
use Rattle.columns.specs.Lists.{tab_i, pick, count_i}
use Rattle.columns.proofs.Laid.{get_d_laid_behind}
use Rattle.columns.proofs.Gathers.{rank_le}
use Rattle.rules.specs.World.{joined, keep}
use Rattle.rules.specs.Queues.{all_msgs, internals, held_ints, held_exts}
use Rattle.rules.specs.Kept.{TidyBuffer}
use Rattle.demands.proofs.Accounts.{num, num_nil, num_append}
use Rattle.message.specs.Real.{Real}
use Rattle.message.specs.declared.Message.{Message}
use Rattle.queues.specs.Cols.{Cols, Half, live, number, with_numbers}
use Rattle.queues.specs.Meant.{message_in, row_in, order_of, buffer_of}
use Rattle.queues.specs.Good.{Long, GoodHalf, Blank, Formed, Good}
use Rattle.queues.proofs.Indexing.{good_indexed}
use Rattle.queues.proofs.Counts.{all_counted, both_kinds}
use Rattle.settle.specs.Ends.{filled_by, holders, filled_c, settled_c}
use Rattle.moves.specs.declared.Fixed.{Fixed}
use Rattle.meaning.specs.Meaning.{Numbers}
use Rattle.renaming.specs.Renaming.{Renaming}
use Rattle.buffer_rules.proofs.Finds.{none_counted}
use Rattle.buffer_rules.proofs.CompactRule.{staying, long_after, placed_after, kinds_after, forms_after, blank_after}
use Rattle.settle_rules.specs.Facts.{BufferFacts}
use Rattle.settle_rules.proofs.BufferAfter.{count_2, count_3, count_4, count_5, count_6, count_7, stays_at, seats_in, before}
use Rattle.settle_rules.proofs.BufferAfter.{few, taken_long, fits, packable, messages_left, places_left, made, counts_left, many_left, live_filled, number_stays, kept_stays}

-- ---- the messages that pass a test, by their owners

-- two counts over two columns, cell by cell
count_same : (g h : ℕ → ℕ → Bool) (m i : ℕ) (xs ys : List ℕ) → m ≤ length xs → m ≤ length ys
    → ((j k : ℕ) → k ≡ i + j → j < m → g k (get_or xs j 0) ≡ h k (get_or ys j 0)) → count_i g m i xs ≡ count_i h m i ys
unfolding count_i
count_same g h zero i xs ys a b e = refl
count_same g h (suc m) i [] ys a b e = absurd (not-suc-le-zero a)
count_same g h (suc m) i (x ∷ xs) [] a b e = absurd (not-suc-le-zero b)
count_same g h (suc m) i (x ∷ xs) (y ∷ ys) a b e =
    rw (
      e 0 i (sym (add-zero i)) (omega arith),
      count_same g h m (i + 1) xs ys (le_of_suc-le-suc a) (le_of_suc-le-suc b) (λ j k z l. e (suc j) k (omega arith) (omega arith)),
    )

module _ (t : ℕ → Bool) where
  -- an owner from p on is p, or one from the next on
  first_or_later : (p k o : ℕ) → cond (eqb o p && t k) 1 0 + cond (leb (p + 1) o && t k) 1 0 ≡ cond (leb p o && t k) 1 0
  first_or_later p k o =
      by_bool (eqb o p)
      (λ e. let z = eqb-true o p e in rw (e, lt-leb (p + 1) o (omega arith), le-leb p o (omega arith)) (omega arith))
      (λ e. let z = eqb-false o p e in by_bool (leb p o)
      (λ y. let w = leb-true p o y in rw (e, y, le-leb (p + 1) o (omega arith)) (omega arith))
      (λ y. let w = leb-false p o y in rw (e, y, lt-leb (p + 1) o (omega arith))))

  count_split : (p m k : ℕ) (os : List ℕ)
      → count_i (λ j o. eqb o p && t j) m k os + count_i (λ j o. leb (p + 1) o && t j) m k os ≡ count_i (λ j o. leb p o && t j) m k os
  unfolding count_i
  count_split p zero k os = refl
  count_split p (suc m) k [] = refl
  count_split p (suc m) k (o ∷ os) = omega (arith, first_or_later p k o, count_split p m (k + 1) os)

-- of one queue
num_pick : {A : Type 0} (t : A → Bool) (f : ℕ → A) (p m k : ℕ) (os : List ℕ) → num t (pick f p m k os) ≡ count_i (λ j o. eqb o p && t (f j)) m k os
unfolding pick count_i keep
num_pick t f p zero k os = refl
num_pick t f p (suc m) k [] = refl
num_pick t f p (suc m) k (o ∷ os) =
    let r = num_pick t f p m (k + 1) os in
    by_bool (eqb o p)
    (λ e. by_bool (t (f k)) (λ b. rw (e, b) (omega arith)) (λ b. rw (e, b) (omega arith)))
    (λ e. rw e (omega arith))

module _ (h : Half) where
  -- of the queues from place i on, no owner lying behind them
  num_order : (t : Message → Bool) (a i : ℕ) → ((j : ℕ) → j < h.messages → get_or h.owner j 0 < i + a)
      → num t (all_msgs Real (tab_i a i (row_in h))) ≡ count_i (λ j o. leb i o && t (message_in h j)) h.messages 0 h.owner
  unfolding all_msgs tab_i joined
  num_order t zero i l =
      num_nil t
      ∙ sym (none_counted (λ j o. leb i o && t (message_in h j)) h.messages 0 h.owner
      (λ j k e b. let z = l j b in rw (lt-leb i (get_or h.owner j 0) (omega arith))))
  num_order t (suc a) i l =
      let r = num_order t a (i + 1) (λ j b. let z = l j b in omega arith) in
      let q = num_pick t (message_in h) i h.messages 0 h.owner in
      num_append t (pick (message_in h) i h.messages 0 h.owner) _
      ∙ omega (arith, r, q, count_split (λ j. t (message_in h j)) i h.messages 0 h.owner)

  -- the internals of the buffer are the kinds that are not 1
  pub kinds_counted : h.messages ≤ length h.owner → h.messages ≤ length h.kind → ((i : ℕ) → i < h.messages → get_or h.owner i 0 < h.places)
      → held_ints Real (buffer_of h) ≡ count_i (λ i k. not (eqb k 1)) h.messages 0 h.kind
  unfolding held_ints internals order_of
  kinds_counted a b l =
      num_order (λ m. not (Real.external m)) h.places 0 (λ j k. let z = l j k in omega arith)
      ∙ count_same (λ j o. leb 0 o && not (eqb (get_or h.kind j 0) 1)) (λ j k. not (eqb k 1)) h.messages 0 h.owner h.kind a b
      (λ j k e y. let z : k ≡ j = omega arith in rw (z, le-leb 0 (get_or h.owner j 0) (omega arith)))

-- ---- the buffer

module _ {ext : ℕ → Bool} {time : ℕ → ℕ} {f : Renaming (Numbers ext time) Real} {fx : Fixed} {c : Cols} {left : List ℕ}
    (v : BufferFacts ext time f fx c left) where
  abbrev filled : Cols
  filled = with_numbers (counts_left v) (made v)

  abbrev ints_left : ℕ
  ints_left = count_i (λ i k. not (eqb k 1)) (messages_left v) 0 (made v).kind

  -- a number that no fill changes
  stays : (k : ℕ) → (leb 2 k && leb k 7) ≡ false → number filled k ≡ number c k
  stays k h =
      number_stays v k
      (λ e. clash true refl (rw e at h)) (λ e. clash true refl (rw e at h)) (λ e. clash true refl (rw e at h))
      (λ e. clash true refl (rw e at h)) (λ e. clash true refl (rw e at h)) (λ e. clash true refl (rw e at h))

  messages_left_lem : number filled 2 ≡ messages_left v
  messages_left_lem = count_2 (messages_left v) (places_left v) ints_left c.numbers v.good.many

  places_left_lem : number filled 3 ≡ places_left v
  places_left_lem = count_3 (messages_left v) (places_left v) ints_left c.numbers v.good.many

  few_left : number filled 2 ≤ number c 2
  few_left = omega (arith, messages_left_lem, rank_le (staying (number c 2) (seats_in v) (before v)) (number c 2))

  long_left : Long filled
  long_left = let l = long_after (packable v) in record {
    owner = l.owner;
    kind = l.kind;
    form = l.form;
    time = l.time;
    address = l.address;
    hash = l.hash;
    accounts = l.accounts;
  }

  -- ---- the cells

  -- the owners behind the messages are those before the fill
  blank_before : Blank (before v)
  blank_before =
      let b = v.good.blank in
      record {
        owner = λ i h l. get_d_laid_behind 0 (take (number c 2) left) c.owner (fits v) i 0 (omega (arith, taken_long v)) ∙ b.owner i h l;
        kind = b.kind;
        form = b.form;
        time = b.time;
        address = b.address;
        hash = b.hash;
        accounts = b.accounts;
        last = b.last;
      }

  blank_left : Blank filled
  blank_left = blank_after (packable v) (counts_left v) messages_left_lem places_left_lem (stays 15 refl ∙ v.good.blank.last) refl refl blank_before

  placed_left : (i : ℕ) → i < number filled 2 → get_or filled.owner i 0 < number filled 3
  placed_left i l = rw places_left_lem (placed_after (packable v) i (rw messages_left_lem at l))

  kinds_left : (i : ℕ) → i < number filled 2 → get_or filled.kind i 0 ≤ 1
  kinds_left i l = kinds_after (packable v) (λ k. k ≤ 1) v.good.now.kinds i (rw messages_left_lem at l)

  forms_left : (i : ℕ) → i < number filled 2 → get_or filled.form i 0 ≤ 1
  forms_left i l = forms_after (packable v) (λ k. k ≤ 1) v.good.now.forms i (rw messages_left_lem at l)

  -- ---- the counts

  owned : number filled 2 ≤ length filled.owner
  owned = omega (arith, few_left, few v, long_left.owner)

  ints_left_lem : number filled 4 ≡ held_ints Real (buffer_of (live filled))
  ints_left_lem =
      count_4 (messages_left v) (places_left v) ints_left c.numbers v.good.many
      ∙ ap (λ (n : ℕ). count_i (λ i k. not (eqb k 1)) n 0 (made v).kind) (sym messages_left_lem)
      ∙ sym (kinds_counted (live filled) owned (omega (arith, few_left, few v, long_left.kind)) placed_left)

  both_left : held_ints Real (buffer_of (live filled)) + held_exts Real (buffer_of (live filled)) ≡ number filled 2
  unfolding held_ints held_exts
  both_left = both_kinds Real (all_msgs Real (order_of (live filled))) ∙ all_counted (live filled) owned placed_left

  exts_left : number filled 5 ≡ held_exts Real (buffer_of (live filled))
  exts_left =
      let i = count_4 (messages_left v) (places_left v) ints_left c.numbers v.good.many in
      let e = count_5 (messages_left v) (places_left v) ints_left c.numbers v.good.many in
      omega (arith, i, e, messages_left_lem, ints_left_lem, both_left)

  -- ---- the minimum

  mark_is : number filled 7 ≡ cond (eqb (places_left v) 0) 0 (number c 7)
  mark_is = count_7 (messages_left v) (places_left v) ints_left c.numbers v.good.many

  least_is : number filled 6 ≡ cond (eqb (places_left v) 0) 0 (number c 6)
  least_is = count_6 (messages_left v) (places_left v) ints_left c.numbers v.good.many

  marked_left : number filled 7 ≤ 1
  marked_left = rw mark_is (by_bool (eqb (places_left v) 0) (λ e. rw e (omega arith)) (λ e. rw e v.good.now.marked))

  unmarked_left : number filled 7 ≡ 0 → number filled 6 ≡ 0
  unmarked_left z =
      let y = sym mark_is ∙ z in
      least_is ∙ by_bool (eqb (places_left v) 0) (λ e. rw e) (λ e. rw e (v.good.now.unmarked (rw e at y)))

  -- ---- the halves

  half_left : TidyBuffer Real (buffer_of (live filled)) → GoodHalf (number c 0) (number c 1) (live filled)
  half_left tidy = record {
    messages = omega (arith, few_left, v.good.now.messages);
    places = omega (arith, places_left_lem, rank_le (stays_at v) (number c 3), v.good.now.places);
    placed = placed_left;
    kinds = kinds_left;
    forms = forms_left;
    ints = ints_left_lem;
    exts = exts_left;
    marked = marked_left;
    unmarked = unmarked_left;
    tidy = tidy;
  }

  -- but for the index, which is made anew
  good_left : TidyBuffer Real (buffer_of (live filled)) → Formed (Unit {0}) filled
  good_left tidy =
      let g = v.good in
      let M = stays 0 refl in
      let A = stays 1 refl in
      record {
        lengths = long_left;
        many = many_left v;
        M·low = rw M g.M·low;
        M·high = rw M g.M·high;
        A·low = rw A g.A·low;
        A·high = rw A g.A·high;
        now = rw (M, A) (half_left tidy);
        blank = blank_left;
        opened = rw (stays 8 refl) g.opened;
        then = λ e. rw (M, A) (subst (GoodHalf (number c 0) (number c 1)) (sym (kept_stays v)) (g.then (sym (stays 8 refl) ∙ e)));
        index = tt;
      }

-- the settled columns are well formed, if the buffer that they mean is tidy
pub good_buffer_after : {ext : ℕ → Bool} {time : ℕ → ℕ} {f : Renaming (Numbers ext time) Real} {fx : Fixed} {c : Cols} {left : List ℕ}
    → BufferFacts ext time f fx c left → TidyBuffer Real (buffer_of (live (filled_c left c))) → Good (filled_c left c)
unfolding filled_by settled_c
good_buffer_after {c = c} {left = left} v tidy =
    good_indexed (holders left c) (filled_by (number c 2) (number c 3) left c) (places_left_lem v)
    (good_left v (subst (λ (h : Half). TidyBuffer Real (buffer_of h)) (live_filled v) tidy))
