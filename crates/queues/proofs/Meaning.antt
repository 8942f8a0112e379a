-- What a half means depends on its counts, on the rows of the messages held and on the rows of the accounts held, and on nothing else.
-- Assumes nothing.
use mathlib.Core.Path.{◌≡◌, refl, sym, ap, subst, ◌∙◌}
use mathlib.Core.List.{List, [], ◌∷◌}
use Prim.Native.Nat.{ℕ, zero, suc, ◌+◌, ◌<◌, ◌≤◌}
use native.Mathlib.Nat.{not-suc-le-zero, le_of_suc-le-suc}
use native.Mathlib.Omega.{arith}
use lib.ListN.{length, get_or, take}
use Rattle.columns.specs.Lists.{tab_i, pick}
use Rattle.columns.specs.Rows.{row_at}
use Rattle.columns.proofs.Tabs.{tab_cong, pick_cong, length_tab, get_d_tab}
use Rattle.rules.specs.World.{Row}
use Rattle.rules.specs.Queues.{held_ints, held_exts}
use Rattle.rules.specs.Kept.{TidyBuffer}
use Rattle.message.specs.Real.{Real}
use Rattle.queues.specs.Cols.{Half}
use Rattle.queues.specs.Meant.{message_in, row_in, order_of, buffer_of, if_marked}
use Rattle.queues.specs.Good.{GoodHalf}

-- owners that are the same up to m pick the same
pub pick_owners : {A : Type 0} (f : ℕ → A) (q m i : ℕ) (os ps : List ℕ) → m ≤ length os → m ≤ length ps → ((j : ℕ) → j < m → get_or os j 0 ≡ get_or ps j 0)
    → pick f q m i os ≡ pick f q m i ps
unfolding pick
pick_owners f q zero i os ps a b h = refl
pick_owners f q (suc m) i [] ps a b h = absurd (not-suc-le-zero a)
pick_owners f q (suc m) i (o ∷ os) [] a b h = absurd (not-suc-le-zero b)
pick_owners f q (suc m) i (o ∷ os) (p ∷ ps) a b h =
    rw (h 0 (omega arith), pick_owners f q m (i + 1) os ps (le_of_suc-le-suc a) (le_of_suc-le-suc b) (λ j l. h (suc j) (omega arith)))

-- two halves whose first n messages and first a accounts are the same
pub record SameRows (n a : ℕ) (h k : Half) : Type 0 where
  pub long : n ≤ length h.owner
  pub long' : n ≤ length k.owner
  pub owner : (i : ℕ) → i < n → get_or h.owner i 0 ≡ get_or k.owner i 0
  pub kind : (i : ℕ) → i < n → get_or h.kind i 0 ≡ get_or k.kind i 0
  pub form : (i : ℕ) → i < n → get_or h.form i 0 ≡ get_or k.form i 0
  pub time : (i : ℕ) → i < n → get_or h.time i 0 ≡ get_or k.time i 0
  pub address : (i : ℕ) → i < n → row_at h.address i ≡ row_at k.address i
  pub hash : (i : ℕ) → i < n → row_at h.hash i ≡ row_at k.hash i
  pub accounts : (p : ℕ) → p < a → row_at h.accounts p ≡ row_at k.accounts p

module _ (h k : Half) (n a : ℕ) (s : SameRows n a h k) where
  pub same_message : (i : ℕ) → i < n → message_in h i ≡ message_in k i
  same_message i l = rw (s.kind i l, s.form i l, s.time i l, s.address i l, s.hash i l)

  -- the queue of any place
  pub same_queue : (p : ℕ) → pick (message_in h) p n 0 h.owner ≡ pick (message_in k) p n 0 k.owner
  same_queue p =
      pick_owners (message_in h) p n 0 h.owner k.owner s.long s.long' s.owner
      ∙ pick_cong (message_in h) (message_in k) p n 0 k.owner (λ j b l. same_message j (omega arith))

  pub same_order : h.messages ≡ n → k.messages ≡ n → h.places ≡ a → k.places ≡ a → order_of h ≡ order_of k
  unfolding order_of
  same_order hn kn ha ka =
      rw (ha, ka)
      (tab_cong a 0 (row_in h) (row_in k)
      (λ p b l. rw (hn, kn, s.accounts p (omega arith), same_queue p)))

-- the same numbers and the same rows: the same meaning, and as well formed
pub record SameHalf (h k : Half) : Type 0 where
  pub messages : h.messages ≡ k.messages
  pub places : h.places ≡ k.places
  pub ints : h.ints ≡ k.ints
  pub exts : h.exts ≡ k.exts
  pub least : h.least ≡ k.least
  pub marked : h.marked ≡ k.marked
  pub rows : SameRows k.messages k.places h k

module _ (h k : Half) (s : SameHalf h k) where
  pub order_same : order_of h ≡ order_of k
  order_same = same_order h k k.messages k.places s.rows s.messages refl s.places refl

  pub buffer_same : buffer_of h ≡ buffer_of k
  buffer_same = rw (order_same, s.least, s.marked)

  pub good_same : {M A : ℕ} → GoodHalf M A k → GoodHalf M A h
  good_same g = record {
    messages = rw s.messages g.messages;
    places = rw s.places g.places;
    placed = λ i l. let x : i < k.messages = rw s.messages at l in rw (s.rows.owner i x, s.places) (g.placed i x);
    kinds = λ i l. let x : i < k.messages = rw s.messages at l in rw (s.rows.kind i x) (g.kinds i x);
    forms = λ i l. let x : i < k.messages = rw s.messages at l in rw (s.rows.form i x) (g.forms i x);
    ints = s.ints ∙ g.ints ∙ ap (held_ints Real) (sym buffer_same);
    exts = s.exts ∙ g.exts ∙ ap (held_exts Real) (sym buffer_same);
    marked = rw s.marked g.marked;
    unmarked = λ e. rw s.least (g.unmarked (rw s.marked at e));
    tidy = subst (TidyBuffer Real) (sym buffer_same) g.tidy;
  }
