-- Renaming commutes with what the rules do to rows, messages and slots. Each proof is a path built field by field; `pick` carries a
-- renaming out of a test. Assumes nothing.
use mathlib.Core.Path.{◌≡◌, refl, ap, ◌∙◌}
use mathlib.Core.Bool.{Bool, true, false, cond, not, ◌&&◌, ◌||◌}
use mathlib.Core.List.{List, [], ◌∷◌, ◌++◌, map}
use Prim.Native.Nat.{ℕ, suc, ◌+◌}
use lib.Dec.{eqb, ltb}
use lib.ListN.{length}
use Rattle.rules.specs.World.{World, Row, Slot, Filter, Filter.off, Filter.below, keep, some_of, joined, is_nil, is_member, others}
use Rattle.rules.specs.Queues.{has, at, edit, give, is_in, accounts, internals, externals, all_msgs, droppable, undroppable, count, count_of, accounts_of, has_slot, grown, grow}
use Rattle.rules.specs.Fill.{changed, numbers, bucket, reindexed}
use Rattle.renaming.specs.Renaming.{Renaming, Faithful, on_row, on_slot}

module _ {X Y : Type 0} (g : X → Y) where
  pub pick : {c d : Bool} {x y : Y} (x' y' : X) → c ≡ d → x ≡ g x' → y ≡ g y' → cond c x y ≡ g (cond d x' y')
  pick {d = d} x' y' e p q = (λ i. cond (e i) (p i) (q i)) ∙ by d
    where
      by : (b : Bool) → cond b (g x') (g y') ≡ g (cond b x' y')
      by true = refl
      by false = refl

module _ {X Y : Type 0} (g : X → Y) where
  pub append_on : (x y : List X) → map g x ++ map g y ≡ map g (x ++ y)
  append_on [] y = refl
  append_on (a ∷ x) y = λ i. g a ∷ append_on x y i

  pub length_on : (x : List X) → length (map g x) ≡ length x
  length_on [] = refl
  length_on (a ∷ x) = ap suc (length_on x)

  pub is_nil_on : (x : List X) → is_nil (map g x) ≡ is_nil x
  unfolding is_nil
  is_nil_on [] = refl
  is_nil_on (a ∷ x) = refl

  module _ (p : Y → Bool) (q : X → Bool) (e : (x : X) → p (g x) ≡ q x) where
    pub keep_on : (l : List X) → keep p (map g l) ≡ map g (keep q l)
    unfolding keep
    keep_on [] = refl
    keep_on (x ∷ l) = pick {Y = List Y} (map g) (x ∷ keep q l) (keep q l) (e x) (λ i. g x ∷ keep_on l i) (keep_on l)

    pub some_on : (l : List X) → some_of p (map g l) ≡ some_of q l
    unfolding some_of
    some_on [] = refl
    some_on (x ∷ l) = λ i. e x i || some_on l i

module _ {W U : World} (f : Renaming W U) (F : Faithful W U f) where
  -- ---- rows
  pub has_on : (a : W.Acc) (o : List (Row W)) → has U (f.acc a) (map (on_row f) o) ≡ has W a o
  unfolding has
  has_on a [] = refl
  has_on a (r ∷ o) = λ i. F.same a r.acc i || has_on a o i

  pub at_on : (a : W.Acc) (o : List (Row W)) → at U (f.acc a) (map (on_row f) o) ≡ map f.msg (at W a o)
  unfolding at
  at_on a [] = refl
  at_on a (r ∷ o) = pick {Y = List U.Msg} (map f.msg) r.msgs (at W a o) (F.same a r.acc) refl (at_on a o)

  pub edit_on : (a : W.Acc) (g : List W.Msg → List W.Msg) (h : List U.Msg → List U.Msg) → ((q : List W.Msg) → h (map f.msg q) ≡ map f.msg (g q)) →
      (o : List (Row W)) → edit U (f.acc a) h (map (on_row f) o) ≡ map (on_row f) (edit W a g o)
  unfolding edit
  edit_on a g h e [] = refl
  edit_on a g h e (r ∷ o) = λ i.
      record { acc = f.acc r.acc; msgs = pick {Y = List U.Msg} (map f.msg) (g r.msgs) r.msgs (F.same a r.acc) (e r.msgs) refl i } ∷ edit_on a g h e o i

  pub give_on : (a : W.Acc) (ms : List W.Msg) (o : List (Row W)) → give U (f.acc a) (map f.msg ms) (map (on_row f) o) ≡ map (on_row f) (give W a ms o)
  unfolding give
  give_on a [] o = refl
  give_on a (m ∷ ms) [] = refl
  give_on a (m ∷ ms) (r ∷ o) = pick {Y = List (Row U)} (map (on_row f)) (record { acc = r.acc; msgs = r.msgs ++ (m ∷ ms) } ∷ o) (r ∷ give W a (m ∷ ms) o) (F.same a r.acc)
      (λ i. record { acc = f.acc r.acc; msgs = append_on f.msg r.msgs (m ∷ ms) i } ∷ map (on_row f) o)
      (λ i. on_row f r ∷ give_on a (m ∷ ms) o i)

  pub is_in_on : (a : W.Acc) (l : List W.Acc) → is_in U (f.acc a) (map f.acc l) ≡ is_in W a l
  unfolding is_in
  is_in_on a [] = refl
  is_in_on a (b ∷ l) = λ i. F.same a b i || is_in_on a l i

  pub accounts_on : (o : List (Row W)) → accounts U (map (on_row f) o) ≡ map f.acc (accounts W o)
  unfolding accounts
  accounts_on [] = refl
  accounts_on (r ∷ o) = λ i. f.acc r.acc ∷ accounts_on o i

  -- ---- messages
  pub internal_on : (m : W.Msg) → not (U.external (f.msg m)) ≡ not (W.external m)
  internal_on m = λ i. not (F.kinds.external m i)

  pub internals_on : (ms : List W.Msg) → internals U (map f.msg ms) ≡ internals W ms
  unfolding internals
  internals_on ms = ap length (keep_on f.msg _ _ internal_on ms) ∙ length_on f.msg (keep (λ m. not (W.external m)) ms)

  pub externals_on : (ms : List W.Msg) → externals U (map f.msg ms) ≡ externals W ms
  unfolding externals
  externals_on ms = ap length (keep_on f.msg _ _ F.kinds.external ms) ∙ length_on f.msg (keep W.external ms)

  pub all_msgs_on : (o : List (Row W)) → all_msgs U (map (on_row f) o) ≡ map f.msg (all_msgs W o)
  unfolding all_msgs joined
  all_msgs_on [] = refl
  all_msgs_on (r ∷ o) = (λ i. map f.msg r.msgs ++ all_msgs_on o i) ∙ append_on f.msg r.msgs (all_msgs W o)

  pub droppable_on : (t : Filter) (m : W.Msg) → droppable U t (f.msg m) ≡ droppable W t m
  unfolding droppable
  droppable_on off m = refl
  droppable_on (below t) m = λ i. F.kinds.external m i && ltb (F.kinds.time m i) t

  pub undroppable_on : (t : Filter) (q : List W.Msg) → undroppable U t (map f.msg q) ≡ map f.msg (undroppable W t q)
  unfolding undroppable
  undroppable_on t q = keep_on f.msg _ _ (λ m i. not (droppable_on t m i)) q

  -- ---- slots
  pub count_on : (s : Slot W) → count U (on_slot f s) ≡ count W s
  unfolding count
  count_on s = refl

  pub count_of_on : (n : ℕ) (ss : List (Slot W)) → count_of U n (map (on_slot f) ss) ≡ count_of W n ss
  unfolding count_of
  count_of_on n [] = refl
  count_of_on n (s ∷ ss) = λ i. cond (eqb n s.number) (count_on s i) (count_of_on n ss i)

  pub accounts_of_on : (n : ℕ) (ss : List (Slot W)) → accounts_of U n (map (on_slot f) ss) ≡ map f.acc (accounts_of W n ss)
  unfolding accounts_of
  accounts_of_on n [] = refl
  accounts_of_on n (s ∷ ss) = pick {Y = List U.Acc} (map f.acc) {c = eqb n s.number} s.accounts (accounts_of W n ss) refl refl (accounts_of_on n ss)

  pub has_slot_on : (n : ℕ) (ss : List (Slot W)) → has_slot U n (map (on_slot f) ss) ≡ has_slot W n ss
  unfolding has_slot
  has_slot_on n [] = refl
  has_slot_on n (s ∷ ss) = λ i. eqb n s.number || has_slot_on n ss i

  pub grown_on : (a : W.Acc) (new : Bool) (ms : List W.Msg) (s : Slot W) → grown U (f.acc a) new (map f.msg ms) (on_slot f s) ≡ on_slot f (grown W a new ms s)
  unfolding grown
  grown_on a new ms s = λ i. record {
    number = s.number;
    accounts = pick {Y = List U.Acc} (map f.acc) {c = new} (s.accounts ++ (a ∷ [])) s.accounts refl (append_on f.acc s.accounts (a ∷ [])) refl i;
    ints = s.ints + internals_on ms i;
    exts = s.exts + externals_on ms i;
  }

  pub grow_on : (n : ℕ) (g : Slot W → Slot W) (h : Slot U → Slot U) → ((s : Slot W) → h (on_slot f s) ≡ on_slot f (g s)) → (ss : List (Slot W)) →
      grow U n h (map (on_slot f) ss) ≡ map (on_slot f) (grow W n g ss)
  unfolding grow
  grow_on n g h e [] = refl
  grow_on n g h e (s ∷ ss) = λ i. pick (on_slot f) {c = eqb n s.number} (g s) s refl (e s) refl i ∷ grow_on n g h e ss i

  pub numbers_on : (ss : List (Slot W)) → numbers U (map (on_slot f) ss) ≡ numbers W ss
  unfolding numbers
  numbers_on [] = refl
  numbers_on (s ∷ ss) = λ i. s.number ∷ numbers_on ss i

  -- ---- the index
  changed_on : (entry ss : List (Slot W)) → changed U (map (on_slot f) entry) (map (on_slot f) ss) ≡ map (on_slot f) (changed W entry ss)
  unfolding changed
  changed_on entry ss = keep_on (on_slot f) _ _ (λ s i. not (eqb (count_on s i) (count_of_on s.number entry i))) ss

  bucket_on : (entry ss : List (Slot W)) (c : ℕ) (b : List ℕ) → bucket U (map (on_slot f) entry) (map (on_slot f) ss) c b ≡ bucket W entry ss c b
  unfolding bucket
  bucket_on entry ss c b = λ i. keep (λ n. not (is_member n (others (leave i)))) b ++ come i
    where
      leave : numbers U (keep (λ s. eqb (count_of U s.number (map (on_slot f) entry)) c) (changed U (map (on_slot f) entry) (map (on_slot f) ss))) ≡
          numbers W (keep (λ s. eqb (count_of W s.number entry) c) (changed W entry ss))
      leave = (λ i. numbers U (keep (λ s. eqb (count_of U s.number (map (on_slot f) entry)) c) (changed_on entry ss i)))
          ∙ ap (numbers U) (keep_on (on_slot f) _ _ (λ s i. eqb (count_of_on s.number entry i) c) (changed W entry ss)) ∙ numbers_on _

      come : numbers U (keep (λ s. eqb (count U s) c) (changed U (map (on_slot f) entry) (map (on_slot f) ss))) ≡ numbers W (keep (λ s. eqb (count W s) c) (changed W entry ss))
      come = (λ i. numbers U (keep (λ s. eqb (count U s) c) (changed_on entry ss i)))
          ∙ ap (numbers U) (keep_on (on_slot f) _ _ (λ s i. eqb (count_on s i) c) (changed W entry ss)) ∙ numbers_on _

  pub reindexed_on : (entry ss : List (Slot W)) (c : ℕ) (bs : List (List ℕ)) → reindexed U (map (on_slot f) entry) (map (on_slot f) ss) c bs ≡ reindexed W entry ss c bs
  unfolding reindexed
  reindexed_on entry ss c [] = refl
  reindexed_on entry ss c (b ∷ bs) = λ i. bucket_on entry ss c b i ∷ reindexed_on entry ss (suc c) bs i
