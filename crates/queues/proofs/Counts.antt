-- The messages of all queues together are the messages held: every one has an owner in the order, and only one. With it, the internals and
-- the externals are no more than the messages. Assumes nothing.
use mathlib.Core.Path.{◌≡◌, refl, sym, ap, ap₂, ◌∙◌}
use mathlib.Core.Bool.{Bool, true, false, cond, not, ◌&&◌}
use mathlib.Core.List.{List, [], ◌∷◌, ◌++◌, map}
use Prim.Native.Nat.{ℕ, zero, suc, ◌+◌, ◌-◌, ◌<◌, ◌≤◌}
use native.Mathlib.Nat.{not-suc-le-zero, le_of_suc-le-suc, add-zero, zero-add}
use native.Mathlib.Omega.{arith}
use lib.Dec.{eqb, leb, ltb}
use lib.ListN.{length, get_or, length-append}
use borrow.Author.Tests.{eq-eqb, ne_eqb, eqb-true, eqb-false, le-leb, lt-leb, lt-ltb, le-ltb, ltb-true, ltb-false, leb-true, leb-false}
use Rattle.numbers.proofs.Bytes.{by_bool}
use Rattle.columns.specs.Lists.{tab_i, pick, count_i}
use Rattle.columns.proofs.Tabs.{length_pick}
use Rattle.rules.specs.World.{World, Row, Buffer, joined, keep}
use Rattle.rules.specs.Queues.{all_msgs, internals, externals, held_ints, held_exts}
use Rattle.message.specs.Real.{Real}
use Rattle.queues.specs.Cols.{Half}
use Rattle.queues.specs.Meant.{message_in, row_in, order_of, buffer_of}
use Rattle.queues.specs.Good.{GoodHalf}

-- ---- counting owners

-- an owner among the a places from i on
abbrev among : (i a o : ℕ) → Bool
among i a o = leb i o && ltb o (i + a)

-- it is the first of them, or among the rest
first_or_rest : (i a o : ℕ) → cond (eqb o i) 1 0 + cond (among (i + 1) a o) 1 0 ≡ cond (among i (suc a) o) 1 0
first_or_rest i a o =
    by_bool (eqb o i)
    (λ e. let z = eqb-true o i e in rw (e, lt-leb (i + 1) o (omega arith), le-leb i o (omega arith), lt-ltb o (i + suc a) (omega arith)))
    (λ e. let n = eqb-false o i e in
    by_bool (leb (i + 1) o)
    (λ l. let x = leb-true (i + 1) o l in
    by_bool (ltb o (i + 1 + a))
    (λ u. let y = ltb-true o (i + 1 + a) u in rw (e, l, u, le-leb i o (omega arith), lt-ltb o (i + suc a) (omega arith)))
    (λ u. let y = ltb-false o (i + 1 + a) u in rw (e, l, u, le-leb i o (omega arith), le-ltb o (i + suc a) (omega arith))))
    (λ l. let x = leb-false (i + 1) o l in rw (e, l, lt-leb i o (omega arith))))

-- two counts that add up element by element add up
count_sum : (f g h : ℕ → Bool) → ((o : ℕ) → cond (f o) 1 0 + cond (g o) 1 0 ≡ cond (h o) 1 0) → (m i : ℕ) (os : List ℕ)
    → count_i (λ j o. f o) m i os + count_i (λ j o. g o) m i os ≡ count_i (λ j o. h o) m i os
unfolding count_i
count_sum f g h e zero i os = refl
count_sum f g h e (suc m) i [] = refl
count_sum f g h e (suc m) i (o ∷ os) = omega (arith, e o, count_sum f g h e m (i + 1) os)

count_none : (f : ℕ → Bool) → ((o : ℕ) → f o ≡ false) → (m i : ℕ) (os : List ℕ) → count_i (λ j o. f o) m i os ≡ 0
unfolding count_i
count_none f e zero i os = refl
count_none f e (suc m) i [] = refl
count_none f e (suc m) i (o ∷ os) = rw (e o, count_none f e m (i + 1) os)

count_all : (f : ℕ → Bool) (m i : ℕ) (os : List ℕ) → m ≤ length os → ((j : ℕ) → j < m → f (get_or os j 0) ≡ true) → count_i (λ j o. f o) m i os ≡ m
unfolding count_i
count_all f zero i os l h = refl
count_all f (suc m) i [] l h = absurd (not-suc-le-zero l)
count_all f (suc m) i (o ∷ os) l h =
    let r = count_all f m (i + 1) os (le_of_suc-le-suc l) (λ j k. h (suc j) (omega arith)) in
    rw (h 0 (omega arith)) (omega arith)

-- ---- the messages of all queues

none_among : (i o : ℕ) → among i 0 o ≡ false
none_among i o =
    by_bool (leb i o)
    (λ l. let x = leb-true i o l in rw (l, le-ltb o (i + 0) (omega arith)))
    (λ l. rw l)

module _ (h : Half) where
  counted : (a i : ℕ) → length (all_msgs Real (tab_i a i (row_in h))) ≡ count_i (λ j o. among i a o) h.messages 0 h.owner
  unfolding all_msgs tab_i joined
  counted zero i = sym (count_none (among i 0) (none_among i) h.messages 0 h.owner)
  counted (suc a) i =
      length-append (pick (message_in h) i h.messages 0 h.owner) _
      ∙ ap₂ ◌+◌ (length_pick (message_in h) i h.messages 0 h.owner) (counted a (i + 1))
      ∙ count_sum (λ o. eqb o i) (among (i + 1) a) (among i (suc a)) (first_or_rest i a) h.messages 0 h.owner

  pub all_counted : h.messages ≤ length h.owner → ((i : ℕ) → i < h.messages → get_or h.owner i 0 < h.places)
      → length (all_msgs Real (order_of h)) ≡ h.messages
  unfolding order_of
  all_counted l p =
      counted h.places 0
      ∙ count_all (among 0 h.places) h.messages 0 h.owner l
      (λ j k. let x = p j k in rw (le-leb 0 (get_or h.owner j 0) (omega arith), lt-ltb (get_or h.owner j 0) (0 + h.places) (omega arith)))

-- ---- internals and externals

module _ (W : World) where
  -- every message is one or the other
  pub both_kinds : (ms : List W.Msg) → internals W ms + externals W ms ≡ length ms
  unfolding internals externals keep
  both_kinds [] = refl
  both_kinds (m ∷ ms) =
      let r = both_kinds ms in
      by_bool (W.external m) (λ e. rw e (omega arith)) (λ e. rw e (omega arith))

module _ {M A : ℕ} (h : Half) (good : GoodHalf M A h) (long : h.messages ≤ length h.owner) where
  -- the two counts are the messages
  pub counts_add : h.ints + h.exts ≡ h.messages
  unfolding held_ints held_exts
  counts_add =
      ap₂ ◌+◌ good.ints good.exts ∙ both_kinds Real (all_msgs Real (order_of h)) ∙ all_counted h long good.placed

  pub ints_few : h.ints ≤ h.messages
  ints_few = omega (arith, counts_add)

  pub exts_few : h.exts ≤ h.messages
  exts_few = omega (arith, counts_add)
