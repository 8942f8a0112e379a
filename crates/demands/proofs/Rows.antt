-- Queues in the account order and lists in the group: what `edit` and `give` do to each account's messages. Assumes nothing.
use mathlib.Core.Path.{◌≡◌, refl, sym, ap, ◌∙◌, subst}
use mathlib.Core.Bool.{Bool, true, false, not, ◌&&◌, ◌||◌}
use mathlib.Core.Logic.{◌⊎◌, inl, inr}
use mathlib.Core.List.{List, [], ◌∷◌, ◌++◌, append-nil}
use Prim.Native.Nat.{ℕ, zero, suc, ◌+◌, ◌≤◌}
use native.Mathlib.Omega.{arith}
use lib.ListN.{length}
use Rattle.rules.specs.World.{World, Row, Args, keep}
use Rattle.rules.specs.Queues.{has, at, edit, give, undroppable, droppable}
use Rattle.rules.specs.Passes.{collect, moved}

-- the account test decides equality
pub record Lawful (W : World) : Type 0 where
  pub decide : (a b : W.Acc) → W.same a b ≡ true → a ≡ b
  pub self : (a : W.Acc) → W.same a a ≡ true

pub which : (b : Bool) → (b ≡ true) ⊎ (b ≡ false)
which true = inl refl
which false = inr refl

abbrev pub Tt : Bool → Type 0
Tt true = Unit {0}
Tt false = ⊥

pub clash : {X : Type 0} (b : Bool) → b ≡ true → b ≡ false → X
clash b p q = absurd (subst Tt (sym p ∙ q) tt)

pub right : (c : Bool) {x : Bool} → x ≡ true → (c || x) ≡ true
right true h = refl
right false h = h

pub left : (c d : Bool) → c ≡ true → (c || d) ≡ true
left true d h = refl
left false d h = clash false h refl

pub or_right : (c : Bool) {x y : Bool} → (x ≡ true → y ≡ true) → (c || x) ≡ true → (c || y) ≡ true
or_right true f h = refl
or_right false f h = f h

pub or_cases : (c d : Bool) → (c || d) ≡ true → (c ≡ true) ⊎ (d ≡ true)
or_cases true d h = inl refl
or_cases false d h = inr h

pub or_false : (c d : Bool) → (c || d) ≡ false → (c ≡ false) × (d ≡ false)
or_false true d h = clash true refl h
or_false false d h = (refl, h)

pub and_true : (c d : Bool) → (c && d) ≡ true → (c ≡ true) × (d ≡ true)
and_true true d h = (refl, h)
and_true false d h = clash false h refl

pub not_true : (c : Bool) → not c ≡ true → c ≡ false
not_true true h = clash false h refl
not_true false h = refl

module _ (W : World) (L : Lawful W) where
  pub at_edit_same : (a : W.Acc) (f : List W.Msg → List W.Msg) → f [] ≡ [] → (o : List (Row W)) → at W a (edit W a f o) ≡ f (at W a o)
  unfolding at edit
  at_edit_same a f z [] = sym z
  at_edit_same a f z (r ∷ o) = elim (which (W.same a r.acc)) [ inl e ↦ rw e | inr e ↦ rw e (at_edit_same a f z o) ]

  pub at_edit_other : (a b : W.Acc) (f : List W.Msg → List W.Msg) → W.same b a ≡ false → (o : List (Row W)) → at W b (edit W a f o) ≡ at W b o
  unfolding at edit
  at_edit_other a b f d [] = refl
  at_edit_other a b f d (r ∷ o) = elim (which (W.same b r.acc)) [
    | inl e ↦ elim (which (W.same a r.acc)) [
      | inl h ↦ clash (W.same b a) (ap (W.same b) (L.decide a r.acc h ∙ sym (L.decide b r.acc e)) ∙ L.self b) d
      | inr h ↦ rw (e, h)
    ]
    | inr e ↦ rw e (at_edit_other a b f d o)
  ]

  pub at_give_same : (a : W.Acc) (ms : List W.Msg) (o : List (Row W)) → at W a (give W a ms o) ≡ at W a o ++ ms
  unfolding at give
  at_give_same a [] o = sym (append-nil (at W a o))
  at_give_same a (m ∷ ms) [] = rw (L.self a)
  at_give_same a (m ∷ ms) (r ∷ o) =
      elim (which (W.same a r.acc)) [ inl e ↦ rw e (rw e) | inr e ↦ rw e (rw e (at_give_same a (m ∷ ms) o)) ]

  pub at_give_other : (a b : W.Acc) (ms : List W.Msg) → W.same b a ≡ false → (o : List (Row W)) → at W b (give W a ms o) ≡ at W b o
  unfolding at give
  at_give_other a b [] d o = refl
  at_give_other a b (m ∷ ms) d [] = rw d
  at_give_other a b (m ∷ ms) d (r ∷ o) = elim (which (W.same a r.acc)) [
    | inl e ↦ elim (which (W.same b r.acc)) [
      | inl h ↦ clash (W.same b a) (ap (W.same b) (L.decide a r.acc e ∙ sym (L.decide b r.acc h)) ∙ L.self b) d
      | inr h ↦ rw (e, h)
    ]
    | inr e ↦ rw e (elim (which (W.same b r.acc)) [ inl h ↦ rw h | inr h ↦ rw h (at_give_other a b (m ∷ ms) d o) ])
  ]

  -- ---- membership of the group
  pub has_give_same : (a : W.Acc) (m : W.Msg) (ms : List W.Msg) (o : List (Row W)) → has W a (give W a (m ∷ ms) o) ≡ true
  unfolding has give
  has_give_same a m ms [] = rw (L.self a)
  has_give_same a m ms (r ∷ o) = elim (which (W.same a r.acc)) [ inl e ↦ rw e (rw e) | inr e ↦ rw e (rw e (has_give_same a m ms o)) ]

  pub has_give_keeps : (a b : W.Acc) (ms : List W.Msg) (o : List (Row W)) → has W b o ≡ true → has W b (give W a ms o) ≡ true
  unfolding has give
  has_give_keeps a b [] o h = h
  has_give_keeps a b (m ∷ ms) [] h = clash false h refl
  has_give_keeps a b (m ∷ ms) (r ∷ o) h = elim (which (W.same a r.acc)) [
    | inl e ↦ rw e h
    | inr e ↦ rw e (or_right (W.same b r.acc) (has_give_keeps a b (m ∷ ms) o) h)
  ]

-- ---- droppable externals
pub keep_append : {X : Type 0} (p : X → Bool) (x y : List X) → keep p (x ++ y) ≡ keep p x ++ keep p y
unfolding keep
keep_append p [] y = refl
keep_append p (a ∷ x) y = elim (which (p a)) [ inl e ↦ rw e (ap {B = List _} (λ l. a ∷ l) (keep_append p x y)) | inr e ↦ rw e (keep_append p x y) ]

pub keep_twice : {X : Type 0} (p : X → Bool) (x : List X) → keep p (keep p x) ≡ keep p x
unfolding keep
keep_twice p [] = refl
keep_twice p (a ∷ x) = elim (which (p a)) [ inl e ↦ rw e (rw e (ap {B = List _} (λ l. a ∷ l) (keep_twice p x))) | inr e ↦ rw e (keep_twice p x) ]

pub keep_both : {X : Type 0} (p : X → Bool) (x : List X) → length (keep (λ m. not (p m)) x) + length (keep p x) ≡ length x
unfolding keep
keep_both p [] = refl
keep_both p (a ∷ x) = elim (which (p a)) [ inl e ↦ rw e (omega (arith, keep_both p x)) | inr e ↦ rw e (omega (arith, keep_both p x)) ]

module _ (W : World) (A : Args W) where
  -- what a move collects, then what it leaves without the droppable externals, is what the queue held without them
  pub collect_splits : (n : ℕ) (q : List W.Msg) → undroppable W A.filter q ≡ (collect W A n q).got ++ undroppable W A.filter (collect W A n q).left
  unfolding collect undroppable keep
  collect_splits n [] = refl
  collect_splits zero (m ∷ q) = refl
  collect_splits (suc n) (m ∷ q) = elim (which (droppable W A.filter m)) [
    | inl e ↦ rw e (collect_splits (suc n) q)
    | inr e ↦ rw e (ap {B = List _} (λ l. m ∷ l) (collect_splits n q))
  ]

  pub collect_most : (n : ℕ) (q : List W.Msg) → length (collect W A n q).got ≤ n
  unfolding collect
  collect_most n [] = omega arith
  collect_most zero (m ∷ q) = omega arith
  collect_most (suc n) (m ∷ q) = elim (which (droppable W A.filter m)) [
    | inl e ↦ rw e (collect_most (suc n) q)
    | inr e ↦ rw e (omega (arith, collect_most n q))
  ]

  pub collect_length : (n : ℕ) (q : List W.Msg) → length (collect W A n q).got + length (collect W A n q).left ≤ length q
  unfolding collect
  collect_length n [] = omega arith
  collect_length zero (m ∷ q) = omega arith
  collect_length (suc n) (m ∷ q) = elim (which (droppable W A.filter m)) [
    | inl e ↦ rw e (omega (arith, collect_length (suc n) q))
    | inr e ↦ rw e (omega (arith, collect_length n q))
  ]

  -- "until that lesser number is collected or the queue is empty"
  pub collect_done : (n : ℕ) (q : List W.Msg) → ((collect W A n q).left ≡ []) ⊎ (length (collect W A n q).got ≡ n)
  unfolding collect
  collect_done n [] = inl refl
  collect_done zero (m ∷ q) = inr refl
  collect_done (suc n) (m ∷ q) = elim (which (droppable W A.filter m)) [
    | inl e ↦ rw e (collect_done (suc n) q)
    | inr e ↦ rw e (elim (collect_done n q) [ inl h ↦ inl h | inr h ↦ inr (ap suc h) ])
  ]

  pub moved_none : (n : ℕ) → (moved W A n []).left ≡ []
  unfolding moved collect
  moved_none n = refl
