-- The test `eq_l` decides equality of lists of numbers: it holds of a list and itself, and of no two that differ. With it, the case
-- distinction on a Bool that keeps the equation in hand, which proofs over tests begin with. Assumes nothing.
use Rattle.std.proofs.Common.{◌≡◌, ℕ, Bool, true, false, eqb, List, [], ◌∷◌, sym, refl, ◌∙◌, subst, ap₂, eq-eqb, eqb-true}
use Rattle.numbers.specs.Bytes.{eq_l}

-- by the value of a test, with the equation in hand
pub by_bool : {C : Type 0} (x : Bool) → (x ≡ true → C) → (x ≡ false → C) → C
by_bool true t f = t refl
by_bool false t f = f refl

abbrev Holds : Bool → Type 0
Holds true = Unit {0}
Holds false = ⊥

-- a test does not both hold and fail
pub clash : {C : Type 0} (x : Bool) → x ≡ true → x ≡ false → C
clash x t f = absurd (subst Holds (sym t ∙ f) tt)

pub eq_l_true : (xs ys : List ℕ) → eq_l xs ys ≡ true → xs ≡ ys
unfolding eq_l
eq_l_true [] [] e = refl
eq_l_true [] (y ∷ ys) e = clash false e refl
eq_l_true (x ∷ xs) [] e = clash false e refl
eq_l_true (x ∷ xs) (y ∷ ys) e =
    by_bool (eqb x y)
    (λ t. ap₂ ◌∷◌ (eqb-true x y t) (eq_l_true xs ys (rw t at e)))
    (λ f. clash false (rw f at e) refl)

pub eq_l_self : (xs : List ℕ) → eq_l xs xs ≡ true
unfolding eq_l
eq_l_self [] = refl
eq_l_self (x ∷ xs) = rw (eq-eqb x x refl) (eq_l_self xs)

pub eq_l_false : (xs ys : List ℕ) → eq_l xs ys ≡ false → xs ≡ ys → ⊥
eq_l_false xs ys f e = clash (eq_l xs ys) (rw e (eq_l_self ys)) f

-- it does not matter which is named first
pub eq_l_sym : (xs ys : List ℕ) → eq_l xs ys ≡ eq_l ys xs
eq_l_sym xs ys =
    by_bool (eq_l xs ys)
    (λ t. rw (eq_l_true xs ys t))
    (λ f. by_bool (eq_l ys xs) (λ t. clash (eq_l xs ys) (rw (eq_l_true ys xs t) (eq_l_self xs)) f) (λ g. f ∙ sym g))
