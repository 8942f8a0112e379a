-- Laws of lists that are kept from by a test, laid over a column, or searched: `keep`, `laid_at`, `is_in`, `is_nil`, by induction on the list.
-- Assumes nothing.
use mathlib.Core.Path.{◌≡◌, refl, sym, ap}
use mathlib.Core.List.{List, [], ◌∷◌, ◌++◌, append_assoc}
use mathlib.Core.Bool.{Bool, true, false, ◌||◌}
use Prim.Native.Nat.{ℕ, zero, suc, ◌+◌, ◌<◌, ◌≤◌}
use native.Mathlib.Nat.{not-suc-le-zero, le_of_suc-le-suc}
use native.Mathlib.Omega.{arith}
use lib.Dec.{eqb}
use borrow.Author.Tests.{eqb-false}
use lib.ListN.{length, get_or, take, drop, set, length-append}
use lib.Seq.{take_at, length-take-le, get_or-set_other}
use Rattle.rules.specs.World.{keep, is_nil}
use Rattle.rules.specs.Queues.{is_in}
use Rattle.columns.specs.Laid.{laid_at}
use Rattle.meaning.specs.Meaning.{Numbers}
use Rattle.numbers.proofs.Bytes.{by_bool}

pub keep_append : (g : ℕ → Bool) (xs ys : List ℕ) → keep g (xs ++ ys) ≡ keep g xs ++ keep g ys
unfolding keep
keep_append g [] ys = refl
keep_append g (x ∷ xs) ys = by_bool (g x) (λ e. simp (e, keep_append g xs ys)) (λ e. simp (e, keep_append g xs ys))

pub keep_all : (g : ℕ → Bool) (xs : List ℕ) → ((t : ℕ) → t < length xs → g (get_or xs t 0) ≡ true) → keep g xs ≡ xs
unfolding keep
keep_all g [] h = refl
keep_all g (x ∷ xs) h = rw (h 0 (omega arith), keep_all g xs (λ t l. h (suc t) (omega arith)))

pub keep_none : (g : ℕ → Bool) (xs : List ℕ) → ((t : ℕ) → t < length xs → g (get_or xs t 0) ≡ false) → keep g xs ≡ []
unfolding keep
keep_none g [] h = refl
keep_none g (x ∷ xs) h = rw (h 0 (omega arith), keep_none g xs (λ t l. h (suc t) (omega arith)))

pub laid_take : (n : ℕ) (xs ys : List ℕ) → n ≤ length ys → take (n + length xs) (laid_at n xs ys) ≡ take n ys ++ xs
unfolding laid_at
laid_take n xs ys l =
    let h : length (take n ys ++ xs) ≡ n + length xs = simp length-append (ap (λ z. z + length xs) (length-take-le n ys l)) in
    rw (← append_assoc (take n ys) xs (drop (n + length xs) ys)) (take_at (take n ys ++ xs) (drop (n + length xs) ys) (n + length xs) h)

-- the tests of a column at the members of a list, after a store for one that is not in it
pub homed_set : (ext : ℕ → Bool) (time : ℕ → ℕ) (hs : List ℕ) (p v j : ℕ) (xs : List ℕ) → is_in (Numbers ext time) p xs ≡ false
    → keep (λ q. eqb (get_or (set hs p v) q 0) j) xs ≡ keep (λ q. eqb (get_or hs q 0) j) xs
unfolding keep is_in
homed_set ext time hs p v j [] e = refl
homed_set ext time hs p v j (x ∷ xs) e =
    by_bool (eqb p x)
    (λ t. let z : ◌≡◌ {A = Bool} true false = rw t at e in absurd (let y : ◌≡◌ {A = ℕ} 0 1 = cc in omega arith))
    (λ t. rw (get_or-set_other hs p x v 0 (λ w. eqb-false p x t (sym w)), homed_set ext time hs p v j xs (rw t at e)))

pub get_d_out : {A : Type 0} (l : List A) (i : ℕ) (d : A) → length l ≤ i → get_or l i d ≡ d
get_d_out [] i d h = refl
get_d_out (x ∷ xs) zero d h = absurd (not-suc-le-zero h)
get_d_out (x ∷ xs) (suc i) d h = get_d_out xs i d (le_of_suc-le-suc h)

pub not_in : (ext : ℕ → Bool) (time : ℕ → ℕ) (p : ℕ) (ps : List ℕ) (n g : ℕ) → is_in (Numbers ext time) p (take n ps) ≡ false → g < n → n ≤ length ps
    → eqb p (get_or ps g 0) ≡ false
unfolding is_in
not_in ext time p ps zero g e h k = absurd (not-suc-le-zero h)
not_in ext time p [] (suc n) g e h k = absurd (not-suc-le-zero k)
not_in ext time p (x ∷ ps) (suc n) zero e h k =
    by_bool (eqb p x) (λ t. let z : ◌≡◌ {A = Bool} true false = rw t at e in absurd (let y : ◌≡◌ {A = ℕ} 0 1 = cc in omega arith)) (λ t. t)
not_in ext time p (x ∷ ps) (suc n) (suc g) e h k =
    by_bool (eqb p x) (λ t. let z : ◌≡◌ {A = Bool} true false = rw t at e in absurd (let y : ◌≡◌ {A = ℕ} 0 1 = cc in omega arith))
    (λ t. not_in ext time p ps n g (rw t at e) (le_of_suc-le-suc h) (le_of_suc-le-suc k))

pub is_nil_append : (xs ys : List ℕ) → is_nil xs ≡ false → is_nil (xs ++ ys) ≡ false
unfolding is_nil
is_nil_append [] ys e = absurd (let z : ◌≡◌ {A = ℕ} 0 1 = cc in omega arith)
is_nil_append (x ∷ xs) ys e = refl

pub is_in_append : (ext : ℕ → Bool) (time : ℕ → ℕ) (a : ℕ) (xs ys : List ℕ) → is_in (Numbers ext time) a (xs ++ ys)
    ≡ is_in (Numbers ext time) a xs || is_in (Numbers ext time) a ys
unfolding is_in
is_in_append ext time a [] ys = refl
is_in_append ext time a (x ∷ xs) ys = by_bool (eqb a x) (λ e. rw e) (λ e. rw e (is_in_append ext time a xs ys))

pub or_false : (x : Bool) → x || false ≡ x
or_false true = refl
or_false false = refl
