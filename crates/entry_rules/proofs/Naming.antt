-- Numbers and accounts: an account that is spoken of is the account of its number, the number of an account without repeats in its list is
-- its row, and among the numbers of accounts no two have the same account. Assumes nothing.
use mathlib.Core.Path.{◌≡◌, refl, sym, ap, ◌∙◌}
use mathlib.Core.Bool.{Bool, true, false, cond}
use mathlib.Core.List.{List, [], ◌∷◌, ◌++◌}
use Prim.Native.Nat.{ℕ, zero, suc, ◌+◌, ◌-◌, ◌<◌, ◌≤◌}
use native.Mathlib.Nat.{not-suc-le-zero, le_of_suc-le-suc}
use native.Mathlib.Omega.{arith}
use lib.Dec.{eqb, ltb}
use lib.ListN.{length, get_or}
use borrow.Author.Tests.{eq-eqb, ne_eqb, eqb-true, eqb-false, lt-ltb, le-ltb, ltb-true, ltb-false}
use Rattle.numbers.specs.Bytes.{eq_l}
use Rattle.numbers.proofs.Bytes.{by_bool, clash, eq_l_true, eq_l_self, eq_l_false, eq_l_sym}
use Rattle.columns.specs.Rows.{index_of}
use Rattle.columns.proofs.Index.{index_le, index_found, index_first, index_is}
use Rattle.rules.specs.World.{Each}
use Rattle.rules.specs.Queues.{is_in}
use Rattle.rules.specs.Demand.{Once}
use Rattle.message.specs.Real.{Real}
use Rattle.entry_rules.specs.Naming.{num_of, acc_of, IsNumber, Named}

-- ---- an account in a list

-- a row of a list is found, at its index or before
pub found : (x : List ℕ) (rs : List (List ℕ)) (i : ℕ) → i < length rs → get_or rs i [] ≡ x → index_of x rs < length rs
found x rs i l e =
    by_bool (ltb i (index_of x rs))
    (λ t. absurd (index_first x [] rs i (ltb-true i (index_of x rs) t) e))
    (λ f. let h = ltb-false i (index_of x rs) f in omega arith)

-- whether an account is in a list is whether it is found there
pub in_found : (x : List ℕ) (rs : List (List ℕ)) → is_in Real x rs ≡ ltb (index_of x rs) (length rs)
unfolding is_in index_of
in_found x [] = refl
in_found x (r ∷ rs) =
    by_bool (eq_l r x)
    (λ t. let z : ltb 0 (suc (length rs)) ≡ true = lt-ltb 0 (suc (length rs)) (omega arith) in rw (eq_l_sym x r, t, z))
    (λ f. rw (eq_l_sym x r, f) (in_found x rs ∙ shift))
  where
    shift : ltb (index_of x rs) (length rs) ≡ ltb (suc (index_of x rs)) (suc (length rs))
    shift =
        by_bool (ltb (index_of x rs) (length rs))
        (λ t. let h = ltb-true (index_of x rs) (length rs) t in t ∙ sym (lt-ltb (suc (index_of x rs)) (suc (length rs)) (omega arith)))
        (λ f. let h = ltb-false (index_of x rs) (length rs) f in f ∙ sym (le-ltb (suc (index_of x rs)) (suc (length rs)) (omega arith)))

-- a list without repeats: an account stands at its index
not_there : (x : List ℕ) (rs : List (List ℕ)) → is_in Real x rs ≡ false → (k : ℕ) → k < length rs → get_or rs k [] ≡ x → ⊥
not_there x rs e k l h = clash (ltb (index_of x rs) (length rs)) (lt-ltb (index_of x rs) (length rs) (found x rs k l h)) (sym (in_found x rs) ∙ e)

pub apart : (rs : List (List ℕ)) → Once Real rs → (i j : ℕ) → i < length rs → j < length rs → get_or rs i [] ≡ get_or rs j [] → i ≡ j
apart [] o i j a b e = absurd (not-suc-le-zero a)
apart (r ∷ rs) o zero zero a b e = refl
apart (r ∷ rs) o zero (suc j) a b e = absurd (not_there r rs o.0 j (le_of_suc-le-suc b) (sym e))
apart (r ∷ rs) o (suc i) zero a b e = absurd (not_there r rs o.0 i (le_of_suc-le-suc a) e)
apart (r ∷ rs) o (suc i) (suc j) a b e = ap suc (apart rs o.1 i j (le_of_suc-le-suc a) (le_of_suc-le-suc b) e)

pub seat : (rs : List (List ℕ)) → Once Real rs → (i : ℕ) → i < length rs → index_of (get_or rs i []) rs ≡ i
seat rs o i l =
    index_is (get_or rs i []) [] rs i l refl (λ k a e. let z = apart rs o k i (omega arith) l e in omega arith)

-- ---- numbers

module _ (os gs ls : List (List ℕ)) (few : length os ≤ 256) (some : length gs ≤ 1024) where
  -- the three kinds of numbers
  pub num_order : (x : List ℕ) → index_of x os < length os → num_of os gs ls x ≡ index_of x os
  unfolding num_of
  num_order x l = rw (lt-ltb (index_of x os) (length os) l)

  pub num_group : (x : List ℕ) → ltb (index_of x os) (length os) ≡ false → index_of x gs < length gs → num_of os gs ls x ≡ 256 + index_of x gs
  unfolding num_of
  num_group x f l = rw (f, lt-ltb (index_of x gs) (length gs) l)

  pub num_other : (x : List ℕ) → ltb (index_of x os) (length os) ≡ false → ltb (index_of x gs) (length gs) ≡ false
      → num_of os gs ls x ≡ 1280 + index_of x ls
  unfolding num_of
  num_other x f g = rw (f, g)

  pub acc_order : (p : ℕ) → p < length os → acc_of os gs ls p ≡ get_or os p []
  unfolding acc_of
  acc_order p l = rw (lt-ltb p 256 (omega arith))

  pub acc_group : (g : ℕ) → g < length gs → acc_of os gs ls (256 + g) ≡ get_or gs g []
  unfolding acc_of
  acc_group g l =
      let z : 256 + g - 256 ≡ g = omega arith in
      rw (le-ltb (256 + g) 256 (omega arith), lt-ltb (256 + g) 1280 (omega arith), z)

  acc_other : (i : ℕ) → acc_of os gs ls (1280 + i) ≡ get_or ls i []
  unfolding acc_of
  acc_other i =
      let z : 1280 + i - 1280 ≡ i = omega arith in
      rw (le-ltb (1280 + i) 256 (omega arith), le-ltb (1280 + i) 1280 (omega arith), z)

  -- an account that is in one of the lists is the account of its number
  named : (x : List ℕ)
      → (ltb (index_of x os) (length os) ≡ false → ltb (index_of x gs) (length gs) ≡ false → index_of x ls < length ls) → Named os gs ls x
  named x h =
      by_bool (ltb (index_of x os) (length os))
      (λ t. let l = ltb-true (index_of x os) (length os) t in
      ap (acc_of os gs ls) (num_order x l) ∙ acc_order (index_of x os) l ∙ index_found x [] os l)
      (λ f. by_bool (ltb (index_of x gs) (length gs))
      (λ t. let l = ltb-true (index_of x gs) (length gs) t in
      ap (acc_of os gs ls) (num_group x f l) ∙ acc_group (index_of x gs) l ∙ index_found x [] gs l)
      (λ g. ap (acc_of os gs ls) (num_other x f g) ∙ acc_other (index_of x ls) ∙ index_found x [] ls (h f g)))

  pub named_order : (i : ℕ) → i < length os → Named os gs ls (get_or os i [])
  named_order i l =
      named (get_or os i []) (λ f g. clash (ltb (index_of (get_or os i []) os) (length os)) (lt-ltb (index_of (get_or os i []) os) (length os) (found _ os i l refl)) f)

  pub named_group : (i : ℕ) → i < length gs → Named os gs ls (get_or gs i [])
  named_group i l =
      named (get_or gs i []) (λ f g. clash (ltb (index_of (get_or gs i []) gs) (length gs)) (lt-ltb (index_of (get_or gs i []) gs) (length gs) (found _ gs i l refl)) g)

  pub named_other : (i : ℕ) → i < length ls → Named os gs ls (get_or ls i [])
  named_other i l = named (get_or ls i []) (λ f g. found (get_or ls i []) ls i l refl)

  -- the number of such an account is one
  pub is_number : (x : List ℕ) → Named os gs ls x → IsNumber os gs ls (num_of os gs ls x)
  is_number x e = ap (num_of os gs ls) e

  -- two numbers of accounts differ where their accounts do
  pub agrees : (a b : ℕ) → IsNumber os gs ls a → IsNumber os gs ls b → eq_l (acc_of os gs ls a) (acc_of os gs ls b) ≡ eqb a b
  agrees a b p q =
      by_bool (eqb a b)
      (λ t. rw (t, eqb-true a b t) (eq_l_self (acc_of os gs ls b)))
      (λ f. f' (eqb-false a b f) ∙ sym f)
    where
      f' : (a ≡ b → ⊥) → eq_l (acc_of os gs ls a) (acc_of os gs ls b) ≡ false
      f' n =
          by_bool (eq_l (acc_of os gs ls a) (acc_of os gs ls b))
          (λ t. absurd (n (sym p ∙ ap (num_of os gs ls) (eq_l_true _ _ t) ∙ q)))
          (λ f. f)

  -- the test of a number against the number of an account
  pub test_number : (p : ℕ) (x : List ℕ) → IsNumber os gs ls p → Named os gs ls x → eqb p (num_of os gs ls x) ≡ eq_l (acc_of os gs ls p) x
  test_number p x h e = sym (agrees p (num_of os gs ls x) h (is_number x e)) ∙ ap (eq_l (acc_of os gs ls p)) e

  pub test_nobody : (p : ℕ) (x : List ℕ) → (IsNumber os gs ls p → ⊥) → Named os gs ls x → eqb p (num_of os gs ls x) ≡ false
  test_nobody p x h e = ne_eqb p (num_of os gs ls x) (λ z. h (ap (λ (q : ℕ). num_of os gs ls (acc_of os gs ls q)) z ∙ ap (num_of os gs ls) e ∙ sym z))

  -- an account of the order or of the group has a number below 1,280
  pub small_group : (i : ℕ) → i < length gs → num_of os gs ls (get_or gs i []) < 1280
  small_group i l =
      let x = get_or gs i [] in
      by_bool (ltb (index_of x os) (length os))
      (λ t. let h = ltb-true (index_of x os) (length os) t in omega (arith, num_order x h))
      (λ f. let h = found x gs i l refl in omega (arith, num_group x f h))
