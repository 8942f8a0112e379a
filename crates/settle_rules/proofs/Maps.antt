-- Laws of maps over tables, picks and gatherings, and of picks over a column that was laid over another. Assumes nothing.
use mathlib.Core.Path.{◌≡◌, refl, sym, ap, ap₂, ◌∙◌}
use mathlib.Core.Bool.{Bool, true, false}
use mathlib.Core.List.{List, [], ◌∷◌, ◌++◌, map}
use Prim.Native.Nat.{ℕ, zero, suc, ◌+◌, ◌-◌, ◌<◌, ◌≤◌}
use native.Mathlib.Nat.{not-suc-le-zero, le_of_suc-le-suc, le_refl, add-zero, zero-add}
use native.Mathlib.Omega.{arith}
use lib.Dec.{eqb}
use lib.ListN.{length, get_or, take, drop}
use lib.Seq.{length-take-le, get_or-take, drop_at}
use borrow.Author.Tests.{ne_eqb}
use Rattle.numbers.proofs.Bytes.{by_bool}
use Rattle.columns.specs.Lists.{tab_i, pick, gather, rank}
use Rattle.columns.specs.Laid.{laid_at}
use Rattle.columns.proofs.Tabs.{later, length_tab, tab_cong, tab_get_d}
use Rattle.rules.specs.World.{keep, is_nil}

-- ---- tables

pub map_tab : {A B : Type 0} (h : A → B) (k : ℕ → A) (m i : ℕ) → map h (tab_i m i k) ≡ tab_i m i (λ j. h (k j))
unfolding tab_i
map_tab h k zero i = refl
map_tab h k (suc m) i = ap (λ l. h (k i) ∷ l) (map_tab h k m (i + 1))

pub tab_split : {A : Type 0} (f : ℕ → A) (m n i : ℕ) → tab_i (m + n) i f ≡ tab_i m i f ++ tab_i n (i + m) f
unfolding tab_i
tab_split f zero n i = rw (zero-add, add-zero)
tab_split f (suc m) n i =
    let e : suc m + n ≡ suc (m + n) = omega arith in
    let z : i + 1 + m ≡ i + suc m = omega arith in
    rw e (ap (λ l. f i ∷ l) (tab_split f m n (i + 1) ∙ rw z))

-- what stands behind the first r of a table
pub drop_tab : {A : Type 0} (f : ℕ → A) (r k : ℕ) → r ≤ k → drop r (tab_i k 0 f) ≡ tab_i (k - r) r f
drop_tab f r k l =
    let e : k ≡ r + (k - r) = omega arith in
    ap (λ (j : ℕ). drop r (tab_i j 0 f)) e ∙ ap (drop r) (tab_split f r (k - r) 0)
    ∙ drop_at (tab_i r 0 f) _ r (length_tab r 0 f) ∙ ap (λ (j : ℕ). tab_i (k - r) j f) (zero-add r)

pub take_tab : (n : ℕ) (xs : List ℕ) → n ≤ length xs → tab_i n 0 (λ k. get_or xs k 0) ≡ take n xs
take_tab n xs l =
    tab_get_d 0 (take n xs) n 0 (sym (length-take-le n xs l)) (λ k. get_or xs k 0) (λ j h. ap (λ (k : ℕ). get_or xs k 0) (zero-add j) ∙ sym (get_or-take n xs j 0 h))

-- ---- gathered, or kept and mapped

pub gather_map : {A B : Type 0} (t : ℕ → Bool) (g : ℕ → B) (h : A → B) (q : A → Bool) (k : ℕ → A) (m i : ℕ)
    → ((j : ℕ) → i ≤ j → j < i + m → t j ≡ q (k j)) → ((j : ℕ) → i ≤ j → j < i + m → t j ≡ true → g j ≡ h (k j))
    → gather t g m i ≡ map h (keep q (tab_i m i k))
unfolding gather keep tab_i
gather_map t g h q k zero i a b = refl
gather_map t g h q k (suc m) i a b =
    let ih = gather_map t g h q k m (i + 1) (later m i a) (later m i b) in
    let e = a i (le_refl i) (omega arith) in
    by_bool (t i)
    (λ c. let z : q (k i) ≡ true = sym e ∙ c in rw (c, z) (ap₂ ◌∷◌ (b i (le_refl i) (omega arith) c) ih))
    (λ c. let z : q (k i) ≡ false = sym e ∙ c in rw (c, z) ih)

-- ---- picks

pub map_pick : {A B : Type 0} (h : A → B) (g : ℕ → A) (p m i : ℕ) (os : List ℕ) → map h (pick g p m i os) ≡ pick (λ j. h (g j)) p m i os
unfolding pick
map_pick h g p zero i os = refl
map_pick h g p (suc m) i [] = refl
map_pick h g p (suc m) i (o ∷ os) =
    by_bool (eqb o p) (λ e. simp e (ap (λ l. h (g i) ∷ l) (map_pick h g p m (i + 1) os))) (λ e. simp e (map_pick h g p m (i + 1) os))

-- a pick looks at the first m owners
pub pick_first : {A : Type 0} (f : ℕ → A) (p m i : ℕ) (xs ys : List ℕ) → m ≤ length xs → pick f p m i (xs ++ ys) ≡ pick f p m i xs
unfolding pick
pick_first f p zero i xs ys l = refl
pick_first f p (suc m) i [] ys l = absurd (not-suc-le-zero l)
pick_first f p (suc m) i (x ∷ xs) ys l = rw (pick_first f p m (i + 1) xs ys (le_of_suc-le-suc l))

pub pick_take : {A : Type 0} (f : ℕ → A) (p m i : ℕ) (xs : List ℕ) → pick f p m i (take m xs) ≡ pick f p m i xs
unfolding pick
pick_take f p zero i xs = refl
pick_take f p (suc m) i [] = refl
pick_take f p (suc m) i (x ∷ xs) = rw (pick_take f p m (i + 1) xs)

pub pick_laid : {A : Type 0} (f : ℕ → A) (p m : ℕ) (xs ys : List ℕ) → m ≤ length xs → pick f p m 0 (laid_at 0 (take m xs) ys) ≡ pick f p m 0 xs
unfolding laid_at
pick_laid f p m xs ys l =
    pick_first f p m 0 (take m xs) (drop (0 + length (take m xs)) ys) (omega (arith, length-take-le m xs l)) ∙ pick_take f p m 0 xs

-- a pick over two columns, one behind the other
pub pick_both : {A : Type 0} (f : ℕ → A) (p m n i : ℕ) (xs ys : List ℕ) → length xs ≡ m → pick f p (m + n) i (xs ++ ys) ≡ pick f p m i xs ++ pick f p n (i + m) ys
unfolding pick
pick_both f p zero n i [] ys e = rw (zero-add, add-zero)
pick_both f p zero n i (x ∷ xs) ys e = absurd (not-suc-le-zero {n = length xs} (omega arith))
pick_both f p (suc m) n i [] ys e = absurd (not-suc-le-zero {n = m} (omega arith))
pick_both f p (suc m) n i (x ∷ xs) ys e =
    let z : suc m + n ≡ suc (m + n) = omega arith in
    let w : i + 1 + m ≡ i + suc m = omega arith in
    let ih = pick_both f p m n (i + 1) xs ys (omega arith) ∙ ap (λ (k : ℕ). pick f p m (i + 1) xs ++ pick f p n k ys) w in
    rw z (by_bool (eqb x p) (λ b. simp b (ap (λ l. f i ∷ l) ih)) (λ b. simp b ih))

-- no row is gathered exactly if the rank is 0
pub nil_length : {A : Type 0} (xs : List A) → is_nil xs ≡ eqb (length xs) 0
unfolding is_nil
nil_length [] = refl
nil_length (x ∷ xs) = sym (ne_eqb (suc (length xs)) 0 (λ e. omega arith))

pub nil_map : {A B : Type 0} (h : A → B) (xs : List A) → is_nil (map h xs) ≡ is_nil xs
unfolding is_nil
nil_map h [] = refl
nil_map h (x ∷ xs) = refl
