-- Lists by index: made from a function of the index, picked by an owner, kept by a test, mapped and counted. Each recurses on how many
-- indices are left and steps the index by one, as a loop does; the first element of a list argument has the index i. Assumes nothing.
use Rattle.std.specs.Prelude.{Bool, cond, List, [], ◌∷◌, ℕ, zero, suc, ◌+◌, eqb}

module _ {A : Type 0} where
  -- f of each of the m numbers from i on
  unfoldable pub tab_i : ℕ → ℕ → (ℕ → A) → List A
  tab_i zero i f = []
  tab_i (suc m) i f = f i ∷ tab_i m (i + 1) f

  -- f of each of the m numbers from i on that pass the test
  unfoldable pub gather : (ℕ → Bool) → (ℕ → A) → ℕ → ℕ → List A
  gather t f zero i = []
  gather t f (suc m) i = cond (t i) (f i ∷ gather t f m (i + 1)) (gather t f m (i + 1))

  -- f of each index whose owner is p, among the first m owners
  unfoldable pub pick : (ℕ → A) → (p m i : ℕ) → List ℕ → List A
  pick f p zero i os = []
  pick f p (suc m) i [] = []
  pick f p (suc m) i (o ∷ os) = cond (eqb o p) (f i ∷ pick f p m (i + 1) os) (pick f p m (i + 1) os)

  -- the list with each of its first m elements replaced by g of its index and of itself
  unfoldable pub map_i : (ℕ → A → A) → ℕ → ℕ → List A → List A
  map_i g zero i xs = xs
  map_i g (suc m) i [] = []
  map_i g (suc m) i (x ∷ xs) = g i x ∷ map_i g m (i + 1) xs

  -- how many of the first m elements pass a test of the index and the element
  unfoldable pub count_i : (ℕ → A → Bool) → ℕ → ℕ → List A → ℕ
  count_i h zero i xs = 0
  count_i h (suc m) i [] = 0
  count_i h (suc m) i (x ∷ xs) = cond (h i x) 1 0 + count_i h m (i + 1) xs

-- how many numbers below i pass the test: where a kept index goes
unfoldable pub rank : (ℕ → Bool) → ℕ → ℕ
rank t zero = 0
rank t (suc i) = rank t i + cond (t i) 1 0
