-- What a search of the columns finds is what the rules' tests find: a count that is 0, a test that fails of every row and of every message
-- of a queue, rows kept by a test, and an account among names. Assumes nothing.
use mathlib.Core.Path.{◌≡◌, refl, sym, ◌∙◌}
use mathlib.Core.Bool.{Bool, false}
use mathlib.Core.List.{List, [], ◌∷◌}
use Prim.Native.Nat.{ℕ, zero, suc, ◌+◌, ◌<◌, ◌≤◌}
use native.Mathlib.Nat.{not-suc-le-zero, le_refl, add-zero}
use native.Mathlib.Omega.{arith}
use lib.Dec.{eqb, ltb, leb-suc-suc}
use lib.ListN.{length, get_or}
use borrow.Author.Tests.{eq-eqb, lt-ltb, eqb-true, eqb-false}
use Rattle.numbers.specs.Bytes.{eq_l}
use Rattle.numbers.proofs.Bytes.{by_bool, clash, eq_l_sym}
use Rattle.columns.specs.Lists.{tab_i, pick, gather, count_i}
use Rattle.columns.specs.Rows.{index_of}
use Rattle.columns.proofs.Tabs.{later}
use Rattle.rules.specs.World.{keep, some_of}
use Rattle.rules.specs.Queues.{is_in}
use Rattle.demands.proofs.Rows.{or_false}
use Rattle.message.specs.Real.{Real}

-- ---- an account among names

pub index_is_in : (x : List ℕ) (rs : List (List ℕ)) → ltb (index_of x rs) (length rs) ≡ is_in Real x rs
unfolding index_of is_in
index_is_in x [] = refl
index_is_in x (r ∷ rs) =
    rw (eq_l_sym r x)
    (by_bool (eq_l x r)
    (λ e. rw e (lt-ltb 0 (suc (length rs)) (omega arith)))
    (λ e. rw e (leb-suc-suc (suc (index_of x rs)) (length rs) ∙ index_is_in x rs)))

-- ---- rows

module _ {A : Type 0} (q : A → Bool) where
  -- gathered by a test of the places, or kept by one of what stands there
  pub gather_keep : (t : ℕ → Bool) (f : ℕ → A) (m i : ℕ) → ((j : ℕ) → i ≤ j → j < i + m → t j ≡ q (f j)) → gather t f m i ≡ keep q (tab_i m i f)
  unfolding gather keep tab_i
  gather_keep t f zero i h = refl
  gather_keep t f (suc m) i h = rw (h i (le_refl i) (omega arith), gather_keep t f m (i + 1) (later m i h))

  -- the test fails of every row of a table
  pub none_tab : (f : ℕ → A) (m i : ℕ) → ((j : ℕ) → i ≤ j → j < i + m → q (f j) ≡ false) → some_of q (tab_i m i f) ≡ false
  unfolding some_of tab_i
  none_tab f zero i h = refl
  none_tab f (suc m) i h = rw (h i (le_refl i) (omega arith)) (none_tab f m (i + 1) (later m i h))

  pub tab_none : (f : ℕ → A) (m i : ℕ) → some_of q (tab_i m i f) ≡ false → (j : ℕ) → i ≤ j → j < i + m → q (f j) ≡ false
  unfolding some_of tab_i
  tab_none f zero i e j a l = absurd (not-suc-le-zero {n = 0} (omega arith))
  tab_none f (suc m) i e j a l =
      let parts = or_false (q (f i)) (some_of q (tab_i m (i + 1) f)) e in
      by_bool (eqb i j)
      (λ b. rw (← eqb-true i j b) parts.0)
      (λ b. let n = eqb-false i j b in tab_none f m (i + 1) parts.1 j (omega arith) (omega arith))

  -- and of every message of a queue
  pub none_queue : (f : ℕ → A) (p m i : ℕ) (os : List ℕ) → ((j k : ℕ) → k ≡ i + j → j < m → get_or os j 0 ≡ p → q (f k) ≡ false) → some_of q (pick f p m i os) ≡ false
  unfolding some_of pick
  none_queue f p zero i os h = refl
  none_queue f p (suc m) i [] h = refl
  none_queue f p (suc m) i (o ∷ os) h =
      let rest = none_queue f p m (i + 1) os (λ j k e l. h (suc j) k (omega arith) (omega arith)) in
      by_bool (eqb o p)
      (λ b. rw (b, h 0 i (sym (add-zero i)) (omega arith) (eqb-true o p b)) rest)
      (λ b. rw b rest)

  pub queue_none : (f : ℕ → A) (p m i : ℕ) (os : List ℕ) → some_of q (pick f p m i os) ≡ false
      → (j k : ℕ) → k ≡ i + j → j < m → j < length os → get_or os j 0 ≡ p → q (f k) ≡ false
  unfolding some_of pick
  queue_none f p zero i os e j k z a l o = absurd (not-suc-le-zero a)
  queue_none f p (suc m) i [] e j k z a l o = absurd (not-suc-le-zero l)
  queue_none f p (suc m) i (x ∷ os) e zero k z a l o =
      let y : k ≡ i = z ∙ add-zero i in
      rw y (or_false (q (f i)) (some_of q (pick f p m (i + 1) os)) (rw (eq-eqb x p o) at e)).0
  queue_none f p (suc m) i (x ∷ os) e (suc j) k z a l o =
      let rest : some_of q (pick f p m (i + 1) os) ≡ false =
      by_bool (eqb x p) (λ b. (or_false (q (f i)) (some_of q (pick f p m (i + 1) os)) (rw b at e)).1) (λ b. rw b at e) in
      queue_none f p m (i + 1) os rest j k (omega arith) (omega arith) (omega arith) o

-- ---- a count

module _ (h : ℕ → ℕ → Bool) where
  pub none_counted : (m i : ℕ) (xs : List ℕ) → ((j k : ℕ) → k ≡ i + j → j < m → h k (get_or xs j 0) ≡ false) → count_i h m i xs ≡ 0
  unfolding count_i
  none_counted zero i xs f = refl
  none_counted (suc m) i [] f = refl
  none_counted (suc m) i (x ∷ xs) f = rw (f 0 i (sym (add-zero i)) (omega arith), none_counted m (i + 1) xs (λ j k e l. f (suc j) k (omega arith) (omega arith)))

  pub counted_none : (m i : ℕ) (xs : List ℕ) → count_i h m i xs ≡ 0 → (j k : ℕ) → k ≡ i + j → j < m → j < length xs → h k (get_or xs j 0) ≡ false
  unfolding count_i
  counted_none zero i xs e j k z a l = absurd (not-suc-le-zero a)
  counted_none (suc m) i [] e j k z a l = absurd (not-suc-le-zero l)
  counted_none (suc m) i (x ∷ xs) e zero k z a l =
      let y : k ≡ i = z ∙ add-zero i in
      rw y (by_bool (h i x) (λ b. absurd (not-suc-le-zero {n = 0} (let d = rw b at e in omega arith))) (λ b. b))
  counted_none (suc m) i (x ∷ xs) e (suc j) k z a l =
      counted_none m (i + 1) xs (omega arith) j k (omega arith) (omega arith) (omega arith)
