-- The marks and the costs of the columns are those of the rules: the set and the first row of an account, on numbers. Assumes nothing.
use mathlib.Core.Path.{◌≡◌, refl, sym, ap, ◌∙◌}
use mathlib.Core.Bool.{Bool, true, false, cond, not}
use mathlib.Core.List.{List, [], ◌∷◌, map}
use Prim.Native.Nat.{ℕ, zero, suc, ◌+◌, ◌<◌, ◌≤◌}
use native.Mathlib.Nat.{not-suc-le-zero, le_of_suc-le-suc, add-zero, zero-add, le_refl}
use native.Mathlib.Omega.{arith}
use lib.Dec.{eqb, ltb}
use lib.ListN.{length, get_or}
use borrow.Author.Tests.{eq-eqb, ne_eqb, eqb-true, eqb-false, lt-ltb, le-ltb, ltb-true, ltb-false}
use Rattle.numbers.specs.Bytes.{eq_l}
use Rattle.numbers.proofs.Bytes.{by_bool, clash, eq_l_sym}
use Rattle.rules.specs.World.{World, Skip, Args}
use Rattle.rules.specs.Queues.{is_in}
use Rattle.rules.specs.Passes.{verdict_in, cost_in}
use Rattle.columns.specs.Lists.{tab_i}
use Rattle.columns.specs.Rows.{row_at, rows_of, index_of}
use Rattle.columns.proofs.Tabs.{later}
use Rattle.columns.proofs.Rows.{length_rows, get_d_rows}
use Rattle.meaning.specs.Meaning.{Numbers}
use Rattle.entry.specs.Entry.{Sayings, mark_by, mark_of, cost_of, verdict_mark}
use Rattle.message.specs.Real.{Real}
use Rattle.entry_rules.proofs.Naming.{in_found}

-- ---- any world: the rows of a table, looked at by an account

module _ (W : World) (A : Args W) (a : W.Acc) (f : ℕ → Skip W) where
  -- no row is the account's
  pub verdict_none : (m i : ℕ) → ((j : ℕ) → i ≤ j → j < i + m → W.same a (f j).acc ≡ false) → verdict_in W A a (tab_i m i f) ≡ false
  unfolding verdict_in tab_i
  verdict_none zero i h = refl
  verdict_none (suc m) i h = rw (h i (le_refl i) (omega arith)) (verdict_none m (i + 1) (later m i h))

  pub cost_none : (m i : ℕ) → ((j : ℕ) → i ≤ j → j < i + m → W.same a (f j).acc ≡ false) → cost_in W A a (tab_i m i f) ≡ A.cost
  unfolding cost_in tab_i
  cost_none zero i h = refl
  cost_none (suc m) i h = rw (h i (le_refl i) (omega arith)) (cost_none m (i + 1) (later m i h))

  -- the account looks at the rows as the bytes x look at rs
  module _ (x : List ℕ) where
    pub verdict_first : (rs : List (List ℕ)) (m i : ℕ) → m ≡ length rs → ((j : ℕ) → j < m → W.same a (f (i + j)).acc ≡ eq_l x (get_or rs j []))
        → verdict_in W A a (tab_i m i f) ≡ cond (ltb (index_of x rs) m) (f (i + index_of x rs)).skip false
    unfolding verdict_in tab_i index_of
    verdict_first [] zero i e h = refl
    verdict_first [] (suc m) i e h = absurd (not-suc-le-zero {n = m} (omega arith))
    verdict_first (r ∷ rs) zero i e h = absurd (not-suc-le-zero {n = length rs} (omega arith))
    verdict_first (r ∷ rs) (suc m) i e h =
        let here : W.same a (f i).acc ≡ eq_l r x = ap (λ (k : ℕ). W.same a (f k).acc) (sym (add-zero i)) ∙ h 0 (omega arith) ∙ eq_l_sym x r in
        let go = verdict_first rs m (i + 1) (omega arith) (λ j l. ap (λ (k : ℕ). W.same a (f k).acc) (next i j) ∙ h (suc j) (omega arith)) in
        by_bool (eq_l r x)
        (λ t. let z : ltb 0 (suc m) ≡ true = lt-ltb 0 (suc m) (omega arith) in rw (here, t, add-zero i, z))
        (λ t. rw (here, t) (go ∙ by_bool (ltb (index_of x rs) m)
        (λ u. let l = ltb-true (index_of x rs) m u in rw (u, lt-ltb (suc (index_of x rs)) (suc m) (omega arith), next i (index_of x rs)))
        (λ u. let l = ltb-false (index_of x rs) m u in rw (u, le-ltb (suc (index_of x rs)) (suc m) (omega arith)))))
      where
        next : (i j : ℕ) → i + 1 + j ≡ i + suc j
        next i j = omega arith

    pub cost_first : (rs : List (List ℕ)) (m i : ℕ) → m ≡ length rs → ((j : ℕ) → j < m → W.same a (f (i + j)).acc ≡ eq_l x (get_or rs j []))
        → cost_in W A a (tab_i m i f) ≡ cond (ltb (index_of x rs) m) (f (i + index_of x rs)).cost A.cost
    unfolding cost_in tab_i index_of
    cost_first [] zero i e h = refl
    cost_first [] (suc m) i e h = absurd (not-suc-le-zero {n = m} (omega arith))
    cost_first (r ∷ rs) zero i e h = absurd (not-suc-le-zero {n = length rs} (omega arith))
    cost_first (r ∷ rs) (suc m) i e h =
        let here : W.same a (f i).acc ≡ eq_l r x = ap (λ (k : ℕ). W.same a (f k).acc) (sym (add-zero i)) ∙ h 0 (omega arith) ∙ eq_l_sym x r in
        let go = cost_first rs m (i + 1) (omega arith) (λ j l. ap (λ (k : ℕ). W.same a (f k).acc) (next i j) ∙ h (suc j) (omega arith)) in
        by_bool (eq_l r x)
        (λ t. let z : ltb 0 (suc m) ≡ true = lt-ltb 0 (suc m) (omega arith) in rw (here, t, add-zero i, z))
        (λ t. rw (here, t) (go ∙ by_bool (ltb (index_of x rs) m)
        (λ u. let l = ltb-true (index_of x rs) m u in rw (u, lt-ltb (suc (index_of x rs)) (suc m) (omega arith), next i (index_of x rs)))
        (λ u. let l = ltb-false (index_of x rs) m u in rw (u, le-ltb (suc (index_of x rs)) (suc m) (omega arith)))))
      where
        next : (i j : ℕ) → i + 1 + j ≡ i + suc j
        next i j = omega arith

-- ---- a set of numbers of accounts

module _ (ext : ℕ → Bool) (time : ℕ → ℕ) (n : List ℕ → ℕ) (p : ℕ) where
  pub in_none : (rs : List (List ℕ)) → ((j : ℕ) → j < length rs → eqb p (n (get_or rs j [])) ≡ false) → is_in (Numbers ext time) p (map n rs) ≡ false
  unfolding is_in
  in_none [] h = refl
  in_none (r ∷ rs) h = rw (h 0 (omega arith)) (in_none rs (λ j l. h (suc j) (omega arith)))

  pub in_same : (x : List ℕ) (rs : List (List ℕ)) → ((j : ℕ) → j < length rs → eqb p (n (get_or rs j [])) ≡ eq_l x (get_or rs j []))
      → is_in (Numbers ext time) p (map n rs) ≡ is_in Real x rs
  unfolding is_in
  in_same x [] h = refl
  in_same x (r ∷ rs) h = rw (h 0 (omega arith), in_same x rs (λ j l. h (suc j) (omega arith)))

-- ---- what a mark says

verdict_not_two : (v : ℕ) → eqb (verdict_mark v) 2 ≡ false
verdict_not_two v = by_bool (eqb v 0) (λ t. rw t) (λ t. rw t)

verdict_one : (v : ℕ) → eqb (verdict_mark v) 1 ≡ not (eqb v 0)
verdict_one v = by_bool (eqb v 0) (λ t. rw t) (λ t. rw t)

module _ (s : Sayings) (x : List ℕ) where
  abbrev inset : Bool
  inset = ltb (index_of x (rows_of s.k s.set)) s.k

  abbrev pub has_row : Bool
  has_row = ltb (index_of x (rows_of s.n s.names)) s.n

  -- 2 is in the set
  pub mark_two : eqb (mark_of s x) 2 ≡ is_in Real x (rows_of s.k s.set)
  unfolding mark_of mark_by
  mark_two =
      by_bool inset
      (λ t. rw t (sym (whole ∙ t)))
      (λ f. rw f (by_bool has_row (λ t. rw t (verdict_not_two (get_or s.verdicts (index_of x (rows_of s.n s.names)) 0))) (λ g. rw g) ∙ sym (whole ∙ f)))
    where
      whole : is_in Real x (rows_of s.k s.set) ≡ inset
      whole = in_found x (rows_of s.k s.set) ∙ ap (ltb (index_of x (rows_of s.k s.set))) (length_rows s.k s.set)

  -- 1 is not, and its first row says skip
  pub mark_one : eqb (mark_of s x) 2 ≡ false
      → eqb (mark_of s x) 1 ≡ cond has_row (not (eqb (get_or s.verdicts (index_of x (rows_of s.n s.names)) 0) 0)) false
  unfolding mark_of mark_by
  mark_one e =
      by_bool inset
      (λ t. clash true refl (rw t at e))
      (λ f. rw f (by_bool has_row (λ t. rw t (verdict_one (get_or s.verdicts (index_of x (rows_of s.n s.names)) 0))) (λ g. rw g)))
