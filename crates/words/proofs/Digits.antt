-- Digits one by one: a loop that writes them from the last to the first. Assumes nothing.
use mathlib.Core.Path.{◌≡◌, ap, ◌∙◌}
use mathlib.Core.List.{List, [], ◌∷◌}
use Prim.Native.Nat.{ℕ, suc, ◌+◌, ◌-◌, ◌/◌, ◌%◌, ◌≤◌, ◌<◌}
use native.Mathlib.Nat.{sub-zero, le_antisymm}
use native.Mathlib.Omega.{arith}
use lib.ListN.{length, take, drop, set, length-set, drop_of_length-le}
use lib.Seq.{length-take-le, set_split, drop_at, take-set-lt}
use Rattle.words.specs.Digits.{spelled}

-- a cell that was just written stands in front of what lies behind it
drop_set_here : (l : List ℕ) (j x : ℕ) → j < length l → drop j (set l j x) ≡ x ∷ drop (suc j) l
drop_set_here l j x h = ap (drop j) (set_split l j x h) ∙ drop_at (take j l) _ j (length-take-le j l (omega arith))

module _ (base nought : ℕ) where
  -- `count` digits of n are written up to the place `top`, the last one first; i of them stand there
  pub record Spelling (n count top rest i : ℕ) (l : List ℕ) : Type 0 where
    pub within : i ≤ count
    pub long : length l ≡ top
    pub same : spelled base nought (count - i) rest (drop (top - i) l) ≡ spelled base nought count n []

  pub spell_start : (n count top : ℕ) (l : List ℕ) → length l ≡ top → Spelling n count top n 0 l
  spell_start n count top l e = record {
    within = omega arith;
    long = e;
    same = rw (drop_of_length-le l {i = top - 0} (omega arith), sub-zero);
  }

  module _ {n count top rest i : ℕ} {l : List ℕ} (v : Spelling n count top rest i l) where
    one_more : count ≤ top → i < count → (x : ℕ) → x ≡ nought + rest % base
        → spelled base nought (count - (i + 1)) (rest / base) (drop (top - (i + 1)) (set l (top - 1 - i) x)) ≡ spelled base nought count n []
    unfolding spelled
    one_more fits more x e =
        let here : top - (i + 1) ≡ top - 1 - i = omega arith in
        let behind : suc (top - 1 - i) ≡ top - i = omega arith in
        let again : count - i ≡ suc (count - (i + 1)) = omega arith in
        rw (here, drop_set_here l (top - 1 - i) x (omega (arith, v.long)), behind, e) (rw again at v.same)

    -- the next digit is written in front of those that stand there
    pub spell_step : count ≤ top → i < count → (j : ℕ) → j ≡ top - 1 - i → (x : ℕ) → x ≡ nought + rest % base
        → Spelling n count top (rest / base) (i + 1) (set l j x)
    spell_step fits more j here x e = record {
      within = omega arith;
      long = length-set l j x ∙ v.long;
      same = rw here (one_more fits more x e);
    }

    pub spell_end : count ≤ i → drop (top - count) l ≡ spelled base nought count n []
    unfolding spelled
    spell_end h =
        let e : i ≡ count = le_antisymm v.within h in
        let none : count - i ≡ 0 = omega arith in
        rw (none, e) at v.same

-- the same at the start of a longer row
pub spell_front : (base nought : ℕ) {n k rest i : ℕ} (out : List ℕ) → Spelling base nought n k k rest i (take k out) → i < k
    → (j : ℕ) → j ≡ k - 1 - i → (x : ℕ) → x ≡ nought + rest % base → Spelling base nought n k k (rest / base) (i + 1) (take k (set out j x))
spell_front base nought {k = k} out v more j here x e =
    rw (take-set-lt k out j x (omega arith)) (spell_step base nought v (omega arith) more j here x e)
