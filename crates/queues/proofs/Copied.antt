-- What stands in a column after n of its cells were copied: its length, and the cells before, within and behind them. Assumes nothing.
use mathlib.Core.Path.{◌≡◌, ◌∙◌}
use mathlib.Core.List.{List}
use Prim.Native.Nat.{ℕ, ◌+◌, ◌<◌, ◌≤◌}
use native.Mathlib.Omega.{arith}
use lib.ListN.{length, get_or, take, drop, length-drop}
use lib.Seq.{length-take-le, get_or-take, get_or-drop}
use Rattle.columns.proofs.Laid.{length_laid, drop_laid, get_d_laid_before, get_d_laid_in, get_d_laid_behind}
use Rattle.queues.specs.Transact.{copied}

module _ (from to n : ℕ) (xs : List ℕ) (source : from + n ≤ length xs) (target : to + n ≤ length xs) where
  taken : length (take n (drop from xs)) ≡ n
  taken = length-take-le n (drop from xs) (simp length-drop (omega arith))

  pub length_copied : length (copied from to n xs) ≡ length xs
  length_copied = length_laid to (take n (drop from xs)) xs (omega (arith, taken))

  pub copied_before : (i : ℕ) → i < to → get_or (copied from to n xs) i 0 ≡ get_or xs i 0
  copied_before i l = get_d_laid_before to (take n (drop from xs)) xs (omega (arith, taken)) i 0 l

  pub copied_in : (i : ℕ) → i < n → get_or (copied from to n xs) (to + i) 0 ≡ get_or xs (from + i) 0
  copied_in i l =
      get_d_laid_in to (take n (drop from xs)) xs (omega (arith, taken)) i 0 (omega (arith, taken))
      ∙ get_or-take n (drop from xs) i 0 l
      ∙ get_or-drop from xs i 0

  pub copied_behind : (i : ℕ) → to + n ≤ i → get_or (copied from to n xs) i 0 ≡ get_or xs i 0
  copied_behind i l = get_d_laid_behind to (take n (drop from xs)) xs (omega (arith, taken)) i 0 (omega (arith, taken))

  pub drop_copied : (k : ℕ) → to + n ≤ k → drop k (copied from to n xs) ≡ drop k xs
  drop_copied k l = drop_laid to (take n (drop from xs)) xs (omega (arith, taken)) k (omega (arith, taken))
