-- A column whose cells in use are cleared is as long a column of zeros. Assumes nothing.
use mathlib.Core.Path.{◌≡◌, sym, ◌∙◌}
use mathlib.Core.List.{List}
use Prim.Native.Nat.{ℕ, ◌+◌, ◌<◌, ◌≤◌}
use native.Mathlib.Nat.{zero-add}
use native.Mathlib.Omega.{arith}
use lib.Dec.{ltb}
use lib.ListN.{length, get_or, replicate, length-replicate, get_or-replicate}
use lib.Seq.{ext_get_or}
use borrow.Author.Tests.{ltb-true, ltb-false}
use Rattle.numbers.proofs.Bytes.{by_bool}
use Rattle.columns.specs.Laid.{laid_at}
use Rattle.columns.proofs.Laid.{length_laid, get_d_laid_in, get_d_laid_behind}
use Rattle.clearing.specs.Clear.{InUse, Clear}

module _ {n size : ℕ} {col : List ℕ} (u : InUse n size col) where
  -- what is laid
  size_laid : length (replicate {A = ℕ} n 0) ≡ n
  size_laid = length-replicate {A = ℕ} n 0

  pub room : 0 + n ≤ length col
  room = omega (arith, u.long, u.few)

  fits : 0 + length (replicate {A = ℕ} n 0) ≤ length col
  fits = omega (arith, size_laid, room)

  zero_at : (i : ℕ) → i < size → get_or (laid_at 0 (replicate n 0) col) i 0 ≡ 0
  zero_at i l =
      by_bool (ltb i n)
      (λ t.
      let h = ltb-true i n t in
      (rw (zero-add i) at (get_d_laid_in 0 (replicate n 0) col fits i 0 (omega (arith, size_laid)))) ∙ get_or-replicate n i 0 0 h)
      (λ f.
      let h = ltb-false i n f in
      get_d_laid_behind 0 (replicate n 0) col fits i 0 (omega (arith, size_laid)) ∙ u.past i h l)

  pub cleared : (made : List ℕ) → made ≡ laid_at 0 (replicate n 0) col → Clear size made
  cleared made e =
      let long : length (laid_at 0 (replicate n 0) col) ≡ size = length_laid 0 (replicate n 0) col fits ∙ u.long in
      e
      ∙ ext_get_or 0 (laid_at 0 (replicate n 0) col) (replicate size 0) (long ∙ sym (length-replicate {A = ℕ} size 0))
      (λ i l. zero_at i (omega (arith, long)) ∙ sym (get_or-replicate size i 0 0 (omega (arith, long))))
