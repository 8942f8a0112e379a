-- The code by the mark of an open transaction, and what a code says of the mark. Assumes nothing.
use mathlib.Core.Path.{◌≡◌, ap}
use mathlib.Core.Bool.{true, false}
use Prim.Native.Nat.{ℕ}
use native.Mathlib.Omega.{arith}
use lib.Dec.{eqb}
use borrow.Author.Tests.{eq-eqb, ne_eqb}
use Rattle.std.specs.Prelude.{Err}
use Rattle.numbers.proofs.Bytes.{by_bool}
use Rattle.message.specs.declared.Refusal.TheVariants.{NoTransaction, InTransaction}
use Rattle.message.specs.Answers.{Code, Done, number as number_of}
use Rattle.keeping.specs.Marks.{begin_code, end_code}

-- ---- from the mark

module _ (n : ℕ) where
  pub may_begin_lem : n ≡ 0 → Done ≡ begin_code n
  may_begin_lem e = rw (eq-eqb n 0 e)

  pub one_open : (n ≡ 0 → ⊥) → Err InTransaction ≡ begin_code n
  one_open d = rw (ne_eqb n 0 d)

  pub may_end_lem : (n ≡ 0 → ⊥) → Done ≡ end_code n
  may_end_lem d = rw (ne_eqb n 0 d)

  pub none_open : n ≡ 0 → Err NoTransaction ≡ end_code n
  none_open e = rw (eq-eqb n 0 e)

-- ---- to the mark

module _ {k : Code} (n : ℕ) where
  pub begins : k ≡ begin_code n → number_of k ≡ 0 → eqb n 0 ≡ true
  begins e d = by_bool (eqb n 0) (λ t. t) (λ f. let u : k ≡ Err InTransaction = rw f at e in absurd (omega (arith, ap number_of u)))

  pub begun_already : k ≡ begin_code n → (number_of k ≡ 0 → ⊥) → eqb n 0 ≡ false
  begun_already e d = by_bool (eqb n 0) (λ t. let u : k ≡ Done = rw t at e in absurd (d (ap number_of u))) (λ f. f)

  pub ends : k ≡ end_code n → number_of k ≡ 0 → eqb n 0 ≡ false
  ends e d = by_bool (eqb n 0) (λ t. let u : k ≡ Err NoTransaction = rw t at e in absurd (omega (arith, ap number_of u))) (λ f. f)

  pub none_to_end : k ≡ end_code n → (number_of k ≡ 0 → ⊥) → eqb n 0 ≡ true
  none_to_end e d = by_bool (eqb n 0) (λ t. t) (λ f. let u : k ≡ Done = rw f at e in absurd (d (ap number_of u)))
