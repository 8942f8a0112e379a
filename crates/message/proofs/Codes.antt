-- What the number of a code says: 0 is done, and any other is a refusal's, which a `?` passes on. Assumes nothing.
use mathlib.Core.Path.{◌≡◌, refl, sym, ap, ◌∙◌}
use native.Mathlib.Omega.{arith}
use Rattle.std.specs.Prelude.{true, false, Ok, Err, is_err, IsErrAnd}
use Rattle.message.specs.declared.Refusal.{Refusal}
use Rattle.message.specs.declared.Refusal.TheVariants.{SetUp, Special, WrongKind, Full, Crowded, NoTransaction, InTransaction, HoldsExternal, TooLarge, FewKeys, ManySkips, NumbersUsedUp, Overfull, ManySlots, SharedAccount}
use Rattle.message.specs.Answers.{Code, number}

-- a refusal's number is not 0
pub refused_some : (r : Refusal) → number (Err r) ≡ 0 → ⊥
refused_some SetUp e = omega arith
refused_some Special e = omega arith
refused_some WrongKind e = omega arith
refused_some Full e = omega arith
refused_some Crowded e = omega arith
refused_some NoTransaction e = omega arith
refused_some InTransaction e = omega arith
refused_some HoldsExternal e = omega arith
refused_some TooLarge e = omega arith
refused_some FewKeys e = omega arith
refused_some ManySkips e = omega arith
refused_some NumbersUsedUp e = omega arith
refused_some Overfull e = omega arith
refused_some ManySlots e = omega arith
refused_some SharedAccount e = omega arith

-- the number by the test for a refusal
pub refused_number : (c : Code) → is_err c ≡ true → number c ≡ 0 → ⊥
refused_number (Ok u) e = cc
refused_number (Err r) e = refused_some r

pub done_number : (c : Code) → is_err c ≡ false → number c ≡ 0
done_number (Ok u) e = refl
done_number (Err r) e = cc

-- a refusal that a `?` passes on: what is given back is what was decided
pub passed_on : (given : Code) {decided : Code} {r : Refusal} → IsErrAnd given (λ y. y ≡ r) → decided ≡ Err r → (given ≡ decided) × (number given ≡ 0 → ⊥)
passed_on (Ok u) e d = absurd e
passed_on (Err y) e d = (ap Err e ∙ sym d, refused_some y)
