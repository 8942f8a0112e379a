-- What a kind byte is, told by the decision on it: whoever branches on `kind_of` reads the rules' tests on the number off these.
-- Assumes nothing.
use mathlib.Core.Path.{◌≡◌, refl}
use Prim.Native.Nat.{ℕ, zero, suc, ◌<◌}
use native.Mathlib.Omega.{arith}
use Rattle.message.specs.declared.Kind.TheVariants.{Internal, External, Refused}
use Rattle.message.specs.Answers.{kind_of}

pub internal_kind : (n : ℕ) → kind_of n ≡ Internal → n ≡ 0
internal_kind zero e = refl
internal_kind (suc zero) e = cc
internal_kind (suc (suc n)) e = cc

pub external_kind : (n : ℕ) → kind_of n ≡ External → n ≡ 1
external_kind zero e = cc
external_kind (suc zero) e = refl
external_kind (suc (suc n)) e = cc

pub refused_kind : (n : ℕ) → kind_of n ≡ Refused → 1 < n
refused_kind zero e = let z : ◌≡◌ {A = ℕ} 0 1 = cc in omega arith
refused_kind (suc zero) e = let z : ◌≡◌ {A = ℕ} 0 1 = cc in omega arith
refused_kind (suc (suc n)) e = omega arith
