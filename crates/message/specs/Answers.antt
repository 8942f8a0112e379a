-- The enums that answer, each case with the number or the values that document 01 gives it. Assumes nothing.
use Rattle.std.specs.Prelude.{ℕ, zero, suc, Result, Ok, Err}
use Rattle.message.specs.declared.Refusal.{Refusal}
use Rattle.message.specs.declared.Refusal.TheVariants.{SetUp, Special, WrongKind, Full, Crowded, NoTransaction, InTransaction, HoldsExternal, TooLarge, FewKeys, ManySkips, NumbersUsedUp, Overfull, ManySlots, SharedAccount}
use Rattle.message.specs.declared.Kind.{Kind}
use Rattle.message.specs.declared.Kind.TheVariants.{Internal, External, Refused}

-- the column "no." of 01's table of codes
abbrev pub refusal_number : Refusal → ℕ
refusal_number SetUp = 1
refusal_number Special = 2
refusal_number WrongKind = 3
refusal_number Full = 4
refusal_number Crowded = 5
refusal_number NoTransaction = 6
refusal_number InTransaction = 7
refusal_number HoldsExternal = 8
refusal_number TooLarge = 9
refusal_number FewKeys = 10
refusal_number ManySkips = 11
refusal_number NumbersUsedUp = 12
refusal_number Overfull = 13
refusal_number ManySlots = 14
refusal_number SharedAccount = 15

-- what a call answers: done, or why it was refused
abbrev pub Code : Type 0
Code = Result (Unit {0}) Refusal

abbrev pub Done : Code
Done = Ok tt

abbrev pub number : Code → ℕ
number (Ok u) = 0
number (Err r) = refusal_number r

-- "kind (0 internal, 1 external in, ..)", and "kind is neither 0 nor 1" is refused
abbrev pub kind_of : ℕ → Kind
kind_of zero = Internal
kind_of (suc zero) = External
kind_of (suc (suc n)) = Refused
