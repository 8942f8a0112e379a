-- What the loop of `decimal::spell` keeps. See Answers.antt.
use Prim.Native.Nat.{◌-◌}
use lib.ListN.{take}
use Rattle.words.proofs.Digits.{Spelling}
use Rattle.words.proofs.decimal.spell.Given as goal

abbrev pub invariant-loop-i : goal.invariant-loop-i
invariant-loop-i l = Spelling 10 48 l.n l.k l.k l.rest (l.k - l.i) (take l.k l.out)
