-- `words::decimal::spell` meets its contract: each digit is written in front of those that stand there (proofs/Digits.antt). Assumes nothing.
use mathlib.Core.Path.{refl}
use Prim.Native.Nat.{◌+◌, ◌-◌}
use Rattle.std.proofs.Common.{◌≡◌}
use native.Mathlib.Nat.{sub_self}
use native.Mathlib.Omega.{arith}
use lib.Seq.{length-take-le}
use Rattle.words.proofs.Digits.{spell_start, spell_front, spell_end}
use Rattle.words.proofs.decimal.spell.Goals as goal

pub loop-i-init : goal.loop-i-init
loop-i-init c = rw sub_self (spell_start 10 48 _ _ _ _ (length-take-le _ _ c.requires))

pub loop-i-preserved : goal.loop-i-preserved
loop-i-preserved c =
    let one : c.args.k - (c.loop-i.i - 1) ≡ c.args.k - c.loop-i.i + 1 = omega arith in
    rw one (spell_front 10 48 _ c.loop-i.invariant (omega arith) _ (omega arith) _ refl)

pub returns : goal.returns
returns c = rw sub_self at (spell_end 10 48 c.loop-i.invariant (omega arith))
