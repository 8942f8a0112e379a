-- `words::decimal::read` meets its contract: what the bytes that are left make of the value so far is what the word stands for
-- (proofs/Reading.antt). Assumes nothing.
use mathlib.Core.Path.{◌≡◌, sym, ◌∙◌}
use Prim.Native.Nat.{◌+◌, ◌-◌, ◌*◌, ◌^◌, ◌≤◌}
use native.Mathlib.Omega.{arith}
use lib.ListN.{get_or}
use borrow.Author.Tests.{eqb-true, eqb-false}
use Rattle.words.proofs.Reading.{read_none, read_start, read_other, read_large, read_step, read_end}
use Rattle.words.proofs.decimal.read.Goals as goal

pub returns-then-is_empty : goal.returns-then-is_empty
returns-then-is_empty c = read_none _ (eqb-true _ _ (sym c.if-is_empty.ensures))

pub loop-b-init : goal.loop-b-init
loop-b-init c = read_start _ (eqb-false _ _ (sym c.if-is_empty.ensures))

pub returns-then-not-is_ascii_digit : goal.returns-then-not-is_ascii_digit
returns-then-not-is_ascii_digit c = read_other _ c.loop-b.invariant c.loop-b-test.true (sym c.if-not-is_ascii_digit.ensures.value)

pub returns-in_err-checked_mul : goal.returns-in_err-checked_mul
returns-in_err-checked_mul c =
    c.from_residual.ensures ∙ read_large _ c.loop-b.invariant c.loop-b-test.true (omega (arith, c.in_err-checked_mul.ensures))

pub returns-in_err-value : goal.returns-in_err-value
returns-in_err-value c =
    let sum : 2 ^ 64 ≤ c.loop-b.value * 10 + (get_or c.args.word.now c.loop-b.b-index 0 - 48) =
    omega (arith, c.in_err-value.ensures, c.in_ok-checked_mul.ensures.1, c.from.ensures) in
    c.from_residual-in_err-value.ensures ∙ read_large _ c.loop-b.invariant c.loop-b-test.true sum

pub loop-b-preserved : goal.loop-b-preserved
loop-b-preserved c =
    let sum : c.in_ok-value.value ≡ c.loop-b.value * 10 + (get_or c.args.word.now c.loop-b.b-index 0 - 48) =
    omega (arith, c.in_ok-value.ensures.1, c.in_ok-checked_mul.ensures.1, c.from.ensures) in
    rw sum (read_step _ c.loop-b.invariant c.loop-b-test.true (sym c.if-not-is_ascii_digit.ensures.value) (omega (arith, c.in_ok-value.ensures.0)))

pub returns : goal.returns
returns c = read_end _ c.loop-b.invariant c.loop-b-test.false
