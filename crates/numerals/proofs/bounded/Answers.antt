-- `numerals::bounded` meets its contract: a zero in front, no number, and a number above the limit are refused (proofs/Words.antt).
-- Assumes nothing.
use mathlib.Core.Path.{sym, ◌∙◌}
use Rattle.numerals.proofs.Words.{refused_zero, refused_word, refused_large, accepted}
use Rattle.numerals.proofs.bounded.Goals as goal

pub returns-then-not-plain : goal.returns-then-not-plain
returns-then-not-plain c = refused_zero _ _ _ (sym c.if-not-plain.ensures)

pub returns-in_err-value : goal.returns-in_err-value
returns-in_err-value c = c.from_residual.ensures ∙ refused_word _ _ _ (sym c.in_err-value.ensures)

pub returns-then-limit-value : goal.returns-then-limit-value
returns-then-limit-value c = refused_large _ _ _ _ (sym c.in_ok-value.ensures) c.if-limit-value.true

pub returns : goal.returns
returns c = accepted _ _ _ _ (sym c.if-not-plain.ensures) (sym c.in_ok-value.ensures) c.if-limit-value.false
