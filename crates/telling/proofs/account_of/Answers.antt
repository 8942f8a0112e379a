-- `telling::account_of` meets its contract: a party below 256 is a place of the order, any other an account of the group. Assumes nothing.
use mathlib.Core.Path.{sym, ◌∙◌}
use Rattle.settle.proofs.Copying.{party_low, party_high}
use Rattle.telling.proofs.account_of.Goals as goal

pub returns-then-party-lt256 : goal.returns-then-party-lt256
returns-then-party-lt256 c = c.get_row.ensures ∙ sym (party_low _ _ _ c.if-party-lt256.true)

pub returns : goal.returns
returns c = c.get_row-2.ensures ∙ sym (party_high _ _ _ c.if-party-lt256.false)
