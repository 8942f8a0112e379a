-- `words::decimal::write` meets its contract: as many digits as n has are spelled (proofs/Placing.antt). Assumes nothing.
use mathlib.Core.Path.{◌∙◌}
use native.Mathlib.Omega.{arith}
use Rattle.words.specs.Digits.{places}
use Rattle.words.proofs.Placing.{places_high, written}
use Rattle.words.proofs.decimal.write.Goals as goal

pub spell-requires : goal.spell-requires
unfolding places
spell-requires c = omega (arith, c.places-k.ensures, places_high 19 c.args.n, c.told-out)

pub returns : goal.returns
returns c =
    written _ _ _ c.places-k.ensures (c.spell.auto.out ∙ c.told-out) c.spell.ensures
