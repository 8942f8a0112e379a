-- `sheet_adds::fresh` meets its contract: all three are set up as the rules set them up. Assumes nothing.
use Rattle.sheet_rows.specs.Answer.{fresh}
use Rattle.sheet_adds.proofs.fresh.Goals as goal

pub returns : goal.returns
unfolding fresh
returns c =
    let b = c.set_up.ensures in
    let g = c.set_up-2.ensures in (
      (b.good, g.good, c.fresh.ensures.0),
      λ i. record { store = (b.ruled i).after; target = (g.ruled i).after; skipped = c.fresh.ensures.1 i },
    )
