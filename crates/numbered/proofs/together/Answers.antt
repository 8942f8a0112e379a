-- `numbered::together` meets its contract: the slots are listed on a fresh column, the rest is put into place (proofs/Parts.antt).
-- Assumes nothing.
use Rattle.works.specs.Begin.{slots}
use Rattle.numbered.proofs.Parts.{works_are}
use Rattle.numbered.proofs.together.Goals as goal

pub returns : goal.returns
returns c =
    let a = c.args in
    works_are a.h a.j a.r (slots a.ints.now a.exts.now a.number.now a.buckets) a.height _ _
    c.list_below-count.ensures
