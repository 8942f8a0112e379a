-- `index::find` meets its contract: the places passed, and those between two links, have another name (proofs/Searching.antt). Each link
-- leads to a lower place, so the walk ends. Assumes nothing.
use mathlib.Core.Path.{sym, ◌∙◌}
use Rattle.index.proofs.Searching.{search_start, search_step, search_lower, search_found, search_end}
use Rattle.index.proofs.find.Goals as goal

pub loop-next-init : goal.loop-next-init
loop-next-init c = search_start c.requires _ c.from-hash.ensures (rw c.from-hash.ensures (c.fits-x 31))

pub returns-then-same_row : goal.returns-then-same_row
returns-then-same_row c =
    search_found c.requires c.loop-next.invariant c.loop-next-test.true (sym c.same_row.ensures ∙ c.if-same_row.true)

pub loop-next-smaller : goal.loop-next-smaller
loop-next-smaller c =
    search_lower c.requires c.loop-next.invariant c.loop-next-test.true (c.fits-x 31)

pub loop-next-preserved : goal.loop-next-preserved
loop-next-preserved c =
    search_step c.requires c.loop-next.invariant c.loop-next-test.true (c.fits-x 31)
    (sym c.same_row.ensures ∙ c.if-same_row.false)

pub returns : goal.returns
returns c = search_end c.requires c.loop-next.invariant c.loop-next-test.false
