-- `standstill::idle` meets its contract: each way out rewrites by the tests that led there. Assumes nothing.
use borrow.Author.Tests.{ne_eqb}
use Rattle.standstill.specs.Idle.{idle_c}
use Rattle.standstill.proofs.idle.Goals as goal

pub returns-then-places-eq0 : goal.returns-then-places-eq0
unfolding idle_c
returns-then-places-eq0 c = rw c.if-places-eq0.true

pub returns-then-opens-ne0 : goal.returns-then-opens-ne0
unfolding idle_c
returns-then-opens-ne0 c = rw (ne_eqb _ _ c.if-places-eq0.false, ne_eqb _ _ c.if-opens-ne0.true)

pub returns-in-Off : goal.returns-in-Off
unfolding idle_c
returns-in-Off c =
    rw (ne_eqb _ _ c.if-places-eq0.false, c.if-opens-ne0.false, c.in-Off.is) c.none_below.ensures

pub returns-in-Below : goal.returns-in-Below
unfolding idle_c
returns-in-Below c =
    rw (ne_eqb _ _ c.if-places-eq0.false, c.if-opens-ne0.false, c.in-Below.is)
