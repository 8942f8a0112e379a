-- `admission::decide` meets its contract: each way out rewrites by the tests that led there. Assumes nothing.
use borrow.Author.Rules.{rules}
use borrow.Author.Tests.{lt-ltb, le-ltb, le-leb, lt-leb}
use Rattle.queues.specs.Append.{add_code_c}
use Rattle.admission.proofs.decide.Goals as goal

pub returns-then-m : goal.returns-then-m
unfolding add_code_c
returns-then-m c = search rules

pub returns-then-m-gt1 : goal.returns-then-m-gt1
unfolding add_code_c
returns-then-m-gt1 c = simp (c.if-m.false, lt-ltb _ _ c.if-m-gt1.true)

pub returns-then-full : goal.returns-then-full
unfolding add_code_c
returns-then-full c =
    simp (c.if-m.false, le-ltb _ _ c.if-m-gt1.false, le-leb _ _ c.if-full.true)

pub returns-then-crowded : goal.returns-then-crowded
unfolding add_code_c
returns-then-crowded c =
    simp (c.if-m.false, le-ltb _ _ c.if-m-gt1.false, lt-leb _ _ c.if-full.false, c.if-crowded.true)

pub returns : goal.returns
unfolding add_code_c
returns c =
    simp (c.if-m.false, le-ltb _ _ c.if-m-gt1.false, lt-leb _ _ c.if-full.false, c.if-crowded.false)
