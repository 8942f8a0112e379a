-- `keeping::may_begin` meets its contract: by the mark. Assumes nothing.
use Rattle.keeping.proofs.Codes.{may_begin_lem, one_open}
use Rattle.keeping.proofs.may_begin.Goals as goal

pub returns-then-numbers-ne0 : goal.returns-then-numbers-ne0
returns-then-numbers-ne0 c = one_open _ c.if-numbers-ne0.true

pub returns : goal.returns
returns c = may_begin_lem _ c.if-numbers-ne0.false
