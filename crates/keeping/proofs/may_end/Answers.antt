-- `keeping::may_end` meets its contract: by the mark. Assumes nothing.
use Rattle.keeping.proofs.Codes.{may_end_lem, none_open}
use Rattle.keeping.proofs.may_end.Goals as goal

pub returns-then-numbers-eq0 : goal.returns-then-numbers-eq0
returns-then-numbers-eq0 c = none_open _ c.if-numbers-eq0.true

pub returns : goal.returns
returns c = may_end_lem _ c.if-numbers-eq0.false
