-- When what a fill leaves is well formed. Assumes nothing.
use Rattle.lintelsong.specs.Closed.{GoodBuffer, GoodGroup, GoodSet}
use Rattle.lintelsong.specs.declared.fill_calls.FillAnswer.{FillAnswer}

-- the buffer, the group and the set are
abbrev pub GoodAnswer : FillAnswer → Type 0
GoodAnswer r = GoodBuffer r.buffer × GoodGroup r.group × GoodSet r.skipped
