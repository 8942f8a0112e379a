-- What a run changes of the columns of a fill, and what it needs of them. Assumes nothing.
use Rattle.std.specs.Prelude.{◌≡◌, ℕ, ◌+◌, ◌≤◌, List, length, take}
use Rattle.moves.specs.declared.Tally.{Tally}
use Rattle.moves.specs.declared.Fixed.{Fixed}
use Rattle.meaning.specs.Walks.{Ready}
use Rattle.meaning.specs.Passes.{RanC, run_c}
use Rattle.works.specs.declared.Work.{Work}
use Rattle.works.specs.Works.{columns_w}

-- `opens` slots more have room, and numbers
pub record MayRun (w : Work) (f : Fixed) (opens slots last : ℕ) (t : Tally) : Type 0 where
  pub ready : Ready f w.plan w.cost (columns_w w t)
  pub number_long : length w.number ≡ 64
  pub slots_fit : slots + opens ≤ 64
  pub numbers_fit : last + opens ≤ 65535
  pub count_fits : w.count ≤ 1024
  pub listed_long : length w.listed ≡ 1024

abbrev pub run_w : Work → Fixed → (opens slots last : ℕ) → Tally → RanC
run_w w f opens slots last t = run_c w.plan w.cost f opens (take w.count w.listed) w.number slots last (columns_w w t)
