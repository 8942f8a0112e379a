-- `index::link` meets its contract: its two stores lie behind the first sixteen numbers (proofs/Cells.antt). Assumes nothing.
use native.Mathlib.Omega.{arith}
use Rattle.index.proofs.Cells.{linked_with}
use Rattle.index.proofs.link.Goals as goal

pub returns : goal.returns
returns c = let a = c.args in linked_with a.hash a.place a.numbers.now (omega arith)
