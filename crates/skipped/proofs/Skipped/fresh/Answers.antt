-- `Skipped::fresh` meets its contract: it holds no account, and every cell is fresh. Assumes nothing.
use mathlib.Core.Path.{refl}
use Prim.Native.Nat.{ℕ}
use native.Mathlib.Omega.{arith}
use lib.ListN.{length-replicate, get_or-replicate}
use Rattle.columns.specs.Rows.{rows_of}
use Rattle.skipped.proofs.Skipped.fresh.Goals as goal

pub returns : goal.returns
unfolding rows_of
returns c = (record { long = length-replicate {A = ℕ} 16384 0; fits = record { once = tt; small = omega arith }; few = omega arith; blank = λ i a l. get_or-replicate 16384 i 0 0 l }, refl)
