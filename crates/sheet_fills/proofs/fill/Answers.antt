-- `sheet_fills::fill` meets its contract: the columns lent are the rows and a fresh key list (proofs/Filling.antt). Assumes nothing.
use mathlib.Core.Path.{sym}
use Prim.Native.Nat.{ℕ}
use native.Mathlib.Omega.{arith}
use lib.ListN.{length-replicate}
use lib.Seq.{length-take-le}
use Rattle.sheet_fills.proofs.Filling.{keys_fresh, fills_by}
use Rattle.sheet_fills.proofs.fill.Goals as goal

pub slice_bounds-fill-end : goal.slice_bounds-fill-end
slice_bounds-fill-end c = let p = c.requires.3 in sym (length-take-le _ _ (omega (arith, p.few, p.names_long)))

pub returns : goal.returns
returns c =
    fills_by c.args.rows c.requires.3 c.args.asked c.args.b c.args.g c.args.s _ _ (length-replicate {A = ℕ} 256 0) (length-replicate {A = ℕ} 8192 0) keys_fresh _ _ c.fill.ensures.fills
