-- `cells::copy` meets its contract: what stands from `from` on is pasted over the cells from `to` on (columns' proofs/Lays.antt). Assumes
-- nothing.
use native.Mathlib.Omega.{arith}
use lib.ListN.{length, drop, length-drop}
use lib.Seq.{paste}
use Prim.Native.Nat.{ℕ, ◌+◌, ◌-◌, ◌≤◌}
use mathlib.Core.Path.{◌≡◌, ap, ◌∙◌}
use Rattle.columns.proofs.Lays.{laid_paste}
use Rattle.cells.proofs.copy.Goals as goal

pub returns : goal.returns
returns g c =
    let a = c.args in
    let size : a.from + a.n - a.from ≡ a.n = omega arith in
    let enough : a.n ≤ length (drop a.from a.col.now) = simp length-drop (omega arith) in
    c.copy_within.ensures.after ∙ ap (λ (k : ℕ). paste a.col.now a.to (drop a.from a.col.now) k) size ∙ laid_paste a.to a.n _ _ enough
