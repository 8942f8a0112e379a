-- `ending::sweep` meets its contract: what is passed, as it is, with what the rest of the scan makes of the rest, stays what the whole scan
-- makes of the owners at entry. Assumes nothing.
use Rattle.moves.specs.Moves.{gone}
use lib.ListN.{length, length-set}
use mathlib.Core.Path.{sym, ◌∙◌}
use Prim.Native.Nat.{◌≤◌, ◌<◌}
use native.Mathlib.Nat.{sub-zero}
use native.Mathlib.Omega.{arith}
use Rattle.columns.proofs.Scans.{scan_end, scan_store, scan_pass}
use Rattle.meaning.specs.Passes.{sweep_owners}
use Rattle.ending.proofs.sweep.Goals as goal
use Rattle.ending.proofs.sweep.Goals.{else-lapsed, then-lapsed}

pub loop-i-init : goal.loop-i-init
unfolding sweep_owners
loop-i-init c = (c.told-owner, rw sub-zero)

pub loop-i-preserved : goal.loop-i-preserved
loop-i-preserved c =
    let e = sym c.lapsed.ensures in
    let l : c.loop-i.i < length c.loop-i.owner = omega (arith, c.loop-i.invariant.0) in
    elim c.if-lapsed.branch [
      | then-lapsed w ↦ (
        rw w.owner-is (simp length-set c.loop-i.invariant.0),
        rw w.owner-is (scan_store _ _ _ _ (omega arith) l 0 gone (rw (e ∙ w.if-lapsed.true)) ∙ c.loop-i.invariant.1),
      )
      | else-lapsed w ↦ (rw w.owner-is c.loop-i.invariant.0, rw w.owner-is (scan_pass _ _ _ _ (omega arith) l 0 (rw (e ∙ w.if-lapsed.false)) ∙ c.loop-i.invariant.1))
    ]

pub returns : goal.returns
returns c =
    let e : c.args.rows ≤ c.loop-i.i = omega arith in
    sym (scan_end _ _ _ _ e) ∙ c.loop-i.invariant.1
