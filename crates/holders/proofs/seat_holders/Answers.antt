-- `holders::seat_holders` meets its contract: a place is marked exactly if it owns a row (proofs/Seats.antt, `goes_is`). Assumes nothing.
use mathlib.Core.Path.{ap, ◌∙◌}
use mathlib.Core.Bool.{not}
use mathlib.Core.List.{List}
use Prim.Native.Nat.{ℕ}
use native.Mathlib.Omega.{arith}
use lib.Dec.{eqb}
use lib.ListN.{length, get_or, replicate, length-replicate, get_or-replicate}
use Rattle.holders.proofs.Seats.{goes_is, seated_same}
use Rattle.holders.proofs.seat_holders.Goals as goal

pub returns : goal.returns
returns c =
    let a = c.args in
    let held = c.mark_holders.ensures in
    seated_same _ _ _ _ _ _
    (λ p l. ap (λ (h : List ℕ). not (eqb (get_or h p 0) 1)) held
    ∙ goes_is a.owner.now (replicate 256 0) p (omega (arith, length-replicate {A = ℕ} 256 0)) (omega arith) (get_or-replicate 256 p 0 0 (omega arith)) a.n (omega arith))
    c.seat_held.ensures
