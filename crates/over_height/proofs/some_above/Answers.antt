-- `over_height::some_above` meets its contract: what is left to look at answers what all do (proofs/Looks.antt). Assumes nothing.
use mathlib.Core.Path.{refl, sym, ◌∙◌}
use Prim.Native.Nat.{◌<◌, ◌≤◌}
use native.Mathlib.Omega.{arith}
use lib.Seq.{get_or-take}
use Rattle.over_height.proofs.Looks.{look_hit, look_on, look_end}
use Rattle.over_height.proofs.some_above.Goals as goal

pub loop-x-init : goal.loop-x-init
loop-x-init c = refl

pub returns-then-held_of-height : goal.returns-then-held_of-height
returns-then-held_of-height c =
    let l : c.loop-x.x-index < c.args.count = omega arith in
    let e = get_or-take c.args.count c.args.listed.now c.loop-x.x-index 0 l in
    let h = rw (c.held_of.ensures, e) at c.if-held_of-height.true in
    sym (look_hit _ _ _ _ _ _ _ (omega arith) _ l h) ∙ c.loop-x.invariant

pub loop-x-preserved : goal.loop-x-preserved
loop-x-preserved c =
    let l : c.loop-x.x-index < c.args.count = omega arith in
    let e = get_or-take c.args.count c.args.listed.now c.loop-x.x-index 0 l in
    let h = rw (c.held_of.ensures, e) at c.if-held_of-height.false in
    look_on _ _ _ _ _ _ _ (omega arith) _ l h ∙ c.loop-x.invariant

pub returns : goal.returns
returns c =
    let b : c.args.count ≤ c.loop-x.x-index = omega arith in
    sym (look_end _ _ _ _ _ _ _ _ b) ∙ c.loop-x.invariant
