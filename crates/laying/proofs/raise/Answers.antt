-- `laying::raise` meets its contract: the loop lays the source, each cell raised, over the cells from `to` on (columns' proofs/Lays.antt).
-- Assumes nothing.
use mathlib.Core.List.{List, map}
use mathlib.Core.Path.{◌≡◌, sym, ap, ◌∙◌, subst}
use native.Mathlib.Omega.{arith}
use Prim.Native.Nat.{ℕ, ◌<◌, ◌≤◌}
use lib.ListN.{length, take, length-map, get_or-map}
use lib.Seq.{length-take-le, get_or-take, take_all}
use Rattle.columns.proofs.Lays.{lay_start, lay_step, lay_end}
use Rattle.laying.proofs.raise.Goals as goal

-- as many cells are raised as are laid
raised : {A : Type 0} (f : A → A) (n : ℕ) (from : List A) → n ≤ length from → length (map f (take n from)) ≡ n
raised f n from enough = length-map (take n from) f ∙ length-take-le n from enough

pub add-requires : goal.add-requires
add-requires g c =
    let a = c.args in
    let i = c.loop-i.i in
    let d = c.x-item.result in
    let l : i < a.n = omega (arith, length-take-le a.n a.from.now c.requires.fits.source) in
    subst (λ x. g.T.Add.can_add x a.by) (sym (c.x-item.is ∙ get_or-take a.n a.from.now i d l)) (c.requires.low i d l)

pub loop-i-init : goal.loop-i-init
loop-i-init g c = λ f gives. lay_start _ _ _ _

pub loop-i-preserved : goal.loop-i-preserved
loop-i-preserved g c = λ f gives.
    let a = c.args in
    let i = c.loop-i.i in
    let front = length-take-le a.n a.from.now c.requires.fits.source in
    let long = raised f a.n a.from.now c.requires.fits.source in
    let x = c.x-item.result in
    lay_step (c.loop-i.invariant f gives) (omega arith) (f x) c.requires.fits.target (omega arith) c.add.result
    (gives _ _ c.add.ensures ∙ ap f c.x-item.is ∙ sym (get_or-map f (take a.n a.from.now) i x))

pub returns : goal.returns
returns g c = λ f gives.
    let a = c.args in
    let front = length-take-le a.n a.from.now c.requires.fits.source in
    let long = raised f a.n a.from.now c.requires.fits.source in
    rw (take_all a.n (map f (take a.n a.from.now)) (omega arith)) at (lay_end (c.loop-i.invariant f gives) (omega arith) (omega arith))
