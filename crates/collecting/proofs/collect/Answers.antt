-- `collecting::collect` meets its contract: the cells copied so far lie over the column (columns' proofs/Lays.antt). Assumes nothing.
use mathlib.Core.Path.{◌≡◌, refl, sym, ap, ◌∙◌}
use Prim.Native.Nat.{ℕ, ◌+◌, ◌<◌, ◌≤◌}
use native.Mathlib.Omega.{arith}
use lib.ListN.{length, get_or}
use lib.Seq.{take_all}
use Rattle.std.proofs.lemmas.List.{get_or_default}
use Rattle.columns.specs.Lists.{tab_i}
use Rattle.columns.proofs.Lays.{lay_start, lay_step, lay_end}
use Rattle.columns.proofs.Tabs.{length_tab, get_d_tab}
use Rattle.collecting.proofs.collect.Goals as goal

pub loop-k-init : goal.loop-k-init
loop-k-init g c = λ none. lay_start _ _ _ _

pub loop-k-preserved : goal.loop-k-preserved
loop-k-preserved g c = λ none.
    let a = c.args in
    let k = c.loop-k.k in
    let x = c.index-from-from.result in
    let row : ℕ = get_or a.rows.now (a.first + k) 0 in
    let l : k < a.n = omega arith in
    let there : row < length a.from.now = c.requires.there k l in
    let cell : ℕ → g.row.T.Denot = λ j. get_or a.from.now (get_or a.rows.now j 0) none in
    let is : x ≡ cell (a.first + k) = c.index-from-from.is ∙ ap (λ i. get_or a.from.now i x) c.from.ensures ∙ get_or_default a.from.now row x none there in
    let long = length_tab a.n a.first cell in
    lay_step (c.loop-k.invariant none) (omega arith) none c.requires.fits l x (is ∙ sym (get_d_tab a.n a.first k (a.first + k) cell none refl l))

pub returns : goal.returns
returns g c = λ none.
    let a = c.args in
    let cell : ℕ → g.row.T.Denot = λ j. get_or a.from.now (get_or a.rows.now j 0) none in
    let long = length_tab a.n a.first cell in
    rw (take_all a.n (tab_i a.n a.first cell) (omega arith)) at (lay_end (c.loop-k.invariant none) (omega arith) (omega arith))
