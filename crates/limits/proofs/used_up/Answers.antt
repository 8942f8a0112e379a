-- `limits::used_up` meets its contract: each way out rewrites by its test. Assumes nothing.
use mathlib.Core.Path.{◌≡◌, refl, sym, ◌∙◌}
use Prim.Native.Nat.{◌-◌}
use native.Mathlib.Omega.{arith}
use borrow.Author.Tests.{lt-ltb}
use Rattle.limits.specs.Limits.{used_up}
use Rattle.limits.proofs.used_up.Goals as goal

pub returns-then-opens-eq0 : goal.returns-then-opens-eq0
unfolding used_up
returns-then-opens-eq0 c =
    let a = c.args in
    let p : a.asked - a.slots ≡ 0 = sym c.to_open-opens.ensures ∙ c.if-opens-eq0.true in
    rw p

pub returns : goal.returns
unfolding used_up
returns c =
    let a = c.args in
    let o : c.to_open-opens.result ≡ a.asked - a.slots = c.to_open-opens.ensures in
    rw (← o, lt-ltb 0 c.to_open-opens.result (omega (arith, c.if-opens-eq0.false))) refl
