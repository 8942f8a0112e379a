-- `size_for` meets its contract: each way out rewrites by the tests that led there. Assumes nothing.
use mathlib.Core.Path.{◌≡◌, sym, ◌∙◌}
use mathlib.Core.Bool.{true, false}
use Rattle.rules.specs.Calls.{within as in_range}
use Rattle.sizes.proofs.size_for.Goals as goal
use Rattle.sizes.proofs.size_for.Goals.{else-within-via-then-within+else-within-2, else-within-via-else-within}

pub returns-then-within-2 : goal.returns-then-within-2
returns-then-within-2 c =
    let a = c.args in
    let p : in_range 1 1024 a.m ≡ true = sym c.within.ensures ∙ c.if-within.true in
    let q : in_range 1 256 a.a ≡ true = sym c.within-then-within.ensures ∙ c.if-within-2.true in
    rw (p, q)

pub returns : goal.returns
returns c =
    let a = c.args in
    elim c.else-within.branch [
      | else-within-via-then-within+else-within-2 w ↦
          let p : in_range 1 1024 a.m ≡ true = sym c.within.ensures ∙ w.if-within.true in
          let q : in_range 1 256 a.a ≡ false = sym w.within-then-within.ensures ∙ w.if-within-2.false in
          rw (p, q)
      | else-within-via-else-within w ↦
          let p : in_range 1 1024 a.m ≡ false = sym c.within.ensures ∙ w.if-within.false in
          rw p
    ]
