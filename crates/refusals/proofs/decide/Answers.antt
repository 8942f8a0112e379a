-- `refusals::decide` meets its contract: each way out rewrites by the tests that led there. Assumes nothing.
use mathlib.Core.Path.{sym, ◌∙◌}
use native.Mathlib.Omega.{arith}
use borrow.Author.Rules.{rules}
use Rattle.limits.proofs.Counting.{not_large}
use Rattle.refusals.specs.Refusals.{code_c}
use Rattle.refusals.proofs.decide.Goals as goal

pub returns-then-too_large : goal.returns-then-too_large
unfolding code_c
returns-then-too_large c = rw (sym c.too_large.ensures ∙ c.if-too_large.true)

pub returns-then-few_keys : goal.returns-then-few_keys
unfolding code_c
returns-then-few_keys c =
    rw (sym c.too_large.ensures ∙ c.if-too_large.false, sym c.few_keys.ensures ∙ c.if-few_keys.true)

pub returns-then-many_skips : goal.returns-then-many_skips
unfolding code_c
returns-then-many_skips c =
    rw (
      sym c.too_large.ensures ∙ c.if-too_large.false,
      sym c.few_keys.ensures ∙ c.if-few_keys.false,
      sym c.many_skips.ensures ∙ c.if-many_skips.true,
    )

pub used_up-requires : goal.used_up-requires
used_up-requires c =
    let p = c.requires in
    let n = not_large _ _ _ (sym c.too_large.ensures ∙ c.if-too_large.false) in
    (omega (arith, n.0, p.few), p.last_fits)

pub returns-then-used_up : goal.returns-then-used_up
unfolding code_c
returns-then-used_up c =
    rw (
      sym c.too_large.ensures ∙ c.if-too_large.false,
      sym c.few_keys.ensures ∙ c.if-few_keys.false,
      sym c.many_skips.ensures ∙ c.if-many_skips.false,
      sym c.used_up.ensures ∙ c.if-used_up.true,
    )

pub overfull-requires : goal.overfull-requires
overfull-requires c =
    let p = c.requires in
    let n = not_large _ _ _ (sym c.too_large.ensures ∙ c.if-too_large.false) in
    (omega (arith, p.slots_fit, p.few), p.buckets_good, n.1)

pub returns-then-overfull : goal.returns-then-overfull
unfolding code_c
returns-then-overfull c =
    rw (
      sym c.too_large.ensures ∙ c.if-too_large.false,
      sym c.few_keys.ensures ∙ c.if-few_keys.false,
      sym c.many_skips.ensures ∙ c.if-many_skips.false,
      sym c.used_up.ensures ∙ c.if-used_up.false,
      ← c.overfull.ensures,
      c.if-overfull.true,
    )

pub returns : goal.returns
unfolding code_c
returns c =
    rw (
      sym c.too_large.ensures ∙ c.if-too_large.false,
      sym c.few_keys.ensures ∙ c.if-few_keys.false,
      sym c.many_skips.ensures ∙ c.if-many_skips.false,
      sym c.used_up.ensures ∙ c.if-used_up.false,
      ← c.overfull.ensures,
      c.if-overfull.false,
    )
