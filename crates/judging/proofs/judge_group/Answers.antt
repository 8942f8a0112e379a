-- `judging::judge_group` meets its contract: the loop lays the tables of marks and costs over the columns (proofs/Judging.antt).
-- Assumes nothing.
use Rattle.judging.specs.declared.Said.{Said}
use mathlib.Core.Path.{sym, ap, ◌∙◌}
use Prim.Native.Nat.{◌<◌}
use native.Mathlib.Omega.{arith}
use Rattle.judging.proofs.Judging.{group_start, group_end, group_own, group_none}
use Rattle.judging.proofs.judge_group.Goals as goal
use Rattle.judging.proofs.judge_group.Goals.{else-from-g, then-from-g}

pub loop-g-init : goal.loop-g-init
loop-g-init c = group_start _ _ _ _ _ _

pub get_row-x-requires : goal.get_row-x-requires
get_row-x-requires c = omega (arith, c.requires.members_in_bounds.0)

pub judge-said-requires : goal.judge-said-requires
judge-said-requires c = c.requires.spoken

pub loop-g-preserved : goal.loop-g-preserved
loop-g-preserved c =
    let l : c.loop-g.g < c.args.members = omega arith in
    let wide = c.from.ensures in
    elim c.if-from-g.branch [
      | then-from-g w ↦ group_own c.loop-g.invariant (omega arith) (omega arith) l _ _ (sym wide ∙ w.if-from-g.true) _ w.get_row-x.ensures
          (ap (λ (x : Said). x.mark) w.said-is ∙ w.judge-said.ensures.0) (ap (λ (x : Said). x.cost) w.said-is ∙ w.judge-said.ensures.1)
      | else-from-g w ↦ group_none c.loop-g.invariant (omega arith) (omega arith) l _ _ (λ e. w.if-from-g.false (wide ∙ e))
          (ap (λ (x : Said). x.mark) w.said-is) (ap (λ (x : Said). x.cost) w.said-is)
    ]

pub returns : goal.returns
returns c = group_end c.loop-g.invariant (omega arith)
