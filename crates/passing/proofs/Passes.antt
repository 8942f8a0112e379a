-- Entry and passes one after the other are the passes on the columns that the entry makes. Assumes nothing.
use mathlib.Core.Path.{◌≡◌, sym, ap, subst, ◌∙◌}
use Prim.Native.Nat.{ℕ}
use Rattle.message.specs.declared.Filter.{Filter}
use Rattle.entry.specs.Entry.{Sayings}
use Rattle.works.specs.Begin.{Accounts, Held, Slots, begin_w}
use Rattle.works.specs.Run.{MayRun, run_w}
use Rattle.works.specs.Works.{ran_w}
use Rattle.works.specs.declared.Work.{Work}
use Rattle.works.specs.declared.Done.{Done}
use Rattle.fill_rules.specs.Passing.{MayPass, fixed_by, tally_by, pass_w}

module _ {a : Accounts} {h : Held} {b : Slots} {s : Sayings} {f : Filter} {height opens slots last : ℕ} (p : MayPass a h b s f height opens slots last)
    (w : Work) (e : w ≡ begin_w a h b s f height) where
  pub may_run : MayRun w (fixed_by a h height) opens slots last (tally_by a)
  may_run = subst (λ (x : Work). MayRun x (fixed_by a h height) opens slots last (tally_by a)) (sym e) p.runs

  pub ran : (d : Done) → ran_w d ≡ run_w w (fixed_by a h height) opens slots last (tally_by a) → ran_w d ≡ pass_w a h b s f height opens slots last
  ran d r = r ∙ ap (λ (x : Work). run_w x (fixed_by a h height) opens slots last (tally_by a)) e
