-- What a commit gives, of all columns, from what it does to the numbers. Assumes nothing.
use mathlib.Core.Path.{refl}
use mathlib.Core.Bool.{cond}
use mathlib.Core.List.{List}
use Prim.Native.Nat.{ℕ}
use lib.Dec.{eqb}
use Rattle.std.specs.Prelude.{Err}
use Rattle.rules.specs.Calls.{commit}
use Rattle.message.specs.Answers.{Done}
use Rattle.message.specs.declared.Refusal.TheVariants.{NoTransaction}
use Rattle.message.specs.Real.{Real}
use Rattle.queues.specs.Cols.{Cols, cols, number}
use Rattle.queues.specs.Meant.{meant}
use Rattle.queues.specs.Good.{Good}
use Rattle.queues.specs.Transact.{commit_c}
use Rattle.transactions.proofs.Steps.{commit_columns}
use Rattle.buffer_rules.proofs.TransactRule.{commit_is, commit_good}
use Rattle.buffer_cores.specs.Told.{Gives}
use Rattle.buffer_cores.proofs.Answers.{gives}
use Rattle.export_buffer.specs.Lent.{Commits}

pub committed : (c : Cols) → Good c → {r : ℕ} {ns : List ℕ} → Commits r c.numbers ns
    → Gives (commit Real (meant c)) (commit_c c) r (cols c.owner c.kind c.form c.time c.address c.hash c.accounts ns)
committed c g {r} {ns} e =
    let code = cond (eqb (number c 8) 0) (Err NoTransaction) Done in
    gives code r (cols c.owner c.kind c.form c.time c.address c.hash c.accounts ns) e.code
    (commit_columns c code ns (record { code = refl; numbers = e.numbers }))
    (commit_is c g) (commit_good c g)
