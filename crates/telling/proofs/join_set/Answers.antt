-- `telling::join_set` meets its contract: the accounts of the parties passed lie behind the set (crate settle, Copying, `RowsDone`). Assumes
-- nothing.
use mathlib.Core.Path.{◌≡◌, ap, sym, ◌∙◌}
use mathlib.Core.List.{List}
use Prim.Native.Nat.{ℕ}
use native.Mathlib.Nat.{zero-add}
use native.Mathlib.Omega.{arith}
use lib.ListN.{get_or, length}
use borrow.Author.Rules.{rules}
use Rattle.settle.specs.Copies.{party_row}
use Rattle.settle.proofs.Copying.{rows_start, rows_step, rows_end}
use Rattle.telling.proofs.join_set.Goals as goal

pub loop-k-init : goal.loop-k-init
loop-k-init c = rows_start _ _ _ _ _

pub account_of-x-requires : goal.account_of-x-requires
account_of-x-requires c =
    omega (arith, c.from.ensures, c.requires.there c.loop-k.k c.loop-k-test.true)

pub loop-k-preserved : goal.loop-k-preserved
loop-k-preserved c =
    let a = c.args in
    let row : ℕ → List ℕ = λ i. party_row a.accounts.now a.others.now i in
    let e = c.account_of-x.ensures ∙ ap row (c.from.ensures ∙ ap (λ (i : ℕ). get_or a.joined.now i 0) (sym (zero-add _))) in
    let wide : length c.account_of-x.result ≡ 32 = search rules in
    rw c.put_row.ensures (rows_step _ _ _ _ _ c.loop-k.invariant c.loop-k-test.true (omega arith) _ e wide)

pub returns : goal.returns
returns c = rows_end _ _ _ _ _ c.loop-k.invariant c.loop-k-test.false
