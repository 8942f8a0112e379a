-- `row_joins::join_messages` meets its contract: what the columns hold once they are laid, one of them raised. Assumes nothing.
use mathlib.Core.Path.{subst}
use native.Mathlib.Omega.{arith}
use Prim.Native.Nat.{◌+◌, ◌<◌}
use lib.ListN.{length}
use Rattle.std.proofs.lemmas.List.{get_or_default}
use Rattle.row_joins.proofs.join_messages.Goals as goal

pub raise-requires-clause-low : goal.raise-requires-clause-low
raise-requires-clause-low c = λ i d l.
    let a = c.args in
    let long : i < length a.owner2.now = omega (arith, c.requires.room) in
    subst (λ x. x + a.accounts < 65536) (get_or_default a.owner2.now i 0 d long) (c.requires.low i l)

pub returns : goal.returns
returns c = record { owner = c.raise.ensures (λ x. x + c.args.accounts) (λ x sum e. e); kind = c.lay.ensures; form = c.lay-2.ensures; time = c.lay-3.ensures }
