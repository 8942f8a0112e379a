-- `merging::join` meets its contract: refused, both are as they came; taken, the parts together are the join (proofs/Merging.antt). Assumes
-- nothing.
use mathlib.Core.Path.{sym, ◌∙◌}
use Rattle.message.proofs.Codes.{passed_on}
use Rattle.slots.specs.Table.{table}
use Rattle.merging.proofs.Merging.{joinable, rooms, may_add, join_refused, join_taken}
use Rattle.merging.proofs.join.Goals as goal

pub decide-requires : goal.decide-requires
decide-requires c =
    let p = c.requires in
    record { rooms = rooms _ p.0; rooms_2 = rooms _ p.1 }

pub returns-in_err-decide : goal.returns-in_err-decide
returns-in_err-decide c =
    let p = c.requires in
    let q = passed_on c.from_residual.result c.from_residual.ensures.1 c.in_err-decide.was in
    join_refused _ _ _ (q.0 ∙ c.decide.ensures) p.0 p.1 q.1

pub add-requires : goal.add-requires
add-requires c =
    let p = c.requires in
    may_add (joinable p.0 p.1 c.decide.ensures c.in_ok-decide.was)

pub clear-requires : goal.clear-requires
clear-requires c = c.requires.1

pub returns : goal.returns
returns c =
    let a = c.args in
    let left = table a.number.now a.ints.now a.exts.now a.accounts.now a.home.now a.owner.now a.kind.now a.form.now a.time.now
    a.address.now a.hash.now a.buckets.now a.numbers.now in
    let right = table a.number2.now a.ints2.now a.exts2.now a.accounts2.now a.home2.now a.owner2.now a.kind2.now a.form2.now a.time2.now
    a.address2.now a.hash2.now a.buckets2.now a.numbers2.now in
    let p = c.requires in
    join_taken left right _ (sym c.in_ok-decide.was ∙ c.decide.ensures) _ _
    (joinable p.0 p.1 c.decide.ensures c.in_ok-decide.was) c.add.ensures c.clear.ensures
