-- `fill_cores::fill` meets its contract: the fill's own, with its answer in numbers. Assumes nothing.
use mathlib.Core.Path.{◌≡◌, subst}
use Rattle.message.specs.declared.Filter.{Filter}
use Rattle.queues.specs.Cols.{cols}
use Rattle.entry_rules.specs.Calling.{Call}
use Rattle.slots.specs.Table.{table}
use Rattle.fill_rules.specs.Fills.{call_of, Keys, Says, says, Left, Fills}
use Rattle.fill_cores.proofs.fill.Goals as goal

with_filter : (v : Filter → Call) {x y : Filter} {k : Keys} {a : Says} {z : Left} → x ≡ y → Fills (v x) k a z → Fills (v y) k a z
with_filter v {x} {y} {k} {a} {z} e f = subst (λ (w : Filter). Fills (v w) k a z) e f

pub returns : goal.returns
returns c =
    let a = c.args in
    let v : Filter → Call = λ x.
    call_of
    (cols a.owner.now a.kind.now a.form.now a.time.now a.address.now a.hash.now a.accounts.now a.numbers.now)
    (table a.number2.now a.ints2.now a.exts2.now a.accounts2.now a.home2.now a.owner2.now a.kind2.now a.form2.now
    a.time2.now a.address2.now a.hash2.now a.buckets2.now a.numbers2.now)
    a.set.now a.held.now a.slots a.height x a.names.now a.verdicts.now a.costs.now a.cost in
    let r = c.fill-a.result in
    record {
      answer = says r.code r.collected r.operations r.dropped;
      code = c.number_of.ensures;
      counts = c.counts.ensures;
      fills = with_filter v c.filter_by-filter.ensures c.fill-a.ensures;
    }
