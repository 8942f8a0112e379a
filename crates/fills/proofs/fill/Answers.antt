-- `fills::fill` meets its contract: refused, or ended with nothing to do, or entry and passes, then the end (proofs/Whole.antt). In each answer `p` is
-- what the fill is called on, and `t` that it is taken. Assumes nothing.
use mathlib.Core.Path.{sym, ◌∙◌}
use Rattle.message.proofs.Codes.{refused_number, done_number}
use Rattle.fill_rules.specs.Fills.{keys}
use Rattle.fills.proofs.Whole.{called, may_decide, decided, refused, taken, stood, pass_needs, settle_needs, filled, told}
use Rattle.fills.proofs.fill.Goals as goal

pub decide-code-requires : goal.decide-code-requires
decide-code-requires c =
    let a = c.args in
    may_decide (called c.requires a.asked a.height a.filter a.names.now a.verdicts.now a.costs.now a.default _ c.rows_said-rows.ensures)

pub returns-then-is_err : goal.returns-then-is_err
returns-then-is_err c =
    let a = c.args in
    let p = called c.requires a.asked a.height a.filter a.names.now a.verdicts.now a.costs.now a.default _ c.rows_said-rows.ensures in
    let k = keys a.lts.now a.hashes.now in
    refused p k _ (decided p k _ c.key_rows-keys.ensures _ c.decide-code.ensures) (refused_number _ (sym c.is_err.ensures.value ∙ c.if-is_err.true))

pub returns-then-idle : goal.returns-then-idle
returns-then-idle c =
    let a = c.args in
    let p = called c.requires a.asked a.height a.filter a.names.now a.verdicts.now a.costs.now a.default _ c.rows_said-rows.ensures in
    let t = taken p (keys a.lts.now a.hashes.now) _ c.key_rows-keys.ensures _ c.decide-code.ensures (done_number _ (sym c.is_err.ensures.value ∙ c.if-is_err.false)) in
    stood t _ c.to_open-opens.ensures (sym c.idle.ensures ∙ c.if-idle.true)

pub pass-done-requires : goal.pass-done-requires
pass-done-requires c =
    let a = c.args in
    let p = called c.requires a.asked a.height a.filter a.names.now a.verdicts.now a.costs.now a.default _ c.rows_said-rows.ensures in
    let t = taken p (keys a.lts.now a.hashes.now) _ c.key_rows-keys.ensures _ c.decide-code.ensures (done_number _ (sym c.is_err.ensures.value ∙ c.if-is_err.false)) in
    pass_needs t _ c.to_open-opens.ensures

pub settle-requires : goal.settle-requires
settle-requires c =
    let a = c.args in
    let p = called c.requires a.asked a.height a.filter a.names.now a.verdicts.now a.costs.now a.default _ c.rows_said-rows.ensures in
    let t = taken p (keys a.lts.now a.hashes.now) _ c.key_rows-keys.ensures _ c.decide-code.ensures (done_number _ (sym c.is_err.ensures.value ∙ c.if-is_err.false)) in
    settle_needs t _ c.to_open-opens.ensures c.pass-done.result c.pass-done.ensures

pub returns : goal.returns
returns c =
    let a = c.args in
    let p = called c.requires a.asked a.height a.filter a.names.now a.verdicts.now a.costs.now a.default _ c.rows_said-rows.ensures in
    let t = taken p (keys a.lts.now a.hashes.now) _ c.key_rows-keys.ensures _ c.decide-code.ensures (done_number _ (sym c.is_err.ensures.value ∙ c.if-is_err.false)) in
    told c.pass-done.result.tally _ c.answer_of.ensures
    (filled t _ c.to_open-opens.ensures c.pass-done.result c.pass-done.ensures c.settle.ensures)
