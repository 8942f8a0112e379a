-- `sheets::play` meets its contract: messages, fills and the last line stand one behind the other (proofs/Playing.antt), and there is room for
-- each. Assumes nothing.
use native.Mathlib.Omega.{arith}
use Rattle.sheets.proofs.Playing.{play_told}
use Rattle.sheets.proofs.play.Goals as goal

pub all-filled-requires : goal.all-filled-requires
all-filled-requires c =
    let p = c.requires in
    let v = c.all-added.ensures in (
      v.good,
      c.rows_of-rows.ensures.good,
      omega (arith, p.0.fills),
      omega arith,
      omega (arith, v.put.near, v.put.long, p.0.messages, p.0.fills, p.1),
    )

pub put_left-requires : goal.put_left-requires
put_left-requires c =
    let p = c.requires in
    let v = c.all-added.ensures in
    let w = c.all-filled.ensures in
    (w.good.0, omega (arith, v.put.near, v.put.long, w.put.near, w.put.long, p.0.messages, p.0.fills, p.1))

pub returns : goal.returns
returns c =
    play_told c.args.p c.fresh-start.result c.requires.0.messages c.requires.0.fills c.fresh-start.ensures.1 c.rows_of-rows.ensures.same
    c.all-added.ensures c.all-filled.ensures c.put_left.ensures
