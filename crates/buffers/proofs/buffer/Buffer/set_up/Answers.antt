-- `Buffer::set_up` meets its contract: a fresh buffer of the size that a set-up gives (proofs/Fresh.antt). Assumes nothing.
use Rattle.buffers.proofs.Fresh.{set_up_lem}
use Rattle.buffers.proofs.buffer.Buffer.set_up.Goals as goal

pub returns : goal.returns
returns c =
    let a = c.args in
    set_up_lem a.m a.a c.fresh.result c.size_for-size.ensures c.fresh.ensures
