-- `Buffer::min_ext_chain_time` meets its contract: the number kept, with its mark. Assumes nothing.
use Rattle.buffers.proofs.buffer.Buffer.min_ext_chain_time.Goals as goal

pub returns : goal.returns
returns c = c.min_ext_chain_time.ensures
