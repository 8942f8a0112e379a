-- `lintelsong_buffer_commit` meets its contract: a commit touches nothing but the numbers. Assumes nothing.
use Rattle.export_buffer.proofs.Answers.{committed}
use Rattle.export_buffer.specs.Held.{cols_of}
use Rattle.export_buffer.proofs.lintelsong_buffer_commit.Goals as goal

pub returns : goal.returns
returns c = committed (cols_of c.args.b.now) c.requires c.commit.ensures
