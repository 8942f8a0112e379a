-- The buffer behind a reference: its columns, and when it is well formed. Assumes nothing.
use Rattle.queues.specs.Cols.{Cols, cols}
use Rattle.queues.specs.Good.{Good}
use Rattle.export_buffer.specs.declared.Buffer.{Buffer}

abbrev pub cols_of : Buffer → Cols
cols_of b = cols b.owner b.kind b.form b.time b.address b.hash b.accounts b.numbers

-- well formed, which every call leaves: "a contract may rely on that alone"
abbrev pub GoodBuffer : Buffer → Type 0
GoodBuffer b = Good (cols_of b)
