-- The buffer, the group and the skipped set behind references: their columns, and when they are well formed. Assumes nothing.
use Rattle.queues.specs.Cols.{Cols, cols}
use Rattle.queues.specs.Good as queues
use Rattle.slots.specs.Table.{Table, table}
use Rattle.slots.specs.Good as slots
use Rattle.skipped.specs.Sets.{GoodRows}
use Rattle.export_fill.specs.declared.Buffer.{Buffer}
use Rattle.export_fill.specs.declared.Group.{Group}
use Rattle.export_fill.specs.declared.Skipped.{Skipped}

abbrev pub cols_of : Buffer → Cols
cols_of b = cols b.owner b.kind b.form b.time b.address b.hash b.accounts b.numbers

abbrev pub table_of : Group → Table
table_of g = table g.number g.ints g.exts g.accounts g.home g.owner g.kind g.form g.time g.address g.hash g.buckets g.numbers

-- well formed, which every call leaves: "a contract may rely on that alone"
abbrev pub GoodBuffer : Buffer → Type 0
GoodBuffer b = queues.Good (cols_of b)

abbrev pub GoodGroup : Group → Type 0
GoodGroup g = slots.Good (table_of g)

abbrev pub GoodSet : Skipped → Type 0
GoodSet s = GoodRows s.held s.accounts
