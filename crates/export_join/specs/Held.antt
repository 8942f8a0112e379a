-- The group behind a reference: its columns, and when it is well formed. Assumes nothing.
use Rattle.slots.specs.Table.{Table, table}
use Rattle.slots.specs.Good.{Good}
use Rattle.export_join.specs.declared.Group.{Group}

abbrev pub table_of : Group → Table
table_of g = table g.number g.ints g.exts g.accounts g.home g.owner g.kind g.form g.time g.address g.hash g.buckets g.numbers

-- well formed, which every call leaves: "a contract may rely on that alone"
abbrev pub GoodGroup : Group → Type 0
GoodGroup g = Good (table_of g)
