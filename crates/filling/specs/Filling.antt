-- A fill by value: what it is called on, what it answers and what it leaves, as the contract of a fill (crate fill_rules) has them. Assumes
-- nothing.
use Rattle.std.specs.Prelude.{List, ℕ}
use Rattle.buffers.specs.declared.buffer.Buffer.{Buffer}
use Rattle.buffers.specs.Buffers.{cols_of}
use Rattle.groups.specs.declared.group.Group.{Group}
use Rattle.groups.specs.Groups.{table_of}
use Rattle.skipped.specs.declared.Skipped.{Skipped}
use Rattle.entry_rules.specs.Calling.{Call}
use Rattle.fill_rules.specs.Fills.{call_of, Keys, Says, says, Left, left}
use Rattle.fill_answer.specs.declared.Asked.{Asked}
use Rattle.filling.specs.declared.Filled.{Filled}

abbrev pub call_on : Buffer → Group → Skipped → Asked → (names verdicts costs : List ℕ) → Call
call_on b g s a names verdicts costs =
    call_of (cols_of b) (table_of g) s.accounts s.held a.slots a.height a.filter names verdicts costs a.cost

abbrev pub says_in : Filled → Says
says_in r = says r.code r.collected r.operations r.dropped

abbrev pub left_in : Filled → Keys → Left
left_in r k = left (cols_of r.buffer) (table_of r.group) r.skipped.accounts r.skipped.held k
