-- The closed values: what each holds, when it is well formed, and what a call gives, each said of what is held (crates buffers, groups,
-- skipped). "A contract may rely on that alone": the fields are closed, and every call leaves them so. Assumes nothing.
use Rattle.std.specs.Prelude.{◌≡◌, List, [], ℕ, ◌≤◌}
use Rattle.rules.specs.Calls as calls
use Rattle.rules.specs.Calls.{Store}
use Rattle.rules.specs.Demand.{Demand3}
use Rattle.message.specs.Answers.{Code, number as number_of}
use Rattle.message.specs.Real.{Real}
use Rattle.queues.specs.Cols.{Cols, live}
use Rattle.queues.specs.Meant.{buffer_of}
use Rattle.queues.specs.Append as append
use Rattle.slots.specs.Table.{Table}
use Rattle.slots.specs.Meant.{group_of}
use Rattle.entry_rules.specs.Calling.{Call, args, set_of}
use Rattle.fill_rules.specs.Fills.{Keys, rows_of_keys, Says, says, Left, left, filled_of}
use Rattle.buffers.specs.Buffers as buffers
use Rattle.groups.specs.Groups as groups
use Rattle.joining.specs.Joins as joining
use Rattle.skipped.specs.Sets as skipped
use Rattle.fill_answer.specs.declared.Asked.{Asked}
use Rattle.filling.specs.Filling as filling
use Rattle.lintelsong.specs.declared.Buffer.{Buffer}
use Rattle.lintelsong.specs.declared.Group.{Group}
use Rattle.lintelsong.specs.declared.Skipped.{Skipped}
use Rattle.lintelsong.specs.declared.fill_calls.FillAnswer.{FillAnswer}

-- ---- the buffer

abbrev pub cols_of : Buffer → Cols
cols_of b = buffers.cols_of b.held

abbrev pub GoodBuffer : Buffer → Type 0
GoodBuffer b = buffers.GoodBuffer b.held

-- a well formed buffer, the rule's code and meaning, and exactly these columns
abbrev pub Gives : calls.Answer (Store Real) → append.Left → Code → Buffer → Type 0
Gives rule model code b = buffers.Gives rule model code b.held

-- ---- the group

abbrev pub table_of : Group → Table
table_of g = groups.table_of g.held

abbrev pub GoodGroup : Group → Type 0
GoodGroup g = groups.GoodGroup g.held

abbrev pub SetsUp : ℕ → Code → Group → Type 0
SetsUp S code g = groups.SetsUp S code g.held

abbrev pub Joins : (l r : Group) → Code → (l' r' : Group) → Type 0
Joins l r code l' r' = joining.Joins l.held r.held code l'.held r'.held

-- ---- the skipped set

abbrev pub GoodSet : Skipped → Type 0
GoodSet s = skipped.GoodSet s.held

-- the accounts in the order in which they joined
abbrev pub accounts_in : Skipped → List (List ℕ)
accounts_in s = skipped.accounts_in s.held

-- ---- a fill

-- what it is called on
abbrev pub call_on : Buffer → Group → Skipped → Asked → (names verdicts costs : List ℕ) → Call
call_on b g s a names verdicts costs = filling.call_on b.held g.held s.held a names verdicts costs

-- what it answers, and what it leaves
abbrev pub says_in : FillAnswer → Says
says_in r = says r.code r.collected r.operations r.dropped

abbrev pub left_in : FillAnswer → Keys → Left
left_in r k = left (cols_of r.buffer) (table_of r.group) r.skipped.held.accounts r.skipped.held.held k

-- "Of any accepted fill of height 1 or more: each account's old queue without droppable externals is what it newly gave to the group, in
-- order, then what remains; no slot grows past the height; nobody who could be served is left waiting"
abbrev pub MeetsDemand3 : Call → Keys → Says → Left → Type 0
MeetsDemand3 v k a z =
    number_of a.code ≡ 0 → 1 ≤ v.height
    → Demand3 Real (args v) (buffer_of (live v.buffer)) (group_of v.group) (set_of v) (filled_of (rows_of_keys k) a z) []
