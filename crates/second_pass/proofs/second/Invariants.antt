-- What the loop of `second` keeps. See Answers.antt.
use lib.ListN.{take}
use Rattle.slot_rows.specs.Rows.{ints_of, exts_of}
use Rattle.meaning.specs.Meaning.{columns}
use Rattle.meaning.specs.Passes.{second_c}
use Rattle.second_pass.proofs.Steps.{Second}
use Rattle.second_pass.proofs.second.Given as goal

abbrev pub invariant-loop-id : goal.invariant-loop-id
invariant-loop-id l =
    Second l.plan l.cost l.fixed l.number l.entry (second_c l.plan l.cost l.fixed l.number l.entry (take l.count l.listed) l.from
    (columns l.initial.owner l.initial.taken l.initial.home l.initial.member (ints_of l.initial.table) (exts_of l.initial.table) l.initial.mark l.initial.joined l.initial.now)) l.id-items
    l.id-index l.at l.roster (columns l.owner l.taken l.home l.member (ints_of l.table) (exts_of l.table) l.mark l.joined l.now)
