-- What the loop of `gather` keeps. See Answers.antt.
use Rattle.slot_rows.specs.Rows.{ints_of, exts_of}
use Rattle.slot_rows.proofs.Tables.{Copied}
use Rattle.slot_rows.proofs.gather.Given as goal

abbrev pub invariant-loop-i : goal.invariant-loop-i
invariant-loop-i l = Copied l.ints (ints_of l.record-items) l.i × Copied l.exts (exts_of l.record-items) l.i
