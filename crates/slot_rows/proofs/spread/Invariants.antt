-- What the loop of `spread` keeps. See Answers.antt.
use Rattle.slot_rows.specs.Rows.{ints_of, exts_of}
use Rattle.slot_rows.proofs.Tables.{Copied}
use Rattle.slot_rows.proofs.spread.Given as goal

abbrev pub invariant-loop-i : goal.invariant-loop-i
invariant-loop-i l = Copied (ints_of l.table) l.ints l.i × Copied (exts_of l.table) l.exts l.i
