-- What the columns of a fill, as a value, are to the passes. Assumes nothing.
use Rattle.moves.specs.declared.Tally.{Tally}
use Rattle.meaning.specs.Meaning.{Columns, columns}
use Rattle.meaning.specs.Passes.{RanC, ran_c}
use Rattle.works.specs.declared.Work.{Work}
use Rattle.works.specs.declared.Left.{Left}
use Rattle.works.specs.declared.Done.{Done}

-- the columns that a run changes
abbrev pub columns_w : Work → Tally → Columns
columns_w w t = columns w.owner w.taken w.home w.member w.ints w.exts w.mark w.joined t

-- the same of what it leaves
abbrev pub columns_l : Left → Tally → Columns
columns_l l t = columns l.owner l.taken l.home l.member l.ints l.exts l.mark l.joined t

-- what a run leaves, as the passes on columns say it
abbrev pub ran_w : Done → RanC
ran_w d = ran_c (columns_l d.left d.tally) d.left.number d.slots d.last.0 d.dropped
