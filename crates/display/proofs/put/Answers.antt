-- `display::put` meets its contract: the word is laid behind the line, and the digits behind the word (proofs/Pieces.antt). Assumes nothing.
use Rattle.display.proofs.Pieces.{puts_both}
use Rattle.display.proofs.put.Goals as goal

pub returns : goal.returns
returns c =
    puts_both c.args.word.now _ _ c.write-many.ensures c.write-many.array_long c.requires c.lay.ensures c.lay-2.ensures
