-- `display::build` meets its contract: four words with their numbers, one behind the other, are the line (proofs/Pieces.antt). Assumes nothing.
use Rattle.display.specs.Line.{int_word, ext_word, accounts_word, slots_word}
use Rattle.display.proofs.Pieces.{puts_line}
use Rattle.display.proofs.build.Goals as goal

pub returns : goal.returns
unfolding int_word ext_word accounts_word slots_word
returns c =
    let a = c.args in
    puts_line a.ints a.exts a.accounts a.slots c.put-one.ensures c.put-two.ensures c.put-three.ensures c.put.ensures
