-- `answers::put_broken` meets its contract: the words with their numbers and LF are the line (proofs/Lines.antt). Assumes nothing.
use Rattle.answers.specs.Answer.{sheet_word}
use Rattle.answers.proofs.Lines.{puts_broken}
use Rattle.answers.proofs.put_broken.Goals as goal

pub returns : goal.returns
unfolding sheet_word
returns c =
    let a = c.args in
    puts_broken a.line c.put-one.ensures c.end_line.ensures
