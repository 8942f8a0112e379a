-- `answers::put_add` meets its contract: the words with their numbers and LF are the line (proofs/Lines.antt). Assumes nothing.
use Rattle.answers.specs.Answer.{add_word, code_word}
use Rattle.answers.proofs.Lines.{puts_add}
use Rattle.answers.proofs.put_add.Goals as goal

pub returns : goal.returns
unfolding add_word code_word
returns c =
    let a = c.args in
    puts_add a.number a.code c.put-one.ensures c.put-two.ensures c.end_line.ensures
