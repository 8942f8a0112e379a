-- `tally_lines::put_fill` meets its contract: the words with their numbers and LF are the line (proofs/Lines.antt). Assumes nothing.
use Rattle.answers.specs.Answer.{fill_word, code_word, collected_word, ops_word, dropped_word}
use Rattle.tally_lines.proofs.Lines.{puts_fill}
use Rattle.tally_lines.proofs.put_fill.Goals as goal

pub returns : goal.returns
unfolding fill_word code_word collected_word ops_word dropped_word
returns c =
    let a = c.args in
    puts_fill a.number a.code a.collected a.ops a.dropped c.put-one.ensures c.put-two.ensures c.put-three.ensures c.put-four.ensures c.put-five.ensures c.end_line.ensures
