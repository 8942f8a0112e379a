-- `tally_lines::put_left` meets its contract: the words with their numbers and LF are the line (proofs/Lines.antt). Assumes nothing.
use Rattle.answers.specs.Answer.{left_word, ext_word, accounts_word, min_word}
use Rattle.tally_lines.proofs.Lines.{puts_left}
use Rattle.tally_lines.proofs.put_left.Goals as goal

pub returns : goal.returns
unfolding left_word ext_word accounts_word min_word
returns c =
    let a = c.args in
    puts_left a.ints a.exts a.accounts a.least c.put-one.ensures c.put-two.ensures c.put-three.ensures c.put-four.ensures c.end_line.ensures
