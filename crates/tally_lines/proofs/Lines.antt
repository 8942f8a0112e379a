-- Words with their numbers, one behind the other and LF behind them, are the lines. Assumes nothing.
use mathlib.Core.List.{List, append_assoc}
use Prim.Native.Nat.{ℕ}
use Rattle.display.specs.Pieces.{Puts}
use Rattle.display.proofs.Pieces.{puts_then}
use Rattle.answers.specs.Answer.{code_word, fill_word, collected_word, ops_word, dropped_word, left_word, ext_word, accounts_word, min_word, fill_line, left_line}
use Rattle.answers.proofs.Lines.{Piece, End}

pub puts_fill : (n k collected ops dropped : ℕ) {at a b c d e r : ℕ} {line one two three four five after : List ℕ}
    → Piece fill_word 25 n at line one a → Piece code_word 26 k a one two b → Piece collected_word 31 collected b two three c
    → Piece ops_word 25 ops c three four d → Piece dropped_word 29 dropped d four five e → End e five after r
    → Puts (fill_line n k collected ops dropped) 137 at line after r
unfolding fill_line
puts_fill n k collected ops dropped p q s t u z =
    simp append_assoc at (puts_then (puts_then (puts_then (puts_then (puts_then p q) s) t) u) z)

pub puts_left : (ints exts accounts least : ℕ) {at a b c d r : ℕ} {line one two three four after : List ℕ}
    → Piece left_word 29 ints at line one a → Piece ext_word 25 exts a one two b → Piece accounts_word 30 accounts b two three c
    → Piece min_word 25 least c three four d → End d four after r → Puts (left_line ints exts accounts least) 110 at line after r
unfolding left_line
puts_left ints exts accounts least p q s t z = simp append_assoc at (puts_then (puts_then (puts_then (puts_then p q) s) t) z)
