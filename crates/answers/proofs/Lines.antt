-- Words with their numbers, one behind the other and LF behind them, are the lines; and a line that may be none. Assumes nothing.
use mathlib.Core.Path.{◌≡◌, refl, sym}
use mathlib.Core.List.{List, [], ◌++◌, append_assoc, append-nil}
use Prim.Native.Nat.{ℕ, ◌≤◌}
use native.Mathlib.Omega.{arith}
use lib.ListN.{take}
use borrow.Author.Tests.{eq-eqb, ne_eqb}
use Rattle.words.specs.Digits.{decimal}
use Rattle.display.specs.Pieces.{Puts}
use Rattle.display.proofs.Pieces.{puts_then}
use Rattle.answers.specs.Answer.{sheet_word, add_word, code_word, newline, broken_line, add_line, refusal}

pub puts_none : (at : ℕ) (out : List ℕ) → Puts [] 0 at out out at
puts_none at out = record { ends = omega arith; near = omega arith; long = refl; text = sym (append-nil (take at out)) }

pub puts_wider : {p : List ℕ} {m k at r : ℕ} {out after : List ℕ} → m ≤ k → Puts p m at out after r → Puts p k at out after r
puts_wider h v = record { ends = v.ends; near = omega (arith, v.near); long = v.long; text = v.text }

-- a word with its number was put behind `at` bytes
abbrev pub Piece : (word : List ℕ) (most n at : ℕ) (line after : List ℕ) (r : ℕ) → Type 0
Piece word most n at line after r = Puts (word ++ decimal n) most at line after r

abbrev pub End : (at : ℕ) (line after : List ℕ) (r : ℕ) → Type 0
End at line after r = Puts newline 1 at line after r

pub puts_broken : (n : ℕ) {at a r : ℕ} {line one after : List ℕ} → Piece sheet_word 31 n at line one a → End a one after r
    → Puts (broken_line n) 32 at line after r
unfolding broken_line
puts_broken n p z = simp append_assoc at (puts_then p z)

pub puts_add : (n k : ℕ) {at a b r : ℕ} {line one two after : List ℕ} → Piece add_word 24 n at line one a → Piece code_word 26 k a one two b
    → End b two after r → Puts (add_line n k) 51 at line after r
unfolding add_line
puts_add n k p q z = simp append_assoc at (puts_then (puts_then p q) z)

-- a refusal: code 0 is none
pub puts_silent : (n k at : ℕ) (line : List ℕ) → k ≡ 0 → Puts (refusal n k) 51 at line line at
unfolding refusal
puts_silent n k at line e = rw (eq-eqb k 0 e) (puts_wider (omega arith) (puts_none at line))

pub puts_spoken : (n k : ℕ) {at r : ℕ} {line after : List ℕ} → (k ≡ 0 → ⊥) → Puts (add_line n k) 51 at line after r
    → Puts (refusal n k) 51 at line after r
unfolding refusal
puts_spoken n k d v = rw (ne_eqb k 0 d) v
