-- The Display line in the part of what is lent behind `at` bytes. Assumes nothing.
use mathlib.Core.Path.{◌≡◌, sym, ap, ◌∙◌, subst}
use mathlib.Core.List.{List, [], ◌++◌, append-nil}
use Prim.Native.Nat.{ℕ, ◌+◌, ◌-◌, ◌≤◌}
use native.Mathlib.Nat.{zero-add}
use native.Mathlib.Omega.{arith}
use lib.ListN.{length, take, drop, length-append, length-drop, drop_of_length-le}
use lib.Seq.{take_all, drop-drop}
use borrow.Author.Tests.{le-leb}
use Rattle.rules.specs.Calls.{Target}
use Rattle.message.specs.Real.{Real}
use Rattle.columns.specs.Laid.{laid_at}
use Rattle.words.specs.Digits.{places, decimal}
use Rattle.words.proofs.Placing.{places_high}
use Rattle.words.proofs.Back.{length_spelled}
use Rattle.display.specs.Line.{int_word, ext_word, accounts_word, slots_word, line_of, written}
use Rattle.display.specs.Pieces.{Puts}
use Rattle.display.proofs.Pieces.{puts_laid}
use Rattle.group_reads.specs.declared.Counts.{Counts}
use Rattle.group_reads.specs.Shown.{counts_of, line_for, Displays}

length_decimal : (n : ℕ) → length (decimal n) ≤ 20
unfolding decimal places
length_decimal n = omega (arith, length_spelled 10 48 (places n) n [], places_high 19 n)

pub length_line : (c : Counts) → length (line_for c) ≤ 109
unfolding line_of int_word ext_word accounts_word slots_word
length_line c =
    simp length-append
    (omega (arith, length_decimal c.ints, length_decimal c.exts, length_decimal c.accounts, length_decimal c.slots))

-- a line in the part behind `at`, where it fits
part_laid : (line out part : List ℕ) (at : ℕ) → at + length line ≤ length out → part ≡ written line (drop at out)
    → take at out ++ part ≡ laid_at at line out
unfolding written laid_at
part_laid line out part at fits e =
    let room : length line ≤ length (drop at out) = simp length-drop (omega arith) in
    let whole : part ≡ line ++ drop (0 + length line) (drop at out) = e ∙ rw (le-leb (length line) (length (drop at out)) room) in
    ap (λ (p : List ℕ). take at out ++ p) (whole ∙ ap (λ (p : List ℕ). line ++ p) (drop-drop (0 + length line) at out ∙ rw zero-add))

puts_part : (line : List ℕ) {out part : List ℕ} {at r : ℕ} → length line ≤ 109 → at + 109 ≤ length out → r ≡ length line
    → part ≡ written line (drop at out) → Puts line 109 at out (take at out ++ part) (at + r)
puts_part line {out} {part} {at} {r} short room e p =
    subst (λ (l : List ℕ). Puts line 109 at out l (at + r)) (sym (part_laid line out part at (omega arith) p))
    (subst (λ (k : ℕ). Puts line 109 at out (laid_at at line out) (at + k)) (sym e) (puts_laid line 109 at out (omega arith) short))

-- the Display line there: all that lies behind `at` was lent, and nothing lies behind it
pub puts_shown : (t : Target Real) (out : List ℕ) (at : ℕ) {part : List ℕ} {r : ℕ} → at + 109 ≤ length out
    → Displays t (take (length out - at) (drop at out)) part r
    → Puts (line_for (counts_of t)) 109 at out (take at out ++ (part ++ drop (length out - at) (drop at out))) (at + r)
puts_shown t out at {part} {r} room d =
    let long : length (drop at out) ≤ length out - at = simp length-drop (omega arith) in
    let line = line_for (counts_of t) in
    let none = ap (λ (l : List ℕ). part ++ l) (drop_of_length-le (drop at out) long) ∙ append-nil part in
    let bytes = d.bytes ∙ ap (written line) (take_all (length out - at) (drop at out) long) in
    subst (λ (l : List ℕ). Puts line 109 at out (take at out ++ l) (at + r)) (sym none)
    (puts_part line (length_line (counts_of t)) room d.long bytes)
