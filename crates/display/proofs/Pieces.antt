-- Pieces of a line put one behind the other: a piece that was laid, two pieces as one, and the line as its pieces. With them, what a line
-- that was built makes of what is lent. Assumes nothing.
use mathlib.Core.Path.{◌≡◌, refl, sym, ap, ◌∙◌}
use mathlib.Core.List.{List, ◌++◌, append_assoc}
use Prim.Native.Nat.{ℕ, ◌+◌, ◌≤◌, ◌<◌}
use native.Mathlib.Nat.{zero-add}
use native.Mathlib.Omega.{arith}
use lib.ListN.{length, take, length-append}
use lib.Seq.{take-add, take-length, length-take-le, drop-drop}
use borrow.Rule.Slice.PartMut.{put_mid}
use borrow.Author.Tests.{le-leb, lt-leb}
use Rattle.columns.specs.Laid.{laid_at}
use Rattle.columns.proofs.Laid.{length_laid, take_laid, middle_laid}
use Rattle.words.specs.Digits.{decimal, Written}
use Rattle.display.specs.Line.{int_word, ext_word, accounts_word, slots_word, line_of, written}
use Rattle.display.specs.Pieces.{Puts}

-- a piece copied over a part of a line is laid there
pub laid_mid : (at n k : ℕ) (col piece : List ℕ) {part : List ℕ} → k ≡ n → n ≤ length piece → part ≡ take n piece
    → put_mid at k col part ≡ laid_at at (take n piece) col
unfolding laid_at
laid_mid at n k col piece many enough e = rw (e, many, length-take-le n piece enough, drop-drop n at col)

-- a piece that was laid behind the first `at` bytes
pub puts_laid : (piece : List ℕ) (most at : ℕ) (line : List ℕ) → at + length piece ≤ length line → length piece ≤ most
    → Puts piece most at line (laid_at at piece line) (at + length piece)
puts_laid piece most at line fits small = record {
  ends = refl;
  near = omega arith;
  long = length_laid at piece line fits;
  text = take-add at (length piece) (laid_at at piece line)
      ∙ rw (take_laid at piece line fits at (omega arith), middle_laid at piece line fits);
}

-- a piece, and another behind it
pub puts_then : {p q : List ℕ} {m k at r s : ℕ} {line mid after : List ℕ} → Puts p m at line mid r → Puts q k r mid after s
    → Puts (p ++ q) (m + k) at line after s
puts_then {p} {q} {at = at} {line = line} v w = record {
  ends = rw (length-append p q) (omega (arith, v.ends, w.ends));
  near = omega (arith, v.near, w.near);
  long = w.long ∙ v.long;
  text = w.text ∙ ap (λ (l : List ℕ). l ++ q) v.text ∙ append_assoc (take at line) p q;
}

-- a word that was laid, and the digits of a number behind it
pub puts_both : (word : List ℕ) (at n : ℕ) {many : ℕ} {digits line mid after : List ℕ} → Written n digits many → length digits ≡ 20
    → at + length word + 20 ≤ length line
    → mid ≡ laid_at at (take (length word) word) line
    → after ≡ laid_at (at + length word) (take many digits) mid
    → Puts (word ++ decimal n) (length word + 20) at line after (at + length word + many)
puts_both word at n {many} {digits} {line} {mid} {after} w long room e f =
    let wide : length (decimal n) ≡ many = ap length (sym w.digits) ∙ sym w.counts in
    let e' : mid ≡ laid_at at word line = rw take-length at e in
    let f' : after ≡ laid_at (at + length word) (decimal n) mid = rw w.digits at f in
    let first : Puts word (length word) at line mid (at + length word) = rw e' (puts_laid word (length word) at line (omega arith) (omega arith)) in
    let few : length (decimal n) ≤ 20 = omega (arith, w.within) in
    let fits : at + length word + length (decimal n) ≤ length mid = omega (arith, first.long) in
    puts_then first (rw (f', ← wide) (puts_laid (decimal n) 20 (at + length word) mid fits few))

-- the four words with their numbers are the line
module _ (ints exts accounts slots : ℕ) where
  joined : ((((int_word ++ decimal ints) ++ (ext_word ++ decimal exts)) ++ (accounts_word ++ decimal accounts)) ++ (slots_word ++ decimal slots))
      ≡ line_of ints exts accounts slots
  unfolding line_of
  joined = simp append_assoc

  pub puts_line : {r s t u : ℕ} {line one two three after : List ℕ} → Puts (int_word ++ decimal ints) 24 0 line one r
      → Puts (ext_word ++ decimal exts) 26 r one two s
      → Puts (accounts_word ++ decimal accounts) 31 s two three t
      → Puts (slots_word ++ decimal slots) 28 t three after u
      → Puts (line_of ints exts accounts slots) 109 0 line after u
  puts_line a b c d = rw joined at (puts_then (puts_then (puts_then a b) c) d)

-- a line that was built: its length, and what is lent with the line laid over it or not
module _ {text line after : List ℕ} {most r : ℕ} (v : Puts text most 0 line after r) where
  pub counted : r ≡ length text
  counted = v.ends ∙ zero-add _

  pub shown : (out : List ℕ) → r ≤ length out → laid_at 0 (take r after) out ≡ written text out
  unfolding written
  shown out l = rw (← counted, le-leb r (length out) l, v.text)

  pub left : (out : List ℕ) → length out < r → out ≡ written text out
  unfolding written
  left out l = rw (← counted, lt-leb r (length out) l)
