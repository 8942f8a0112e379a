-- A word read as a number that is not above its limit, and the number that ends at the first stop byte from an index on. Assumes nothing.
use mathlib.Core.Path.{◌≡◌, refl, ap, ◌∙◌}
use mathlib.Core.Bool.{Bool, true, false, ◌&&◌}
use mathlib.Core.List.{List}
use Prim.Native.Nat.{ℕ, ◌+◌, ◌-◌, ◌≤◌, ◌<◌}
use native.Mathlib.Nat.{min-eq_left}
use native.Mathlib.Omega.{arith}
use lib.ListN.{length, take, drop, length-drop}
use lib.Seq.{drop-drop}
use borrow.Author.Tests.{lt-ltb, le-ltb, lt-leb, le-leb}
use Rattle.numbers.proofs.Bytes.{by_bool}
use Rattle.words.specs.Cut.{before, Leads}
use Rattle.words.specs.Digits.{is_number, value_of, number_of}
use Rattle.std.proofs.Common.{Some, None}
use Rattle.sheet_rules.specs.Sheet.{plain, is_plain_number, number_at}
use Rattle.numerals.specs.Steps.{bounded, ReadsNumber}
use Rattle.sheet_rules.proofs.Numerals.{number_parts}

-- ---- a word

and_false : (b : Bool) → b && false ≡ false
and_false true = refl
and_false false = refl

module _ (word : List ℕ) (limit next : ℕ) where
  refused : is_plain_number limit word ≡ false → None ≡ bounded limit next word
  unfolding bounded
  refused e = rw e

  -- a zero in front; no number; a number above the limit
  pub refused_zero : plain word ≡ false → None ≡ bounded limit next word
  unfolding is_plain_number
  refused_zero e = refused (rw e)

  pub refused_word : number_of word ≡ None → None ≡ bounded limit next word
  unfolding is_plain_number number_of
  refused_word e =
      by_bool (is_number word)
      (λ t. let no : Some (value_of word) ≡ None = rw t at e in let none : ◌≡◌ {A = ℕ} 0 1 = cc in absurd (omega arith))
      (λ f. refused (rw (f, and_false)))

  pub refused_large : (v : ℕ) → number_of word ≡ Some v → limit < v → None ≡ bounded limit next word
  unfolding is_plain_number
  refused_large v e l =
      let parts = number_parts word v e in
      refused (rw (parts.0, parts.1, lt-leb v limit l, and_false))

  pub accepted : (v : ℕ) → plain word ≡ true → number_of word ≡ Some v → v ≤ limit
      → Some (record { value = v; next = next }) ≡ bounded limit next word
  unfolding bounded is_plain_number
  accepted v p e l =
      let parts = number_parts word v e in
      rw (p, parts.0, parts.1, le-leb v limit l)

-- ---- up to the first stop byte

module _ (text : List ℕ) (from stop limit to : ℕ) (starts : from ≤ length text) (leads : Leads from text (before stop (drop from text)) to) where
  size : to ≡ from + before stop (drop from text)
  size = leads.exactly ∙ ap (λ (k : ℕ). k + before stop (drop from text)) (min-eq_left starts)

  -- the text ends before it
  pub unended : length text ≤ to → ReadsNumber text from stop limit None
  unfolding number_at
  unended l = record {
    same = λ at. rw (le-ltb (before stop (drop from text)) (length (drop from text)) (rw length-drop (omega (arith, size))));
    within = tt;
  }

  pub ended : to < length text → ReadsNumber text from stop limit (bounded limit (to + 1) (take (to - from) (drop from text)))
  unfolding number_at bounded
  ended l =
      let many : to - from ≡ before stop (drop from text) = omega (arith, size) in
      let here : before stop (drop from text) < length (drop from text) = rw length-drop (omega (arith, size)) in
      let far : from + (before stop (drop from text) + 1) ≡ to + 1 = omega (arith, size) in
      rw many
      (by_bool (is_plain_number limit (take (before stop (drop from text)) (drop from text)))
      (λ t. rw t (record {
        same = λ at. rw (lt-ltb (before stop (drop from text)) (length (drop from text)) here, t, drop-drop (before stop (drop from text) + 1) from text, far);
        within = omega arith;
      }))
      (λ f. rw f (record {
        same = λ at. rw (lt-ltb (before stop (drop from text)) (length (drop from text)) here, f);
        within = tt;
      })))
