-- A sheet from its three sections: what the steps read is what the definition reads. Assumes nothing.
use mathlib.Core.Path.{◌≡◌, refl, ap, ◌∙◌}
use mathlib.Core.List.{List, [], ◌∷◌}
use Prim.Native.Nat.{ℕ, ◌+◌, ◌≤◌, ◌<◌}
use native.Mathlib.Omega.{arith}
use lib.ListN.{length, drop, replicate, length-drop, drop_of_length-le}
use borrow.Author.Tests.{lt-ltb, le-ltb}
use Rattle.columns.specs.Laid.{laid_at}
use Rattle.columns.specs.Rows.{flat}
use Rattle.std.proofs.Common.{Result, Ok, Err}
use Rattle.sections.specs.declared.Section.{Section}
use Rattle.sections.specs.declared.Broken.{Broken}
use Rattle.sections.specs.Steps.{ReadsSection}
use Rattle.sheet_rules.specs.Sheet.{Sheet, skip_limits, message_limits, fill_limits, Read, took, broken, section_at, end_at, sheet_at, sheet, line, reading_of, read}
use Rattle.text.specs.declared.sheet.Parsed.{Parsed}
use Rattle.text.specs.Steps.{laid_out}

pub read_long : (text : List ℕ) → 16384 < length text → read text ≡ line 1
unfolding read
read_long text l = rw (lt-ltb 16384 (length text) l)

ended : (at : ℕ) (s : Sheet) (text : List ℕ) → 0 < length text → end_at at s text ≡ broken at
unfolding end_at
ended at s [] l = absurd (omega arith)
ended at s (b ∷ bs) l = refl

module _ (text : List ℕ) (short : length text ≤ 16384) where
  by : (r : Read Sheet) → sheet_at text ≡ r → read text ≡ reading_of r
  unfolding read
  by r e = rw (le-ltb 16384 (length text) short, e)

  pub read_skips : {a a' : List ℕ} (b : Broken) → ReadsSection text 0 1 64 skip_limits a a' (Err b) → read text ≡ line b.line
  unfolding sheet_at
  read_skips b w = by (broken b.line) (rw w.same)

  module _ {a a' : List ℕ} (s : Section) (w : ReadsSection text 0 1 64 skip_limits a a' (Ok s)) where
    line₂ : s.line ≡ 2 + length w.rows
    line₂ = w.held.behind

    pub read_messages : {b b' : List ℕ} (l : Broken) → ReadsSection text s.next s.line 512 message_limits b b' (Err l) → read text ≡ line l.line
    unfolding sheet_at
    read_messages l x =
        let same : section_at (2 + length w.rows) 512 message_limits (drop s.next text) ≡ broken l.line = rw (← line₂) x.same in
        by (broken l.line) (rw (w.same, same))

    module _ {b b' : List ℕ} (m : Section) (x : ReadsSection text s.next s.line 512 message_limits b b' (Ok m)) where
      messages : section_at (2 + length w.rows) 512 message_limits (drop s.next text) ≡ took x.rows (drop m.next text)
      messages = rw (← line₂) x.same

      line₃ : m.line ≡ 3 + length w.rows + length x.rows
      line₃ = omega (arith, x.held.behind, line₂)

      pub read_fills : {c c' : List ℕ} (l : Broken) → ReadsSection text m.next m.line 64 fill_limits c c' (Err l) → read text ≡ line l.line
      unfolding sheet_at
      read_fills l y =
          let same : section_at (3 + length w.rows + length x.rows) 64 fill_limits (drop m.next text) ≡ broken l.line = rw (← line₃) y.same in
          by (broken l.line) (rw (w.same, messages, same))

      module _ {c c' : List ℕ} (f : Section) (y : ReadsSection text m.next m.line 64 fill_limits c c' (Ok f)) where
        fills : section_at (3 + length w.rows + length x.rows) 64 fill_limits (drop m.next text) ≡ took y.rows (drop f.next text)
        fills = rw (← line₃) y.same

        made : Sheet
        made = record { skips = w.rows; messages = x.rows; fills = y.rows }

        pub read_extra : f.next < length text → read text ≡ line f.line
        unfolding sheet_at
        read_extra l =
            let last : 4 + length w.rows + length x.rows + length y.rows ≡ f.line = omega (arith, y.held.behind, line₃) in
            let some : 0 < length (drop f.next text) = rw length-drop (omega arith) in
            by (broken f.line) (rw (w.same, messages, fills, last) (ended f.line _ (drop f.next text) some))

        -- all is read, and the tables hold it
        pub read_all : length text ≤ f.next → {p q r : List ℕ} → p ≡ a' → q ≡ b' → r ≡ c' → a ≡ replicate 192 0 → b ≡ replicate 1536 0 → c ≡ replicate 256 0
            → ◌≡◌ {A = Result Parsed Broken} (Ok (record { skips = s.rows; skip = p; messages = m.rows; message = q; fills = f.rows; fill = r })) (laid_out (read text))
        unfolding sheet_at end_at made
        read_all l ep eq er ea eb ec =
            let all : read text ≡ sheet made = by (took made []) (rw (w.same, messages, fills, drop_of_length-le text l)) in
            rw all (λ i. Ok (record {
              skips = w.held.many i;
              skip = (ep ∙ w.held.cells ∙ ap (laid_at 0 (flat w.rows)) ea) i;
              messages = x.held.many i;
              message = (eq ∙ x.held.cells ∙ ap (laid_at 0 (flat x.rows)) eb) i;
              fills = y.held.many i;
              fill = (er ∙ y.held.cells ∙ ap (laid_at 0 (flat y.rows)) ec) i;
            }))
