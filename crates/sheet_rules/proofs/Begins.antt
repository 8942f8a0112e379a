-- A reported line is the first that is broken, missing or extra, half two: the lines before it are those of the text of a sheet. Assumes
-- nothing.
use mathlib.Core.Path.{◌≡◌, refl, sym, ap, ◌∙◌}
use mathlib.Core.List.{List, [], ◌∷◌, ◌++◌, append-nil, append_assoc}
use Prim.Native.Nat.{ℕ, zero, suc, ◌+◌, ◌-◌, ◌≤◌, ◌<◌}
use native.Mathlib.Omega.{arith}
use lib.Dec.{ltb}
use lib.ListN.{length, replicate, length-append, length-replicate}
use borrow.Author.Tests.{le-ltb}
use Rattle.words.specs.Digits.{decimal}
use Rattle.sheet_rules.specs.Sheet.{Sheet, most, skip_limits, message_limits, fill_limits, Within, AllWithin, Fits, stop_by, line_text, lines_text, section_text, text_of, Read, took, broken, number_at, line_at, lines_at, section_at, end_at, sheet_at, sheet, line, read}
use Rattle.sheet_rules.specs.First.{line_ends, Alike}
use Rattle.sheet_rules.proofs.Numerals.{number_back}
use Rattle.sheet_rules.proofs.Texts.{by_read, not_both, line_back, section_back}
use Rattle.sheet_rules.proofs.First.{same_line, number_line, line_line, end_line, ends_append, ends_line, ends_rows, ends_section, not_further}

-- ---- rows of zeros, to make up what is missing

zero_row : List ℕ → List ℕ
zero_row [] = []
zero_row (l ∷ ls) = 0 ∷ zero_row ls

zeros_within : (limits : List ℕ) → Within limits (zero_row limits)
unfolding Within zero_row
zeros_within [] = tt
zeros_within (l ∷ ls) = (omega arith, zeros_within ls)

all_within : (limits r : List ℕ) → Within limits r → (k : ℕ) → AllWithin limits (replicate k r)
unfolding AllWithin
all_within limits r w zero = tt
all_within limits r w (suc k) = (w, all_within limits r w k)

within_append : (limits : List ℕ) (xs ys : List (List ℕ)) → AllWithin limits xs → AllWithin limits ys → AllWithin limits (xs ++ ys)
unfolding AllWithin
within_append limits [] ys a b = b
within_append limits (x ∷ xs) ys a b = (a.0, within_append limits xs ys a.1 b)

no_rows : (limits : List ℕ) → AllWithin limits []
unfolding AllWithin
no_rows limits = tt

no_ends : (at : ℕ) → at + line_ends [] ≡ at
unfolding line_ends
no_ends at = omega arith

lines_append : (xs ys : List (List ℕ)) → lines_text (xs ++ ys) ≡ lines_text xs ++ lines_text ys
unfolding lines_text
lines_append [] ys = refl
lines_append (x ∷ xs) ys = ap (λ (t : List ℕ). line_text x ++ t) (lines_append xs ys) ∙ sym (append_assoc (line_text x) (lines_text xs) (lines_text ys))

-- ---- lines, up to the broken one

record Stops (at k : ℕ) (limits text : List ℕ) (m : ℕ) : Type 0 where
  pub rows : List (List ℕ)
  pub rest : List ℕ
  pub whole : text ≡ lines_text rows ++ rest
  pub within : AllWithin limits rows
  pub here : at + length rows ≡ m
  pub more : length rows < k

lines_stop : (k at : ℕ) (limits text : List ℕ) (m : ℕ) → lines_at at limits k text ≡ broken m → Stops at k limits text m
unfolding lines_at lines_text AllWithin
lines_stop zero at limits text m e = not_both (sym e)
lines_stop (suc k) at limits text m e =
    by_read (line_at at limits text)
    (λ r mid e₁.
    by_read (lines_at (at + 1) limits k mid)
    (λ rs behind e₂. not_both (sym (rw (e₁, e₂) at e)))
    (λ j e₂.
    let a = line_back at limits text r mid e₁ in
    let b = lines_stop k (at + 1) limits mid j e₂ in
    record {
      rows = r ∷ b.rows;
      rest = b.rest;
      whole = a.0 ∙ ap (λ (t : List ℕ). line_text r ++ t) b.whole ∙ sym (append_assoc (line_text r) (lines_text b.rows) b.rest);
      within = (a.1, b.within);
      here = omega (arith, b.here, same_line (rw (e₁, e₂) at e));
      more = omega (arith, b.more);
    }))
    (λ j e₁. record {
      rows = [];
      rest = text;
      whole = refl;
      within = tt;
      here = omega (arith, line_line at limits text j e₁, same_line (rw e₁ at e));
      more = omega arith;
    })

-- ---- a section, up to the broken line

record Begins (at limit : ℕ) (limits text : List ℕ) (m : ℕ) : Type 0 where
  pub rows : List (List ℕ)
  pub few : length rows ≤ limit
  pub within : AllWithin limits rows
  pub shared : List ℕ
  pub rest : List ℕ
  pub other : List ℕ
  pub mine : text ≡ shared ++ rest
  pub its : section_text rows ≡ shared ++ other
  pub here : at + line_ends shared ≡ m

module _ (l : ℕ) (ls : List ℕ) where
  section_begins : (at limit : ℕ) (text : List ℕ) (m : ℕ) → section_at at limit (l ∷ ls) text ≡ broken m → Begins at limit (l ∷ ls) text m
  unfolding section_at section_text line_text stop_by
  section_begins at limit text m e =
      by_read (number_at at 10 limit text)
      (λ n mid e₁.
      let a = number_back at 10 limit text n mid e₁ in
      let b = lines_stop n (at + 1) (l ∷ ls) mid m (rw e₁ at e) in
      let zeros = replicate (n - length b.rows) (zero_row (l ∷ ls)) in
      let many : length (b.rows ++ zeros) ≡ n = length-append b.rows zeros ∙ rw (length-replicate (n - length b.rows) (zero_row (l ∷ ls))) (omega (arith, b.more)) in
      let shared = line_text (n ∷ []) ++ lines_text b.rows in
      record {
        rows = b.rows ++ zeros;
        few = omega (arith, many, a.1);
        within = within_append (l ∷ ls) b.rows zeros b.within (all_within (l ∷ ls) (zero_row (l ∷ ls)) (zeros_within (l ∷ ls)) (n - length b.rows));
        shared = shared;
        rest = b.rest;
        other = lines_text zeros;
        mine = a.0 ∙ ap (λ (t : List ℕ). decimal n ++ (10 ∷ t)) b.whole ∙ sym (simp append_assoc);
        its = (λ i. line_text (many i ∷ []) ++ lines_append b.rows zeros i) ∙ sym (append_assoc (line_text (n ∷ [])) (lines_text b.rows) (lines_text zeros));
        here = omega (arith, b.here, ends_append (line_text (n ∷ [])) (lines_text b.rows), ends_line n [], ends_rows l ls b.rows b.within);
      })
      (λ j e₁. record {
        rows = [];
        few = omega arith;
        within = no_rows (l ∷ ls);
        shared = [];
        rest = text;
        other = section_text [];
        mine = refl;
        its = refl;
        here = no_ends at ∙ number_line at 10 limit text j e₁ ∙ same_line (rw e₁ at e);
      })

-- ---- the sheet, up to the broken line

-- a skip row, a message and a fill have at least one number
ends_skips : (rows : List (List ℕ)) → AllWithin skip_limits rows → line_ends (section_text rows) ≡ 1 + length rows
unfolding skip_limits
ends_skips = ends_section 65535 (1 ∷ most ∷ [])

ends_messages : (rows : List (List ℕ)) → AllWithin message_limits rows → line_ends (section_text rows) ≡ 1 + length rows
unfolding message_limits
ends_messages = ends_section 1 (most ∷ 65535 ∷ [])

ends_fills : (rows : List (List ℕ)) → AllWithin fill_limits rows → line_ends (section_text rows) ≡ 1 + length rows
unfolding fill_limits
ends_fills = ends_section most (most ∷ 1 ∷ most ∷ [])

module _ (text : List ℕ) (m : ℕ) where
  -- the broken line lies in the first section, in the second, in the third, or behind it
  in_skips : section_at 1 64 skip_limits text ≡ broken m → (1 ≤ m) × Alike text (m - 1)
  unfolding text_of skip_limits
  in_skips e =
      let b = section_begins 65535 (1 ∷ most ∷ []) 1 64 text m e in
      let end = section_text [] ++ section_text [] in (
        omega (arith, b.here),
        record {
          it = record { skips = b.rows; messages = []; fills = [] };
          fits = record { skips = (b.few, b.within); messages = (omega arith, no_rows message_limits); fills = (omega arith, no_rows fill_limits) };
          shared = b.shared;
          rest = b.rest;
          other = b.other ++ end;
          mine = b.mine;
          its = ap (λ (t : List ℕ). t ++ end) b.its ∙ append_assoc b.shared b.other end;
          many = omega (arith, b.here);
        },
      )

  module _ (skips : List (List ℕ)) (mid : List ℕ) (e₁ : section_at 1 64 skip_limits text ≡ took skips mid) where
    in_messages : section_at (2 + length skips) 512 message_limits mid ≡ broken m → (1 ≤ m) × Alike text (m - 1)
    unfolding text_of message_limits
    in_messages e =
        let a = section_back 1 64 skip_limits text skips mid e₁ in
        let b = section_begins 1 (most ∷ 65535 ∷ []) (2 + length skips) 512 mid m e in
        let end = section_text [] in
        let ends : line_ends (section_text skips ++ b.shared) ≡ 1 + length skips + line_ends b.shared = ends_append (section_text skips) b.shared ∙ rw (ends_skips skips a.within) in (
          omega (arith, b.here),
          record {
            it = record { skips = skips; messages = b.rows; fills = [] };
            fits = record { skips = (a.few, a.within); messages = (b.few, b.within); fills = (omega arith, no_rows fill_limits) };
            shared = section_text skips ++ b.shared;
            rest = b.rest;
            other = b.other ++ end;
            mine = a.same ∙ ap (λ (t : List ℕ). section_text skips ++ t) b.mine ∙ sym (append_assoc (section_text skips) b.shared b.rest);
            its = ap (λ (t : List ℕ). section_text skips ++ (t ++ end)) b.its ∙ simp append_assoc;
            many = omega (arith, b.here);
          },
        )

    module _ (messages : List (List ℕ)) (behind : List ℕ) (e₂ : section_at (2 + length skips) 512 message_limits mid ≡ took messages behind) where
      in_fills : section_at (3 + length skips + length messages) 64 fill_limits behind ≡ broken m → (1 ≤ m) × Alike text (m - 1)
      unfolding text_of fill_limits
      in_fills e =
          let a = section_back 1 64 skip_limits text skips mid e₁ in
          let b = section_back (2 + length skips) 512 message_limits mid messages behind e₂ in
          let c = section_begins most (most ∷ 1 ∷ most ∷ []) (3 + length skips + length messages) 64 behind m e in
          let ends : line_ends (section_text skips ++ (section_text messages ++ c.shared)) ≡ 1 + length skips + (1 + length messages + line_ends c.shared) =
          ends_append (section_text skips) (section_text messages ++ c.shared)
          ∙ rw (ends_skips skips a.within, ends_append (section_text messages) c.shared, ends_messages messages b.within)
          in (
            omega (arith, c.here),
            record {
              it = record { skips = skips; messages = messages; fills = c.rows };
              fits = record { skips = (a.few, a.within); messages = (b.few, b.within); fills = (c.few, c.within) };
              shared = section_text skips ++ (section_text messages ++ c.shared);
              rest = c.rest;
              other = c.other;
              mine = a.same ∙ ap (λ (t : List ℕ). section_text skips ++ t) (b.same ∙ ap (λ (t : List ℕ). section_text messages ++ t) c.mine) ∙ simp append_assoc;
              its = ap (λ (t : List ℕ). section_text skips ++ (section_text messages ++ t)) c.its ∙ simp append_assoc;
              many = omega (arith, c.here);
            },
          )

      behind_all : (fills : List (List ℕ)) (end : List ℕ) → section_at (3 + length skips + length messages) 64 fill_limits behind ≡ took fills end
          → 4 + length skips + length messages + length fills ≡ m → (1 ≤ m) × Alike text (m - 1)
      unfolding text_of
      behind_all fills end e₃ e =
          let a = section_back 1 64 skip_limits text skips mid e₁ in
          let b = section_back (2 + length skips) 512 message_limits mid messages behind e₂ in
          let c = section_back (3 + length skips + length messages) 64 fill_limits behind fills end e₃ in
          let all = section_text skips ++ (section_text messages ++ section_text fills) in
          let ends : line_ends all ≡ 1 + length skips + (1 + length messages + (1 + length fills)) =
          ends_append (section_text skips) (section_text messages ++ section_text fills)
          ∙ rw (ends_skips skips a.within, ends_append (section_text messages) (section_text fills), ends_messages messages b.within, ends_fills fills c.within)
          in (
            omega arith,
            record {
              it = record { skips = skips; messages = messages; fills = fills };
              fits = record { skips = (a.few, a.within); messages = (b.few, b.within); fills = (c.few, c.within) };
              shared = all;
              rest = end;
              other = [];
              mine = a.same ∙ ap (λ (t : List ℕ). section_text skips ++ t) (b.same ∙ ap (λ (t : List ℕ). section_text messages ++ t) c.same) ∙ simp append_assoc;
              its = sym (append-nil all);
              many = omega arith;
            },
          )

  pub begun : sheet_at text ≡ broken m → (1 ≤ m) × Alike text (m - 1)
  unfolding sheet_at
  begun e =
      by_read (section_at 1 64 skip_limits text)
      (λ skips mid e₁.
      by_read (section_at (2 + length skips) 512 message_limits mid)
      (λ messages behind e₂.
      by_read (section_at (3 + length skips + length messages) 64 fill_limits behind)
      (λ fills end e₃. behind_all skips mid e₁ messages behind e₂ fills end e₃ (end_line _ _ end m (rw (e₁, e₂, e₃) at e)))
      (λ k e₃. in_fills skips mid e₁ messages behind e₂ (e₃ ∙ ap broken (same_line (rw (e₁, e₂, e₃) at e)))))
      (λ k e₂. in_messages skips mid e₁ (e₂ ∙ ap broken (same_line (rw (e₁, e₂) at e)))))
      (λ k e₁. in_skips (e₁ ∙ ap broken (same_line (rw e₁ at e))))

-- "the first broken, missing or extra line": its number is one more than the most line ends that the text shares with the text of a sheet
pub first : (text : List ℕ) (m : ℕ) → length text ≤ 16384 → read text ≡ line m → (1 ≤ m) × Alike text (m - 1) × ((n : ℕ) → Alike text n → n < m)
unfolding read
first text m h e =
    by_read (sheet_at text)
    (λ s rest g. let no : sheet s ≡ line m = rw (le-ltb 16384 (length text) h, g) at e in let none : ◌≡◌ {A = ℕ} 0 1 = cc in absurd (omega arith))
    (λ k g.
    let same : line k ≡ line m = rw (le-ltb 16384 (length text) h, g) at e in
    let it : k ≡ m = cc in
    let g' : sheet_at text ≡ broken m = g ∙ ap broken it in
    let b = begun text m g' in
    (b.0, b.1, λ n a. not_further text m n g' a))
