-- A reported line is the first that is broken, missing or extra, half one: the text shares no more line ends with the text of any sheet than
-- stand before that line. Assumes nothing.
use mathlib.Core.Path.{◌≡◌, refl, sym, ap, ◌∙◌}
use mathlib.Core.Bool.{true, false, cond, ◌&&◌}
use mathlib.Core.Logic.{◌⊎◌, inl, inr, ⊎_elim}
use mathlib.Core.List.{List, [], ◌∷◌, ◌++◌, append-nil, append_assoc}
use Prim.Native.Nat.{ℕ, zero, suc, ◌+◌, ◌^◌, ◌≤◌, ◌<◌}
use native.Mathlib.Omega.{arith}
use lib.Dec.{eqb, ltb}
use lib.ListN.{length, take, length-append}
use borrow.Author.Tests.{eqb-true}
use Rattle.numbers.proofs.Bytes.{by_bool, clash}
use Rattle.words.specs.Cut.{before}
use Rattle.words.specs.Digits.{is_digit, digits_only, places, decimal}
use Rattle.words.proofs.Back.{all_digits}
use Rattle.sheet_rules.specs.Sheet.{Sheet, most, skip_limits, message_limits, fill_limits, Within, AllWithin, Fits, stop_by, line_text, lines_text, section_text, text_of, Read, took, broken, after, is_plain_number, number_at, line_at, lines_at, section_at, end_at, sheet_at}
use Rattle.sheet_rules.specs.First.{line_ends, Alike}
use Rattle.sheet_rules.proofs.Numerals.{digit_here, digit_rest, number_there}
use Rattle.sheet_rules.proofs.Texts.{by_read, not_both, Small, line_there, lines_back, section_there, small_skips, small_messages, small_fills, counted}

-- ---- a broken line lies at the line where reading began, or behind it

pub same_line : {A : Type 0} {m n : ℕ} → ◌≡◌ {A = Read A} (broken m) (broken n) → m ≡ n
same_line e = cc

pub number_line : (at stop limit : ℕ) (text : List ℕ) (m : ℕ) → number_at at stop limit text ≡ broken m → at ≡ m
unfolding number_at
number_line at stop limit text m e =
    by_bool (ltb (before stop text) (length text) && is_plain_number limit (take (before stop text) text))
    (λ t. not_both (sym (rw t at e)))
    (λ f. same_line (rw f at e))

pub line_line : (at : ℕ) (limits text : List ℕ) (m : ℕ) → line_at at limits text ≡ broken m → at ≡ m
unfolding line_at
line_line at [] text m e = not_both (sym e)
line_line at (l ∷ ls) text m e =
    by_read (number_at at (stop_by ls) l text)
    (λ n mid e₁.
    by_read (line_at at ls mid)
    (λ ns behind e₂. not_both (sym (rw (e₁, e₂) at e)))
    (λ k e₂. line_line at ls mid k e₂ ∙ same_line (rw (e₁, e₂) at e)))
    (λ k e₁. number_line at (stop_by ls) l text k e₁ ∙ same_line (rw e₁ at e))

lines_line : (k at : ℕ) (limits text : List ℕ) (m : ℕ) → lines_at at limits k text ≡ broken m → at ≤ m
unfolding lines_at
lines_line zero at limits text m e = not_both (sym e)
lines_line (suc k) at limits text m e =
    by_read (line_at at limits text)
    (λ r mid e₁.
    by_read (lines_at (at + 1) limits k mid)
    (λ rs behind e₂. not_both (sym (rw (e₁, e₂) at e)))
    (λ j e₂. omega (arith, lines_line k (at + 1) limits mid j e₂, same_line (rw (e₁, e₂) at e))))
    (λ j e₁. omega (arith, line_line at limits text j e₁, same_line (rw e₁ at e)))

section_line : (at limit : ℕ) (limits text : List ℕ) (m : ℕ) → section_at at limit limits text ≡ broken m → at ≤ m
unfolding section_at
section_line at limit limits text m e =
    by_read (number_at at 10 limit text)
    (λ n mid e₁. omega (arith, lines_line n (at + 1) limits mid m (rw e₁ at e)))
    (λ j e₁. omega (arith, number_line at 10 limit text j e₁, same_line (rw e₁ at e)))

-- ---- two texts in two parts each: the first part of one holds that of the other, or ends within it

record Over (p w a b : List ℕ) : Type 0 where
  pub left : List ℕ
  pub whole : p ≡ a ++ left
  pub rest : left ++ w ≡ b

record Under (p a : List ℕ) : Type 0 where
  pub left : List ℕ
  pub some : 0 < length left
  pub whole : a ≡ p ++ left

split : (p w a b : List ℕ) → p ++ w ≡ a ++ b → Over p w a b ⊎ Under p a
split p w [] b e = inl (record { left = p; whole = refl; rest = e })
split [] w (x ∷ a) b e = inr (record { left = x ∷ a; some = omega arith; whole = refl })
split (y ∷ p) w (x ∷ a) b e =
    let head : y ≡ x = cc in
    let tail : p ++ w ≡ a ++ b = cc in
    ⊎_elim
    (λ (o : Over p w a b). inl (record { left = o.left; whole = λ i. head i ∷ o.whole i; rest = o.rest }))
    (λ (u : Under p a). inr (record { left = u.left; some = u.some; whole = λ i. sym head i ∷ u.whole i }))
    (split p w a b tail)

-- ---- line ends

pub ends_append : (p q : List ℕ) → line_ends (p ++ q) ≡ line_ends p + line_ends q
unfolding line_ends
ends_append [] q = omega arith
ends_append (x ∷ p) q = omega (arith, ends_append p q)

ends_digits : (d : List ℕ) → digits_only d ≡ true → line_ends d ≡ 0
unfolding line_ends
ends_digits [] e = refl
ends_digits (x ∷ xs) e =
    by_bool (eqb x 10)
    (λ t. clash (is_digit 10) (rw (eqb-true x 10 t) at (digit_here x xs e)) refl)
    (λ f. rw (f, ends_digits xs (digit_rest x xs e)))

ends_decimal : (n : ℕ) → line_ends (decimal n) ≡ 0
unfolding decimal digits_only
ends_decimal n = ends_digits (decimal n) (all_digits (places n) n [] refl)

-- a line has one, and it is its last byte
pub ends_line : (n : ℕ) (ns : List ℕ) → line_ends (line_text (n ∷ ns)) ≡ 1
unfolding line_text stop_by line_ends
ends_line n [] = ends_append (decimal n) (10 ∷ []) ∙ rw (ends_decimal n)
ends_line n (k ∷ ks) = ends_append (decimal n) (32 ∷ line_text (k ∷ ks)) ∙ rw (ends_decimal n, ends_line k ks)

last_byte : (n : ℕ) (ns : List ℕ) → (a : List ℕ) × (line_text (n ∷ ns) ≡ a ++ (10 ∷ []))
unfolding line_text stop_by
last_byte n [] = (decimal n, refl)
last_byte n (k ∷ ks) =
    let w = last_byte k ks in
    (decimal n ++ (32 ∷ w.0), ap (λ (t : List ℕ). decimal n ++ (32 ∷ t)) w.1 ∙ sym (append_assoc (decimal n) (32 ∷ w.0) (10 ∷ [])))

ends_last : (a p q : List ℕ) → a ++ (10 ∷ []) ≡ p ++ q → 0 < length q → 1 ≤ line_ends q
unfolding line_ends
ends_last a [] q e some = rw (← e, ends_append a (10 ∷ [])) (omega arith)
ends_last [] (x ∷ p) q e some =
    let none : [] ≡ p ++ q = cc in
    absurd (omega (arith, ap length none, length-append p q))
ends_last (y ∷ a) (x ∷ p) q e some = let tail : a ++ (10 ∷ []) ≡ p ++ q = cc in ends_last a p q tail some

under_line : (n : ℕ) (ns p : List ℕ) → Under p (line_text (n ∷ ns)) → line_ends p ≡ 0
under_line n ns p u =
    let w = last_byte n ns in
    let one = sym (ends_line n ns) ∙ ap line_ends u.whole ∙ ends_append p u.left in
    omega (arith, ends_last w.0 p u.left (sym w.1 ∙ u.whole) u.some)

-- the count line, and what follows it
started : (n : ℕ) (left t : List ℕ) → (line_text (n ∷ []) ++ left) ++ t ≡ decimal n ++ (10 ∷ (left ++ t))
unfolding line_text stop_by
started n left t = simp append_assoc

-- ---- rows of at least one number

module _ (l : ℕ) (ls : List ℕ) where
  ends_row : (r : List ℕ) → Within (l ∷ ls) r → line_ends (line_text r) ≡ 1
  unfolding Within
  ends_row [] w = absurd w
  ends_row (n ∷ ns) w = ends_line n ns

  under_row : (r p : List ℕ) → Within (l ∷ ls) r → Under p (line_text r) → line_ends p ≡ 0
  unfolding Within
  under_row [] p w u = absurd w
  under_row (n ∷ ns) p w u = under_line n ns p u

  pub ends_rows : (rows : List (List ℕ)) → AllWithin (l ∷ ls) rows → line_ends (lines_text rows) ≡ length rows
  unfolding AllWithin lines_text line_ends
  ends_rows [] w = refl
  ends_rows (r ∷ rs) w = ends_append (line_text r) (lines_text rs) ∙ rw (ends_row r w.0, ends_rows rs w.1) (omega arith)

  pub ends_section : (rows : List (List ℕ)) → AllWithin (l ∷ ls) rows → line_ends (section_text rows) ≡ 1 + length rows
  unfolding section_text
  ends_section rows w = ends_append (line_text (length rows ∷ [])) (lines_text rows) ∙ rw (ends_line (length rows) [], ends_rows rows w)

  module _ (small : Small (l ∷ ls)) where
    -- the lines that are shared are not broken
    lines_follow : (rows : List (List ℕ)) (at : ℕ) (p q t : List ℕ) (m : ℕ) → AllWithin (l ∷ ls) rows → lines_text rows ≡ p ++ q
        → lines_at at (l ∷ ls) (length rows) (p ++ t) ≡ broken m → at + line_ends p ≤ m
    unfolding lines_at AllWithin lines_text
    lines_follow [] at p q t m w e f = not_both (sym f)
    lines_follow (r ∷ rs) at p q t m w e f =
        ⊎_elim
        (λ (o : Over p q (line_text r) (lines_text rs)).
        let text : p ++ t ≡ line_text r ++ (o.left ++ t) = ap (λ (x : List ℕ). x ++ t) o.whole ∙ append_assoc (line_text r) o.left t in
        let got : line_at at (l ∷ ls) (p ++ t) ≡ took r (o.left ++ t) = ap (line_at at (l ∷ ls)) text ∙ line_there at (l ∷ ls) r (o.left ++ t) small w.0 in
        let many : line_ends p ≡ 1 + line_ends o.left = ap line_ends o.whole ∙ ends_append (line_text r) o.left ∙ rw (ends_row r w.0) in
        by_read (lines_at (at + 1) (l ∷ ls) (length rs) (o.left ++ t))
        (λ x rest g. not_both (sym (rw (got, g) at f)))
        (λ k g. omega (arith, many, same_line (rw (got, g) at f), lines_follow rs (at + 1) o.left q t k w.1 (sym o.rest) g)))
        (λ (u : Under p (line_text r)). omega (arith, under_row r p w.0 u, lines_line (suc (length rs)) at (l ∷ ls) (p ++ t) m f))
        (split p q (line_text r) (lines_text rs) (sym e))

    module _ (at limit : ℕ) (h : limit < 2 ^ 64) (rows : List (List ℕ)) (few : length rows ≤ limit) (w : AllWithin (l ∷ ls) rows)
        (next : List (List ℕ) → List ℕ → Read Sheet)
        (low : (found : List (List ℕ)) (rest : List ℕ) (m : ℕ) → next found rest ≡ broken m → at + 1 + length found ≤ m) where
      -- the text shares a part of the section
      cut : (p q t : List ℕ) (m : ℕ) → section_text rows ≡ p ++ q → after (section_at at limit (l ∷ ls) (p ++ t)) next ≡ broken m → at + line_ends p ≤ m
      unfolding section_at section_text
      cut p q t m e f =
          ⊎_elim
          (λ (o : Over p q (line_text (length rows ∷ [])) (lines_text rows)).
          let text : p ++ t ≡ decimal (length rows) ++ (10 ∷ (o.left ++ t)) =
          ap (λ (x : List ℕ). x ++ t) o.whole ∙ started (length rows) o.left t
          in
          let got : number_at at 10 limit (p ++ t) ≡ took (length rows) (o.left ++ t) =
          ap (number_at at 10 limit) text ∙ number_there at 10 limit (length rows) (o.left ++ t) refl few (omega arith)
          in
          let many : line_ends p ≡ 1 + line_ends o.left = ap line_ends o.whole ∙ ends_append (line_text (length rows ∷ [])) o.left ∙ rw (ends_line (length rows) []) in
          let all : line_ends o.left + line_ends q ≡ length rows = sym (ends_append o.left q) ∙ ap line_ends o.rest ∙ ends_rows rows w in
          by_read (lines_at (at + 1) (l ∷ ls) (length rows) (o.left ++ t))
          (λ found rest g.
          let back = lines_back (length rows) (at + 1) (l ∷ ls) (o.left ++ t) found rest g in
          omega (arith, many, all, back.many, low found rest m (rw (got, g) at f)))
          (λ k g. omega (arith, many, same_line (rw (got, g) at f), lines_follow rows (at + 1) o.left q t k w (sym o.rest) g)))
          (λ (u : Under p (line_text (length rows ∷ []))).
          let none = under_line (length rows) [] p u in
          by_read (section_at at limit (l ∷ ls) (p ++ t))
          (λ found rest g. omega (arith, none, low found rest m (rw g at f)))
          (λ k g. omega (arith, none, same_line (rw g at f), section_line at limit (l ∷ ls) (p ++ t) k g)))
          (split p q (line_text (length rows ∷ [])) (lines_text rows) (sym e))

      -- the text shares a part of the section, or the section and more
      pub section_follow : (p w' b t : List ℕ) (m : ℕ) → p ++ w' ≡ section_text rows ++ b
          → ((p₁ : List ℕ) → p₁ ++ w' ≡ b → next rows (p₁ ++ t) ≡ broken m → at + 1 + length rows + line_ends p₁ ≤ m)
          → after (section_at at limit (l ∷ ls) (p ++ t)) next ≡ broken m → at + line_ends p ≤ m
      section_follow p w' b t m e then f =
          ⊎_elim
          (λ (o : Over p w' (section_text rows) b).
          let text : p ++ t ≡ section_text rows ++ (o.left ++ t) = ap (λ (x : List ℕ). x ++ t) o.whole ∙ append_assoc (section_text rows) o.left t in
          let got : section_at at limit (l ∷ ls) (p ++ t) ≡ took rows (o.left ++ t) =
          ap (section_at at limit (l ∷ ls)) text ∙ section_there at limit (l ∷ ls) rows (o.left ++ t) small h few w
          in
          let many : line_ends p ≡ 1 + length rows + line_ends o.left = ap line_ends o.whole ∙ ends_append (section_text rows) o.left ∙ rw (ends_section rows w) in
          omega (arith, many, then o.left o.rest (rw got at f)))
          (λ (u : Under p (section_text rows)). cut p u.left t m u.whole f)
          (split p w' (section_text rows) b e)

-- ---- the sheet

fills_at : (skips messages : List (List ℕ)) → List ℕ → Read Sheet
fills_at skips messages behind =
    after (section_at (3 + length skips + length messages) 64 fill_limits behind) (λ fills end.
    end_at (4 + length skips + length messages + length fills) (record { skips = skips; messages = messages; fills = fills }) end)

messages_at : (skips : List (List ℕ)) → List ℕ → Read Sheet
messages_at skips rest = after (section_at (2 + length skips) 512 message_limits rest) (λ messages behind. fills_at skips messages behind)

pub end_line : (at : ℕ) (s : Sheet) (text : List ℕ) (m : ℕ) → end_at at s text ≡ broken m → at ≡ m
unfolding end_at
end_line at s [] m e = not_both (sym e)
end_line at s (b ∷ bs) m e = same_line e

fills_low : (skips messages : List (List ℕ)) (behind : List ℕ) (m : ℕ) → fills_at skips messages behind ≡ broken m → 3 + length skips + length messages ≤ m
unfolding fills_at
fills_low skips messages behind m e =
    by_read (section_at (3 + length skips + length messages) 64 fill_limits behind)
    (λ fills end g. omega (arith, end_line _ _ end m (rw g at e)))
    (λ k g. omega (arith, same_line (rw g at e), section_line _ 64 fill_limits behind k g))

messages_low : (skips : List (List ℕ)) (rest : List ℕ) (m : ℕ) → messages_at skips rest ≡ broken m → 2 + length skips ≤ m
unfolding messages_at
messages_low skips rest m e =
    by_read (section_at (2 + length skips) 512 message_limits rest)
    (λ messages behind g. omega (arith, fills_low skips messages behind m (rw g at e)))
    (λ k g. omega (arith, same_line (rw g at e), section_line _ 512 message_limits rest k g))

nil_left : (p q : List ℕ) → p ++ q ≡ [] → line_ends p ≡ 0
unfolding line_ends
nil_left [] q e = refl
nil_left (x ∷ p) q e = absurd (omega (arith, ap length e))

module _ (s : Sheet) (f : Fits s) where
  fills_follow : (p w t : List ℕ) (m : ℕ) → p ++ w ≡ section_text s.fills → fills_at s.skips s.messages (p ++ t) ≡ broken m
      → 3 + length s.skips + length s.messages + line_ends p ≤ m
  unfolding fills_at fill_limits
  fills_follow p w t m e g =
      section_follow most (most ∷ 1 ∷ most ∷ []) small_fills _ 64 (omega arith) s.fills f.fills.0 f.fills.1 _
      (λ found rest k h. omega (arith, end_line _ _ rest k h))
      p w [] t m (e ∙ sym (append-nil (section_text s.fills)))
      (λ p₁ e₁ h. omega (arith, nil_left p₁ w e₁, end_line _ _ (p₁ ++ t) m h))
      g

  messages_follow : (p w t : List ℕ) (m : ℕ) → p ++ w ≡ section_text s.messages ++ section_text s.fills → messages_at s.skips (p ++ t) ≡ broken m
      → 2 + length s.skips + line_ends p ≤ m
  unfolding messages_at message_limits
  messages_follow p w t m e g =
      section_follow 1 (most ∷ 65535 ∷ []) small_messages _ 512 (omega arith) s.messages f.messages.0 f.messages.1 (fills_at s.skips)
      (λ found rest k h. omega (arith, fills_low s.skips found rest k h))
      p w (section_text s.fills) t m e
      (λ p₁ e₁ h. omega (arith, fills_follow p₁ w t m e₁ h))
      g

  sheet_follow : (p w t : List ℕ) (m : ℕ) → p ++ w ≡ text_of s → sheet_at (p ++ t) ≡ broken m → 1 + line_ends p ≤ m
  unfolding sheet_at text_of skip_limits messages_at fills_at
  sheet_follow p w t m e g =
      section_follow 65535 (1 ∷ most ∷ []) small_skips 1 64 (omega arith) s.skips f.skips.0 f.skips.1 messages_at
      (λ found rest k h. omega (arith, messages_low found rest k h))
      p w (section_text s.messages ++ section_text s.fills) t m e
      (λ p₁ e₁ h. omega (arith, messages_follow p₁ w t m e₁ h))
      g

-- no sheet's text shares the reported line
pub not_further : (text : List ℕ) (m n : ℕ) → sheet_at text ≡ broken m → Alike text n → n < m
not_further text m n e a =
    omega (arith, a.many, sheet_follow a.it a.fits a.shared a.other a.rest m (sym a.its) (ap sheet_at (sym a.mine) ∙ e))
