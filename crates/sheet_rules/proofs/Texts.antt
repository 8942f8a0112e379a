-- What is read is what the text says: a text is read as a sheet exactly if it is the text of that sheet, the sheet's numbers lie in their
-- ranges, and it is not too long. So no two texts are read as one sheet, and no two sheets have one text. Assumes nothing.
use mathlib.Core.Path.{◌≡◌, refl, sym, ap, ◌∙◌}
use mathlib.Core.Bool.{true, false, cond}
use mathlib.Core.List.{List, [], ◌∷◌, ◌++◌, append-nil, append_assoc}
use Prim.Native.Nat.{ℕ, zero, suc, ◌+◌, ◌^◌, ◌≤◌, ◌<◌}
use native.Mathlib.Omega.{arith}
use lib.Dec.{ltb}
use lib.ListN.{length}
use borrow.Author.Tests.{le-ltb, ltb-false}
use Rattle.numbers.proofs.Bytes.{by_bool}
use Rattle.words.specs.Digits.{is_digit, decimal}
use Rattle.sheet_rules.specs.Sheet.{Sheet, most, skip_limits, message_limits, fill_limits, Within, AllWithin, Fits, stop_by, line_text, lines_text, section_text, text_of, Read, took, broken, after, number_at, line_at, lines_at, section_at, end_at, sheet_at, Reading, sheet, line, read}
use Rattle.sheet_rules.proofs.Numerals.{number_back, number_there}

-- by what was read, with the equation in hand
pub by_read : {A C : Type 0} (r : Read A) → ((x : A) (rest : List ℕ) → r ≡ took x rest → C) → ((n : ℕ) → r ≡ broken n → C) → C
by_read (took x rest) f g = f x rest refl
by_read (broken n) f g = g n refl

-- nothing is both read and broken
pub not_both : {A C : Type 0} {n : ℕ} {x : A} {rest : List ℕ} → broken n ≡ took x rest → C
not_both {A} {C} {n} {x} {rest} e = let no : ◌≡◌ {A = ℕ} 0 1 = cc in absurd (omega arith)

-- ---- a line

stop_same : (ls ns : List ℕ) → Within ls ns → stop_by ls ≡ stop_by ns
unfolding Within stop_by
stop_same [] [] w = refl
stop_same [] (n ∷ ns) w = absurd w
stop_same (l ∷ ls) [] w = absurd w
stop_same (l ∷ ls) (n ∷ ns) w = refl

stop_other : (ls : List ℕ) → is_digit (stop_by ls) ≡ false
unfolding stop_by
stop_other [] = refl
stop_other (l ∷ ls) = refl

-- limits below 2^64
unfoldable pub Small : List ℕ → Type 0
Small [] = Unit {0}
Small (l ∷ ls) = (l < 2 ^ 64) × Small ls

pub line_back : (at : ℕ) (limits text row rest : List ℕ) → line_at at limits text ≡ took row rest → (text ≡ line_text row ++ rest) × Within limits row
unfolding line_at line_text Within
line_back at [] text row rest e =
    let none : [] ≡ row = cc in
    let all : text ≡ rest = cc in
    rw (← none) (all, tt)
line_back at (l ∷ ls) text row rest e =
    by_read (number_at at (stop_by ls) l text)
    (λ n mid e₁.
    by_read (line_at at ls mid)
    (λ ns behind e₂.
    let got : took (n ∷ ns) behind ≡ took row rest = rw (e₁, e₂) at e in
    let whole : n ∷ ns ≡ row = cc in
    let end : behind ≡ rest = cc in
    let a = number_back at (stop_by ls) l text n mid e₁ in
    let b = line_back at ls mid ns behind e₂ in
    let stop = stop_same ls ns b.1 in
    rw (← whole) (
      a.0 ∙ (λ i. decimal n ++ (stop i ∷ (b.0 ∙ ap (λ (r : List ℕ). line_text ns ++ r) end) i))
          ∙ sym (append_assoc (decimal n) (stop_by ns ∷ line_text ns) rest),
      (a.1, b.1),
    ))
    (λ m e₂. not_both (rw (e₁, e₂) at e)))
    (λ m e₁. not_both (rw e₁ at e))

pub line_there : (at : ℕ) (limits row rest : List ℕ) → Small limits → Within limits row → line_at at limits (line_text row ++ rest) ≡ took row rest
unfolding line_at line_text Within Small
line_there at [] [] rest s w = refl
line_there at [] (n ∷ ns) rest s w = absurd w
line_there at (l ∷ ls) [] rest s w = absurd w
line_there at (l ∷ ls) (n ∷ ns) rest s w =
    let small : n < 2 ^ 64 = omega arith in
    rw (append_assoc (decimal n) (stop_by ns ∷ line_text ns) rest, ← (stop_same ls ns w.1))
    (rw (number_there at (stop_by ls) l n (line_text ns ++ rest) (stop_other ls) w.0 small, line_there at ls ns rest s.1 w.1))

-- ---- lines

-- the rows, in their ranges, and as many as were asked for
pub record Back (limits text : List ℕ) (k : ℕ) (rows : List (List ℕ)) (rest : List ℕ) : Type 0 where
  pub same : text ≡ lines_text rows ++ rest
  pub within : AllWithin limits rows
  pub many : length rows ≡ k

pub lines_back : (k at : ℕ) (limits text : List ℕ) (rows : List (List ℕ)) (rest : List ℕ) → lines_at at limits k text ≡ took rows rest
    → Back limits text k rows rest
unfolding lines_at lines_text AllWithin
lines_back zero at limits text rows rest e =
    let none : [] ≡ rows = cc in
    let all : text ≡ rest = cc in
    rw (← none) (record { same = all; within = tt; many = refl })
lines_back (suc k) at limits text rows rest e =
    by_read (line_at at limits text)
    (λ r mid e₁.
    by_read (lines_at (at + 1) limits k mid)
    (λ rs behind e₂.
    let got : took (r ∷ rs) behind ≡ took rows rest = rw (e₁, e₂) at e in
    let whole : r ∷ rs ≡ rows = cc in
    let end : behind ≡ rest = cc in
    let a = line_back at limits text r mid e₁ in
    let b = lines_back k (at + 1) limits mid rs behind e₂ in
    rw (← whole)
    (record {
      same = a.0 ∙ (λ i. line_text r ++ (b.same ∙ ap (λ (t : List ℕ). lines_text rs ++ t) end) i) ∙ sym (append_assoc (line_text r) (lines_text rs) rest);
      within = (a.1, b.within);
      many = ap suc b.many;
    }))
    (λ m e₂. not_both (rw (e₁, e₂) at e)))
    (λ m e₁. not_both (rw e₁ at e))

pub lines_there : (at : ℕ) (limits : List ℕ) (rows : List (List ℕ)) (rest : List ℕ) → Small limits → AllWithin limits rows
    → lines_at at limits (length rows) (lines_text rows ++ rest) ≡ took rows rest
unfolding lines_at lines_text AllWithin
lines_there at limits [] rest s w = refl
lines_there at limits (r ∷ rs) rest s w =
    rw (append_assoc (line_text r) (lines_text rs) rest)
    (rw (line_there at limits r (lines_text rs ++ rest) s w.0, lines_there (at + 1) limits rs rest s w.1))

-- ---- a section

pub record BackSection (limit : ℕ) (limits text : List ℕ) (rows : List (List ℕ)) (rest : List ℕ) : Type 0 where
  pub same : text ≡ section_text rows ++ rest
  pub few : length rows ≤ limit
  pub within : AllWithin limits rows

-- the count and the rows behind it
pub counted : (rows : List (List ℕ)) (rest : List ℕ) → section_text rows ++ rest ≡ decimal (length rows) ++ (10 ∷ (lines_text rows ++ rest))
unfolding section_text line_text stop_by
counted rows rest = simp append_assoc

pub section_back : (at limit : ℕ) (limits text : List ℕ) (rows : List (List ℕ)) (rest : List ℕ) → section_at at limit limits text ≡ took rows rest
    → BackSection limit limits text rows rest
unfolding section_at
section_back at limit limits text rows rest e =
    by_read (number_at at 10 limit text)
    (λ n mid e₁.
    let a = number_back at 10 limit text n mid e₁ in
    let b = lines_back n (at + 1) limits mid rows rest (rw e₁ at e) in
    record {
      same = a.0 ∙ (λ i. decimal (sym b.many i) ++ (10 ∷ b.same i)) ∙ sym (counted rows rest);
      few = omega (arith, b.many, a.1);
      within = b.within;
    })
    (λ m e₁. not_both (rw e₁ at e))

pub section_there : (at limit : ℕ) (limits : List ℕ) (rows : List (List ℕ)) (rest : List ℕ) → Small limits → limit < 2 ^ 64
    → length rows ≤ limit → AllWithin limits rows → section_at at limit limits (section_text rows ++ rest) ≡ took rows rest
unfolding section_at
section_there at limit limits rows rest s h few w =
    rw (counted rows rest)
    (rw (number_there at 10 limit (length rows) (lines_text rows ++ rest) refl few (omega arith)) (lines_there (at + 1) limits rows rest s w))

-- ---- the sheet

pub small_skips : Small skip_limits
unfolding Small skip_limits
small_skips = (omega arith, (omega arith, (omega arith, tt)))

pub small_messages : Small message_limits
unfolding Small message_limits
small_messages = (omega arith, (omega arith, (omega arith, tt)))

pub small_fills : Small fill_limits
unfolding Small fill_limits
small_fills = (omega arith, (omega arith, (omega arith, (omega arith, tt))))

end_back : (at : ℕ) (s s' : Sheet) (text rest : List ℕ) → end_at at s text ≡ took s' rest → (s ≡ s') × (text ≡ [])
unfolding end_at
end_back at s s' [] rest e = (cc, refl)
end_back at s s' (b ∷ bs) rest e = not_both e

pub sheet_back : (text : List ℕ) (s : Sheet) (rest : List ℕ) → sheet_at text ≡ took s rest → (text ≡ text_of s) × Fits s
unfolding sheet_at text_of
sheet_back text s rest e =
    let from : after (section_at 1 64 skip_limits text) _ ≡ took s rest = e in
    by_read (section_at 1 64 skip_limits text)
    (λ skips mid e₁.
    by_read (section_at (2 + length skips) 512 message_limits mid)
    (λ messages behind e₂.
    by_read (section_at (3 + length skips + length messages) 64 fill_limits behind)
    (λ fills end e₃.
    let made : Sheet = record { skips = skips; messages = messages; fills = fills } in
    let last = end_back (4 + length skips + length messages + length fills) made s end rest (rw (e₁, e₂, e₃) at from) in
    let a = section_back 1 64 skip_limits text skips mid e₁ in
    let b = section_back (2 + length skips) 512 message_limits mid messages behind e₂ in
    let c = section_back (3 + length skips + length messages) 64 fill_limits behind fills end e₃ in
    let d = c.same ∙ ap (λ (t : List ℕ). section_text fills ++ t) last.1 ∙ append-nil (section_text fills) in
    rw (← last.0) (
      a.same ∙ ap (λ (t : List ℕ). section_text skips ++ t) (b.same ∙ ap (λ (t : List ℕ). section_text messages ++ t) d),
      record { skips = (a.few, a.within); messages = (b.few, b.within); fills = (c.few, c.within) },
    ))
    (λ m e₃. not_both (rw (e₁, e₂, e₃) at from)))
    (λ m e₂. not_both (rw (e₁, e₂) at from)))
    (λ m e₁. not_both (rw e₁ at from))

pub sheet_there : (s : Sheet) → Fits s → sheet_at (text_of s) ≡ took s []
unfolding sheet_at text_of end_at
sheet_there s f =
    let one = section_there 1 64 skip_limits s.skips (section_text s.messages ++ section_text s.fills) small_skips (omega arith) f.skips.0 f.skips.1 in
    let two = section_there (2 + length s.skips) 512 message_limits s.messages (section_text s.fills) small_messages (omega arith) f.messages.0 f.messages.1 in
    let three = section_there (3 + length s.skips + length s.messages) 64 fill_limits s.fills [] small_fills (omega arith) f.fills.0 f.fills.1 in
    rw (one, two, rw append-nil at three)

-- ---- the reading

-- "what is read is what the text says"
pub read_back : (text : List ℕ) (s : Sheet) → read text ≡ sheet s → (text ≡ text_of s) × Fits s × (length text ≤ 16384)
unfolding read
read_back text s e =
    by_bool (ltb 16384 (length text))
    (λ t. let no : line 1 ≡ sheet s = rw t at e in let none : ◌≡◌ {A = ℕ} 0 1 = cc in absurd (omega arith))
    (λ f.
    by_read (sheet_at text)
    (λ s' rest e₁.
    let same : sheet s' ≡ sheet s = rw (f, e₁) at e in
    let it : s' ≡ s = cc in
    let b = sheet_back text s rest (e₁ ∙ ap (λ (x : Sheet). took x rest) it) in
    (b.0, b.1, ltb-false 16384 (length text) f))
    (λ n e₁. let no : line n ≡ sheet s = rw (f, e₁) at e in let none : ◌≡◌ {A = ℕ} 0 1 = cc in absurd (omega arith)))

pub read_there : (s : Sheet) → Fits s → length (text_of s) ≤ 16384 → read (text_of s) ≡ sheet s
unfolding read
read_there s f h = rw (le-ltb 16384 (length (text_of s)) h, sheet_there s f)

-- no two texts are read as one sheet, and no two sheets have one text
pub one_text : (t u : List ℕ) (s : Sheet) → read t ≡ sheet s → read u ≡ sheet s → t ≡ u
one_text t u s e f = (read_back t s e).0 ∙ sym (read_back u s f).0

pub one_sheet : (s s' : Sheet) → Fits s → Fits s' → text_of s ≡ text_of s' → s ≡ s'
one_sheet s s' f f' e =
    let a = sheet_there s f in
    let b = sheet_there s' f' in
    let c : took s [] ≡ took s' [] = sym a ∙ ap sheet_at e ∙ b in
    cc
