-- Numbers as they are written: a word with no zero in front is the digits of its value, and no other word is; so the number that ends at a
-- stop byte is read from its digits, and from nothing else. Assumes nothing.
use mathlib.Core.Path.{◌≡◌, refl, sym, ap, ◌∙◌}
use mathlib.Core.Bool.{Bool, true, false, cond, not, ◌&&◌, ◌||◌}
use mathlib.Core.List.{List, [], ◌∷◌, ◌++◌, append-nil}
use Prim.Native.Nat.{ℕ, zero, suc, ◌+◌, ◌-◌, ◌*◌, ◌/◌, ◌%◌, ◌^◌, ◌≤◌, ◌<◌}
use native.Mathlib.Nat.{add-zero, pow-zero, pow-suc, pow-le-pow_right, mul-le-mul_right}
use native.Mathlib.Numerals.{add-one}
use native.Mathlib.Omega.{arith}
use lib.Dec.{eqb, ltb, leb}
use lib.ListN.{length, get_or, take, drop, length-append, take-append-drop}
use lib.Seq.{take-append_seam, drop-cons, drop-append-add}
use borrow.Author.Tests.{lt-ltb, le-ltb, le-leb, ltb-true, ltb-false, leb-true, leb-false, eqb-true, eqb-false, eq-eqb, ne_eqb, not-true, not-false}
use Rattle.numbers.proofs.Bytes.{by_bool, clash}
use Rattle.words.specs.Cut.{leading, before}
use Rattle.words.specs.Digits.{value_from, spelled, is_digit, digits_only, value_of, is_number, number_of, places_in, places, decimal}
use Rattle.std.proofs.Common.{Some, None}
use Rattle.words.proofs.Reading.{digit_bounds}
use Rattle.words.proofs.Placing.{one_place, one_more, places_low}
use Rattle.words.proofs.Back.{enough, all_digits, length_spelled, decimal_back}
use Rattle.sheet_rules.specs.Sheet.{Read, took, broken, plain, is_plain_number, number_at}

-- ---- tests

pub and_true : (a b : Bool) → a && b ≡ true → (a ≡ true) × (b ≡ true)
and_true true true e = (refl, refl)
and_true true false e = clash false e refl
and_true false b e = clash false e refl

or_false : (a b : Bool) → a || b ≡ true → a ≡ false → b ≡ true
or_false true b e f = clash true refl f
or_false false b e f = e

or_true : (b : Bool) → b || true ≡ true
or_true true = refl
or_true false = refl

-- ---- the digits of the value of a row of digits

digit_first : (x : ℕ) (xs : List ℕ) → digits_only (x ∷ xs) ≡ true → (48 ≤ x) × (x ≤ 57)
unfolding digits_only
digit_first x xs e = digit_bounds x (and_true _ _ e).0

pub digit_here : (x : ℕ) (xs : List ℕ) → digits_only (x ∷ xs) ≡ true → is_digit x ≡ true
unfolding digits_only
digit_here x xs e = (and_true (is_digit x) (digits_only xs) e).0

pub digit_rest : (x : ℕ) (xs : List ℕ) → digits_only (x ∷ xs) ≡ true → digits_only xs ≡ true
unfolding digits_only
digit_rest x xs e = (and_true (is_digit x) _ e).1

spelled_value : (k v : ℕ) (xs behind : List ℕ) → digits_only xs ≡ true
    → spelled 10 48 (k + length xs) (value_from 10 48 v xs) behind ≡ spelled 10 48 k v (xs ++ behind)
unfolding spelled value_from
spelled_value k v [] behind e = rw add-zero
spelled_value k v (x ∷ xs) behind e =
    let b = digit_first x xs e in
    let w = v * 10 + (x - 48) in
    let one : k + suc (length xs) ≡ suc k + length xs = omega arith in
    let front : w / 10 ≡ v = omega (arith, b) in
    let last : 48 + w % 10 ≡ x = omega (arith, b) in
    ap (λ (m : ℕ). spelled 10 48 m (value_from 10 48 w xs) behind) one
    ∙ spelled_value (suc k) w xs behind (digit_rest x xs e)
    ∙ (λ i. spelled 10 48 k (front i) (last i ∷ (xs ++ behind)))

places_value : (k v : ℕ) (xs : List ℕ) → 1 ≤ v → digits_only xs ≡ true → places_in (k + length xs) (value_from 10 48 v xs) ≡ length xs + places_in k v
unfolding value_from
places_value k v [] some e = rw add-zero (omega arith)
places_value k v (x ∷ xs) some e =
    let b = digit_first x xs e in
    let w = v * 10 + (x - 48) in
    let one : k + suc (length xs) ≡ suc k + length xs = omega arith in
    let front : w / 10 ≡ v = omega (arith, b) in
    ap (λ (m : ℕ). places_in m (value_from 10 48 w xs)) one
    ∙ places_value (suc k) w xs (omega arith) (digit_rest x xs e)
    ∙ rw (one_more k w (omega arith), front) (omega arith)

grows : (v : ℕ) (xs : List ℕ) → v * 10 ^ length xs ≤ value_from 10 48 v xs
unfolding value_from
grows v [] = rw pow-zero (omega arith)
grows v (x ∷ xs) =
    let more : v * 10 * 10 ^ length xs ≤ (v * 10 + (x - 48)) * 10 ^ length xs = mul-le-mul_right (10 ^ length xs) (omega arith) in
    rw pow-suc (omega (arith, grows (v * 10 + (x - 48)) xs))

-- no more than twenty digits
few : (d : ℕ) (xs : List ℕ) → 1 ≤ d → value_from 10 48 d xs < 2 ^ 64 → length xs ≤ 19
few d xs some small =
    by_bool (ltb 19 (length xs))
    (λ t.
    let far : 10 ^ 20 ≤ 10 ^ length xs = pow-le-pow_right {n = 10} (omega arith) (ltb-true 19 (length xs) t) in
    let near : 1 * 10 ^ length xs ≤ d * 10 ^ length xs = mul-le-mul_right (10 ^ length xs) some in
    absurd (omega (arith, grows d xs)))
    (λ f. ltb-false 19 (length xs) f)

-- a row of digits that does not begin with 0
lead : (x : ℕ) (xs : List ℕ) → 49 ≤ x → digits_only (x ∷ xs) ≡ true → value_of (x ∷ xs) < 2 ^ 64 → decimal (value_of (x ∷ xs)) ≡ x ∷ xs
unfolding decimal places value_of value_from spelled
lead x xs h e small =
    let b = digit_first x xs e in
    let d = 0 * 10 + (x - 48) in
    let n = value_from 10 48 d xs in
    let ok : length xs ≤ 19 = few d xs (omega arith) small in
    let all : 19 ≡ 19 - length xs + length xs = omega arith in
    let long : places_in 19 n ≡ 1 + length xs =
    ap (λ (k : ℕ). places_in k n) all ∙ places_value (19 - length xs) d xs (omega arith) (digit_rest x xs e)
    ∙ rw (one_place (19 - length xs) d (omega arith)) (omega arith)
    in
    let last : 48 + d % 10 ≡ x = omega arith in
    ap (λ (k : ℕ). spelled 10 48 k n []) long
    ∙ spelled_value 1 d xs [] (digit_rest x xs e)
    ∙ rw append-nil (ap (λ (y : ℕ). y ∷ xs) last)

-- a number is a row of digits with a value below 2^64
pub record Digits (word : List ℕ) : Type 0 where
  pub some : 0 < length word
  pub digits : digits_only word ≡ true
  pub small : value_of word < 2 ^ 64

pub number_digits : (word : List ℕ) → is_number word ≡ true → Digits word
unfolding is_number
number_digits word e =
    let parts = and_true (ltb 0 (length word)) (digits_only word && ltb (value_of word) (2 ^ 64)) e in
    let more = and_true (digits_only word) (ltb (value_of word) (2 ^ 64)) parts.1 in
    record { some = ltb-true _ _ parts.0; digits = more.0; small = ltb-true _ _ more.1 }

-- a digit alone
alone : (x : ℕ) → (48 ≤ x) × (x ≤ 57) → decimal (value_of (x ∷ [])) ≡ x ∷ []
unfolding decimal places value_of value_from spelled
alone x b =
    let last : 48 + (0 * 10 + (x - 48)) % 10 ≡ x = omega arith in
    rw (one_place 19 (0 * 10 + (x - 48)) (omega arith)) (ap (λ (y : ℕ). y ∷ []) last)

-- a word with no zero in front is the digits of its value
pub plain_decimal : (word : List ℕ) → plain word ≡ true → is_number word ≡ true → decimal (value_of word) ≡ word
unfolding plain
plain_decimal [] p e = absurd (omega (arith, (number_digits [] e).some))
plain_decimal (x ∷ []) p e = alone x (digit_first x [] (number_digits (x ∷ []) e).digits)
plain_decimal (x ∷ y ∷ ys) p e =
    let v = number_digits (x ∷ y ∷ ys) e in
    let b = digit_first x (y ∷ ys) v.digits in
    let two : 2 ≤ suc (suc (length ys)) = omega arith in
    let other = eqb-false x 48 (not-true (eqb x 48) (or_false (ltb (suc (suc (length ys))) 2) (not (eqb x 48)) p (le-ltb _ 2 two))) in
    let more : 49 ≤ x = by_bool (leb 49 x) (λ t. leb-true 49 x t) (λ f. absurd (other (omega (arith, leb-false 49 x f)))) in
    lead x (y ∷ ys) more v.digits v.small

-- ---- the digits of a number are such a word

lead_digit : (k n : ℕ) (behind : List ℕ) → 1 ≤ n → n < 10 * 10 ^ k → 49 ≤ get_or (spelled 10 48 (places_in k n) n behind) 0 0
unfolding spelled
lead_digit zero n behind some small = rw (one_place zero n (omega arith)) (omega arith)
lead_digit (suc k) n behind some small =
    by_bool (ltb n 10)
    (λ t. rw (one_place (suc k) n (ltb-true n 10 t)) (omega (arith, ltb-true n 10 t)))
    (λ f.
    let many : 10 ≤ n = ltb-false n 10 f in
    rw (one_more k n many) (lead_digit k (n / 10) ((48 + n % 10) ∷ behind) (omega arith) (omega (arith, rw pow-suc at small))))

length_decimal : (n : ℕ) → length (decimal n) ≡ places n
unfolding decimal
length_decimal n = length_spelled 10 48 (places n) n [] ∙ add-zero _

pub decimal_plain : (n : ℕ) → n < 2 ^ 64 → plain (decimal n) ≡ true
unfolding plain decimal places
decimal_plain n small =
    by_bool (ltb n 10)
    (λ t. rw (length_spelled 10 48 (places_in 19 n) n [], one_place 19 n (ltb-true n 10 t)))
    (λ f.
    let far = lead_digit 19 n [] (omega (arith, ltb-false n 10 f)) (omega arith) in
    rw (ne_eqb (get_or (spelled 10 48 (places_in 19 n) n []) 0 0) 48 (λ e. omega (arith, e))) (or_true (ltb (length (decimal n)) 2)))

-- what is read as a number has the parts of a number
pub number_parts : (word : List ℕ) (n : ℕ) → number_of word ≡ Some n → (is_number word ≡ true) × (value_of word ≡ n)
unfolding number_of
number_parts word n e =
    by_bool (is_number word)
    (λ t. let same : Some (value_of word) ≡ Some n = rw t at e in (t, cc))
    (λ f.
    let other : None ≡ Some n = rw f at e in
    let none : ◌≡◌ {A = ℕ} 0 1 = cc in
    absurd (omega arith))

pub decimal_parts : (n : ℕ) → n < 2 ^ 64 → (is_number (decimal n) ≡ true) × (value_of (decimal n) ≡ n)
decimal_parts n small = number_parts (decimal n) n (decimal_back n small)

-- ---- up to the stop byte

stop_there : (stop : ℕ) (text : List ℕ) → before stop text < length text → get_or text (before stop text) 0 ≡ stop
unfolding leading
stop_there stop [] l = absurd (omega arith)
stop_there stop (x ∷ xs) l =
    by_bool (eqb x stop)
    (λ t. rw t (eqb-true x stop t))
    (λ f. let l' : suc (before stop xs) < suc (length xs) = rw f at l in rw f (stop_there stop xs (omega arith)))

digits_before : (stop : ℕ) → is_digit stop ≡ false → (word rest : List ℕ) → digits_only word ≡ true → before stop (word ++ (stop ∷ rest)) ≡ length word
unfolding leading
digits_before stop other [] rest e = rw (eq-eqb stop stop refl)
digits_before stop other (x ∷ xs) rest e =
    let differs : eqb x stop ≡ false =
    by_bool (eqb x stop) (λ t. clash (is_digit stop) (rw (eqb-true x stop t) at (digit_here x xs e)) other) (λ f. f)
    in
    rw differs (ap suc (digits_before stop other xs rest (digit_rest x xs e)))

-- what was read as a number stands in the text as its digits and the stop byte
pub number_back : (line stop limit : ℕ) (text : List ℕ) (n : ℕ) (rest : List ℕ) → number_at line stop limit text ≡ took n rest
    → (text ≡ decimal n ++ (stop ∷ rest)) × (n ≤ limit)
unfolding number_at is_plain_number
number_back line stop limit text n rest e =
    let size = before stop text in
    let word = take size text in
    by_bool (ltb size (length text) && (plain word && (is_number word && leb (value_of word) limit)))
    (λ t.
    let got : took (value_of word) (drop (size + 1) text) ≡ took n rest = rw t at e in
    let value : value_of word ≡ n = cc in
    let behind : drop (size + 1) text ≡ rest = cc in
    let a = and_true (ltb size (length text)) (plain word && (is_number word && leb (value_of word) limit)) t in
    let b = and_true (plain word) (is_number word && leb (value_of word) limit) a.1 in
    let c = and_true (is_number word) (leb (value_of word) limit) b.1 in
    let here : size < length text = ltb-true _ _ a.0 in
    let digits : word ≡ decimal n = sym (plain_decimal word b.0 c.0) ∙ ap decimal value in
    let from : drop size text ≡ stop ∷ rest =
    drop-cons text size 0 here ∙ rw (stop_there stop text here, ← (add-one size)) (ap (λ (l : List ℕ). stop ∷ l) behind)
    in
    (sym (take-append-drop size text) ∙ (λ i. digits i ++ from i), omega (arith, leb-true (value_of word) limit c.1)))
    (λ f.
    let none : broken line ≡ took n rest = rw f at e in
    let no : ◌≡◌ {A = ℕ} 0 1 = cc in
    absurd (omega arith))

-- and is read from there
pub number_there : (line stop limit n : ℕ) (rest : List ℕ) → is_digit stop ≡ false → n ≤ limit → n < 2 ^ 64
    → number_at line stop limit (decimal n ++ (stop ∷ rest)) ≡ took n rest
unfolding number_at is_plain_number
number_there line stop limit n rest other h small =
    let word = decimal n in
    let text = word ++ (stop ∷ rest) in
    let v = decimal_parts n small in
    let size : before stop text ≡ length word = digits_before stop other word rest (number_digits word v.0).digits in
    let long : length word < length text = rw (length-append word (stop ∷ rest)) (omega arith) in
    let behind : drop (length word + 1) text ≡ rest = drop-append-add word (stop ∷ rest) 1 in
    rw (size, take-append_seam word (stop ∷ rest), lt-ltb _ _ long, decimal_plain n small, v.0, v.1, le-leb n limit h, behind)
