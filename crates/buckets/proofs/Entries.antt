-- One bucket: its entries stand before its marks, so a bucket is known by its entries. How they are counted, one more is put behind them
-- and one is taken out. Assumes nothing.
use mathlib.Core.Path.{◌≡◌, refl, sym, ap, ap₂, ◌∙◌}
use mathlib.Core.Bool.{Bool, cond, not}
use mathlib.Core.List.{List, [], ◌∷◌, ◌++◌, append-nil, append_assoc}
use Prim.Native.Nat.{ℕ, zero, suc, ◌+◌, ◌-◌, ◌<◌, ◌≤◌}
use native.Mathlib.Nat.{not-suc-le-zero, le_of_suc-le-suc, zero-add}
use native.Mathlib.Numerals.{add-one}
use native.Mathlib.Omega.{arith}
use lib.Dec.{eqb, ltb}
use Rattle.std.proofs.lemmas.List.Sums.{prefix_len-le-length}
use Rattle.std.specs.List.{prefix_len, position, position_or_len}
use Rattle.std.specs.Option.{unwrap_or}
use lib.ListN.{length, get_or, take, drop, set, replicate, length-append, length-replicate, length-set, get_or-replicate, drop_of_length-le, replicate-append-replicate, get_or-append, get_or-eq_default}
use lib.Seq.{length-take-le, drop-cons, set_at, get_or-append-add, take-suc-set, drop-set-lt}
use borrow.Author.Tests.{eq-eqb, ne_eqb, lt-ltb, ltb-true, ltb-false, le-ltb}
use Rattle.rules.specs.World.{Each, keep}
use Rattle.rules.specs.Demand.{OnceN}
use Rattle.demands.proofs.Rows.{keep_append}
use Rattle.demands.proofs.Fits.{length_keep}
use Rattle.numbers.proofs.Bytes.{by_bool}
use Rattle.columns.proofs.Laid.{drop_same, get_d_same}
use Rattle.buckets.specs.Cells.{mark, up_to, GoodBucket}

abbrev pub Small : List ℕ → Type 0
Small xs = Each (λ (n : ℕ). n < mark) xs

pub small_entries : (cells : List ℕ) → Small (up_to cells)
unfolding up_to
small_entries [] = tt
small_entries (n ∷ cells) = by_bool (ltb n mark) (λ t. rw t (ltb-true n mark t, small_entries cells)) (λ f. rw f tt)

pub small_at : (xs : List ℕ) (k d : ℕ) → Small xs → k < length xs → get_or xs k d < mark
small_at [] k d s l = absurd (not-suc-le-zero l)
small_at (x ∷ xs) zero d s l = s.0
small_at (x ∷ xs) (suc k) d s l = small_at xs k d s.1 (le_of_suc-le-suc l)

-- ---- a bucket from its entries

abbrev pub marks : ℕ → List ℕ
marks m = replicate m mark

abbrev pub bucket : List ℕ → List ℕ
bucket xs = xs ++ marks (64 - length xs)

up_to_marks : (m : ℕ) → up_to (marks m) ≡ []
unfolding up_to
up_to_marks zero = refl
up_to_marks (suc m) = refl

up_to_entries : (xs : List ℕ) (m : ℕ) → Small xs → up_to (xs ++ marks m) ≡ xs
unfolding up_to
up_to_entries [] m s = up_to_marks m
up_to_entries (x ∷ xs) m s = rw (lt-ltb x mark s.0, up_to_entries xs m s.1)

pub entries : (xs : List ℕ) → Small xs → up_to (bucket xs) ≡ xs
entries xs s = up_to_entries xs (64 - length xs) s

pub good_bucket : (xs : List ℕ) → Small xs → OnceN xs → GoodBucket (bucket xs)
good_bucket xs s o = record {
  gapless = ap bucket (sym (entries xs s));
  once = rw (entries xs s) o;
}

-- ---- the entry at a place

get_d_any : (l : List ℕ) (k d e : ℕ) → k < length l → get_or l k d ≡ get_or l k e
get_d_any [] k d e l = absurd (not-suc-le-zero l)
get_d_any (x ∷ xs) zero d e l = refl
get_d_any (x ∷ xs) (suc k) d e l = get_d_any xs k d e (le_of_suc-le-suc l)

pub entry_at : (xs : List ℕ) (k d : ℕ) → k < 64 → get_or (bucket xs) k d ≡ get_or xs k mark
entry_at xs k d l =
    by_bool (ltb k (length xs))
    (λ t. let h = ltb-true k (length xs) t in get_or-append xs _ d k h ∙ get_d_any xs k d mark h)
    (λ f. let h = ltb-false k (length xs) f in
    let z : k ≡ length xs + (k - length xs) = omega arith in
    ap (λ (j : ℕ). get_or (bucket xs) j d) z
    ∙ get_or-append-add xs (marks (64 - length xs)) (k - length xs) d
    ∙ get_or-replicate (64 - length xs) (k - length xs) mark d (omega arith)
    ∙ sym (get_or-eq_default xs mark h))

pub entry_of : {cells : List ℕ} → GoodBucket cells → (k d : ℕ) → k < 64 → get_or cells k d ≡ get_or (up_to cells) k mark
entry_of {cells} g k d l = ap (λ (b : List ℕ). get_or b k d) g.gapless ∙ entry_at (up_to cells) k d l

-- ---- the entries are what stands before the first mark

few_up_to : (cells : List ℕ) → prefix_len (λ (x : ℕ). not (not (ltb x mark))) cells ≡ length (up_to cells)
unfolding up_to
few_up_to [] = refl
few_up_to (n ∷ cells) = by_bool (ltb n mark) (λ t. rw (t, few_up_to cells) (omega arith)) (λ f. rw f)

pub first_mark : (cells : List ℕ) → length cells ≡ 64 → unwrap_or (position (λ (x : ℕ). not (ltb x mark)) cells) 64 ≡ length (up_to cells)
first_mark cells long =
    let n = position_or_len (λ (x : ℕ). not (ltb x mark)) cells in
    by_bool (ltb n (length cells))
    (λ t. rw t (few_up_to cells))
    (λ f. rw f (omega (arith, long, ltb-false n (length cells) f, prefix_len-le-length (λ (x : ℕ). not (not (ltb x mark))) cells, few_up_to cells)))

-- ---- one more put last

pub put_bucket : (xs : List ℕ) (v : ℕ) → length xs < 64 → set (bucket xs) (length xs) v ≡ bucket (xs ++ (v ∷ []))
put_bucket xs v l =
    let n = length xs in
    let free : 64 - n ≡ suc (64 - (n + 1)) = omega arith in
    let less : 64 - length (xs ++ (v ∷ [])) ≡ 64 - (n + 1) = ap (λ (m : ℕ). 64 - m) (length-append xs (v ∷ [])) in
    ap (λ (m : ℕ). set (xs ++ marks m) n v) free
    ∙ set_at xs mark (marks (64 - (n + 1))) v n refl
    ∙ sym (append_assoc xs (v ∷ []) (marks (64 - (n + 1))))
    ∙ ap (λ (m : ℕ). (xs ++ (v ∷ [])) ++ marks m) (sym less)

pub small_last : (xs : List ℕ) (v : ℕ) → Small xs → v < mark → Small (xs ++ (v ∷ []))
small_last [] v s h = (h, tt)
small_last (x ∷ xs) v s h = (s.0, small_last xs v s.1 h)

-- ---- the loop that takes one out: i is the next cell that it reads, w the next that it writes

abbrev pub other : ℕ → ℕ → Bool
other gone n = not (eqb n gone)

pub record Closing (gone : ℕ) (cells₀ cells : List ℕ) (i w : ℕ) : Type 0 where
  pub within : i ≤ 64
  pub low : w ≤ i
  pub long : length cells ≡ 64
  pub front : take w cells ++ keep (other gone) (drop i cells₀) ≡ keep (other gone) cells₀
  pub back : drop w cells ≡ drop w cells₀

pub close_start : (gone : ℕ) (cells : List ℕ) → length cells ≡ 64 → Closing gone cells cells 0 0
close_start gone cells e = record { within = omega arith; low = omega arith; long = e; front = refl; back = refl }

module _ {gone : ℕ} {cells₀ cells : List ℕ} {i w : ℕ} (v : Closing gone cells₀ cells i w) (long : length cells₀ ≡ 64) where
  unread : get_or cells i 0 ≡ get_or cells₀ i 0
  unread = get_d_same cells cells₀ w i v.back v.low 0

  next_kept : i < 64 → keep (other gone) (drop i cells₀)
      ≡ cond (other gone (get_or cells i 0)) (get_or cells i 0 ∷ keep (other gone) (drop (i + 1) cells₀)) (keep (other gone) (drop (i + 1) cells₀))
  unfolding keep
  next_kept l = rw (unread, add-one i, drop-cons cells₀ i 0 (omega arith))

  pub close_skip : i < 64 → get_or cells i 0 ≡ gone → Closing gone cells₀ cells (i + 1) w
  close_skip l e = record {
    within = omega arith;
    low = omega (arith, v.low);
    long = v.long;
    front = ap (λ (r : List ℕ). take w cells ++ r) (sym (next_kept l ∙ rw (eq-eqb (get_or cells i 0) gone e))) ∙ v.front;
    back = v.back;
  }

  pub close_keep : i < 64 → (get_or cells i 0 ≡ gone → ⊥) → Closing gone cells₀ (set cells w (get_or cells i 0)) (i + 1) (w + 1)
  close_keep l n =
      let x = get_or cells i 0 in
      let q : w < length cells = omega (arith, v.low, v.long) in
      record {
        within = omega arith;
        low = omega (arith, v.low);
        long = length-set cells w x ∙ v.long;
        front = rw (add-one w, take-suc-set cells w x q, append_assoc)
            (ap (λ (r : List ℕ). take w cells ++ r) (sym (next_kept l ∙ rw (ne_eqb x gone n))) ∙ v.front);
        back = drop-set-lt (w + 1) cells w x (omega arith) ∙ drop_same cells cells₀ w (w + 1) v.back (omega arith);
      }

-- ---- and the marks in the cells that came free

keep_marks : (gone m : ℕ) → gone < mark → keep (other gone) (marks m) ≡ marks m
unfolding keep
keep_marks gone zero h = refl
keep_marks gone (suc m) h = rw (ne_eqb mark gone (λ e. omega arith), keep_marks gone m h)

pub marked : {gone : ℕ} {cells₀ cells : List ℕ} {i w : ℕ} → Closing gone cells₀ cells i w → 64 ≤ i → gone < mark
    → (xs : List ℕ) → length xs ≤ 64 → cells₀ ≡ bucket xs → take w cells ++ marks (64 - w) ≡ bucket (keep (other gone) xs)
unfolding keep
marked {gone} {cells₀} {cells} {i} {w} v h g xs few e =
    ap₂ ◌++◌ front (ap marks rest) ∙ append_assoc ys (marks m) (marks (64 - length ys - m))
    ∙ ap (λ (l : List ℕ). ys ++ l) (replicate-append-replicate m (64 - length ys - m) mark ∙ ap marks whole)
  where
    ys : List ℕ
    ys = keep (other gone) xs

    m : ℕ
    m = 64 - length xs

    size : length cells₀ ≡ 64
    size = ap length e ∙ length-append xs (marks m) ∙ omega (arith, length-replicate m mark)

    front : take w cells ≡ ys ++ marks m
    front =
        sym (append-nil (take w cells))
        ∙ ap (λ (l : List ℕ). take w cells ++ keep (other gone) l) (sym (drop_of_length-le cells₀ {i = i} (omega (arith, size))))
        ∙ v.front ∙ ap (keep (other gone)) e ∙ keep_append (other gone) xs (marks m) ∙ ap (λ (l : List ℕ). keep (other gone) xs ++ l) (keep_marks gone m g)

    many : w ≡ length ys + m
    many = sym (length-take-le w cells (omega (arith, v.long, v.low, v.within))) ∙ ap length front ∙ length-append ys (marks m) ∙ ap (λ (k : ℕ). length ys + k) (length-replicate m mark)

    rest : 64 - w ≡ 64 - length ys - m
    rest = omega (arith, many)

    whole : m + (64 - length ys - m) ≡ 64 - length ys
    whole = omega (arith, length_keep (other gone) xs)
