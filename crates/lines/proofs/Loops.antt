-- The loop over the numbers of a line, and the loop over lines: what was read, and what is still to be read, is the whole. The cells of the
-- table follow what was read. Assumes nothing.
use mathlib.Core.Path.{◌≡◌, refl, sym, ap, ◌∙◌}
use mathlib.Core.Bool.{cond}
use mathlib.Core.List.{List, [], ◌∷◌, ◌++◌, append-nil, append_assoc}
use Prim.Native.Nat.{ℕ, suc, ◌+◌, ◌-◌, ◌*◌, ◌≤◌, ◌<◌}
use native.Mathlib.Nat.{add-zero, sub-zero, mul-le-mul_right}
use native.Mathlib.Numerals.{add-one}
use native.Mathlib.Omega.{arith}
use lib.Dec.{ltb}
use lib.ListN.{length, get_or, take, drop, set, length-append, length-set, drop_of_length-le}
use lib.Seq.{take-add, drop-cons, append_snoc}
use borrow.Author.Tests.{ltb-true, ltb-false}
use Rattle.numbers.proofs.Bytes.{by_bool}
use Rattle.columns.specs.Laid.{laid_at}
use Rattle.columns.specs.Rows.{flat}
use Rattle.columns.proofs.Laid.{length_laid, take_laid, middle_laid, drop_laid, laid_none, laid_one}
use Rattle.columns.proofs.Rows.{flat_append}
use Rattle.columns.proofs.Scans.{turns}
use Rattle.numerals.specs.declared.Numeral.{Numeral}
use Rattle.std.proofs.Common.{Some, None, Ok, Err}
use Rattle.sheet_rules.specs.Sheet.{Read, took, broken, after, stop_by, number_at, line_at, lines_at}
use Rattle.numerals.specs.Steps.{ReadsNumber}
use Rattle.lines.specs.Steps.{ReadsLine, ReadsLines}

-- what was read before stands in front
abbrev front : {A : Type 0} → List A → Read (List A) → Read (List A)
front xs r = after r (λ ys rest. took (xs ++ ys) rest)

-- nothing in front; one more in front
front_none : {A : Type 0} (r : Read (List A)) → front [] r ≡ r
front_none (took ys rest) = refl
front_none (broken n) = refl

front_more : {A : Type 0} (xs : List A) (x : A) (r : Read (List A)) → front xs (after r (λ ys rest. took (x ∷ ys) rest)) ≡ front (xs ++ (x ∷ [])) r
front_more {A = A} xs x (took ys rest) = ap (λ (l : List A). took l rest) (sym (append_snoc xs x ys))
front_more {A = A} xs x (broken n) = refl

-- a list laid behind another
laid_next : {A : Type 0} (n : ℕ) (xs ys zs : List A) → n + length xs + length ys ≤ length zs
    → laid_at (n + length xs) ys (laid_at n xs zs) ≡ laid_at n (xs ++ ys) zs
unfolding laid_at
laid_next {A = A} n xs ys zs fits =
    let within : n + length xs ≤ length zs = omega arith in
    let first : take (n + length xs) (laid_at n xs zs) ≡ take n zs ++ xs =
    take-add n (length xs) (laid_at n xs zs) ∙ (λ i. take_laid n xs zs within n (omega arith) i ++ middle_laid n xs zs within i)
    in
    let far : n + length xs + length ys ≡ n + length (xs ++ ys) = omega (arith, length-append xs ys) in
    let last : drop (n + length xs + length ys) (laid_at n xs zs) ≡ drop (n + length (xs ++ ys)) zs =
    drop_laid n xs zs within (n + length xs + length ys) (omega arith)
    ∙ ap (λ (k : ℕ). drop k zs) far
    in
    (λ i. first i ++ (ys ++ last i))
    ∙ append_assoc (take n zs) xs (ys ++ drop (n + length (xs ++ ys)) zs)
    ∙ ap (λ (l : List A). take n zs ++ l) (sym (append_assoc xs ys (drop (n + length (xs ++ ys)) zs)))

-- ---- the numbers of a line

stop_by_lem : (limits : List ℕ) (j : ℕ) → stop_by (drop (suc j) limits) ≡ cond (ltb (j + 1) (length limits)) 32 10
unfolding stop_by
stop_by_lem limits j =
    by_bool (ltb (suc j) (length limits))
    (λ t. rw (drop-cons limits (suc j) 0 (ltb-true (suc j) (length limits) t), add-one, t))
    (λ f. rw (drop_of_length-le limits {i = suc j} (ltb-false (suc j) (length limits) f), add-one, f))

module _ (text : List ℕ) (from : ℕ) (limits : List ℕ) (cell : ℕ) (before : List ℕ) where
  pub record InLine (table : List ℕ) (next j : ℕ) : Type 0 where
    pub row : List ℕ
    pub wide : length row ≡ j
    pub few : j ≤ length limits
    pub cells : table ≡ laid_at cell row before
    pub long : length table ≡ length before
    pub within : next ≤ length text
    pub same : (at : ℕ) → line_at at limits (drop from text) ≡ front row (line_at at (drop j limits) (drop next text))

  pub line_start : from ≤ length text → InLine before from 0
  line_start h = record {
    row = [];
    wide = refl;
    few = omega arith;
    cells = sym (laid_none cell before);
    long = refl;
    within = h;
    same = λ at. sym (front_none (line_at at limits (drop from text)));
  }

  module _ {table : List ℕ} {next j : ℕ} (v : InLine table next j) where
    here : (at : ℕ) → j < length limits
        → line_at at (drop j limits) (drop next text)
        ≡ after (number_at at (cond (ltb (j + 1) (length limits)) 32 10) (get_or limits j 0) (drop next text))
        (λ n rest. after (line_at at (drop (suc j) limits) rest) (λ ns behind. took (n ∷ ns) behind))
    unfolding line_at
    here at l = rw (drop-cons limits j 0 l, stop_by_lem limits j)

    module _ (l : j < length limits) (stop : ℕ) (e : stop ≡ cond (ltb (j + 1) (length limits)) 32 10) where
      got : (n : Numeral) → ReadsNumber text next stop (get_or limits j 0) (Some n) → (at : ℕ) → line_at at (drop j limits) (drop next text)
          ≡ after (line_at at (drop (suc j) limits) (drop n.next text)) (λ ns behind. took (n.value ∷ ns) behind)
      got n w at =
          let read : number_at at (cond (ltb (j + 1) (length limits)) 32 10) (get_or limits j 0) (drop next text) ≡ took n.value (drop n.next text) =
          rw (← e) (w.same at)
          in
          here at l ∙ rw read

      lost : ReadsNumber text next stop (get_or limits j 0) None → (at : ℕ) → line_at at (drop j limits) (drop next text) ≡ broken at
      lost w at =
          let read : number_at at (cond (ltb (j + 1) (length limits)) 32 10) (get_or limits j 0) (drop next text) ≡ broken at = rw (← e) (w.same at) in
          here at l ∙ rw read

      laid_step : cell + length limits ≤ length before → (x : ℕ)
          → set (laid_at cell v.row before) (cell + j) x ≡ laid_at cell (v.row ++ (x ∷ [])) before
      laid_step room x =
          let fits : cell + length v.row ≤ length before = omega (arith, v.wide) in
          let place : cell + j < length (laid_at cell v.row before) = omega (arith, length_laid cell v.row before fits) in
          sym (laid_one (cell + j) x (laid_at cell v.row before) place)
          ∙ ap (λ (k : ℕ). laid_at (cell + k) (x ∷ []) (laid_at cell v.row before)) (sym v.wide)
          ∙ laid_next cell v.row (x ∷ []) before (omega (arith, v.wide))

      pub line_step : cell + length limits ≤ length before → (n : Numeral) → ReadsNumber text next stop (get_or limits j 0) (Some n)
          → InLine (set table (cell + j) n.value) n.next (j + 1)
      line_step room n w = record {
        row = v.row ++ (n.value ∷ []);
        wide = rw length-append (omega (arith, v.wide));
        few = omega arith;
        cells = ap (λ (t : List ℕ). set t (cell + j) n.value) v.cells ∙ laid_step room n.value;
        long = length-set table (cell + j) n.value ∙ v.long;
        within = w.within;
        same = λ at.
            v.same at ∙ ap (front v.row) (got n w at)
            ∙ rw add-one (front_more v.row n.value (line_at at (drop (suc j) limits) (drop n.next text)));
      }

      -- a number is broken
      pub line_broken : ReadsNumber text next stop (get_or limits j 0) None → ReadsLine text from limits cell before table None
      line_broken w = record {
        row = v.row;
        same = λ at. v.same at ∙ ap (front v.row) (lost w at);
        wide = tt;
        cells = v.cells;
        within = tt;
      }

    -- all are read
    pub line_end : length limits ≤ j → ReadsLine text from limits cell before table (Some next)
    unfolding line_at
    line_end l = record {
      row = v.row;
      same = λ at. v.same at ∙ rw (drop_of_length-le limits l, append-nil);
      wide = omega (arith, v.wide, v.few);
      cells = v.cells;
      within = v.within;
    }

-- ---- lines

module _ (text : List ℕ) (from : ℕ) (limits : List ℕ) (n : ℕ) (before : List ℕ) where
  pub record InLines (table : List ℕ) (next i : ℕ) : Type 0 where
    pub rows : List (List ℕ)
    pub size : length (flat rows) ≡ i * length limits
    pub few : i ≤ n
    pub cells : table ≡ laid_at 0 (flat rows) before
    pub long : length table ≡ length before
    pub within : next ≤ length text
    pub same : (at : ℕ) → lines_at at limits n (drop from text) ≡ front rows (lines_at (at + i) limits (n - i) (drop next text))

  pub lines_start : from ≤ length text → InLines before from 0
  unfolding flat
  lines_start h = record {
    rows = [];
    size = omega arith;
    few = omega arith;
    cells = sym (laid_none 0 before);
    long = refl;
    within = h;
    same = λ at. rw (add-zero, sub-zero) (sym (front_none (lines_at at limits n (drop from text))));
  }

  -- there is room for one more row
  pub room_for : (i : ℕ) → i < n → n * length limits ≤ length before → i * length limits + length limits ≤ length before
  room_for i l room = let more : (i + 1) * length limits ≤ n * length limits = mul-le-mul_right (length limits) (omega arith) in omega arith

  module _ {table : List ℕ} {next i : ℕ} (v : InLines table next i) where
    here' : (at : ℕ) → i < n
        → lines_at (at + i) limits (n - i) (drop next text)
        ≡ after (line_at (at + i) limits (drop next text))
        (λ r rest. after (lines_at (at + i + 1) limits (n - (i + 1)) rest) (λ rs behind. took (r ∷ rs) behind))
    unfolding lines_at
    here' at l = rw (turns n i l)

    pub lines_step : i < n → n * length limits ≤ length before → {table' : List ℕ} (on : ℕ)
        → ReadsLine text next limits (i * length limits) table table' (Some on) → InLines table' on (i + 1)
    unfolding flat
    lines_step l room {table'} on w =
        let wide : length w.row ≡ length limits = w.wide in
        let fits : i * length limits + length limits ≤ length before = room_for i l room in
        let place : i * length limits ≡ 0 + length (flat v.rows) = omega (arith, v.size) in
        let joined : flat (v.rows ++ (w.row ∷ [])) ≡ flat v.rows ++ w.row =
        flat_append v.rows (w.row ∷ []) ∙ ap (λ (l : List ℕ). flat v.rows ++ l) (append-nil w.row)
        in
        record {
          rows = v.rows ++ (w.row ∷ []);
          size = ap length joined ∙ length-append (flat v.rows) w.row ∙ omega (arith, v.size);
          few = omega arith;
          cells = w.cells ∙ (λ k. laid_at (place k) w.row (v.cells k))
              ∙ laid_next 0 (flat v.rows) w.row before (omega (arith, v.size))
              ∙ ap (λ (l : List ℕ). laid_at 0 l before) (sym joined);
          long = ap length w.cells ∙ length_laid (i * length limits) w.row table (omega (arith, v.long)) ∙ v.long;
          within = w.within;
          same = λ at.
              let next' : lines_at (at + i) limits (n - i) (drop next text)
              ≡ after (lines_at (at + i + 1) limits (n - (i + 1)) (drop on text)) (λ rs behind. took (w.row ∷ rs) behind) =
              here' at l ∙ rw (w.same (at + i))
              in
              let far : at + i + 1 ≡ at + (i + 1) = omega arith in
              v.same at
              ∙ ap (front v.rows) next'
              ∙ front_more v.rows w.row (lines_at (at + i + 1) limits (n - (i + 1)) (drop on text))
              ∙ ap (λ (k : ℕ). front (v.rows ++ (w.row ∷ [])) (lines_at k limits (n - (i + 1)) (drop on text))) far;
        }

    pub lines_broken : i < n → {table' : List ℕ} → ReadsLine text next limits (i * length limits) table table' None
        → ReadsLines text from limits n before table' (Err i)
    lines_broken l {table'} w = record {
      rows = v.rows;
      same = λ at.
          let stop : lines_at (at + i) limits (n - i) (drop next text) ≡ broken (at + i) = here' at l ∙ rw (w.same (at + i)) in
          v.same at ∙ ap (front v.rows) stop;
      cells = tt;
      few = l;
      within = tt;
    }

    pub lines_end : n ≤ i → ReadsLines text from limits n before table (Ok next)
    unfolding lines_at
    lines_end l =
        let none : n - i ≡ 0 = omega arith in
        record {
          rows = v.rows;
          same = λ at. v.same at ∙ rw (none, append-nil);
          cells = v.cells;
          few = tt;
          within = v.within;
        }
