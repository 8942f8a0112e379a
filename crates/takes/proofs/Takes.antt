-- What the loop of `take_front` keeps: the part passed, as it is, with what the model takes of the rest, is what it takes of the whole. A turn
-- goes one row on (`skip`, `pop`, `choose`), and then on to the next of the chain (`jump`).
-- Assumes nothing.
use mathlib.Core.Path.{◌≡◌, refl, sym, ap, ◌∙◌}
use mathlib.Core.List.{List, ◌∷◌, ◌++◌, append-nil, append_assoc}
use mathlib.Core.Bool.{true, false, cond}
use Prim.Native.Nat.{ℕ, zero, suc, ◌+◌, ◌-◌, ◌<◌, ◌≤◌}
use native.Mathlib.Nat.{sub-zero, zero-add, sub-eq-zero_of_le, add-zero, add_assoc}
use native.Mathlib.Numerals.{add-one}
use native.Mathlib.Omega.{arith}
use lib.Dec.{eqb, ltb}
use lib.ListN.{length, get_or, take, drop, set, take-append-drop, length-set, length-append}
use lib.Seq.{drop-cons, set-get_or, drop-drop, length-take-le}
use borrow.Author.Tests.{eqb-true, lt-ltb, ltb-true, ltb-false}
use Rattle.columns.specs.Lists.{count_i}
use Rattle.moves.specs.Moves.{TookIs, take_c, passed_by, dropped, chosen, untouched, gone}
use Rattle.columns.specs.Laid.{laid_at}
use Rattle.moves.specs.Good.{live}
use Rattle.columns.proofs.Scans.{passed, rest, turns, count_step}
use Rattle.numbers.proofs.Bytes.{by_bool}
use Rattle.moves.specs.Linked.{next_of}
use Rattle.moves.proofs.Chains.{Clear, climb, Along, along_next, above, clear_next}

passed_same : (os : List ℕ) (i : ℕ) (r : List ℕ) → i < length os → take i os ++ (get_or os i 0 ∷ r) ≡ take (i + 1) os ++ r
passed_same os i r p = passed os i (get_or os i 0) r p ∙ rw set-get_or

pub record Inv (os₀ class out₀ : List ℕ) (n k p from : ℕ) (os out : List ℕ) (i got ints pops : ℕ) : Type 0 where
  pub long : length os ≡ 1024
  pub wide : length out ≡ 1024
  pub few : got ≤ i
  pub fewer : ints ≤ got
  pub atmost : got ≤ k
  pub some : pops ≤ i
  pub fits : pops ≤ n
  pub room : from + got + count_i live (n - i) i (drop i os) ≤ n
  pub owners : take i os ++ (take_c p class (k - got) (n - i) i (drop i os)).owners ≡ (take_c p class k n 0 os₀).owners
  pub rows : take (from + got) out ++ (take_c p class (k - got) (n - i) i (drop i os)).rows ≡ take from out₀ ++ (take_c p class k n 0 os₀).rows
  pub tail : drop (from + got) out ≡ drop (from + got) out₀
  pub isum : ints + (take_c p class (k - got) (n - i) i (drop i os)).ints ≡ (take_c p class k n 0 os₀).ints
  pub psum : pops + (take_c p class (k - got) (n - i) i (drop i os)).pops ≡ (take_c p class k n 0 os₀).pops

pub start : {os₀ class out₀ : List ℕ} {n k p from : ℕ} → length os₀ ≡ 1024 → length out₀ ≡ 1024 → from + count_i live n 0 os₀ ≤ n
    → Inv os₀ class out₀ n k p from os₀ out₀ 0 0 0 0
start l w h = record {
  long = l;
  wide = w;
  few = omega arith;
  fewer = omega arith;
  atmost = omega arith;
  some = omega arith;
  fits = omega arith;
  room = rw (sub-zero, add-zero) h;
  owners = rw (sub-zero, sub-zero);
  rows = rw (sub-zero, sub-zero, add-zero);
  tail = refl;
  isum = rw (sub-zero, sub-zero, zero-add);
  psum = rw (sub-zero, sub-zero, zero-add);
}

module _ {os₀ class out₀ : List ℕ} {n k p from : ℕ} {os out : List ℕ} {i got ints pops : ℕ} (v : Inv os₀ class out₀ n k p from os out i got ints pops)
    (fit : n ≤ 1024) where
  -- nothing is left to take
  finish : length out₀ ≡ 1024 → take_c p class (k - got) (n - i) i (drop i os) ≡ untouched (drop i os)
      → TookIs (take_c p class k n 0 os₀) from k out₀ os out got ints pops
  unfolding laid_at count_i
  finish w₀ e =
      let t : take (from + got) out ≡ take from out₀ ++ (take_c p class k n 0 os₀).rows = rw (e, append-nil) at v.rows in
      let b : from + got ≤ 1024 = omega (arith, v.room) in
      let g : length (take (from + got) out) ≡ from + got = length-take-le (from + got) out (omega (arith, v.wide)) in
      let f : length (take from out₀) ≡ from = length-take-le from out₀ (omega arith) in
      let h : got ≡ length (take_c p class k n 0 os₀).rows = omega (arith, f, g, simp length-append at (ap length t)) in
      record {
        owners_are = rw (e, take-append-drop) at v.owners;
        out_is = sym (take-append-drop (from + got) out) ∙ rw (v.tail, t, append_assoc, h);
        got_is = h;
        ints_are = rw (e, add-zero) at v.isum;
        pops_are = rw (e, add-zero) at v.psum;
        fewer = v.fewer;
        atmost = v.atmost;
        few = omega (arith, v.fits);
        fits = b;
      }

  pub finish_full : length out₀ ≡ 1024 → i < n → k ≤ got → TookIs (take_c p class k n 0 os₀) from k out₀ os out got ints pops
  finish_full w l h = finish w (rw (sub-eq-zero_of_le h, turns n i l))

  pub finish_end : length out₀ ≡ 1024 → n ≤ i → TookIs (take_c p class k n 0 os₀) from k out₀ os out got ints pops
  finish_end w h = finish w (rw (sub-eq-zero_of_le h))

  module _ (l : i < n) (h : got < k) where
    step : take_c p class (k - got) (n - i) i (drop i os)
        ≡ cond (eqb (get_or os i 0) p)
        (cond (eqb (get_or class i 0) 2)
        (dropped (take_c p class (k - got) (n - (i + 1)) (i + 1) (drop (i + 1) os)))
        (chosen p (get_or class i 0) i (take_c p class (k - (got + 1)) (n - (i + 1)) (i + 1) (drop (i + 1) os))))
        (passed_by (get_or os i 0) (take_c p class (k - got) (n - (i + 1)) (i + 1) (drop (i + 1) os)))
    step = let q : i < length os = omega (arith, v.long) in rw (turns n i l, turns k got h, drop-cons os i 0 q, ← add-one i)

    lives : count_i live (n - i) i (drop i os) ≡ cond (live i (get_or os i 0)) 1 0 + count_i live (n - (i + 1)) (i + 1) (drop (i + 1) os)
    lives = count_step live n i os 0 l (omega (arith, v.long))

    pub skip : eqb (get_or os i 0) p ≡ false → Inv os₀ class out₀ n k p from os out (i + 1) got ints pops
    skip e =
        let s = rw e at step in
        let q : i < length os = omega (arith, v.long) in
        record {
          long = v.long;
          wide = v.wide;
          few = omega arith;
          fewer = v.fewer;
          atmost = v.atmost;
          some = omega arith;
          fits = v.fits;
          room = omega (arith, v.room, lives);
          tail = v.tail;
          owners = rw (← passed_same os i _ q) (rw s at v.owners);
          rows = rw s at v.rows;
          isum = rw s at v.isum;
          psum = rw s at v.psum;
        }

    pub pop : eqb (get_or os i 0) p ≡ true → eqb (get_or class i 0) 2 ≡ true → Inv os₀ class out₀ n k p from (set os i gone) out (i + 1) got ints
        (pops + 1)
    pop e f =
        let s = rw (e, f) at step in
        let q : i < length os = omega (arith, v.long) in
        record {
          long = simp length-set v.long;
          wide = v.wide;
          few = omega arith;
          fewer = v.fewer;
          atmost = v.atmost;
          some = omega arith;
          fits = omega (arith, v.some);
          room = rw rest (omega (arith, v.room, lives));
          tail = v.tail;
          owners = rw (rest os i gone, ← passed os i gone _ q) (rw s at v.owners);
          rows = rw rest (rw s at v.rows);
          isum = rw rest (rw s at v.isum);
          psum = rw rest (omega (arith, rw s at v.psum));
        }

    -- there is a place for the row that is taken
    pub room_left : p < 256 → eqb (get_or os i 0) p ≡ true → from + got < 1024
    room_left b e = omega (arith, v.room, rw (lt-ltb (get_or os i 0) 256 (omega (arith, eqb-true (get_or os i 0) p e))) at lives)

    pub choose : p < 256 → eqb (get_or os i 0) p ≡ true → eqb (get_or class i 0) 2 ≡ false → (x : ℕ) → x ≡ ints + cond (eqb (get_or class i 0) 0) 1 0
        → x ≤ got + 1
        → Inv os₀ class out₀ n k p from (set os i (2048 + p)) (set out (from + got) i) (i + 1) (got + 1) x (pops + 1)
    choose b e f x xe xl =
        let s = rw (e, f) at step in
        let q : i < length os = omega (arith, v.long) in
        let r : from + got < 1024 = room_left b e in
        record {
          long = simp length-set v.long;
          wide = simp length-set v.wide;
          few = omega arith;
          fewer = xl;
          atmost = omega arith;
          some = omega arith;
          fits = omega (arith, v.some);
          room = rw rest (omega (arith, v.room, rw (lt-ltb (get_or os i 0) 256 (omega (arith, eqb-true (get_or os i 0) p e))) at lives));
          tail = rw (← add_assoc from got 1) (rest out (from + got) i ∙ sym (drop-drop 1 (from + got) out) ∙ ap (drop 1) v.tail
              ∙ drop-drop 1 (from + got) out₀);
          owners = rw (rest os i (2048 + p), ← passed os i (2048 + p) _ q) (rw s at v.owners);
          rows = rw (rest os i (2048 + p), ← add_assoc from got 1, ← passed out (from + got) i _ (omega (arith, v.wide))) (rw s at v.rows);
          isum = rw rest (omega (arith, xe, rw s at v.isum));
          psum = rw rest (omega (arith, rw s at v.psum));
        }

-- ---- rows that a walk along the chain leaves out

-- nothing more is wanted
none : (p : ℕ) (class : List ℕ) (m i : ℕ) (os : List ℕ) → take_c p class 0 m i os ≡ untouched os
none p class zero i os = refl
none p class (suc m) i os = refl

module _ {os₀ class out₀ : List ℕ} {n k p from : ℕ} {os out : List ℕ} {i got ints pops : ℕ} (v : Inv os₀ class out₀ n k p from os out i got ints pops)
    (fit : n ≤ 1024) where
  -- the rest is left as it is, with row i or without
  idle : take_c p class (k - got) (n - i) i (drop i os) ≡ untouched (drop i os)
      → take_c p class (k - got) (n - (i + 1)) (i + 1) (drop (i + 1) os) ≡ untouched (drop (i + 1) os)
      → count_i live (n - (i + 1)) (i + 1) (drop (i + 1) os) ≤ count_i live (n - i) i (drop i os)
      → Inv os₀ class out₀ n k p from os out (i + 1) got ints pops
  idle a b fewer = record {
    long = v.long;
    wide = v.wide;
    few = omega (arith, v.few);
    fewer = v.fewer;
    atmost = v.atmost;
    some = omega (arith, v.some);
    fits = v.fits;
    room = omega (arith, v.room, fewer);
    owners = rw (b, take-append-drop) (rw (a, take-append-drop) at v.owners);
    rows = rw b (rw a at v.rows);
    tail = v.tail;
    isum = rw b (rw a at v.isum);
    psum = rw b (rw a at v.psum);
  }

  pass_by_lem : (i < n → eqb (get_or os i 0) p ≡ false) → Inv os₀ class out₀ n k p from os out (i + 1) got ints pops
  unfolding count_i
  pass_by_lem e =
      by_bool (ltb i n)
      (λ t. let l = ltb-true i n t in
      by_bool (ltb got k)
      (λ u. skip v fit l (ltb-true got k u) (e l))
      (λ u. let z = sub-eq-zero_of_le (ltb-false got k u) in
      idle (rw z (none p class (n - i) i (drop i os))) (rw z (none p class (n - (i + 1)) (i + 1) (drop (i + 1) os)))
      (omega (arith, count_step live n i os 0 l (omega (arith, v.long))))))
      (λ t. let l = ltb-false i n t in
      let a : n - i ≡ 0 = omega arith in
      let b : n - (i + 1) ≡ 0 = omega arith in
      idle (rw a) (rw b) (rw (a, b) (omega arith)))

pub jump : {os₀ class out₀ : List ℕ} {n k p from : ℕ} {os out : List ℕ} {i got ints pops : ℕ} → Inv os₀ class out₀ n k p from os out i got ints pops
    → n ≤ 1024 → (to : ℕ) → i ≤ to → Clear n p os i to → Inv os₀ class out₀ n k p from os out to got ints pops
jump {os₀} {class} {out₀} {n} {k} {p} {from} {os} {out} {i} {got} {ints} {pops} v fit to le clear =
    climb (λ j. Inv os₀ class out₀ n k p from os out j got ints pops) (to - i) i to (omega arith) (λ j a b h. pass_by_lem h fit (λ l. clear j l a b)) v

-- from behind row i to the next row of its chain
pub go_on : {os₀ class out₀ : List ℕ} {n k p from : ℕ} {os out : List ℕ} {i got ints pops : ℕ}
    → Inv os₀ class out₀ n k p from os out (i + 1) got ints pops → Along class n p os i → i < n → n ≤ 1024 → p < 1280 → {to : ℕ} → to ≡ next_of class i
    → Inv os₀ class out₀ n k p from os out to got ints pops × Along class n p os to
go_on v a here fit small {to} e = (jump v fit to (omega (arith, above a here e)) (clear_next a here e small), along_next a here e)
