-- What the passes keep well formed, and the run as its parts. Assumes nothing.
use mathlib.Core.Path.{◌≡◌, refl, ap, ◌∙◌}
use mathlib.Core.List.{List, [], ◌∷◌, ◌++◌}
use mathlib.Core.Bool.{Bool, true, false, cond}
use Prim.Native.Nat.{ℕ, zero, suc, ◌+◌, ◌-◌, ◌<◌, ◌≤◌}
use native.Mathlib.Omega.{arith}
use lib.Dec.{eqb, ltb}
use lib.ListN.{length, get_or, set, length-set}
use borrow.Author.Tests.{lt-ltb, le-ltb, ltb-true}
use Rattle.moves.specs.declared.Fixed.{Fixed}
use Rattle.moves.specs.declared.Tally.{Tally}
use Rattle.moves.specs.Moves.{gone, with_tally, costs}
use Rattle.moves.specs.Good.{live}
use Rattle.columns.specs.Lists.{map_i, count_i}
use Rattle.numbers.proofs.Bytes.{by_bool}
use Rattle.meaning.specs.Meaning.{Columns, columns, columns_of, with_owner}
use Rattle.meaning.specs.Walks.{Ready, moves_c, held_c, full_c, WalkC, meet_c, seek_c, visit_c}
use Rattle.meaning.specs.Passes.{position_from, lapsed_from, sweep_cell, sweep_owners, left_c, PassedC, passed_c, RanC, ran_c, serve_c, first_c, second_c, swept_c, rest_c, end_c, run_c}
use Rattle.meaning.proofs.Kept.{meet_keeps, visit_keeps, seek_keeps}

-- ---- what the first pass keeps
abbrev pub Below : List ℕ → Type 0
Below [] = Unit {0}
Below (j ∷ line) = (j < 64) × Below line

below_snoc : (line : List ℕ) (j : ℕ) → Below line → j < 64 → Below (line ++ (j ∷ []))
below_snoc [] j h l = (l, tt)
below_snoc (k ∷ line) j h l = (h.0, below_snoc line j h.1 l)

below_wait : (y : Bool) (j : ℕ) (line : List ℕ) → Below line → j < 64 → Below (cond y line (line ++ (j ∷ [])))
below_wait true j line h l = h
below_wait false j line h l = below_snoc line j h l

below_turn : (x y : Bool) (j : ℕ) (line : List ℕ) → (j < 64) × Below line → Below (cond x (cond y line (line ++ (j ∷ []))) (j ∷ line))
below_turn true y j line h = below_wait y j line h.1 h.0
below_turn false y j line h = h

pub serve_keeps : (class cost : List ℕ) (f : Fixed) (r i : ℕ) (line : List ℕ) (m : Columns) → Ready f class cost m → ((k : ℕ) → k < r → i + k < 1280)
    → Below line → Ready f class cost (serve_c class cost f line r i m).now
unfolding serve_c
serve_keeps class cost f zero i [] m g h l = g
serve_keeps class cost f zero i (j ∷ line) m g h l = g
serve_keeps class cost f (suc r) i [] m g h l = g
serve_keeps class cost f (suc r) i (j ∷ line) m g h l =
    serve_keeps class cost f r (i + 1) _ (meet_c class cost f j i m) (meet_keeps g j i (omega (arith, h 0 (omega arith))) l.0)
    (λ k q. omega (arith, h (suc k) (omega arith)))
    (below_turn (moves_c i m) (full_c f.height (held_c j (meet_c class cost f j i m))) j line l)

pub first_keeps : (class cost : List ℕ) (f : Fixed) (k : ℕ) (line numbers : List ℕ) (sl la i : ℕ) (m : Columns) → Ready f class cost m → Below line → sl + k ≤ 64
    → Ready f class cost (first_c class cost f k line numbers sl la i m).run.now × (length (first_c class cost f k line numbers sl la i m).number
    ≡ length numbers)
unfolding first_c
first_keeps class cost f zero line numbers sl la i m g l h = (
  serve_keeps class cost f (f.places - i) i line m g
      (λ k q. omega (arith, g.good.store.places_fit)) l,
  refl,
)
first_keeps class cost f (suc k) line numbers sl la i m g l h =
    let w = seek_c class cost f sl (f.places - i) i m in
    let v : Ready f class cost w.now = seek_keeps class cost f sl (omega arith) (f.places - i) i m g (λ y q. omega (arith, g.good.store.places_fit)) in
    by_bool (eqb (held_c sl w.now) 0)
    (λ e. rw e (v, simp length-set))
    (λ e. rw e (let z = first_keeps class cost f k _ (set numbers sl (la + 1)) (sl + 1) (la + 1) w.at w.now v
    (below_wait (full_c f.height (held_c sl w.now)) sl line l (omega arith)) (omega arith) in (z.0, z.1 ∙ simp length-set)))

-- ---- what the second pass keeps
second_keeps : (class cost : List ℕ) (f : Fixed) (numbers : List ℕ) (e : ℕ) → e ≤ 64 → (xs : List ℕ) (i : ℕ) (m : Columns) → Ready f class cost m
    → Ready f class cost (second_c class cost f numbers e xs i m).now
unfolding second_c
second_keeps class cost f numbers e l [] i m g = g
second_keeps class cost f numbers e l (x ∷ xs) i m g =
    let j = position_from numbers x e 0 in
    by_bool (ltb j e)
    (λ z. rw z (second_keeps class cost f numbers e l xs (visit_c class cost f j i m).at (visit_c class cost f j i m).now
    (visit_keeps class cost f j (omega (arith, ltb-true j e z)) i m g)))
    (λ z. rw z (second_keeps class cost f numbers e l xs i m g))

-- ---- the counts of the slots, as columns and as a table's columns
module _ {o w h p is is' es es' k j : List ℕ} {t : Tally} (a : is ≡ is') (b : es ≡ es') where
  pub same_counts : columns o w h p is es k j t ≡ columns o w h p is' es' k j t
  same_counts i = columns o w h p (a i) (b i) k j t

  pub ready_counts : {f : Fixed} {class cost : List ℕ} → Ready f class cost (columns o w h p is' es' k j t) → Ready f class cost (columns o w h p is es k j t)
  ready_counts v = rw same_counts v

pub same_ran : {x y : Columns} → x ≡ y → {numbers : List ℕ} {sl la n : ℕ} {r : RanC} → ran_c y numbers sl la n ≡ r → ran_c x numbers sl la n ≡ r
same_ran e {numbers} {sl} {la} {n} h = ap (λ (x : Columns). ran_c x numbers sl la n) e ∙ h

-- ---- the run
module _ {class cost : List ℕ} {f : Fixed} (r : ℕ) (numbers : List ℕ) (sl la : ℕ) {m : Columns} (g : Ready f class cost m) (room : sl + r ≤ 64) {a : PassedC}
    (e : a ≡ first_c class cost f r [] numbers sl la 0 m) where
  pub ran_ready : Ready f class cost a.run.now
  ran_ready = rw e (first_keeps class cost f r [] numbers sl la 0 m g tt room).0

  pub ran_both : (xs : List ℕ) {w : WalkC} → w ≡ second_c class cost f a.number sl xs a.run.at a.run.now → Ready f class cost w.now
  ran_both xs d = rw d (second_keeps class cost f a.number sl (omega arith) xs a.run.at a.run.now ran_ready)

  pub ran : (xs : List ℕ) {w : WalkC} → w ≡ second_c class cost f a.number sl xs a.run.at a.run.now
      → {os : List ℕ} → os ≡ sweep_owners class f.rows w.at f.places w.now.store.owner
      → {t : Tally} → t ≡ costs w.now.store.tally f.places
      → {n : ℕ} → n ≡ f.rows - left_c f.rows f.places os - w.now.store.tally.taken
      → ran_c (columns_of (with_tally (with_owner w.now.store os) t) w.now.mark w.now.joined) a.number a.slots a.last n
      ≡ run_c class cost f r xs numbers sl la m
  unfolding run_c rest_c end_c
  ran xs {w} d {os} o {t} te {n} ne =
      rw (te, ne, o)
      (ap (λ (x : WalkC). end_c class cost f (passed_c (swept_c class cost f x) a.number a.slots a.last)) d
      ∙ ap (λ (x : PassedC). end_c class cost f (rest_c class cost f sl xs x)) e)

-- what is held after the sweep, and what was taken, are no more than the rows
module _ (class : List ℕ) {cost : List ℕ} {f : Fixed} {m : Columns} (g : Ready f class cost m) where
  left_live : (a i : ℕ) → a ≤ 256 → (n k : ℕ) (os : List ℕ)
      → count_i (λ j o. ltb o a) n k (map_i (sweep_cell class i a) n k os) ≤ count_i live n k os
  unfolding count_i map_i
  left_live a i l zero k os = omega arith
  left_live a i l (suc n) k [] = omega arith
  left_live a i l (suc n) k (o ∷ os) =
      let r = left_live a i l n (k + 1) os in
      by_bool (lapsed_from i a o (get_or class k 0))
      (λ e. rw (e, le-ltb gone a (omega arith)) (omega arith))
      (λ e. rw e (by_bool (ltb o a)
      (λ t. rw (t, lt-ltb o 256 (let z = ltb-true o a t in omega arith)) (omega arith))
      (λ t. rw t (omega arith))))

  pub swept_left : (i : ℕ) {os : List ℕ} → os ≡ sweep_owners class f.rows i f.places m.store.owner
      → left_c f.rows f.places os + m.store.tally.taken ≤ f.rows
  unfolding sweep_owners left_c
  swept_left i e =
      rw e (omega (arith, left_live f.places i g.good.store.places_fit f.rows 0 m.store.owner, g.good.store.takes))
