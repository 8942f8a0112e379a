-- What a check, passing over and a move to a position below `top` keep, every walk for such positions keeps, and with what the end makes of
-- it (Q) so does a run (`run_through`). Assumes nothing.
use mathlib.Core.Path.{◌≡◌, refl, sym, ap, ◌∙◌}
use mathlib.Core.Bool.{Bool, true, false, cond, not}
use mathlib.Core.List.{List, [], ◌∷◌, ◌++◌}
use Prim.Native.Nat.{ℕ, zero, suc, ◌+◌, ◌-◌, ◌<◌, ◌≤◌}
use native.Mathlib.Omega.{arith}
use lib.Dec.{eqb, ltb}
use lib.ListN.{get_or, set}
use borrow.Author.Tests.{ltb-true}
use Rattle.numbers.proofs.Bytes.{by_bool}
use Rattle.rules.specs.World.{Each}
use Rattle.moves.specs.declared.Fixed.{Fixed}
use Rattle.moves.specs.Moves.{with_tally, costs}
use Rattle.meaning.specs.Meaning.{Columns, columns_of, with_owner, check_c, pass_c, move_c}
use Rattle.meaning.specs.Walks.{skip_c, free_c, moves_at, moves_c, held_c, full_c, WalkC, walk, try_c, meet_c, seek_c, reach_c, own_c, visit_c}
use Rattle.meaning.specs.Passes.{PassedC, passed_c, position_from, sweep_owners, left_c, serve_c, first_c, second_c, swept_c, rest_c, end_c, run_c}
use Rattle.meaning.proofs.Kept.{try_more}

-- what each step keeps; slots stand below top
pub record Steps (class cost : List ℕ) (f : Fixed) (top : ℕ) (P Q : Columns → Type 0) : Type 0 where
  pub check : (p : ℕ) → p < 1280 → (m : Columns) → P m → P (check_c cost p m)
  pub pass : (p : ℕ) → p < 1280 → (m : Columns) → P m → P (pass_c class f p m)
  pub move : (p j : ℕ) → p < 1280 → j < top → (m : Columns) → P m → P (move_c class f p j m)
  pub sweep : (i : ℕ) → (m : Columns) → P m → Q (columns_of (with_owner m.store (sweep_owners class f.rows i f.places m.store.owner)) m.mark m.joined)
  pub bill : (m : Columns) → Q m → Q (columns_of (with_tally m.store (costs m.store.tally f.places)) m.mark m.joined)
  pub parties : (m : Columns) → P m → (g : ℕ) → g < m.store.tally.accounts → get_or m.store.member g 0 < 1280
  pub places : f.places ≤ 256

pub each_snoc : (top : ℕ) (line : List ℕ) (j : ℕ) → Each (λ x. x < top) line → j < top → Each (λ x. x < top) (line ++ (j ∷ []))
each_snoc top [] j a l = (l, tt)
each_snoc top (x ∷ line) j a l = (a.0, each_snoc top line j a.1 l)

pub each_cond : (top : ℕ) (t : Bool) (x y : List ℕ) → Each (λ x. x < top) x → Each (λ x. x < top) y → Each (λ x. x < top) (cond t x y)
each_cond top true x y a b = a
each_cond top false x y a b = b

module _ {class cost : List ℕ} {f : Fixed} {top : ℕ} {P Q : Columns → Type 0} (k : Steps class cost f top P Q) where
  try_through : (j p : ℕ) → p < 1280 → j < top → (m : Columns) → P m → P (try_c class cost f j p m)
  unfolding try_c
  try_through j p l jl m h =
      let c = k.check p l m h in
      by_bool (skip_c p m) (λ e. rw e (k.pass p l _ c)) (λ e. rw e (k.move p j l jl _ c))

  meet_through : (j p : ℕ) → p < 1280 → j < top → (m : Columns) → P m → P (meet_c class cost f j p m)
  unfolding meet_c
  meet_through j p l jl m h = by_bool (free_c p m) (λ e. rw e (try_through j p l jl m h)) (λ e. rw e (k.pass p l m h))

  pub seek_through : (j r i : ℕ) → j < top → ((x : ℕ) → x < r → i + x < 1280) → (m : Columns) → P m → P (seek_c class cost f j r i m).now
  unfolding seek_c
  seek_through j zero i jl b m h = h
  seek_through j (suc r) i jl b m h =
      let t = meet_through j i (omega (arith, b 0 (omega arith))) jl m h in
      by_bool (eqb (held_c j (meet_c class cost f j i m)) 0)
      (λ e. rw e (seek_through j r (i + 1) jl (λ x l. omega (arith, b (suc x) (omega arith))) (meet_c class cost f j i m) t))
      (λ e. rw e t)

  reach_through : (j r i : ℕ) → j < top → ((x : ℕ) → x < r → i + x < 1280) → (m : Columns) → P m → P (reach_c class cost f j r i m).now
  unfolding reach_c
  reach_through j zero i jl b m h = h
  reach_through j (suc r) i jl b m h =
      let t = meet_through j i (omega (arith, b 0 (omega arith))) jl m h in
      by_bool (cond (moves_at m.store.home m.mark i) (full_c f.height (held_c j (meet_c class cost f j i m))) false)
      (λ e. rw e t)
      (λ e. rw e (reach_through j r (i + 1) jl (λ x l. omega (arith, b (suc x) (omega arith))) (meet_c class cost f j i m) t))

  own_through : (j : ℕ) → j < top → (r g : ℕ) (m : Columns) → g + r ≤ m.store.tally.accounts → P m → P (own_c class cost f j r g m)
  unfolding own_c
  own_through j jl zero g m b h = h
  own_through j jl (suc r) g m b h =
      let p = get_or m.store.member g 0 in
      let t = try_c class cost f j p m in
      let u = try_through j p (k.parties m h g (omega arith)) jl m h in
      by_bool (eqb (get_or m.store.home p 0) j)
      (λ e. rw e (by_bool (cond (not (skip_c p m)) (full_c f.height (held_c j t)) false)
      (λ d. rw d u)
      (λ d. rw d (own_through j jl r (g + 1) t (omega (arith, try_more class cost f j p m)) u))))
      (λ e. rw e (own_through j jl r (g + 1) m (omega arith) h))

  pub visit_through : (j i : ℕ) → j < top → (m : Columns) → P m → P (visit_c class cost f j i m).now
  unfolding visit_c
  visit_through j i jl m h =
      let o = own_c class cost f j m.store.tally.accounts 0 m in
      let u = own_through j jl m.store.tally.accounts 0 m (omega arith) h in
      by_bool (full_c f.height (held_c j o))
      (λ e. rw e u)
      (λ e. rw e (reach_through j (f.places - i) i jl (λ x l. omega (arith, k.places)) o u))

  -- ---- the passes

  pub serve_through : (line : List ℕ) (r i : ℕ) → Each (λ x. x < top) line → ((x : ℕ) → x < r → i + x < 1280) → (m : Columns) → P m → P (serve_c class cost f line r i m).now
  unfolding serve_c
  serve_through line zero i a b m h = h
  serve_through [] (suc r) i a b m h = h
  serve_through (j ∷ line) (suc r) i a b m h =
      let t = meet_c class cost f j i m in
      let back = each_cond top (full_c f.height (held_c j t)) line (line ++ (j ∷ [])) a.1 (each_snoc top line j a.1 a.0) in
      serve_through (cond (moves_c i m) (cond (full_c f.height (held_c j t)) line (line ++ (j ∷ []))) (j ∷ line)) r (i + 1) (each_cond top (moves_at m.store.home m.mark i) _ (j ∷ line) back a) (λ x l. omega (arith, b (suc x) (omega arith))) t
      (meet_through j i (omega (arith, b 0 (omega arith))) a.0 m h)

  first_through : (n : ℕ) (line numbers : List ℕ) (slots last i : ℕ) (m : Columns) → Each (λ x. x < top) line → slots + n ≤ top → P m
      → P (first_c class cost f n line numbers slots last i m).run.now
  unfolding first_c
  first_through zero line numbers slots last i m a b h = serve_through line (f.places - i) i a (λ x l. omega (arith, k.places)) m h
  first_through (suc n) line numbers slots last i m a b h =
      let w = seek_c class cost f slots (f.places - i) i m in
      let u = seek_through slots (f.places - i) i (omega arith) (λ x l. omega (arith, k.places)) m h in
      by_bool (eqb (held_c slots w.now) 0)
      (λ e. rw e u)
      (λ e. rw e (first_through n _ (set numbers slots (last + 1)) (slots + 1) (last + 1) w.at w.now
      (each_cond top (full_c f.height (held_c slots w.now)) line (line ++ (slots ∷ [])) a (each_snoc top line slots a (omega arith))) (omega arith) u))

  pub second_through : (numbers : List ℕ) (entry : ℕ) → entry ≤ top → (xs : List ℕ) (i : ℕ) (m : Columns) → P m → P (second_c class cost f numbers entry xs i m).now
  unfolding second_c
  second_through numbers entry b [] i m h = h
  second_through numbers entry b (x ∷ xs) i m h =
      let j = position_from numbers x entry 0 in
      let w = visit_c class cost f j i m in
      by_bool (ltb j entry)
      (λ e. rw e (second_through numbers entry b xs w.at w.now (visit_through j i (let l = ltb-true j entry e in omega arith) m h)))
      (λ e. rw e (second_through numbers entry b xs i m h))

  -- a run keeps what each step keeps
  pub run_through : (n : ℕ) (xs numbers : List ℕ) (slots last : ℕ) (m : Columns) → slots + n ≤ top → P m → Q (run_c class cost f n xs numbers slots last m).now
  unfolding run_c end_c rest_c
  run_through n xs numbers slots last m b h =
      let a = first_c class cost f n [] numbers slots last 0 m in
      k.bill _ (k.sweep _ _ (second_through a.number slots (omega arith) xs a.run.at a.run.now (first_through n [] numbers slots last 0 m tt b h)))
