-- What a fill's routines keep on numbers beside `Fits`: an owner is a place or a mark, a row taken has the mark of a party, the members at
-- entry stay with their homes, and those that enter have a place. Here of a check, of passing over and of a move. Assumes nothing.
use mathlib.Core.Path.{◌≡◌, refl, sym, ap, ◌∙◌, subst}
use mathlib.Core.Bool.{Bool, true, false, cond}
use mathlib.Core.Logic.{◌⊎◌, inr, ⊎_elim}
use mathlib.Core.List.{List, [], ◌∷◌, ◌++◌}
use Prim.Native.Nat.{ℕ, zero, suc, ◌+◌, ◌-◌, ◌<◌, ◌≤◌}
use native.Mathlib.Nat.{zero-add, sub-zero, le_refl}
use native.Mathlib.Omega.{arith}
use lib.Dec.{eqb, leb, ltb}
use lib.ListN.{length, get_or, set}
use lib.Seq.{get_or-set_same, get_or-set_other}
use borrow.Author.Tests.{eqb-true, eqb-false, leb-false, ltb-true, ltb-false}
use Rattle.numbers.proofs.Bytes.{by_bool}
use Rattle.columns.specs.Lists.{map_i}
use Rattle.columns.specs.Laid.{laid_at}
use Rattle.columns.proofs.Laid.{get_d_laid_before, get_d_laid_in}
use Rattle.rules.specs.World.{Args, Filter.off}
use Rattle.moves.specs.declared.Fixed.{Fixed}
use Rattle.moves.specs.Moves.{Store, store, check_marks, pass_owners, pass_cell, move_store, took_store, enter_homes, take_c, wanted_of, nowhere, gone}
use Rattle.moves.specs.Good.{GoodStore}
use Rattle.moves.proofs.Keeps.{move_good}
use Rattle.moves.proofs.Chains.{take_cell, pass_cell_lem}
use Rattle.meaning.specs.Meaning.{Numbers, Columns, marks_of, check_c, pass_c, move_c}
use Rattle.meaning.specs.Walks.{Good}
use Rattle.meaning.proofs.Takes.{take_kept, take_marks}
use Rattle.settle_rules.specs.Facts.{Traced, TracedStore}

-- ---- one cell of the owners

abbrev Cell : (places o : ℕ) → Type 0
Cell places o = (o < places) ⊎ (2048 ≤ o)

pass_same : (class : List ℕ) (p m i j : ℕ) (os : List ℕ) → (get_or os j 0 ≡ p → ⊥) → get_or (map_i (pass_cell class p) m i os) j 0 ≡ get_or os j 0
unfolding map_i
pass_same class p zero i j os n = refl
pass_same class p (suc m) i j [] n = refl
pass_same class p (suc m) i zero (o ∷ os) n = by_bool (eqb o p) (λ e. absurd (n (eqb-true o p e))) (λ e. rw e)
pass_same class p (suc m) i (suc j) (o ∷ os) n = pass_same class p m (i + 1) j os n

pub cell_kept : (places x y : ℕ) → (x ≡ y) ⊎ (2048 ≤ x) → Cell places y → Cell places x
cell_kept places x y a h = ⊎_elim (λ e. subst (Cell places) (sym e) h) (λ l. inr l) a

-- ---- passing over

pub pass_traced : {f : Fixed} {s₀ : Store} {s : Store} (class : List ℕ) (p : ℕ) → p < 1280 → TracedStore f s₀ s
    → TracedStore f s₀ (store (pass_owners class f.rows p s.owner) s.taken s.home s.member s.ints s.exts s.tally)
unfolding pass_owners
pass_traced {f} {s₀} {s} class p l h = record {
  owners = λ i a. cell_kept f.places _ _ (pass_cell_lem class p f.rows 0 i s.owner) (h.owners i a);
  rows = h.rows;
  from = λ k a. rw (same k a) (h.from k a);
  party = λ k a. rw (same k a) (h.party k a);
  more = h.more;
  old = h.old;
  new = h.new;
  stays = h.stays;
}
  where
    same : (k : ℕ) → k < s.tally.taken → get_or (map_i (pass_cell class p) f.rows 0 s.owner) (get_or s.taken k 0) 0 ≡ get_or s.owner (get_or s.taken k 0) 0
    same k a = pass_same class p f.rows 0 (get_or s.taken k 0) s.owner (λ e. omega (arith, h.from k a))

-- ---- a move

-- any arguments, for laws that do not look at them
abbrev no_args : Args (Numbers (λ i. false) (λ i. 0))
no_args = record { asked = 0; height = 0; filter = off; rows = []; cost = 0 }

module _ {f : Fixed} {s₀ s : Store} (h : TracedStore f s₀ s) (class : List ℕ) (p : ℕ) (low : p < f.places) (fit : f.places ≤ 256) (k : ℕ)
    (room : s.tally.taken + length (take_c p class k f.rows 0 s.owner).rows ≤ length s.taken) where
  abbrev got : List ℕ
  got = (take_c p class k f.rows 0 s.owner).rows

  abbrev left : List ℕ
  left = (take_c p class k f.rows 0 s.owner).owners

  abbrev all : List ℕ
  all = laid_at s.tally.taken got s.taken

  -- a row that is now taken: one of those before, or one of the take
  took : (i : ℕ) → i < s.tally.taken + length got → (get_or all i 0 < f.rows) × (2048 ≤ get_or left (get_or all i 0) 0) × (get_or left (get_or all i 0) 0 < 3328)
  took i l =
      by_bool (ltb i s.tally.taken)
      (λ e. let a = ltb-true i s.tally.taken e in
      let z = get_d_laid_before s.tally.taken got s.taken room i 0 a in
      let y : get_or left (get_or s.taken i 0) 0 ≡ get_or s.owner (get_or s.taken i 0) 0 =
      take_kept (λ i. false) (λ i. 0) no_args class p (omega arith) k f.rows 0 (get_or s.taken i 0) s.owner (λ w. omega (arith, h.from i a)) in
      rw (z, y) (h.rows i a, h.from i a, h.party i a))
      (λ e. let a = ltb-false i s.tally.taken e in
      let j = i - s.tally.taken in
      let d : s.tally.taken + j ≡ i = omega arith in
      let z : get_or all i 0 ≡ get_or got j 0 = ap (λ (x : ℕ). get_or all x 0) (sym d) ∙ get_d_laid_in s.tally.taken got s.taken room j 0 (omega arith) in
      let y = take_marks (λ i. false) (λ i. 0) no_args class p (omega arith) k f.rows 0 j s.owner (omega arith) in
      let w : get_or left (get_or got j 0) 0 ≡ 2048 + p = ap (λ (x : ℕ). get_or left x 0) (sym (sub-zero (get_or got j 0))) ∙ y.owner in
      rw (z, w) (omega (arith, y.high), omega arith, omega arith))

  cells : (i : ℕ) → i < f.rows → Cell f.places (get_or left i 0)
  cells i a = cell_kept f.places _ _ (take_cell p class k f.rows 0 i s.owner) (h.owners i a)

  -- the party was in the group
  pub took_in : (ints exts : List ℕ) (j a o : ℕ) → TracedStore f s₀ (store left all s.home s.member ints exts (record { joined = j; accounts = s.tally.accounts; taken = s.tally.taken + length got; ops = o }))
  took_in ints exts j a o = record {
    owners = cells;
    rows = λ i l. (took i l).0;
    from = λ i l. (took i l).1;
    party = λ i l. (took i l).2;
    more = h.more;
    old = h.old;
    new = h.new;
    stays = h.stays;
  }

  -- it enters
  pub took_new : (ints exts : List ℕ) (j x o : ℕ) → length s.member ≡ 1280 → s.tally.accounts < 1280 → eqb (get_or s.home p 0) nowhere ≡ true
      → TracedStore f s₀ (store left all (set s.home p x) (set s.member s.tally.accounts p) ints exts (record { joined = j; accounts = s.tally.accounts + 1; taken = s.tally.taken + length got; ops = o }))
  took_new ints exts j x o long few free = record {
    owners = cells;
    rows = λ i l. (took i l).0;
    from = λ i l. (took i l).1;
    party = λ i l. (took i l).2;
    more = omega (arith, h.more);
    old = λ g l. get_or-set_other s.member s.tally.accounts g p 0 (λ e. omega (arith, h.more)) ∙ h.old g l;
    new = λ g a l. by_bool (eqb g s.tally.accounts)
        (λ e. let z = eqb-true g s.tally.accounts e in rw (z, get_or-set_same s.member s.tally.accounts p 0 (omega arith)) low)
        (λ e. let z = eqb-false g s.tally.accounts e in rw (get_or-set_other s.member s.tally.accounts g p 0 z) (h.new g a (omega arith)));
    stays = λ q l n. by_bool (eqb q p)
        (λ e. let z = eqb-true q p e in absurd (n (sym (h.stays q l n) ∙ ap (λ (y : ℕ). get_or s.home y 0) z ∙ eqb-true _ _ free)))
        (λ e. let z = eqb-false q p e in get_or-set_other s.home p q x 0 z ∙ h.stays q l n);
  }

-- how many rows are taken, and how many accounts there are, after a move that takes
module _ (class : List ℕ) (f : Fixed) (p j : ℕ) (s : Store) (e : leb f.places p ≡ false) (z : eqb (wanted_of f p j s) 0 ≡ false) where
  moved_taken : (move_store class f p j s).tally.taken ≡ s.tally.taken + length (take_c p class (wanted_of f p j s) f.rows 0 s.owner).rows
  unfolding move_store took_store enter_homes
  moved_taken =
      rw (e, z) (by_bool (eqb (get_or s.home p 0) nowhere)
      (λ a. rw a (by_bool (eqb (length (take_c p class (wanted_of f p j s) f.rows 0 s.owner).rows) 0) (λ b. rw b) (λ b. rw b)))
      (λ a. rw a))

  moved_accounts : eqb (get_or s.home p 0) nowhere ≡ true → eqb (length (take_c p class (wanted_of f p j s) f.rows 0 s.owner).rows) 0 ≡ false
      → (move_store class f p j s).tally.accounts ≡ s.tally.accounts + 1
  unfolding move_store took_store enter_homes
  moved_accounts a b = rw (e, z, a, b)

pub move_traced : {f : Fixed} {s₀ s : Store} (class : List ℕ) (p j : ℕ) → p < 1280 → j < 64 → GoodStore f s → TracedStore f s₀ s → TracedStore f s₀ (move_store class f p j s)
unfolding move_store took_store enter_homes
move_traced {f} {s₀} {s} class p j l jl g h =
    let good = move_good class f p j s l jl g in
    by_bool (leb f.places p)
    (λ e. rw e h)
    (λ e. let low : p < f.places = leb-false f.places p e in
    by_bool (eqb (wanted_of f p j s) 0)
    (λ z. rw (e, z) (record { owners = h.owners; rows = h.rows; from = h.from; party = h.party; more = h.more; old = h.old; new = h.new; stays = h.stays }))
    (λ z. let room : s.tally.taken + length (take_c p class (wanted_of f p j s) f.rows 0 s.owner).rows ≤ length s.taken =
    omega (arith, good.takes, moved_taken class f p j s e z, g.rows_fit, g.taken_long) in
    by_bool (eqb (get_or s.home p 0) nowhere)
    (λ a. by_bool (eqb (length (take_c p class (wanted_of f p j s) f.rows 0 s.owner).rows) 0)
    (λ b. rw (e, z, a, b) (took_in h class p low g.places_fit (wanted_of f p j s) room _ _ _ 0 _))
    (λ b. rw (e, z, a, b) (took_new h class p low g.places_fit (wanted_of f p j s) room _ _ _ j _ g.member_long (omega (arith, good.enters, moved_accounts class f p j s e z a b)) a)))
    (λ a. rw (e, z, a) (took_in h class p low g.places_fit (wanted_of f p j s) room _ _ _ 0 _))))

pub move_joined : (class : List ℕ) (f : Fixed) (p j : ℕ) (s : Store) → (move_store class f p j s).tally.joined ≡ s.tally.joined
unfolding move_store took_store enter_homes
move_joined class f p j s =
    by_bool (leb f.places p)
    (λ e. rw e)
    (λ e. rw e (by_bool (eqb (wanted_of f p j s) 0)
    (λ z. rw z)
    (λ z. rw z (by_bool (eqb (get_or s.home p 0) nowhere)
    (λ a. rw a (by_bool (eqb (length (take_c p class (wanted_of f p j s) f.rows 0 s.owner).rows) 0) (λ b. rw b) (λ b. rw b)))
    (λ a. rw a)))))
