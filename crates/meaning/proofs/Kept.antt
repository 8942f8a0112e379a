-- Every routine leaves well-formed columns well formed, and their queues chained: a check, passing over, a move, and the walks made of them,
-- by induction. An account of the group stays where it is. Assumes nothing.
use mathlib.Core.Path.{◌≡◌, sym, ap}
use mathlib.Core.Logic.{◌⊎◌, inl, inr, ⊎_elim}
use mathlib.Core.List.{List}
use mathlib.Core.Bool.{Bool, true, false, cond, not}
use Prim.Native.Nat.{ℕ, zero, suc, ◌+◌, ◌-◌, ◌<◌, ◌≤◌}
use native.Mathlib.Omega.{arith}
use lib.Dec.{eqb, leb}
use lib.ListN.{length, get_or, set}
use lib.Seq.{get_or-set_same, get_or-set_other}
use borrow.Author.Tests.{eq-eqb, eqb-true, eqb-false}
use Rattle.moves.specs.declared.Fixed.{Fixed}
use Rattle.moves.specs.Moves.{Store, store, Marks, marks, check_marks, move_store, took_store, enter_homes, take_c, wanted_of, nowhere}
use Rattle.moves.specs.Good.{GoodMarks}
use Rattle.moves.proofs.Counts.{some_pass}
use Rattle.moves.proofs.Keeps.{check_good, pass_good, tally_good, move_good}
use Rattle.moves.proofs.Chains.{pass_linked, move_linked}
use Rattle.numbers.proofs.Bytes.{by_bool}
use Rattle.meaning.specs.Meaning.{Columns, marks_of, check_c, pass_c, move_c}
use Rattle.meaning.specs.Walks.{Good, Ready, skip_c, free_c, moves_at, held_c, full_c, try_c, meet_c, seek_c, reach_c, own_c, visit_c}

module _ (cost : List ℕ) (p : ℕ) (m : Marks) where
  pub check_taken : (check_marks cost p m).tally.taken ≡ m.tally.taken
  unfolding check_marks
  check_taken = by_bool (eqb (get_or m.mark p 0) 2) (λ e. rw e) (λ e. by_bool (eqb (get_or m.mark p 0) 1) (λ h. rw (e, h)) (λ h. rw (e, h)))

  pub check_accounts : (check_marks cost p m).tally.accounts ≡ m.tally.accounts
  unfolding check_marks
  check_accounts = by_bool (eqb (get_or m.mark p 0) 2) (λ e. rw e) (λ e. by_bool (eqb (get_or m.mark p 0) 1) (λ h. rw (e, h)) (λ h. rw (e, h)))

-- what holds of the group as it was, and of the group with a party in it that was not, holds after a move
pub move_roll : (class : List ℕ) (f : Fixed) (p j : ℕ) (s : Store) (P : (home member : List ℕ) → ℕ → Type 0) → P s.home s.member s.tally.accounts
    → (get_or s.home p 0 ≡ nowhere → P (set s.home p j) (set s.member s.tally.accounts p) (s.tally.accounts + 1))
    → P (move_store class f p j s).home (move_store class f p j s).member (move_store class f p j s).tally.accounts
unfolding move_store took_store enter_homes
move_roll class f p j s P h k =
    by_bool (leb f.places p)
    (λ e. rw e h)
    (λ e. rw e (by_bool (eqb (wanted_of f p j s) 0)
    (λ z. rw z h)
    (λ z. rw z (by_bool (eqb (get_or s.home p 0) nowhere)
    (λ a. rw a (by_bool (eqb (length (take_c p class (wanted_of f p j s) f.rows 0 s.owner).rows) 0)
    (λ b. rw b h)
    (λ b. rw b (k (eqb-true (get_or s.home p 0) nowhere a)))))
    (λ a. rw a h)))))

-- the first n members are parties, and live in slots
abbrev Parties : (member : List ℕ) → ℕ → Type 0
Parties member n = (g : ℕ) → g < n → get_or member g 0 < 1280

abbrev Homes : (home member : List ℕ) → ℕ → Type 0
Homes home member n = (g : ℕ) → g < n → get_or home (get_or member g 0) 0 < 64

-- where a party enters that was not in the group
module _ (home member : List ℕ) (n : ℕ) (h : Homes home member n) (p j : ℕ) (free : get_or home p 0 ≡ nowhere) where
  pub others_stay : (g : ℕ) → g < n → get_or (set member n p) g 0 ≡ get_or member g 0
  others_stay g l = get_or-set_other member n g p 0 (λ e. omega arith)

  pub others_live : (g : ℕ) → g < n → get_or (set home p j) (get_or (set member n p) g 0) 0 ≡ get_or home (get_or member g 0) 0
  others_live g l =
      rw (others_stay g l)
      (get_or-set_other home p (get_or member g 0) j 0 (λ e. let w = h g l in let z : get_or home (get_or member g 0) 0 ≡ nowhere = rw e free in omega arith))

  -- it is the last member
  module _ (room : n < length member) where
    newcomer : (g : ℕ) → g < n + 1 → (g < n) ⊎ (get_or (set member n p) g 0 ≡ p)
    newcomer g l =
        by_bool (eqb g n)
        (λ c. inr (let d = eqb-true g n c in rw d (get_or-set_same member n p 0 room)))
        (λ c. inl (let d = eqb-false g n c in omega arith))

    enters_parties : p < 1280 → Parties member n → Parties (set member n p) (n + 1)
    enters_parties l ps g k = ⊎_elim (λ q. rw (others_stay g q) (ps g q)) (λ e. rw e l) (newcomer g k)

    enters_homes : p < length home → j < 64 → Homes (set home p j) (set member n p) (n + 1)
    enters_homes l jl g k = ⊎_elim (λ q. rw (others_live g q) (h g q)) (λ e. omega (arith, ap (λ x. get_or (set home p j) x 0) e, get_or-set_same home p j 0 l)) (newcomer g k)

move_joined : (class : List ℕ) (f : Fixed) (p j : ℕ) (s : Store) → (move_store class f p j s).tally.joined ≡ s.tally.joined
unfolding move_store took_store enter_homes
move_joined class f p j s =
    by_bool (leb f.places p)
    (λ e. rw e)
    (λ e. rw e (by_bool (eqb (wanted_of f p j s) 0)
    (λ z. rw z)
    (λ z. rw z (by_bool (eqb (get_or s.home p 0) nowhere)
    (λ a. rw a (by_bool (eqb (length (take_c p class (wanted_of f p j s) f.rows 0 s.owner).rows) 0) (λ b. rw b) (λ b. rw b)))
    (λ a. rw a)))))

module _ {f : Fixed} {cost : List ℕ} {m : Columns} (g : Good f cost m) (class : List ℕ) (p : ℕ) (l : p < 1280) where
  pub check_keeps : Good f cost (check_c cost p m)
  check_keeps = record {
    store = tally_good f m.store _ g.store (check_taken cost p (marks_of m)) (check_accounts cost p (marks_of m));
    marks = check_good cost p (marks_of m) l g.marks;
    cost_long = g.cost_long;
    parties = λ i h. g.parties i (omega (arith, check_accounts cost p (marks_of m)));
    homes = λ i h. g.homes i (omega (arith, check_accounts cost p (marks_of m)));
  }

  pub pass_keeps : Good f cost (pass_c class f p m)
  pass_keeps = record {
    store = pass_good class f p m.store g.store;
    marks = g.marks;
    cost_long = g.cost_long;
    parties = g.parties;
    homes = g.homes;
  }

  -- the party that enters the group has a cell left for it
  room_left : get_or m.store.home p 0 ≡ nowhere → m.store.tally.accounts < length m.store.member
  room_left e =
      omega (arith, g.store.enters, g.store.member_long, some_pass (eqb nowhere) m.store.home p (omega (arith, g.store.home_long)) (eq-eqb nowhere _ (sym e)))

  pub move_keeps : (j : ℕ) → j < 64 → Good f cost (move_c class f p j m)
  move_keeps j h = record {
    store = move_good class f p j m.store l h g.store;
    marks = moved_marks;
    cost_long = g.cost_long;
    parties = move_roll class f p j m.store (λ home member n. Parties member n) g.parties
        (λ e. enters_parties m.store.home m.store.member m.store.tally.accounts g.homes p j e (room_left e) l g.parties);
    homes = move_roll class f p j m.store Homes g.homes
        (λ e. enters_homes m.store.home m.store.member m.store.tally.accounts g.homes p j e (room_left e) (omega (arith, g.store.home_long)) h);
  }
    where
      moved_marks : GoodMarks (marks m.mark m.joined (move_store class f p j m.store).tally)
      moved_marks = record {
        mark_long = g.marks.mark_long;
        joined_long = g.marks.joined_long;
        joins = rw (move_joined class f p j m.store)
            g.marks.joins;
      }

module _ {f : Fixed} {class cost : List ℕ} {m : Columns} (g : Ready f class cost m) (p : ℕ) (l : p < 1280) where
  check_ready : Ready f class cost (check_c cost p m)
  check_ready = record { good = check_keeps g.good class p l; linked = g.linked }

  pass_ready : Ready f class cost (pass_c class f p m)
  pass_ready = record { good = pass_keeps g.good class p l; linked = pass_linked g.linked class p }

  move_ready : (j : ℕ) → j < 64 → Ready f class cost (move_c class f p j m)
  move_ready j h = record { good = move_keeps g.good class p l j h; linked = move_linked class f p j m.store g.linked }

module _ {f : Fixed} {class cost : List ℕ} {m : Columns} (g : Ready f class cost m) (j p : ℕ) (l : p < 1280) (h : j < 64) where
  pub try_keeps : Ready f class cost (try_c class cost f j p m)
  unfolding try_c
  try_keeps =
      by_bool (skip_c p m)
      (λ e. rw e (pass_ready (check_ready g p l) p l))
      (λ e. rw e (move_ready (check_ready g p l) p l j h))

  pub meet_keeps : Ready f class cost (meet_c class cost f j p m)
  unfolding meet_c
  meet_keeps = by_bool (free_c p m) (λ e. rw e try_keeps) (λ e. rw e (pass_ready g p l))

pub move_more : (class : List ℕ) (f : Fixed) (p j : ℕ) (s : Store) → s.tally.accounts ≤ (move_store class f p j s).tally.accounts
move_more class f p j s = move_roll class f p j s (λ home member n. s.tally.accounts ≤ n) (omega arith) (λ e. omega arith)

pub try_more : (class cost : List ℕ) (f : Fixed) (j p : ℕ) (m : Columns) → m.store.tally.accounts ≤ (try_c class cost f j p m).store.tally.accounts
unfolding try_c
try_more class cost f j p m =
    let e = check_accounts cost p (marks_of m) in
    by_bool (skip_c p m)
    (λ h. rw h (omega (arith, e)))
    (λ h. rw h (omega (arith, e, move_more class f p j (check_c cost p m).store)))

-- what both branches have, a test that chooses between them has
pub either : {A : Type 0} (P : A → Type 0) (b : Bool) {x y : A} → P x → P y → P (cond b x y)
either P true h k = h
either P false h k = k

pub own_keeps : (class cost : List ℕ) (f : Fixed) (j : ℕ) → j < 64 → (r g : ℕ) (m : Columns) → Ready f class cost m → g + r ≤ m.store.tally.accounts
    → Ready f class cost (own_c class cost f j r g m)
unfolding own_c
own_keeps class cost f j jl zero g m v h = v
own_keeps class cost f j jl (suc r) g m v h =
    let p = get_or m.store.member g 0 in
    let t = try_c class cost f j p m in
    let k : Ready f class cost t = try_keeps v j p (v.good.parties g (omega arith)) jl in
    either (Ready f class cost) (eqb (get_or m.store.home p 0) j)
    (either (Ready f class cost) (cond (not (skip_c p m)) (full_c f.height (held_c j t)) false) k
    (own_keeps class cost f j jl r (g + 1) t k (omega (arith, try_more class cost f j p m))))
    (own_keeps class cost f j jl r (g + 1) m v (omega arith))

-- an account of the group stays where it is
module _ (class cost : List ℕ) (f : Fixed) (j p : ℕ) where
  move_home : (s : Store) → eqb (get_or s.home p 0) nowhere ≡ false → (move_store class f p j s).home ≡ s.home
  unfolding move_store took_store enter_homes
  move_home s h = by_bool (leb f.places p) (λ e. rw e) (λ e. rw e (by_bool (eqb (wanted_of f p j s) 0) (λ z. rw z) (λ z. rw (z, h))))

  move_party : (s : Store) → eqb (get_or s.home p 0) nowhere ≡ false → (move_store class f p j s).member ≡ s.member
  unfolding move_store took_store enter_homes
  move_party s h = by_bool (leb f.places p) (λ e. rw e) (λ e. rw e (by_bool (eqb (wanted_of f p j s) 0) (λ z. rw z) (λ z. rw (z, h))))

  move_accounts : (s : Store) → eqb (get_or s.home p 0) nowhere ≡ false → (move_store class f p j s).tally.accounts ≡ s.tally.accounts
  unfolding move_store took_store enter_homes
  move_accounts s h = by_bool (leb f.places p) (λ e. rw e) (λ e. rw e (by_bool (eqb (wanted_of f p j s) 0) (λ z. rw z) (λ z. rw (z, h))))

  module _ (m : Columns) (h : free_c p m ≡ false) where
    pub try_home : (try_c class cost f j p m).store.home ≡ m.store.home
    unfolding try_c
    try_home = by_bool (skip_c p m) (λ e. rw e) (λ e. rw e (move_home (check_c cost p m).store h))

    pub try_party : (try_c class cost f j p m).store.member ≡ m.store.member
    unfolding try_c
    try_party = by_bool (skip_c p m) (λ e. rw e) (λ e. rw e (move_party (check_c cost p m).store h))

module _ (class cost : List ℕ) (f : Fixed) (j : ℕ) (jl : j < 64) where
  pub reach_keeps : (r i : ℕ) (m : Columns) → Ready f class cost m → ((k : ℕ) → k < r → i + k < 1280) → Ready f class cost (reach_c class cost f j r i m).now
  unfolding reach_c
  reach_keeps zero i m g h = g
  reach_keeps (suc r) i m g h =
      let t = meet_keeps g j i (omega (arith, h 0 (omega arith))) jl in
      by_bool (cond (moves_at m.store.home m.mark i) (full_c f.height (held_c j (meet_c class cost f j i m))) false)
      (λ e. rw e t)
      (λ e. rw e (reach_keeps r (i + 1) (meet_c class cost f j i m) t (λ k l. omega (arith, h (suc k) (omega arith)))))

  pub seek_keeps : (r i : ℕ) (m : Columns) → Ready f class cost m → ((k : ℕ) → k < r → i + k < 1280) → Ready f class cost (seek_c class cost f j r i m).now
  unfolding seek_c
  seek_keeps zero i m g h = g
  seek_keeps (suc r) i m g h =
      let t = meet_keeps g j i (omega (arith, h 0 (omega arith))) jl in
      by_bool (eqb (held_c j (meet_c class cost f j i m)) 0)
      (λ e. rw e (seek_keeps r (i + 1) (meet_c class cost f j i m) t (λ k l. omega (arith, h (suc k) (omega arith)))))
      (λ e. rw e t)

  pub visit_keeps : (i : ℕ) (m : Columns) → Ready f class cost m → Ready f class cost (visit_c class cost f j i m).now
  unfolding visit_c
  visit_keeps i m g =
      let o = own_c class cost f j m.store.tally.accounts 0 m in
      let k : Ready f class cost o = own_keeps class cost f j jl m.store.tally.accounts 0 m g (omega arith) in
      by_bool (full_c f.height (held_c j o))
      (λ e. rw e k)
      (λ e. rw e (reach_keeps (f.places - i) i o k (λ x l. omega (arith, g.good.store.places_fit))))
