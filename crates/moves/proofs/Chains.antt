-- A walk along the chain of a queue: where it stands is a row of the party or past the rows, and no row that it leaves out is the party's
-- (`Along`). So the turns of the loops that count a queue (`Counting`) and pass over it (`Passing`) do what a look at every row does. Passing
-- over and a move keep the chains, as they only mark rows. Assumes nothing.
use mathlib.Core.Path.{◌≡◌, refl, sym, ap, ◌∙◌}
use mathlib.Core.Logic.{◌⊎◌, inl, inr, ⊎_elim}
use mathlib.Core.List.{List, [], ◌∷◌}
use mathlib.Core.Bool.{true, false, cond}
use Prim.Native.Nat.{ℕ, zero, suc, ◌+◌, ◌-◌, ◌<◌, ◌≤◌}
use native.Mathlib.Nat.{sub-eq-zero_of_le, sub-zero, zero-add}
use native.Mathlib.Omega.{arith}
use lib.Dec.{eqb, leb, ltb}
use lib.ListN.{length, get_or, drop, set, length-set}
use lib.Seq.{get_or-set_same, get_or-set_other}
use borrow.Author.Tests.{eqb-true, eqb-false, eq-eqb, ne_eqb, ltb-true, ltb-false}
use Rattle.numbers.proofs.Bytes.{by_bool}
use Rattle.columns.specs.Lists.{map_i, count_i}
use Rattle.columns.proofs.Scans.{scan, scan_start, scan_end, scan_store, scan_pass, count_step}
use Rattle.moves.specs.declared.Fixed.{Fixed}
use Rattle.moves.specs.Moves.{gone, lapsed, pass_cell, pass_owners, queued_c, wanted_c, take_c, Store, move_store, took_store, wanted_of}
use Rattle.moves.specs.Linked.{first_of, next_of, Linked}

-- what each step from i to k keeps
pub climb : (P : ℕ → Type 0) (d i k : ℕ) → i + d ≡ k → ((j : ℕ) → i ≤ j → j < k → P j → P (j + 1)) → P i → P k
climb P zero i k e step h = let z : k ≡ i = omega arith in rw z h
climb P (suc d) i k e step h = climb P d (i + 1) k (omega arith) (λ j a b. step j (omega arith) b) (step i (omega arith) (omega arith) h)

-- no row from i to below k is owned by p
abbrev pub Clear : (n p : ℕ) (os : List ℕ) (i k : ℕ) → Type 0
Clear n p os i k = (j : ℕ) → j < n → i ≤ j → j < k → eqb (get_or os j 0) p ≡ false

-- a scan that only looks at the rows of p makes nothing of such rows
pub scan_jump : (g : ℕ → ℕ → ℕ) (n : ℕ) (os : List ℕ) (i k : ℕ) → n ≤ length os → i ≤ k
    → ((j : ℕ) → j < n → i ≤ j → j < k → g j (get_or os j 0) ≡ get_or os j 0) → scan g n k os ≡ scan g n i os
scan_jump g n os i k long le same =
    climb (λ j. scan g n j os ≡ scan g n i os) (k - i) i k (omega arith)
    (λ j a b h. by_bool (ltb j n)
    (λ t. let l = ltb-true j n t in scan_pass g n j os l (omega arith) 0 (same j l a b) ∙ h)
    (λ t. let l = ltb-false j n t in scan_end g n (j + 1) os (omega arith) ∙ sym (scan_end g n j os l) ∙ h))
    refl

pub count_jump : (n p : ℕ) (os : List ℕ) (i k : ℕ) → n ≤ length os → i ≤ k → Clear n p os i k
    → count_i (λ j o. eqb o p) (n - k) k (drop k os) ≡ count_i (λ j o. eqb o p) (n - i) i (drop i os)
unfolding count_i
count_jump n p os i k long le clear =
    climb (λ j. count_i (λ q o. eqb o p) (n - j) j (drop j os) ≡ count_i (λ q o. eqb o p) (n - i) i (drop i os)) (k - i) i k (omega arith)
    (λ j a b h. by_bool (ltb j n)
    (λ t. let l = ltb-true j n t in sym (rw (clear j l a b, zero-add) at (count_step (λ q o. eqb o p) n j os 0 l (omega arith))) ∙ h)
    (λ t. let l = ltb-false j n t in let z : n - (j + 1) ≡ 0 = omega arith in rw z (rw (sub-eq-zero_of_le l) at h)))
    refl

-- ---- a walk

pub record Along (plan : List ℕ) (n p : ℕ) (os : List ℕ) (i : ℕ) : Type 0 where
  pub linked : Linked plan n os
  pub mine : i < n → linked.whose i ≡ p

module _ {plan : List ℕ} {n p : ℕ} {os : List ℕ} where
  pub along_start : Linked plan n os → {i : ℕ} → i ≡ first_of plan p → Along plan n p os i
  along_start h {i} e = record { linked = h; mine = λ l. ap h.whose e ∙ h.first_own p (rw e at l) }

  -- a row that the party owns now is a row of its chain
  whose_of : (h : Linked plan n os) → p < 1280 → (j : ℕ) → j < n → get_or os j 0 ≡ p → h.whose j ≡ p
  whose_of h small j l e = ⊎_elim (λ a. sym a ∙ e) (λ a. absurd (omega arith)) (h.owns j l)

  pub clear_start : Linked plan n os → p < 1280 → {i : ℕ} → i ≡ first_of plan p → Clear n p os 0 i
  clear_start h small e j l a b = ne_eqb _ _ (λ z. omega (arith, h.first_least p j l (whose_of h small j l z)))

  module _ {i : ℕ} (v : Along plan n p os i) (here : i < n) {k : ℕ} (e : k ≡ next_of plan i) where
    pub along_next : Along plan n p os k
    along_next = record { linked = v.linked; mine = λ l. ap v.linked.whose e ∙ v.linked.next_own i here (rw e at l) ∙ v.mine here }

    pub above : i < k
    above = omega (arith, v.linked.next_above i here)

    pub clear_next : p < 1280 → Clear n p os (i + 1) k
    clear_next small j l a b =
        ne_eqb _ _ (λ z. omega (arith, v.linked.next_least i j (omega arith) l (whose_of v.linked small j l z ∙ sym (v.mine here))))

-- ---- counting, up to the room

pub record Counting (plan : List ℕ) (n p : ℕ) (os : List ℕ) (room count i : ℕ) : Type 0 where
  pub along : Along plan n p os i
  pub few : count ≤ room
  pub total : count + count_i (λ j o. eqb o p) (n - i) i (drop i os) ≡ queued_c n p os

module _ {plan : List ℕ} {n p : ℕ} {os : List ℕ} (long : n ≤ length os) (party : p < 1280) where
  pub count_start : Linked plan n os → {i : ℕ} → i ≡ first_of plan p → (room : ℕ) → Counting plan n p os room 0 i
  unfolding queued_c
  count_start h {i} e room = record {
    along = along_start h e;
    few = omega arith;
    total = rw (zero-add, count_jump n p os 0 i long (omega arith) (clear_start h party e), sub-zero);
  }

  module _ {room count i : ℕ} (v : Counting plan n p os room count i) where
    pub count_full : room ≤ count → (height held : ℕ) → room ≡ height - held → room ≡ wanted_c (queued_c n p os) height held
    unfolding wanted_c
    count_full full height held e = omega (arith, v.few, v.total)

    pub count_end : n ≤ i → (height held : ℕ) → room ≡ height - held → count ≡ wanted_c (queued_c n p os) height held
    unfolding wanted_c count_i
    count_end past height held e = omega (arith, v.few, rw (sub-eq-zero_of_le past) at v.total)

    module _ (here : i < n) (more : count < room) {k : ℕ} (e : k ≡ next_of plan i) where
      on : count_i (λ j o. eqb o p) (n - i) i (drop i os) ≡ cond (eqb (get_or os i 0) p) 1 0 + count_i (λ j o. eqb o p) (n - k) k (drop k os)
      on =
          let a = above v.along here e in
          rw (count_jump n p os (i + 1) k long (omega arith) (clear_next v.along here e party)) (count_step (λ j o. eqb o p) n i os 0 here (omega arith))

      pub count_one : get_or os i 0 ≡ p → Counting plan n p os room (count + 1) k
      count_one z = record {
        along = along_next v.along here e;
        few = omega arith;
        total = omega (arith, v.total, rw (eq-eqb _ _ z) at on);
      }

      pub count_past : (get_or os i 0 ≡ p → ⊥) → Counting plan n p os room count k
      count_past z = record {
        along = along_next v.along here e;
        few = v.few;
        total = omega (arith, v.total, rw (ne_eqb _ _ z) at on);
      }

-- ---- rows that are marked

-- each owner is what it was, or a mark
abbrev pub Marked : (os os' : List ℕ) → Type 0
Marked os os' = (j : ℕ) → (get_or os' j 0 ≡ get_or os j 0) ⊎ (2048 ≤ get_or os' j 0)

pub marked_linked : {plan : List ℕ} {n : ℕ} {os os' : List ℕ} → Linked plan n os → Marked os os' → Linked plan n os'
marked_linked {plan} {n} {os} {os'} h m = record {
  whose = h.whose;
  owns = λ i l. ⊎_elim (λ e. ⊎_elim (λ a. inl (e ∙ a)) (λ a. inr (omega arith)) (h.owns i l)) (λ a. inr a) (m i);
  first_least = h.first_least;
  first_own = h.first_own;
  next_above = h.next_above;
  next_least = h.next_least;
  next_own = h.next_own;
}

set_marks : (os : List ℕ) (i v : ℕ) → i < length os → 2048 ≤ v → Marked os (set os i v)
set_marks os i v l b j =
    by_bool (eqb j i)
    (λ e. let z = eqb-true j i e in inr (rw (z, get_or-set_same os i v 0 l) b))
    (λ e. let z = eqb-false j i e in inl (get_or-set_other os i j v 0 z))

pub along_mark : {plan : List ℕ} {n p : ℕ} {os : List ℕ} {i : ℕ} → Along plan n p os i → (v : ℕ) → i < length os → 2048 ≤ v
    → Along plan n p (set os i v) i
unfolding marked_linked
along_mark {os = os} {i = i} a v l b = record { linked = marked_linked a.linked (set_marks os i v l b); mine = a.mine }

-- ---- passing over: what is passed, as it is, with what the rest of the scan makes of the rest

pub record Passing (plan : List ℕ) (n p : ℕ) (os₀ os : List ℕ) (i : ℕ) : Type 0 where
  pub along : Along plan n p os i
  pub long : length os ≡ 1024
  pub same : scan (pass_cell plan p) n i os ≡ pass_owners plan n p os₀

pass_jump : (plan : List ℕ) (n p : ℕ) (os : List ℕ) → n ≤ length os → (i k : ℕ) → i ≤ k → Clear n p os i k
    → scan (pass_cell plan p) n k os ≡ scan (pass_cell plan p) n i os
pass_jump plan n p os fit i k le clear = scan_jump (pass_cell plan p) n os i k fit le (λ j l a b. rw (clear j l a b))

module _ {plan : List ℕ} {n p : ℕ} {os₀ : List ℕ} (fit : n ≤ 1024) (party : p < 1280) where
  pub pass_start : length os₀ ≡ 1024 → Linked plan n os₀ → {i : ℕ} → i ≡ first_of plan p → Passing plan n p os₀ os₀ i
  unfolding pass_owners
  pass_start long h {i} e = record {
    along = along_start h e;
    long = long;
    same = pass_jump plan n p os₀ (omega arith) 0 i (omega arith) (clear_start h party e) ∙ scan_start (pass_cell plan p) n 0 os₀;
  }

  module _ {os : List ℕ} {i : ℕ} (v : Passing plan n p os₀ os i) where
    pub pass_end : n ≤ i → os ≡ pass_owners plan n p os₀
    pass_end h = sym (scan_end (pass_cell plan p) n i os h) ∙ v.same

    module _ (here : i < n) {k : ℕ} (e : k ≡ next_of plan i) where
      pub pass_drops : lapsed p (get_or os i 0) (get_or plan i 0) ≡ true → Passing plan n p os₀ (set os i gone) k
      pass_drops t =
          let l : i < length os = omega (arith, v.long) in
          let a = along_mark v.along gone l (omega arith) in
          let w : length (set os i gone) ≡ 1024 = simp length-set v.long in
          record {
            along = along_next a here e;
            long = w;
            same = pass_jump plan n p (set os i gone) (omega arith) (i + 1) k (omega (arith, above a here e)) (clear_next a here e party)
                ∙ scan_store (pass_cell plan p) n i os here l 0 gone (rw t) ∙ v.same;
          }

      pub pass_stays : lapsed p (get_or os i 0) (get_or plan i 0) ≡ false → Passing plan n p os₀ os k
      pass_stays t = record {
        along = along_next v.along here e;
        long = v.long;
        same = pass_jump plan n p os (omega (arith, v.long)) (i + 1) k (omega (arith, above v.along here e)) (clear_next v.along here e party)
            ∙ scan_pass (pass_cell plan p) n i os here (omega (arith, v.long)) 0 (rw t) ∙ v.same;
      }

-- ---- passing over and a take keep the chains

pub take_cell : (p : ℕ) (class : List ℕ) (k m i j : ℕ) (os : List ℕ)
    → (get_or (take_c p class k m i os).owners j 0 ≡ get_or os j 0) ⊎ (2048 ≤ get_or (take_c p class k m i os).owners j 0)
take_cell p class k zero i j os = inl refl
take_cell p class zero (suc m) i j os = inl refl
take_cell p class (suc k) (suc m) i j [] = inl refl
take_cell p class (suc k) (suc m) i zero (o ∷ os) =
    by_bool (eqb o p)
    (λ e. by_bool (eqb (get_or class i 0) 2) (λ d. rw (e, d) (inr (omega arith))) (λ d. rw (e, d) (inr (omega arith))))
    (λ e. rw e (inl refl))
take_cell p class (suc k) (suc m) i (suc j) (o ∷ os) =
    by_bool (eqb o p)
    (λ e. by_bool (eqb (get_or class i 0) 2) (λ d. rw (e, d) (take_cell p class (suc k) m (i + 1) j os)) (λ d. rw (e, d) (take_cell p class k m (i + 1) j os)))
    (λ e. rw e (take_cell p class (suc k) m (i + 1) j os))

pub pass_cell_lem : (class : List ℕ) (p m i j : ℕ) (os : List ℕ)
    → (get_or (map_i (pass_cell class p) m i os) j 0 ≡ get_or os j 0) ⊎ (2048 ≤ get_or (map_i (pass_cell class p) m i os) j 0)
unfolding map_i
pass_cell_lem class p zero i j os = inl refl
pass_cell_lem class p (suc m) i j [] = inl refl
pass_cell_lem class p (suc m) i zero (o ∷ os) =
    by_bool (eqb o p)
    (λ e. by_bool (eqb (get_or class i 0) 2) (λ d. rw (e, d) (inr (omega arith))) (λ d. rw (e, d) (inl refl)))
    (λ e. rw e (inl refl))
pass_cell_lem class p (suc m) i (suc j) (o ∷ os) = pass_cell_lem class p m (i + 1) j os

pub pass_linked : {plan : List ℕ} {n : ℕ} {os : List ℕ} → Linked plan n os → (class : List ℕ) (p : ℕ) → Linked plan n (pass_owners class n p os)
unfolding pass_owners
pass_linked {n = n} {os = os} h class p = marked_linked h (λ j. pass_cell_lem class p n 0 j os)

pub move_linked : {plan : List ℕ} (class : List ℕ) (f : Fixed) (p j : ℕ) (s : Store) → Linked plan f.rows s.owner
    → Linked plan f.rows (move_store class f p j s).owner
unfolding move_store took_store
move_linked class f p j s h =
    by_bool (leb f.places p)
    (λ e. rw e h)
    (λ e. rw e (by_bool (eqb (wanted_of f p j s) 0)
    (λ z. rw z h)
    (λ z. rw z (marked_linked h (λ i. take_cell p class (wanted_of f p j s) f.rows 0 i s.owner)))))
