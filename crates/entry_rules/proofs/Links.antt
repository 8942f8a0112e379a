-- Rows that places own, chained from the last to the first, make a plan whose chains are their queues (`chained`); the cells in front of the
-- chains stay (`link_class`). Assumes nothing.
use mathlib.Core.Path.{◌≡◌, refl, sym, ap, ◌∙◌}
use mathlib.Core.Logic.{inl}
use mathlib.Core.List.{List}
use Prim.Native.Nat.{ℕ, zero, suc, ◌+◌, ◌<◌, ◌≤◌}
use native.Mathlib.Omega.{arith}
use lib.Dec.{eqb, ltb}
use lib.ListN.{length, get_or, set, length-set}
use lib.Seq.{get_or-set_same, get_or-set_other}
use borrow.Author.Tests.{eqb-true, eqb-false, ltb-true, ltb-false}
use Rattle.numbers.proofs.Bytes.{by_bool}
use Rattle.moves.specs.Linked.{first_of, Linked}
use Rattle.entry.specs.Entry.{link_row, link_c}

pub link_class : (owner : List ℕ) (m : ℕ) (plan : List ℕ) (i : ℕ) → i < 1024 → get_or (link_c owner m plan) i 0 ≡ get_or plan i 0
unfolding link_c
link_class owner zero plan i l = refl
link_class owner (suc m) plan i l =
    let q = get_or owner m 0 in
    let x = get_or plan (2048 + q) 0 in
    link_class owner m (link_row owner m plan) i l
    ∙ get_or-set_other (set plan (1024 + m) x) (2048 + q) i m 0 (λ e. omega arith)
    ∙ get_or-set_other plan (1024 + m) i x 0 (λ e. omega arith)

-- the rows from m on, of n, are chained
pub record From (owner : List ℕ) (n m : ℕ) (plan : List ℕ) : Type 0 where
  pub long : length plan ≡ 2304
  pub first_from : (p : ℕ) → p < 256 → m ≤ get_or plan (2048 + p) 0
  pub first_least : (p i : ℕ) → p < 256 → m ≤ i → i < n → get_or owner i 0 ≡ p → get_or plan (2048 + p) 0 ≤ i
  pub first_own : (p : ℕ) → p < 256 → get_or plan (2048 + p) 0 < n → get_or owner (get_or plan (2048 + p) 0) 0 ≡ p
  pub next_above : (i : ℕ) → m ≤ i → i < n → i < get_or plan (1024 + i) 0
  pub next_least : (i j : ℕ) → m ≤ i → i < j → j < n → get_or owner j 0 ≡ get_or owner i 0 → get_or plan (1024 + i) 0 ≤ j
  pub next_own : (i : ℕ) → m ≤ i → i < n → get_or plan (1024 + i) 0 < n → get_or owner (get_or plan (1024 + i) 0) 0 ≡ get_or owner i 0

pub unlinked : (owner : List ℕ) (n : ℕ) → n ≤ 1024 → (plan : List ℕ) → length plan ≡ 2304 → ((p : ℕ) → p < 256 → get_or plan (2048 + p) 0 ≡ 1024)
    → From owner n n plan
unlinked owner n fit plan long none = record {
  long = long;
  first_from = λ p s. omega (arith, none p s);
  first_least = λ p i s a b e. absurd (omega arith);
  first_own = λ p s a. absurd (omega (arith, none p s));
  next_above = λ i a b. absurd (omega arith);
  next_least = λ i j a b c e. absurd (omega arith);
  next_own = λ i a b c. absurd (omega arith);
}

module _ (owner : List ℕ) (n : ℕ) (fit : n ≤ 1024) (owned : (i : ℕ) → i < n → get_or owner i 0 < 256) where
  -- row m goes before the others of its place
  module _ (m : ℕ) (l : m < n) {plan : List ℕ} (v : From owner n (suc m) plan) where
    abbrev q : ℕ
    q = get_or owner m 0

    abbrev x : ℕ
    x = get_or plan (2048 + q) 0

    abbrev made : List ℕ
    made = link_row owner m plan

    small : q < 256
    small = owned m l

    first_here : get_or made (2048 + q) 0 ≡ m
    first_here = get_or-set_same (set plan (1024 + m) x) (2048 + q) m 0 (simp length-set (omega (arith, v.long, small)))

    first_else : (p : ℕ) → (p ≡ q → ⊥) → get_or made (2048 + p) 0 ≡ get_or plan (2048 + p) 0
    first_else p n≢ =
        get_or-set_other (set plan (1024 + m) x) (2048 + q) (2048 + p) m 0 (λ e. n≢ (omega arith))
        ∙ get_or-set_other plan (1024 + m) (2048 + p) x 0 (λ e. omega arith)

    next_here : get_or made (1024 + m) 0 ≡ x
    next_here =
        get_or-set_other (set plan (1024 + m) x) (2048 + q) (1024 + m) m 0 (λ e. omega arith)
        ∙ get_or-set_same plan (1024 + m) x 0 (omega (arith, v.long))

    next_else : (i : ℕ) → i < n → (i ≡ m → ⊥) → get_or made (1024 + i) 0 ≡ get_or plan (1024 + i) 0
    next_else i a n≢ =
        get_or-set_other (set plan (1024 + m) x) (2048 + q) (1024 + i) m 0 (λ e. omega arith)
        ∙ get_or-set_other plan (1024 + m) (1024 + i) x 0 (λ e. n≢ (omega arith))

    linked_row : From owner n m made
    linked_row = record {
      long = simp length-set v.long;
      first_from = λ p s. by_bool (eqb p q)
          (λ t. let e = eqb-true p q t in rw (e, first_here) (omega arith))
          (λ t. let e = eqb-false p q t in rw (first_else p e) (omega (arith, v.first_from p s)));
      first_least = λ p i s a b o. by_bool (eqb p q)
          (λ t. let e = eqb-true p q t in rw (e, first_here) a)
          (λ t. let e = eqb-false p q t in rw (first_else p e) (v.first_least p i s (later p i a o e) b o));
      first_own = λ p s a. by_bool (eqb p q)
          (λ t. let e = eqb-true p q t in rw (e, first_here))
          (λ t. let e = eqb-false p q t in rw (first_else p e) (v.first_own p s (rw (first_else p e) at a)));
      next_above = λ i a b. by_bool (eqb i m)
          (λ t. let e = eqb-true i m t in rw (e, next_here) (omega (arith, v.first_from q small)))
          (λ t. let e = eqb-false i m t in rw (next_else i b e) (v.next_above i (past i a e) b));
      next_least = λ i j a b c o. by_bool (eqb i m)
          (λ t. let e = eqb-true i m t in rw (e, next_here) (v.first_least q j small (omega arith) c (rw e at o)))
          (λ t. let e = eqb-false i m t in rw (next_else i (omega arith) e) (v.next_least i j (past i a e) b c o));
      next_own = λ i a b c. by_bool (eqb i m)
          (λ t. let e = eqb-true i m t in rw (e, next_here) (v.first_own q small (rw (e, next_here) at c)))
          (λ t. let e = eqb-false i m t in rw (next_else i b e) (v.next_own i (past i a e) b (rw (next_else i b e) at c)));
    }
      where
        past : (i : ℕ) → m ≤ i → (i ≡ m → ⊥) → suc m ≤ i
        past i a e = by_bool (ltb m i) (λ t. ltb-true m i t) (λ t. let z = ltb-false m i t in absurd (e (omega arith)))

        later : (p i : ℕ) → m ≤ i → get_or owner i 0 ≡ p → (p ≡ q → ⊥) → suc m ≤ i
        later p i a o e = past i a (λ z. e (sym o ∙ ap (λ (k : ℕ). get_or owner k 0) z))

  pub all_linked : (m : ℕ) → m ≤ n → {plan : List ℕ} → From owner n m plan → From owner n 0 (link_c owner m plan)
  unfolding link_c
  all_linked zero l v = v
  all_linked (suc m) l v = all_linked m (omega arith) (linked_row m (omega arith) v)

  -- of a column that has the same owners
  pub chained : {plan : List ℕ} → From owner n 0 plan → (os : List ℕ) → ((i : ℕ) → i < n → get_or os i 0 ≡ get_or owner i 0) → Linked plan n os
  unfolding first_of
  chained v os same = record {
    whose = λ i. get_or owner i 0;
    owns = λ i l. inl (same i l);
    first_least = λ p i l e. by_bool (ltb p 256)
        (λ t. rw t (v.first_least p i (ltb-true p 256 t) (omega arith) l e))
        (λ t. let b = ltb-false p 256 t in absurd (omega (arith, owned i l)));
    first_own = λ p l. by_bool (ltb p 256)
        (λ t. rw t (v.first_own p (ltb-true p 256 t) (rw t at l)))
        (λ t. let b : 1024 < n = rw t at l in absurd (omega arith));
    next_above = λ i l. v.next_above i (omega arith) l;
    next_least = λ i j a b e. v.next_least i j (omega arith) a b e;
    next_own = λ i l a. v.next_own i (omega arith) l a;
  }
