-- The numbers of a group after a fill: each count, and the last slot number, which is the one given where slots were to be opened.
-- Assumes nothing.
use mathlib.Core.Path.{◌≡◌, refl, sym, ap, ap₂, ◌∙◌}
use mathlib.Core.Bool.{cond}
use mathlib.Core.List.{List}
use mathlib.Core.Option.{Option, some}
use Prim.Native.Nat.{ℕ, zero, suc, ◌+◌, ◌-◌, ◌≤◌}
use native.Mathlib.Omega.{arith}
use lib.Dec.{eqb}
use lib.ListN.{length, get_or, set, length-set}
use lib.Seq.{get_or-set_same, get_or-set_other}
use borrow.Author.Tests.{eq-eqb, ne_eqb}
use Rattle.numbers.proofs.Bytes.{by_bool}
use Rattle.queues.specs.Meant.{if_marked}
use Rattle.settle.specs.Ends.{in_counts}
use Rattle.meaning.specs.Means.{last_after}

module _ (slots accounts n i k last : ℕ) (ns : List ℕ) where
  abbrev first : List ℕ
  first = set (set ns 1 slots) 2 accounts

  abbrev held : List ℕ
  held = set (set (set first 3 (get_or ns 3 0 + n)) 4 (get_or ns 4 0 + i)) 5 (get_or ns 5 0 + (n - i))

  abbrev made : List ℕ
  made = in_counts slots accounts n i k last ns

  held_long : length held ≡ length ns
  held_long =
      length-set (set (set first 3 (get_or ns 3 0 + n)) 4 (get_or ns 4 0 + i)) 5 _ ∙ length-set (set first 3 (get_or ns 3 0 + n)) 4 _ ∙ length-set first 3 _
      ∙ length-set (set ns 1 slots) 2 accounts ∙ length-set ns 1 slots

  pub in_long : length made ≡ length ns
  unfolding in_counts
  in_long = by_bool (eqb k 0) (λ e. rw e held_long) (λ e. rw e (length-set (set held 6 last) 7 1 ∙ length-set held 6 last ∙ held_long))

  -- but for the last number
  held_at : (j : ℕ) → (j ≡ 6 → ⊥) → (j ≡ 7 → ⊥) → get_or made j 0 ≡ get_or held j 0
  unfolding in_counts
  held_at j x y = by_bool (eqb k 0) (λ e. rw e) (λ e. rw e (get_or-set_other (set held 6 last) 7 j 1 0 y ∙ get_or-set_other held 6 j last 0 x))

  -- but for the counts
  entry_at : (j : ℕ) → (j ≡ 1 → ⊥) → (j ≡ 2 → ⊥) → (j ≡ 3 → ⊥) → (j ≡ 4 → ⊥) → (j ≡ 5 → ⊥) → get_or held j 0 ≡ get_or ns j 0
  entry_at j a b c d e =
      get_or-set_other (set (set first 3 (get_or ns 3 0 + n)) 4 (get_or ns 4 0 + i)) 5 j _ 0 e
      ∙ get_or-set_other (set first 3 (get_or ns 3 0 + n)) 4 j _ 0 d
      ∙ get_or-set_other first 3 j _ 0 c
      ∙ get_or-set_other (set ns 1 slots) 2 j accounts 0 b
      ∙ get_or-set_other ns 1 j slots 0 a

  pub in_0 : get_or made 0 0 ≡ get_or ns 0 0
  in_0 = held_at 0 (λ e. omega arith) (λ e. omega arith) ∙ entry_at 0 (λ e. omega arith) (λ e. omega arith) (λ e. omega arith) (λ e. omega arith) (λ e. omega arith)

  -- where no slots were to be opened the last number stays, and what stands behind it stays in any case
  pub in_still : (j : ℕ) → 6 ≤ j → k ≡ 0 → get_or made j 0 ≡ get_or ns j 0
  unfolding in_counts
  in_still j l e = rw (eq-eqb k 0 e) (entry_at j (λ z. omega arith) (λ z. omega arith) (λ z. omega arith) (λ z. omega arith) (λ z. omega arith))

  pub in_rest : (j : ℕ) → 8 ≤ j → get_or made j 0 ≡ get_or ns j 0
  in_rest j l =
      held_at j (λ z. omega arith) (λ z. omega arith)
      ∙ entry_at j (λ z. omega arith) (λ z. omega arith) (λ z. omega arith) (λ z. omega arith) (λ z. omega arith)

  module _ (long : length ns ≡ 16) where
    pub in_6 : (k ≡ 0 → ⊥) → get_or made 6 0 ≡ last
    unfolding in_counts
    in_6 h = rw (ne_eqb k 0 h) (get_or-set_other (set held 6 last) 7 6 1 0 (λ e. omega arith) ∙ get_or-set_same held 6 last 0 (omega (arith, held_long)))

    pub in_7 : (k ≡ 0 → ⊥) → get_or made 7 0 ≡ 1
    unfolding in_counts
    in_7 h = rw (ne_eqb k 0 h) (get_or-set_same (set held 6 last) 7 1 0 (omega (arith, held_long, length-set held 6 last)))

    pub in_1 : get_or made 1 0 ≡ slots
    in_1 =
        held_at 1 (λ e. omega arith) (λ e. omega arith)
        ∙ get_or-set_other (set (set first 3 (get_or ns 3 0 + n)) 4 (get_or ns 4 0 + i)) 5 1 _ 0 (λ e. omega arith)
        ∙ get_or-set_other (set first 3 (get_or ns 3 0 + n)) 4 1 _ 0 (λ e. omega arith)
        ∙ get_or-set_other first 3 1 _ 0 (λ e. omega arith)
        ∙ get_or-set_other (set ns 1 slots) 2 1 accounts 0 (λ e. omega arith)
        ∙ get_or-set_same ns 1 slots 0 (omega arith)

    pub in_2 : get_or made 2 0 ≡ accounts
    in_2 =
        held_at 2 (λ e. omega arith) (λ e. omega arith)
        ∙ get_or-set_other (set (set first 3 (get_or ns 3 0 + n)) 4 (get_or ns 4 0 + i)) 5 2 _ 0 (λ e. omega arith)
        ∙ get_or-set_other (set first 3 (get_or ns 3 0 + n)) 4 2 _ 0 (λ e. omega arith)
        ∙ get_or-set_other first 3 2 _ 0 (λ e. omega arith)
        ∙ get_or-set_same (set ns 1 slots) 2 accounts 0 (omega (arith, length-set ns 1 slots))

    pub in_3 : get_or made 3 0 ≡ get_or ns 3 0 + n
    in_3 =
        held_at 3 (λ e. omega arith) (λ e. omega arith)
        ∙ get_or-set_other (set (set first 3 (get_or ns 3 0 + n)) 4 (get_or ns 4 0 + i)) 5 3 _ 0 (λ e. omega arith)
        ∙ get_or-set_other (set first 3 (get_or ns 3 0 + n)) 4 3 _ 0 (λ e. omega arith)
        ∙ get_or-set_same first 3 _ 0 (omega (arith, length-set (set ns 1 slots) 2 accounts, length-set ns 1 slots))

    pub in_4 : get_or made 4 0 ≡ get_or ns 4 0 + i
    in_4 =
        held_at 4 (λ e. omega arith) (λ e. omega arith)
        ∙ get_or-set_other (set (set first 3 (get_or ns 3 0 + n)) 4 (get_or ns 4 0 + i)) 5 4 _ 0 (λ e. omega arith)
        ∙ get_or-set_same (set first 3 (get_or ns 3 0 + n)) 4 _ 0
        (omega (arith, length-set first 3 (get_or ns 3 0 + n), length-set (set ns 1 slots) 2 accounts, length-set ns 1 slots))

    pub in_5 : get_or made 5 0 ≡ get_or ns 5 0 + (n - i)
    in_5 =
        held_at 5 (λ e. omega arith) (λ e. omega arith)
        ∙ get_or-set_same (set (set first 3 (get_or ns 3 0 + n)) 4 (get_or ns 4 0 + i)) 5 _ 0 (omega (arith, held_long, length-set (set (set first 3 (get_or ns 3 0 + n)) 4 (get_or ns 4 0 + i)) 5 (get_or ns 5 0 + (n - i))))

-- the last number: some slots were to be opened, or none
pub in_last : (slots accounts n i k last : ℕ) (ns : List ℕ) → length ns ≡ 16
    → if_marked (get_or (in_counts slots accounts n i k last ns) 7 0) (get_or (in_counts slots accounts n i k last ns) 6 0) ≡ last_after k (if_marked (get_or ns 7 0) (get_or ns 6 0)) last
unfolding last_after
in_last slots accounts n i zero last ns long =
    rw (in_still slots accounts n i zero last ns 7 (omega arith) refl, in_still slots accounts n i zero last ns 6 (omega arith) refl)
in_last slots accounts n i (suc k) last ns long =
    rw (in_7 slots accounts n i (suc k) last ns long (λ e. omega arith), in_6 slots accounts n i (suc k) last ns long (λ e. omega arith))
