-- The seats of the places that still hold a row: what the loops keep, and that a place is marked exactly if it owns one of the first n rows.
-- Assumes nothing.
use mathlib.Core.Path.{◌≡◌, refl, sym, ap, ap₂, ◌∙◌}
use mathlib.Core.Bool.{Bool, true, false, cond, not}
use mathlib.Core.List.{List, [], ◌∷◌, ◌++◌, append-nil}
use Prim.Native.Nat.{ℕ, zero, suc, ◌+◌, ◌-◌, ◌<◌, ◌≤◌}
use native.Mathlib.Nat.{zero-add}
use native.Mathlib.Numerals.{add-one}
use native.Mathlib.Omega.{arith}
use lib.Dec.{eqb}
use lib.ListN.{length, get_or, set, length-set}
use lib.Seq.{get_or-set_same, get_or-set_other}
use borrow.Author.Tests.{eq-eqb, ne_eqb, eqb-true, eqb-false, ltb-false}
use Rattle.numbers.proofs.Bytes.{by_bool}
use Rattle.columns.specs.Lists.{pick, map_i, rank}
use Rattle.columns.specs.Laid.{is_place}
use Rattle.columns.proofs.Tabs.{pick_snoc}
use Rattle.rules.specs.World.{is_nil}
use Rattle.queues.specs.Compact.{seats_c}
use Rattle.leaving.specs.Seats.{Seated}
use Rattle.settle.specs.Ends.{held_by, emptied}

-- ---- the places that hold a row

pub record Marking (owner : List ℕ) (n : ℕ) (held₀ held : List ℕ) (i : ℕ) : Type 0 where
  pub within : i ≤ n
  pub long : length held ≡ length held₀
  pub cells : held ≡ held_by i owner held₀

pub mark_start : (owner : List ℕ) (n : ℕ) (held : List ℕ) → Marking owner n held held 0
unfolding held_by
mark_start owner n held = record { within = omega arith; long = refl; cells = refl }

module _ {owner : List ℕ} {n : ℕ} {held₀ held : List ℕ} {i : ℕ} (v : Marking owner n held₀ held i) where
  pub mark_step : i < n → is_place (get_or owner i 0) ≡ true → (p : ℕ) → p ≡ get_or owner i 0 → Marking owner n held₀ (set held p 1) (i + 1)
  unfolding held_by
  mark_step l t p e = record {
    within = omega arith;
    long = length-set held p 1 ∙ v.long;
    cells = rw (add-one, e, t) (ap (λ (s : List ℕ). set s (get_or owner i 0) 1) v.cells);
  }

  pub mark_skip : i < n → is_place (get_or owner i 0) ≡ false → Marking owner n held₀ held (i + 1)
  unfolding held_by
  mark_skip l t = record { within = omega arith; long = v.long; cells = rw (add-one, t) v.cells }

  pub mark_end : n ≤ i → held ≡ held_by n owner held₀
  mark_end h = let e : i ≡ n = omega (arith, v.within) in v.cells ∙ ap (λ (j : ℕ). held_by j owner held₀) e

pub length_held_by : (n : ℕ) (owner marks : List ℕ) → length (held_by n owner marks) ≡ length marks
unfolding held_by
length_held_by zero owner marks = refl
length_held_by (suc n) owner marks =
    by_bool (is_place (get_or owner n 0))
    (λ e. rw e (length-set (held_by n owner marks) (get_or owner n 0) 1 ∙ length_held_by n owner marks))
    (λ e. rw e (length_held_by n owner marks))

nil_snoc : (xs : List ℕ) (x : ℕ) → is_nil (xs ++ (x ∷ [])) ≡ false
unfolding is_nil
nil_snoc [] x = refl
nil_snoc (y ∷ xs) x = refl

module _ (owner marks : List ℕ) (p : ℕ) (low : p < length marks) (small : p < 256) (fresh : get_or marks p 0 ≡ 0) where
  -- one more row, of p or of another
  emptied_own : (n : ℕ) → n < length owner → get_or owner n 0 ≡ p → emptied (suc n) owner p ≡ false
  unfolding emptied
  emptied_own n l e = ap is_nil (pick_snoc (λ (i : ℕ). i) p n 0 n owner (sym (zero-add n)) l) ∙ rw (eq-eqb (get_or owner n 0) p e) (nil_snoc (pick (λ i. i) p n 0 owner) n)

  emptied_other : (n : ℕ) → n < length owner → (get_or owner n 0 ≡ p → ⊥) → emptied (suc n) owner p ≡ emptied n owner p
  unfolding emptied
  emptied_other n l e = ap is_nil (pick_snoc (λ (i : ℕ). i) p n 0 n owner (sym (zero-add n)) l ∙ rw (ne_eqb (get_or owner n 0) p e) (append-nil (pick (λ i. i) p n 0 owner)))

  pub held_is : (n : ℕ) → n ≤ length owner → get_or (held_by n owner marks) p 0 ≡ cond (emptied n owner p) 0 1
  unfolding held_by emptied pick is_nil
  held_is zero l = fresh
  held_is (suc n) l =
      let ih = held_is n (omega arith) in
      let o = get_or owner n 0 in
      by_bool (is_place o)
      (λ t. by_bool (eqb o p)
      (λ e. let z = eqb-true o p e in
      rw (t, emptied_own n (omega arith) z, z) (get_or-set_same (held_by n owner marks) p 1 0 (omega (arith, length_held_by n owner marks))))
      (λ e. rw (t, emptied_other n (omega arith) (eqb-false o p e)) (get_or-set_other (held_by n owner marks) o p 1 0 (λ z. eqb-false o p e (sym z)) ∙ ih)))
      (λ t. rw (t, emptied_other n (omega arith) (λ z. let h = ltb-false o 256 t in omega arith)) ih)

  pub goes_is : (n : ℕ) → n ≤ length owner → not (eqb (get_or (held_by n owner marks) p 0) 1) ≡ emptied n owner p
  goes_is n l =
      by_bool (emptied n owner p)
      (λ e. rw (held_is n l, e))
      (λ e. rw (held_is n l, e))

-- ---- seats by a test that is looked at below a

rank_same : (s t : ℕ → Bool) (i : ℕ) → ((j : ℕ) → j < i → s j ≡ t j) → rank s i ≡ rank t i
unfolding rank
rank_same s t zero h = refl
rank_same s t (suc i) h = rw (h i (omega arith), rank_same s t i (λ j l. h j (omega arith)))

map_same : (f g : ℕ → ℕ → ℕ) (m i : ℕ) (xs : List ℕ) → ((j x : ℕ) → i ≤ j → j < i + m → f j x ≡ g j x) → map_i f m i xs ≡ map_i g m i xs
unfolding map_i
map_same f g zero i xs h = refl
map_same f g (suc m) i [] h = refl
map_same f g (suc m) i (x ∷ xs) h = ap₂ ◌∷◌ (h i x (omega arith) (omega arith)) (map_same f g m (i + 1) xs (λ j y a b. h j y (omega arith) (omega arith)))

pub seated_same : (goes goes' : ℕ → Bool) (a : ℕ) (seats₀ seats : List ℕ) (r : ℕ) → ((p : ℕ) → p < a → goes p ≡ goes' p)
    → Seated goes a seats₀ seats r → Seated goes' a seats₀ seats r
unfolding seats_c
seated_same goes goes' a seats₀ seats r h s =
    let ranks : (p : ℕ) → p ≤ a → rank (λ q. not (goes q)) p ≡ rank (λ q. not (goes' q)) p =
    λ p l. rank_same (λ q. not (goes q)) (λ q. not (goes' q)) p (λ j k. ap not (h j (omega arith))) in
    record {
      seats = s.seats ∙ map_same _ _ a 0 seats₀ (λ j x b c. ap₂ (λ (t : Bool) (k : ℕ). cond t x k) (h j (omega arith)) (ranks j (omega arith)));
      stay = s.stay ∙ ranks a (omega arith);
    }
