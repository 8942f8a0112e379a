-- The loop of `reindex`: after i slots each bucket is its entries before the fill without those that left it, the first of them aside, and
-- behind them those that came. Assumes nothing.
use mathlib.Core.Path.{◌≡◌, refl, sym, ap, ap₂, ◌∙◌, subst}
use mathlib.Core.Bool.{Bool, true, false, cond, not, ◌&&◌}
use mathlib.Core.Logic.{inl, inr}
use mathlib.Core.List.{List, [], ◌∷◌, ◌++◌, append-nil, append_assoc}
use Prim.Native.Nat.{ℕ, ◌+◌, ◌<◌, ◌≤◌}
use native.Mathlib.Omega.{arith}
use lib.Dec.{eqb}
use lib.ListN.{length, get_or, take, set, replicate, length-set, get_or-replicate}
use lib.Seq.{length-take-le}
use borrow.Author.Tests.{eq-eqb, ne_eqb, eqb-true}
use Rattle.rules.specs.World.{keep, is_member, is_nil}
use Rattle.demands.proofs.Rows.{or_cases}
use Rattle.demands.proofs.Slots.{is_member_append}
use Rattle.demands.proofs.TidyIndex.{kept_in, none_in}
use Rattle.numbers.proofs.Bytes.{by_bool}
use Rattle.columns.specs.Lists.{gather}
use Rattle.buckets.specs.Cells.{bucket_of, index, GoodBuckets}
use Rattle.buckets.specs.Moves.{Leaves, moved_on, MayPut, MayReindex}
use Rattle.buckets.proofs.Cells.{length_index, at_index}
use Rattle.buckets.proofs.Entries.{other}
use Rattle.buckets.proofs.Leaving.{stay, stay_none, leave_step, set_at, moved_at}
use Rattle.buckets.proofs.Picked.{picked_next, not_picked, picked_in, numbers_apart, number_among, no_longer}

module _ (numbers olds news : List ℕ) where
  -- slot j changes and leaves bucket c, or comes to it
  abbrev pub leaves : ℕ → ℕ → Bool
  leaves c j = not (eqb (get_or news j 0) (get_or olds j 0)) && eqb (get_or olds j 0) c

  abbrev pub comes : ℕ → ℕ → Bool
  comes c j = not (eqb (get_or news j 0) (get_or olds j 0)) && eqb (get_or news j 0) c

  -- those that do so among the first i
  unfoldable pub leavers : ℕ → ℕ → List ℕ
  leavers c i = gather (leaves c) (λ j. get_or numbers j 0) i 0

  unfoldable pub comers : ℕ → ℕ → List ℕ
  comers c i = gather (comes c) (λ j. get_or numbers j 0) i 0

  -- bucket c after the first i slots
  abbrev pub after : ℕ → ℕ → List ℕ → List ℕ
  after c i b = stay (leavers c i) b ++ comers c i

  leavers_next : (c i : ℕ) → leavers c (i + 1) ≡ leavers c i ++ cond (leaves c i) (get_or numbers i 0 ∷ []) []
  unfolding leavers
  leavers_next c i = picked_next (leaves c) (λ j. get_or numbers j 0) i

  comers_next : (c i : ℕ) → comers c (i + 1) ≡ comers c i ++ cond (comes c i) (get_or numbers i 0 ∷ []) []
  unfolding comers
  comers_next c i = picked_next (comes c) (λ j. get_or numbers j 0) i

  leavers_same : (c i : ℕ) → leaves c i ≡ false → leavers c (i + 1) ≡ leavers c i
  leavers_same c i e = leavers_next c i ∙ rw (e, append-nil)

  comers_same : (c i : ℕ) → comes c i ≡ false → comers c (i + 1) ≡ comers c i
  comers_same c i e = comers_next c i ∙ rw (e, append-nil)

  -- an unchanged slot does neither
  stays : (c i : ℕ) → get_or olds i 0 ≡ get_or news i 0 → (leaves c i ≡ false) × (comes c i ≡ false)
  stays c i e = rw (eq-eqb (get_or news i 0) (get_or olds i 0) (sym e)) (refl, refl)

  -- a changed one leaves its old bucket and comes to its new one
  leaves_old : (c i : ℕ) → (get_or olds i 0 ≡ get_or news i 0 → ⊥) → leaves c i ≡ eqb (get_or olds i 0) c
  leaves_old c i n = rw (ne_eqb (get_or news i 0) (get_or olds i 0) (λ e. n (sym e)))

  comes_new : (c i : ℕ) → (get_or olds i 0 ≡ get_or news i 0 → ⊥) → comes c i ≡ eqb (get_or news i 0) c
  comes_new c i n = rw (ne_eqb (get_or news i 0) (get_or olds i 0) (λ e. n (sym e)))

  -- bucket c when a changed slot is moved on
  after_move : (c i : ℕ) (b : List ℕ) → (get_or olds i 0 ≡ get_or news i 0 → ⊥) → is_member (get_or numbers i 0) (comers c i) ≡ false
      → cond (eqb (get_or news i 0) c) (after c i b ++ (get_or numbers i 0 ∷ []))
      (cond (eqb (get_or olds i 0) c) (cond (not (is_nil (leavers (get_or olds i 0) i))) (keep (other (get_or numbers i 0)) (after c i b)) (after c i b)) (after c i b))
      ≡ after c (i + 1) b
  after_move c i b n h =
      let x = get_or numbers i 0 in
      let old = get_or olds i 0 in
      let new = get_or news i 0 in
      by_bool (eqb new c)
      (λ t. let o : eqb old c ≡ false = ne_eqb old c (λ e. n (e ∙ sym (eqb-true new c t))) in
      rw (t, leavers_same c i (leaves_old c i n ∙ o), comers_next c i, comes_new c i n ∙ t) (append_assoc (stay (leavers c i) b) (comers c i) (x ∷ [])))
      (λ f. rw (f, comers_same c i (comes_new c i n ∙ f))
      (by_bool (eqb old c)
      (λ t. rw (t, leavers_next c i, leaves_old c i n ∙ t)
      (subst (λ (k : ℕ). cond (not (is_nil (leavers k i))) (keep (other x) (after c i b)) (after c i b) ≡ stay (leavers c i ++ (x ∷ [])) b ++ comers c i)
      (sym (eqb-true old c t)) (leave_step (leavers c i) x (comers c i) b h)))
      (λ g. rw (g, leavers_same c i (leaves_old c i n ∙ g)))))

-- ---- the loop

pub record Moving (cells numbers olds news : List ℕ) (n : ℕ) (made left : List ℕ) (i : ℕ) : Type 0 where
  pub within : i ≤ n
  pub good : GoodBuckets made
  pub holds : (c : ℕ) → c < 17 → bucket_of made c ≡ after numbers olds news c i (bucket_of cells c)
  -- the buckets that one of the first i slots left
  pub size : length left ≡ 17
  pub flags : (c : ℕ) → c < 17 → get_or left c 0 ≡ cond (is_nil (leavers numbers olds news c i)) 0 1

some : (k : List ℕ) (y : ℕ) → ◌≡◌ {A = ℕ} (cond (is_nil (k ++ (y ∷ []))) 0 1) 1
unfolding is_nil
some [] y = refl
some (z ∷ k) y = refl

module _ {cells numbers olds news : List ℕ} {n : ℕ} (may : MayReindex cells numbers olds news n) where
  pub move_start : Moving cells numbers olds news n cells (replicate 17 0) 0
  unfolding leavers comers gather is_nil
  move_start = record {
    within = omega arith;
    good = may.good;
    holds = λ c l. sym (append-nil (stay [] (bucket_of cells c)) ∙ stay_none (bucket_of cells c));
    size = refl;
    flags = λ c l. get_or-replicate 17 c 0 0 l;
  }

  module _ {made left : List ℕ} {i : ℕ} (v : Moving cells numbers olds news n made left i) (l : i < n) where
    abbrev x : ℕ
    x = get_or numbers i 0

    abbrev old : ℕ
    old = get_or olds i 0

    abbrev new : ℕ
    new = get_or news i 0

    pub move_skip : old ≡ new → Moving cells numbers olds news n made left (i + 1)
    move_skip e = record {
      within = omega arith;
      good = v.good;
      holds = λ c h. v.holds c h
          ∙ sym (ap₂ (λ (k m : List ℕ). stay k (bucket_of cells c) ++ m)
          (leavers_same numbers olds news c i (stays numbers olds news c i e).0)
          (comers_same numbers olds news c i (stays numbers olds news c i e).1));
      size = v.size;
      flags = λ c h. v.flags c h ∙ ap (λ (k : List ℕ). cond (is_nil k) 0 1) (sym (leavers_same numbers olds news c i (stays numbers olds news c i e).0));
    }

    -- no slot came before itself
    not_yet : (c : ℕ) → is_member x (comers numbers olds news c i) ≡ false
    unfolding comers
    not_yet c = not_picked (comes numbers olds news c) (λ j. get_or numbers j 0) x i 0
        (λ j m. numbers_apart numbers n may.once may.numbered j i (omega arith) l)

    module _ (changed : old ≡ new → ⊥) where
      absent : is_member x (bucket_of made new) ≡ false
      absent =
          ap (is_member x) (v.holds new (may.low i l).1)
          ∙ is_member_append x (stay (leavers numbers olds news new i) (bucket_of cells new)) (comers numbers olds news new i)
          ∙ rw (none_in _ x (bucket_of cells new) (may.new i l changed)) (not_yet new)

      among : (m : ℕ) → is_member m (bucket_of made new) ≡ true → is_member m (take n numbers) ≡ true
      unfolding comers
      among m h =
          let s = stay (leavers numbers olds news new i) (bucket_of cells new) in
          elim (or_cases (is_member m s) (is_member m (comers numbers olds news new i))
          (sym (is_member_append m s (comers numbers olds news new i)) ∙ ap (is_member m) (sym (v.holds new (may.low i l).1)) ∙ h)) [
            | inl e ↦ may.known new m (may.low i l).1 (kept_in _ m (bucket_of cells new) e)
            | inr e ↦ picked_in (comes numbers olds news new) numbers m i n (omega arith) may.numbered e
          ]

      pub may_put : MayPut made new x
      unfolding is_member bucket_of
      may_put = record {
        good = v.good;
        bucket = (may.low i l).1;
        room = let few = no_longer (x ∷ bucket_of made new) (take n numbers) (absent, (v.good.each new (may.low i l).1).once)
            (λ m h. elim (or_cases (eqb m x) (is_member m (bucket_of made new)) h) [
              | inl e ↦ rw (eqb-true m x e) (number_among numbers n may.once may.numbered i l)
              | inr e ↦ among m e
            ]) in
            omega (arith, length-take-le n numbers may.numbered, may.few);
        new = absent;
      }

      again : eqb (get_or left old 0) 1 ≡ not (is_nil (leavers numbers olds news old i))
      again = ap (λ (k : ℕ). eqb k 1) (v.flags old (may.low i l).0) ∙ either (is_nil (leavers numbers olds news old i))
        where
          either : (e : Bool) → eqb (cond e 0 1) 1 ≡ not e
          either true = refl
          either false = refl

      pub move_on : {made' : List ℕ} → Leaves (moved_on old new x (eqb (get_or left old 0) 1) (index made)) made'
          → Moving cells numbers olds news n made' (set left old 1) (i + 1)
      move_on {made'} m = record {
        within = omega arith;
        good = m.good;
        holds = λ c h.
            sym (at_index made' c h)
            ∙ ap (λ (k : List (List ℕ)). get_or k c []) m.holds
            ∙ moved_at (index made) old new x c (eqb (get_or left old 0) 1) (omega (arith, length_index made, (may.low i l).0)) (omega (arith, length_index made, (may.low i l).1)) changed
            ∙ rw (again, at_index made c h, v.holds c h) (after_move numbers olds news c i (bucket_of cells c) changed (not_yet c));
        size = length-set left old 1 ∙ v.size;
        flags = λ c h. set_at left old c 1 0 (omega (arith, v.size, (may.low i l).0))
            ∙ by_bool (eqb old c)
            (λ t. rw (t, leavers_next numbers olds news c i, leaves_old numbers olds news c i changed ∙ t) (sym (some (leavers numbers olds news c i) x)))
            (λ f. rw (f, leavers_same numbers olds news c i (leaves_old numbers olds news c i changed ∙ f)) (v.flags c h));
      }
