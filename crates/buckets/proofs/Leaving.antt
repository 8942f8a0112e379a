-- One bucket when a slot is moved on: the entries that leave it and those that stay, and the index of the rules after one slot was put, or
-- put and taken out, read at a bucket. Assumes nothing.
use mathlib.Core.Path.{◌≡◌, refl, sym, ap, ap₂, ◌∙◌}
use mathlib.Core.Bool.{Bool, true, false, cond, not, ◌&&◌, ◌||◌}
use mathlib.Core.List.{List, [], ◌∷◌, ◌++◌}
use Prim.Native.Nat.{ℕ, ◌<◌}
use native.Mathlib.Omega.{arith}
use lib.Dec.{eqb}
use lib.ListN.{length, get_or, set, length-set}
use lib.Seq.{get_or-set_same, get_or-set_other}
use borrow.Author.Tests.{ne_eqb, eqb-true, eqb-false}
use Rattle.rules.specs.World.{keep, is_member, others, is_nil}
use Rattle.demands.proofs.Rows.{or_false, keep_append}
use Rattle.demands.proofs.Slots.{is_member_append}
use Rattle.demands.proofs.Sound.{keep_keep}
use Rattle.numbers.proofs.Bytes.{by_bool}
use Rattle.buckets.specs.Moves.{put_last, taken_out, moved_on}
use Rattle.buckets.proofs.Entries.{other}

-- ---- one bucket of an index that one call changed

module _ {A : Type 0} where
  pub set_at : (l : List A) (k c : ℕ) (v d : A) → k < length l → get_or (set l k v) c d ≡ cond (eqb k c) v (get_or l c d)
  set_at l k c v d h =
      by_bool (eqb k c)
      (λ t. rw t (ap (λ (x : ℕ). get_or (set l k v) x d) (sym (eqb-true k c t)) ∙ get_or-set_same l k v d h))
      (λ f. rw f (get_or-set_other l k c v d (λ e. eqb-false k c f (sym e))))

module _ (buckets : List (List ℕ)) (k x c : ℕ) (h : k < length buckets) where
  pub put_at : get_or (put_last k x buckets) c [] ≡ cond (eqb k c) (get_or buckets c [] ++ (x ∷ [])) (get_or buckets c [])
  unfolding put_last
  put_at =
      set_at buckets k c _ [] h
      ∙ by_bool (eqb k c) (λ t. rw t (ap (λ (y : ℕ). get_or buckets y [] ++ (x ∷ [])) (eqb-true k c t))) (λ f. rw f)

  taken_at : get_or (taken_out k x buckets) c [] ≡ cond (eqb k c) (keep (other x) (get_or buckets c [])) (get_or buckets c [])
  unfolding taken_out
  taken_at =
      set_at buckets k c _ [] h
      ∙ by_bool (eqb k c) (λ t. rw t (ap (λ (y : ℕ). keep (other x) (get_or buckets y [])) (eqb-true k c t))) (λ f. rw f)

  length_put : length (put_last k x buckets) ≡ length buckets
  unfolding put_last
  length_put = length-set buckets k _

-- ---- entries that leave, and those that stay

-- the entries of a bucket but for the leavers; the first of these stays
abbrev pub stay : List ℕ → List ℕ → List ℕ
stay leavers b = keep (λ n. not (is_member n (others leavers))) b

not_or : (a b : Bool) → not (a || b) ≡ (not a && not b)
not_or true b = refl
not_or false b = refl

keep_alike : {A : Type 0} (p q : A → Bool) (xs : List A) → ((x : A) → p x ≡ q x) → keep p xs ≡ keep q xs
unfolding keep
keep_alike p q [] h = refl
keep_alike p q (x ∷ xs) h = rw (h x, keep_alike p q xs h)

keep_others : (x : ℕ) (xs : List ℕ) → is_member x xs ≡ false → keep (other x) xs ≡ xs
unfolding keep is_member
keep_others x [] h = refl
keep_others x (y ∷ ys) h =
    let p = or_false (eqb x y) (is_member x ys) h in
    rw (ne_eqb y x (λ e. eqb-false x y p.0 (sym e)), keep_others x ys p.1)

keep_everything : (p : ℕ → Bool) (xs : List ℕ) → ((n : ℕ) → p n ≡ true) → keep p xs ≡ xs
unfolding keep
keep_everything p [] h = refl
keep_everything p (x ∷ xs) h = rw (h x, keep_everything p xs h)

-- the first leaver stays, a later one leaves
pub stay_first : (x : ℕ) (b : List ℕ) → stay (x ∷ []) b ≡ stay [] b
unfolding others
stay_first x b = refl

pub stay_none : (b : List ℕ) → stay [] b ≡ b
unfolding others is_member
stay_none b = keep_everything _ b (λ n. refl)

pub stay_more : (y : ℕ) (ys : List ℕ) (x : ℕ) (b : List ℕ) → stay ((y ∷ ys) ++ (x ∷ [])) b ≡ keep (other x) (stay (y ∷ ys) b)
unfolding others is_member
stay_more y ys x b =
    keep_alike (λ n. not (is_member n (ys ++ (x ∷ [])))) (λ n. not (is_member n ys) && other x n) b
    (λ n. ap not (is_member_append n ys (x ∷ [])) ∙ not_or (is_member n ys) (eqb n x || false) ∙ ap (λ (e : Bool). not (is_member n ys) && not e) (or_nothing (eqb n x)))
    ∙ sym (keep_keep (λ n. not (is_member n ys)) (other x) b)
  where
    or_nothing : (e : Bool) → (e || false) ≡ e
    or_nothing true = refl
    or_nothing false = refl

pub leave_step : (leavers : List ℕ) (x : ℕ) (comers b : List ℕ) → is_member x comers ≡ false
    → cond (not (is_nil leavers)) (keep (other x) (stay leavers b ++ comers)) (stay leavers b ++ comers) ≡ stay (leavers ++ (x ∷ [])) b ++ comers
unfolding is_nil
leave_step [] x comers b h = ap (λ (l : List ℕ). l ++ comers) (sym (stay_first x b))
leave_step (y ∷ ys) x comers b h =
    keep_append (other x) (stay (y ∷ ys) b) comers ∙ ap₂ (λ (k l : List ℕ). k ++ l) (sym (stay_more y ys x b)) (keep_others x comers h)

-- one slot moved on: what becomes of bucket c
pub moved_at : (buckets : List (List ℕ)) (old new x c : ℕ) (again : Bool) → old < length buckets → new < length buckets → (old ≡ new → ⊥)
    → get_or (moved_on old new x again buckets) c []
    ≡ cond (eqb new c) (get_or buckets c [] ++ (x ∷ []))
    (cond (eqb old c) (cond again (keep (other x) (get_or buckets c [])) (get_or buckets c [])) (get_or buckets c []))
unfolding moved_on
moved_at buckets old new x c true a b n =
    taken_at (put_last new x buckets) old x c (omega (arith, length_put buckets new x c b))
    ∙ by_bool (eqb new c)
    (λ t. rw (ne_eqb old c (λ e. n (e ∙ sym (eqb-true new c t))), t) (put_at buckets new x c b ∙ rw t))
    (λ f. rw (put_at buckets new x c b, f))
moved_at buckets old new x c false a b n =
    put_at buckets new x c b ∙ by_bool (eqb new c) (λ t. rw t) (λ f. rw f (both (eqb old c)))
  where
    both : (e : Bool) → get_or buckets c [] ≡ cond e (get_or buckets c []) (get_or buckets c [])
    both true = refl
    both false = refl
