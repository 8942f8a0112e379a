-- A check and passing over leave columns that fit: `check_fits`, `pass_fits`, field by field. Assumes nothing.
use mathlib.Core.Path.{◌≡◌, refl, ◌∙◌}
use mathlib.Core.List.{List, [], ◌∷◌, ◌++◌, append_assoc}
use mathlib.Core.Bool.{Bool, true, false, cond, ◌||◌}
use Prim.Native.Nat.{ℕ, ◌+◌, ◌-◌, ◌<◌, ◌≤◌, min, ◌^◌}
use native.Mathlib.Omega.{arith}
use native.Mathlib.Numerals.{add-one}
use lib.Dec.{eqb}
use lib.ListN.{length, get_or, set, take}
use lib.Seq.{take-suc-set, get_or-set_same, get_or-set_other}
use borrow.Author.Tests.{eqb-true, eqb-false, eq-eqb, ne_eqb}
use Rattle.rules.specs.World.{World, Args}
use Rattle.rules.specs.Queues.{is_in}
use Rattle.moves.specs.declared.Fixed.{Fixed}
use Rattle.moves.specs.Moves.{check_marks, pass_owners}
use Rattle.meaning.specs.Meaning.{Numbers, Columns, Setting, check_c, pass_c, Agrees, Fits}
use Rattle.numbers.proofs.Bytes.{by_bool}
use Rattle.meaning.proofs.Queues.{pass_kept}
use Rattle.meaning.proofs.Pass.{given_is}

is_in_append : (ext : ℕ → Bool) (time : ℕ → ℕ) (a : ℕ) (xs ys : List ℕ) → is_in (Numbers ext time) a (xs ++ ys)
    ≡ is_in (Numbers ext time) a xs || is_in (Numbers ext time) a ys
unfolding is_in
is_in_append ext time a [] ys = refl
is_in_append ext time a (x ∷ xs) ys = by_bool (eqb a x) (λ e. rw e) (λ e. rw e (is_in_append ext time a xs ys))

or_false : (x : Bool) → x || false ≡ x
or_false true = refl
or_false false = refl

new_set : (ext : ℕ → Bool) (time : ℕ → ℕ) (ms : List ℕ) (p q : ℕ) → p < length ms → eqb (get_or ms p 0) 2 ≡ false
    → eqb (get_or ms q 0) 2 || is_in (Numbers ext time) q (p ∷ []) ≡ eqb (get_or (set ms p 2) q 0) 2
unfolding is_in
new_set ext time ms p q l e =
    by_bool (eqb q p)
    (λ d. let w = eqb-true q p d in rw (w, e, get_or-set_same ms p 2 0 l, eq-eqb p p refl))
    (λ d. let w : q ≡ p → ⊥ = eqb-false q p d in rw (get_or-set_other ms p q 2 0 w, d) (or_false (eqb (get_or ms q 0) 2)))

module _ (ext : ℕ → Bool) (time : ℕ → ℕ) (A : Args (Numbers ext time)) (class cost : List ℕ) (f : Fixed) (b : Setting) (o : ℕ) (m : Columns)
    (k : Agrees ext time A class cost f) (v : Fits ext time A f b o m) (p : ℕ) (l : p < 1280) where
  abbrev W : World
  W = Numbers ext time

  -- only the sum is changed
  pub costs : (x : ℕ) (t : ℕ) → t ≡ min (o + x) (2 ^ 64 - 1)
      → Fits ext time A f b (o + x) (record {
        store = record {
          owner = m.store.owner;
          taken = m.store.taken;
          home = m.store.home;
          member = m.store.member;
          ints = m.store.ints;
          exts = m.store.exts;
          tally = record { joined = m.store.tally.joined; accounts = m.store.tally.accounts; taken = m.store.tally.taken; ops = t };
        };
        mark = m.mark;
        joined = m.joined;
      })
  costs x t e = record {
    inset = v.inset;
    says = v.says;
    total = e;
    gone = v.gone;
    housed = v.housed;
    parties = v.parties;
    once = v.once;
    filled = v.filled;
    new = v.new;
    loose = v.loose;
    numbered = v.numbered;
    few = v.few;
  }

  pub check_fits : (eqb (get_or m.mark p 0) 1 ≡ true → m.store.tally.joined < length m.joined) → length m.mark ≡ 1280
      → Fits ext time A f b (o + cond (eqb (get_or m.mark p 0) 2) 1 (get_or cost p 0)) (check_c cost p m)
  unfolding check_marks
  check_fits room ml =
      by_bool (eqb (get_or m.mark p 0) 2)
      (λ e. rw e (costs 1 _ (omega (arith, v.total))))
      (λ e. rw e (by_bool (eqb (get_or m.mark p 0) 1)
      (λ g. rw g (record {
        inset = λ q h. rw (
          add-one,
          take-suc-set m.joined m.store.tally.joined p (room g),
          ← append_assoc b.entry_skipped (take m.store.tally.joined m.joined) (p ∷ []),
          is_in_append ext time q (b.entry_skipped ++ take m.store.tally.joined m.joined) (p ∷ []),
          v.inset q h,
        ) (new_set ext time m.mark p q (omega (arith, ml)) e);
        says = λ q h z. by_bool (eqb q p)
            (λ d. let w = eqb-true q p d in absurd (eqb-false 2 2 (rw (w, get_or-set_same m.mark p 2 0 (omega (arith, ml))) at z) refl))
            (λ d. let w : q ≡ p → ⊥ = eqb-false q p d in rw (get_or-set_other m.mark p q 2 0 w)
            (v.says q h (rw (get_or-set_other m.mark p q 2 0 w) at z)));
        total = omega (arith, v.total);
        gone = v.gone;
        housed = v.housed;
        parties = v.parties;
        once = v.once;
        filled = v.filled;
        new = v.new;
        loose = v.loose;
        numbered = v.numbered;
        few = v.few;
      }))
      (λ g. rw g (costs (get_or cost p 0) _ (omega (arith, v.total))))))

  pub pass_fits : f.places ≤ 256 → Fits ext time A f b o (pass_c class f p m)
  unfolding pass_owners
  pass_fits pl = record {
    inset = v.inset;
    says = v.says;
    total = v.total;
    gone = λ t h. ((v.gone t h).0, rw (kept t h) (v.gone t h).1);
    housed = v.housed;
    parties = v.parties;
    once = v.once;
    filled = λ g h. rw (given_is ext time A class cost f b o m k v p l pl (get_or m.store.member g 0)) (v.filled g h);
    new = v.new;
    loose = λ q h e. given_is ext time A class cost f b o m k v p l pl q ∙ v.loose q h e;
    numbered = v.numbered;
    few = v.few;
  }
    where
      kept : (t : ℕ) (h : t < m.store.tally.taken) → get_or (pass_owners class f.rows p m.store.owner) (get_or m.store.taken t 0) 0
          ≡ get_or m.store.owner (get_or m.store.taken t 0) 0
      kept t h = pass_kept ext time A class p (ne_eqb 65535 p (λ e. omega arith)) f.rows 0 (get_or m.store.taken t 0) m.store.owner
          (λ e. omega (arith, (v.gone t h).1))
