-- A check of the columns is a check of what they mean: `check_abs`, by the three marks. Assumes nothing.
use mathlib.Core.Path.{◌≡◌}
use mathlib.Core.List.{List, append_assoc}
use mathlib.Core.Bool.{Bool, true, cond}
use Prim.Native.Nat.{ℕ, ◌+◌, ◌<◌}
use native.Mathlib.Numerals.{add-one}
use lib.Dec.{eqb}
use lib.ListN.{length, get_or}
use lib.Seq.{take-suc-set}
use Rattle.rules.specs.World.{World, Args}
use Rattle.rules.specs.Passes.{checked}
use Rattle.moves.specs.declared.Fixed.{Fixed}
use Rattle.moves.specs.Moves.{check_marks}
use Rattle.meaning.specs.Meaning.{Numbers, Columns, Setting, state_of, check_c, Agrees, Fits}
use Rattle.numbers.proofs.Bytes.{by_bool}

module _ (ext : ℕ → Bool) (time : ℕ → ℕ) (A : Args (Numbers ext time)) (class cost : List ℕ) (f : Fixed) (b : Setting) (o : ℕ) (m : Columns)
    (k : Agrees ext time A class cost f) (v : Fits ext time A f b o m) (p : ℕ) (l : p < 1280)
    (room : eqb (get_or m.mark p 0) 1 ≡ true → m.store.tally.joined < length m.joined) where
  abbrev W : World
  W = Numbers ext time

  -- the operations after it
  abbrev pub spent : ℕ
  spent = o + cond (eqb (get_or m.mark p 0) 2) 1 (get_or cost p 0)

  pub check_abs : checked W A p (state_of ext time f b o m) ≡ state_of ext time f b spent (check_c cost p m)
  unfolding checked state_of check_marks
  check_abs =
      by_bool (eqb (get_or m.mark p 0) 2)
      (λ e. simp (v.inset p l, e))
      (λ e. by_bool (eqb (get_or m.mark p 0) 1)
      (λ g. simp (
        v.inset p l,
        e,
        v.says p l e,
        g,
        k.costs p l,
        add-one,
        take-suc-set m.joined m.store.tally.joined p
            (room g),
        append_assoc,
      ))
      (λ g. simp (v.inset p l, e, v.says p l e, g, k.costs p l)))
