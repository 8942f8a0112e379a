-- The branches of one account checked, passed over or moved, each a lemma over the shut rules on columns. Assumes nothing.
use mathlib.Core.Path.{◌≡◌, ap, ◌∙◌}
use mathlib.Core.List.{List}
use mathlib.Core.Bool.{true, false}
use Prim.Native.Nat.{ℕ}
use lib.ListN.{get_or}
use borrow.Author.Tests.{eq-eqb, ne_eqb}
use Rattle.moves.specs.declared.Tally.{Tally}
use Rattle.moves.specs.declared.Fixed.{Fixed}
use Rattle.moves.specs.Moves.{Store, Marks, marks, check_marks, pass_owners, move_store, with_tally, nowhere}
use Rattle.moves.specs.Good.{GoodStore}
use Rattle.moves.proofs.Keeps.{tally_good}
use Rattle.meaning.proofs.Kept.{check_taken, check_accounts}
use Rattle.meaning.specs.Meaning.{Columns, columns, columns_of, marks_of, with_marks, pass_c, move_c}
use Rattle.meaning.specs.Walks.{Ready, skip_c, try_c, meet_c}

module _ (class cost : List ℕ) (f : Fixed) (j p : ℕ) (m : Columns) where
  pub try_pass : skip_c p m ≡ true → {ks js : List ℕ} {u : Tally} → marks ks js u ≡ check_marks cost p (marks_of m) → {os : List ℕ} → os
      ≡ pass_owners class f.rows p m.store.owner
      → columns os m.store.taken m.store.home m.store.member m.store.ints m.store.exts ks js u ≡ try_c class cost f j p m
  unfolding try_c
  try_pass e c o = rw (e, o) (ap (λ (x : Marks). pass_c class f p (with_marks m x)) c)

  pub try_move : skip_c p m ≡ false → {ks js : List ℕ} {u : Tally} → marks ks js u ≡ check_marks cost p (marks_of m) → {s : Store} → s
      ≡ move_store class f p j (with_tally m.store u)
      → columns_of s ks js ≡ try_c class cost f j p m
  unfolding try_c
  try_move e {ks} {js} c o = rw (e, o) (ap (λ (x : Marks). move_c class f p j (with_marks m x)) c)

  pub check_store : Ready f class cost m → {ks js : List ℕ} {u : Tally} → marks ks js u ≡ check_marks cost p (marks_of m)
      → GoodStore f (with_tally m.store u)
  check_store g {ks} {js} {u} c =
      tally_good f m.store u g.good.store (ap (λ (x : Marks). x.tally.taken) c ∙ check_taken cost p (marks_of m))
      (ap (λ (x : Marks). x.tally.accounts) c ∙ check_accounts cost p (marks_of m))

  pub meet_pass : (get_or m.store.home p 0 ≡ nowhere → ⊥) → {os : List ℕ} → os ≡ pass_owners class f.rows p m.store.owner
      → columns os m.store.taken m.store.home m.store.member m.store.ints m.store.exts m.mark m.joined m.store.tally
      ≡ meet_c class cost f j p m
  unfolding meet_c
  meet_pass e o = rw (ne_eqb _ _ e, o)

  pub meet_try : get_or m.store.home p 0 ≡ nowhere → {t : Columns} → t ≡ try_c class cost f j p m → t ≡ meet_c class cost f j p m
  unfolding meet_c
  meet_try e o = rw (eq-eqb _ _ e) o
