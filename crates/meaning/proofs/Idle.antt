-- A move that collects nothing changes no more than the operations, and states are equal by their parts. Assumes nothing.
use mathlib.Core.Path.{◌≡◌, refl, ap}
use mathlib.Core.List.{List, [], ◌∷◌, append-nil}
use mathlib.Core.Bool.{Bool, true, false, not, ◌&&◌}
use mathlib.Core.Option.{Option}
use Prim.Native.Nat.{ℕ}
use native.Mathlib.Nat.{add-zero}
use native.Mathlib.Omega.{arith}
use lib.Dec.{eqb}
use Rattle.rules.specs.World.{World, Row, Slot, Args, is_nil, keep}
use Rattle.rules.specs.Queues.{has, at, edit, give, grow, grown, internals, externals}
use Rattle.rules.specs.Passes.{State, move, moved, room}
use Rattle.meaning.specs.Meaning.{Numbers}
use Rattle.numbers.proofs.Bytes.{by_bool}

module _ (ext : ℕ → Bool) (time : ℕ → ℕ) (A : Args (Numbers ext time)) where
  abbrev W : World
  W = Numbers ext time

  pub edit_out : (p : ℕ) (F : List ℕ → List ℕ) (o : List (Row W)) → has W p o ≡ false → edit W p F o ≡ o
  unfolding has edit
  edit_out p F [] e = refl
  edit_out p F (r ∷ o) e =
      by_bool (eqb p r.acc)
      (λ t. let z : ◌≡◌ {A = Bool} true false = rw t at e in absurd (let y : ◌≡◌ {A = ℕ} 0 1 = cc in omega arith))
      (λ t. simp t (ap (λ (l : List (Row W)). r ∷ l) (edit_out p F o (rw t at e))))

  same_slot : (p : ℕ) (x : Bool) (s : Slot W) → grown W p (x && not (is_nil {A = ℕ} [])) [] s ≡ s
  unfolding grown internals externals keep is_nil
  same_slot p true s = simp add-zero
  same_slot p false s = simp add-zero

  pub grow_idle : (n p : ℕ) (x : Bool) (ss : List (Slot W)) → grow W n (grown W p (x && not (is_nil {A = ℕ} [])) []) ss ≡ ss
  unfolding grow
  grow_idle n p x [] = refl
  grow_idle n p x (s ∷ ss) = by_bool (eqb n s.number) (λ t. simp (t, same_slot p x s, grow_idle n p x ss)) (λ t. simp (t, grow_idle n p x ss))

  abbrev pub state : List (Row W) → List (Row W) → List (Slot W) → Option ℕ → List ℕ → List ℕ → ℕ → State W
  state o l s t k m x = record { order = o; lists = l; slots = s; last = t; skipped = k; taken = m; ops = x }

  pub state_eq : {o o' l l' : List (Row W)} {s s' : List (Slot W)} {t : Option ℕ} {k m m' : List ℕ} {x : ℕ} → o ≡ o' → l ≡ l' → s ≡ s' → m ≡ m'
      → state o l s t k m x ≡ state o' l' s' t k m' x
  state_eq a b c d = rw (a, b, c, d)

  pub idle_move : (n p : ℕ) (s : State W) → (moved W A (room W A n s) (at W p s.order)).got ≡ []
      → edit W p (λ q. (moved W A (room W A n s) q).left) s.order ≡ s.order
      → move W A n p s ≡ state s.order s.lists s.slots s.last s.skipped s.taken (move W A n p s).ops
  unfolding move give
  idle_move n p s e d = state_eq d (rw e) (rw e (grow_idle n p (not (has W p s.lists)) s.slots)) (rw (e, append-nil))
