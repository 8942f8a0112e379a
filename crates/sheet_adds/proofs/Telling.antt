-- Parts of a sheet one behind the other: their lines stand one behind the other, and each starts from what the one before it leaves. Assumes
-- nothing.
use mathlib.Core.Path.{refl, ap, ◌∙◌, subst}
use mathlib.Core.List.{List, []}
use Prim.Native.Nat.{ℕ, ◌+◌, ◌*◌, ◌≤◌}
use native.Mathlib.Nat.{le_antisymm}
use Rattle.display.specs.Pieces.{Puts}
use Rattle.display.proofs.Pieces.{puts_then}
use Rattle.answers.proofs.Lines.{puts_none, puts_wider}
use Rattle.sheet_adds.specs.declared.State.{State}
use Rattle.sheet_adds.specs.declared.Reached.{Reached}
use Rattle.sheet_rows.specs.Answer.{Held, Told, told, and_then}
use Rattle.sheet_adds.specs.Steps.{meant_by, GoodState, Tells}

-- no part yet
pub tells_none : (s : State) → GoodState s → (at : ℕ) (out : List ℕ) → Tells (told [] (meant_by s)) 0 at out out (record { state = s; at = at })
tells_none s g at out = record { good = g; held = refl; put = puts_none at out }

pub tells_wider : {t : Told} {m k at : ℕ} {out after : List ℕ} {r : Reached} → m ≤ k → Tells t m at out after r → Tells t k at out after r
tells_wider h v = record { good = v.good; held = v.held; put = puts_wider h v.put }

-- a part, and another behind it
pub tells_then : {t : Told} (f : Held → Told) {m k at : ℕ} {out mid after : List ℕ} {r q : Reached} → Tells t m at out mid r
    → Tells (f (meant_by r.state)) k r.at mid after q → Tells (and_then t f) (m + k) at out after q
tells_then f {k = k} {mid = mid} {after} {r} {q} v w = record {
  good = w.good;
  held = w.held ∙ ap (λ (h : Held). (f h).held) v.held;
  put = puts_then v.put (subst (λ (h : Held). Puts (f h).text k r.at mid after q.at) v.held w.put);
}

-- all of n parts, once no fewer are done
pub tells_all : (f : ℕ → Told) (m : ℕ) {i n at : ℕ} {out after : List ℕ} {r : Reached} → i ≤ n → n ≤ i → Tells (f i) (m * i) at out after r
    → Tells (f n) (m * n) at out after r
tells_all f m {at = at} {out} {after} {r} h l v = subst (λ (k : ℕ). Tells (f k) (m * k) at out after r) (le_antisymm h l) v
