-- `arrivals::lowest` meets its contract: by the two tests. Assumes nothing.
use mathlib.Core.Path.{◌≡◌, refl}
use Prim.Native.Nat.{ℕ, zero, suc, ◌≤◌, ◌<◌}
use native.Mathlib.Omega.{arith}
use Rattle.queues.specs.Append.{lowest}
use Rattle.arrivals.proofs.lowest.Goals as goal

none : (marked least t : ℕ) → marked ≡ 0 → t ≡ lowest marked least t
none zero least t e = refl
none (suc n) least t e = omega arith

lower : (marked least t : ℕ) → (marked ≡ 0 → ⊥) → t < least → t ≡ lowest marked least t
lower zero least t e l = absurd (e refl)
lower (suc n) least t e l = omega arith

kept : (marked least t : ℕ) → (marked ≡ 0 → ⊥) → least ≤ t → least ≡ lowest marked least t
kept zero least t e l = absurd (e refl)
kept (suc n) least t e l = omega arith

pub returns-then-marked-eq0 : goal.returns-then-marked-eq0
returns-then-marked-eq0 c = none _ _ _ c.if-marked-eq0.true

pub returns-then-t-least : goal.returns-then-t-least
returns-then-t-least c = lower _ _ _ c.if-marked-eq0.false c.if-t-least.true

pub returns-else-t-least : goal.returns-else-t-least
returns-else-t-least c = kept _ _ _ c.if-marked-eq0.false c.if-t-least.false
