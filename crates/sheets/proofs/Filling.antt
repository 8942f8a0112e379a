-- Fills told of in their lines, one behind the other. Assumes nothing.
use mathlib.Core.Path.{◌≡◌, subst}
use mathlib.Core.List.{List}
use Prim.Native.Nat.{ℕ, ◌+◌, ◌*◌}
use native.Mathlib.Numerals.{add-one}
use native.Mathlib.Omega.{arith}
use Rattle.rules.specs.World.{Skip, Args}
use Rattle.rules.specs.Calls as calls
use Rattle.message.specs.Answers.{number as number_of}
use Rattle.message.specs.Real.{Real}
use Rattle.display.specs.Pieces.{Puts}
use Rattle.slots.specs.Meant as slots
use Rattle.lintelsong.specs.declared.fill_calls.FillAnswer.{FillAnswer}
use Rattle.lintelsong.specs.Closed.{table_of}
use Rattle.sheet_rows.specs.Answer.{Held, args_at, fill_lines, told_by, filled, fills}
use Rattle.sheet_adds.specs.declared.Reached.{Reached}
use Rattle.sheet_adds.specs.Steps.{meant_by, Tells}
use Rattle.sheet_adds.proofs.Telling.{tells_then, tells_wider}
use Rattle.sheet_fills.specs.Steps.{FillsBy}

-- a fill with its lines
pub filled_told : (number : ℕ) (a : calls.FillAnswer Real) (r : FillAnswer) → FillsBy a r → {at end : ℕ} {out after : List ℕ}
    → Puts (fill_lines number (number_of r.code) r.collected r.operations r.dropped (slots.meant (table_of r.group))) 247 at out after end
    → Tells (told_by number a) 247 at out after (record { state = record { buffer = r.buffer; group = r.group; skipped = r.skipped }; at = end })
filled_told number a r v {at} {end} {out} {after} w =
    let same : fill_lines number (number_of r.code) r.collected r.operations r.dropped (slots.meant (table_of r.group)) ≡ (told_by number a).text =
    λ i. fill_lines number (v.code i) (v.collected i) (v.operations i) (v.dropped i) (v.target i)
    in
    record { good = v.good; held = λ i. record { store = v.store i; target = v.target i; skipped = v.skipped i }; put = subst (λ (l : List ℕ). Puts l 247 at out after end) same w }

-- one fill more
pub fills_then : (rows : List (Skip Real)) (cells : List ℕ) (i : ℕ) (h : Held) {A : Args Real} {at : ℕ} {out mid after : List ℕ} {r q : Reached}
    → A ≡ args_at rows cells i → Tells (fills rows cells i h) (247 * i) at out mid r
    → Tells (filled A (i + 1) (meant_by r.state)) 247 r.at mid after q
    → Tells (fills rows cells (i + 1) h) (247 * (i + 1)) at out after q
unfolding fills
fills_then rows cells i h {mid = mid} {after} {r} {q} e v w =
    let this = subst (λ (x : Args Real). Tells (filled x (i + 1) (meant_by r.state)) 247 r.at mid after q) e w in
    rw (add-one i) (tells_wider (omega arith) (tells_then (filled (args_at rows cells i) (i + 1)) v this))
