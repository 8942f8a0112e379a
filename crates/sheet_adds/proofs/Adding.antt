-- A message that was added, with the line of its refusal, if it was refused; and one message more. Assumes nothing.
use mathlib.Core.Path.{◌≡◌, refl, subst}
use mathlib.Core.List.{List}
use Prim.Native.Nat.{ℕ, ◌*◌, ◌+◌}
use native.Mathlib.Numerals.{add-one}
use native.Mathlib.Omega.{arith}
use Rattle.rules.specs.Calls.{Answer, Store}
use Rattle.message.specs.declared.Message.{Message}
use Rattle.message.specs.Answers.{Code, number as number_of}
use Rattle.message.specs.Real.{Real}
use Rattle.queues.specs.Meant.{meant}
use Rattle.display.specs.Pieces.{Puts}
use Rattle.lintelsong.specs.declared.Buffer.{Buffer}
use Rattle.lintelsong.specs.Closed.{cols_of, GoodBuffer}
use Rattle.answers.specs.Answer.{refusal}
use Rattle.sheet_rows.specs.Answer.{Held, told_of, message_at, added, adds}
use Rattle.sheet_adds.specs.declared.State.{State}
use Rattle.sheet_adds.specs.declared.Reached.{Reached}
use Rattle.sheet_adds.specs.Steps.{meant_by, GoodState, Tells}
use Rattle.sheet_adds.proofs.Telling.{tells_then, tells_wider}

-- what is reached with another buffer
abbrev pub reached : State → Buffer → ℕ → Reached
reached s b at = record { state = record { buffer = b; group = s.group; skipped = s.skipped }; at = at }

module _ (number : ℕ) (s : State) (good : GoodState s) (b : Buffer) (fine : GoodBuffer b) (code : Code) (a : Answer (Store Real))
    (ruled : ◌≡◌ {A = Answer (Store Real)} (record { code = number_of code; after = meant (cols_of b) }) a) (at : ℕ) (out : List ℕ) where
  pub added_told : {after : List ℕ} {r : ℕ} → Puts (refusal number (number_of code)) 51 at out after r
      → Tells (told_of number a (meant_by s)) 51 at out after (reached s b r)
  added_told {after} {r} v =
      subst (λ (x : Answer (Store Real)). Tells (told_of number x (meant_by s)) 51 at out after (reached s b r)) ruled
      (record { good = (fine, good.1, good.2); held = refl; put = v })

-- one message more
pub adds_then : (cells : List ℕ) (i : ℕ) (h : Held) {m : Message} {at : ℕ} {out mid after : List ℕ} {r q : Reached} → m ≡ message_at cells i
    → Tells (adds cells i h) (51 * i) at out mid r → Tells (added m (i + 1) (meant_by r.state)) 51 r.at mid after q
    → Tells (adds cells (i + 1) h) (51 * (i + 1)) at out after q
unfolding adds
adds_then cells i h {mid = mid} {after} {r} {q} e v w =
    let this = subst (λ (x : Message). Tells (added x (i + 1) (meant_by r.state)) 51 r.at mid after q) e w in
    rw (add-one i) (tells_wider (omega arith) (tells_then (added (message_at cells i) (i + 1)) v this))
