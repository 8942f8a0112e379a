-- The parts of a sheet put together: its messages, its fills and the last line; and its answer, whether a line is broken or not. Assumes
-- nothing.
use mathlib.Core.Path.{◌≡◌, subst}
use mathlib.Core.List.{List}
use Prim.Native.Nat.{ℕ, ◌*◌, ◌≤◌}
use native.Mathlib.Omega.{arith}
use borrow.Author.Tests.{eq-eqb, ne_eqb}
use Rattle.rules.specs.World.{Skip, least_read}
use Rattle.rules.specs.Calls.{Store}
use Rattle.message.specs.Real.{Real}
use Rattle.queues.specs.Meant.{meant}
use Rattle.buffer_reads.specs.declared.Counts.{Counts}
use Rattle.buffer_reads.specs.Shown.{counts_of}
use Rattle.display.specs.Pieces.{Puts}
use Rattle.display.proofs.Pieces.{puts_then}
use Rattle.lintelsong.specs.Closed.{cols_of}
use Rattle.std.proofs.Common.{Result, Ok, Err}
use Rattle.sections.specs.declared.Broken.{Broken}
use Rattle.text.specs.declared.sheet.Parsed.{Parsed}
use Rattle.answers.specs.Answer.{broken_line, left_line}
use Rattle.sheet_adds.specs.declared.State.{State}
use Rattle.sheet_adds.specs.declared.Reached.{Reached}
use Rattle.sheet_rows.specs.Answer.{Held, fresh, adds, skips_at, fills, left_of, played, play_lines, answer_to}
use Rattle.sheet_adds.specs.Steps.{meant_by, Tells}
use Rattle.answers.proofs.Lines.{puts_wider}
use Rattle.sheet_adds.proofs.Telling.{tells_then}

-- the last line, of what the counts of a buffer are
pub left_told : (s : Store Real) {k : Counts} {m : ℕ} {at r : ℕ} {out after : List ℕ} → k ≡ counts_of s → m ≡ least_read s.now.least
    → Puts (left_line k.ints k.exts k.accounts m) 110 at out after r → Puts (left_of s) 110 at out after r
unfolding left_of
left_told s {k} {m} {at} {r} {out} {after} e f v =
    let same : left_line k.ints k.exts k.accounts m ≡ left_of s = λ i. left_line (e i).ints (e i).exts (e i).accounts (f i) in
    subst (λ (l : List ℕ). Puts l 110 at out after r) same v

-- a sheet without a broken line
pub play_told : (p : Parsed) (s : State) {rows : List (Skip Real)} {out one two after : List ℕ} {a b : Reached} {r : ℕ}
    → (p.messages ≤ 512) → (p.fills ≤ 64) → meant_by s ≡ fresh → rows ≡ skips_at p.skip p.skips
    → Tells (adds p.message p.messages (meant_by s)) (51 * p.messages) 0 out one a
    → Tells (fills rows p.fill p.fills (meant_by a.state)) (247 * p.fills) a.at one two b
    → Puts (left_of (meant (cols_of b.state.buffer))) 110 b.at two after r → Puts (play_lines p) 42030 0 out after r
unfolding played play_lines
play_told p s {rows} {out} {one} {two} {after} {a} {b} {r} few less e f v w z =
    let v' = subst (λ (h : Held). Tells (adds p.message p.messages h) (51 * p.messages) 0 out one a) e v in
    let w' = subst (λ (l : List (Skip Real)). Tells (fills l p.fill p.fills (meant_by a.state)) (247 * p.fills) a.at one two b) f w in
    let t = tells_then (fills (skips_at p.skip p.skips) p.fill p.fills) v' w' in
    let z' = subst (λ (h : Held). Puts (left_of h.store) 110 b.at two after r) t.held z in
    puts_wider (omega arith) (puts_then t.put z')

-- the answer
module _ {q : Result Parsed Broken} {out after : List ℕ} {r : ℕ} where
  pub broken_told : (b : Broken) → Err b ≡ q → Puts (broken_line b.line) 32 0 out after r → Puts (answer_to q) 42030 0 out after r
  unfolding answer_to
  broken_told b e v = subst (λ (x : Result Parsed Broken). Puts (answer_to x) 42030 0 out after r) e (puts_wider (omega arith) v)

  pub sheet_told : (p : Parsed) → Ok p ≡ q → Puts (play_lines p) 42030 0 out after r → Puts (answer_to q) 42030 0 out after r
  unfolding answer_to
  sheet_told p e v = subst (λ (x : Result Parsed Broken). Puts (answer_to x) 42030 0 out after r) e v
