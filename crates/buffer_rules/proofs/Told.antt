-- `same_buffer`: two buffers that mean the same are the same. Every cell of the live half is, and of the backup room every row that holds
-- something; the spare backup room is the one exception (docs/CHOICES.md). The turns give `same_live` and `same_kept` their owners.
-- Assumes nothing.
use mathlib.Core.Path.{◌≡◌, refl, sym, ap, ◌∙◌}
use mathlib.Core.List.{List}
use mathlib.Core.Option.{Option}
use Prim.Native.Nat.{ℕ, ◌<◌}
use native.Mathlib.Omega.{arith}
use lib.ListN.{get_or, take, length-drop}
use lib.Seq.{get_or-take}
use Rattle.rules.specs.Calls.{Store}
use Rattle.message.specs.Real.{Real}
use Rattle.queues.specs.Cols.{Cols, Half, live, kept, number}
use Rattle.queues.specs.Meant.{if_marked, buffer_of, meant}
use Rattle.queues.specs.Good.{GoodHalf, Good}
use Rattle.queues.proofs.Meaning.{SameHalf}
use Rattle.buffer_rules.specs.Told.{turns_of, Told, told}
use Rattle.buffer_rules.proofs.Unique.{mark_told, messages, SameLive, same_live, same_kept}

-- what the two have in common: all but the spare backup room
pub record SameBuffer (c d : Cols) : Type 0 where
  pub M : number c 0 ≡ number d 0
  pub A : number c 1 ≡ number d 1
  pub live : SameLive c d
  pub opened : number c 8 ≡ number d 8
  pub last : number c 15 ≡ number d 15
  pub kept : number d 8 ≡ 1 → SameHalf (kept c) (kept d)

-- turns that are the same are so message by message
turn_same : (h k : Half) → h.messages ≡ k.messages → turns_of h ≡ turns_of k → (i : ℕ) → i < k.messages → get_or h.owner i 0 ≡ get_or k.owner i 0
turn_same h k n e i l =
    sym (get_or-take h.messages h.owner i 0 (rw n l)) ∙ ap (λ (t : List ℕ). get_or t i 0) e ∙ get_or-take k.messages k.owner i 0 l

module _ (c d : Cols) (g : Good c) (f : Good d) (e : told c ≡ told d) where
  store : meant c ≡ meant d
  store = ap (λ (t : Told). t.store) e

  M_same : number c 0 ≡ number d 0
  M_same = ap (λ (s : Store Real). s.M) store

  A_same : number c 1 ≡ number d 1
  A_same = ap (λ (s : Store Real). s.A) store

  opened : number c 8 ≡ number d 8
  opened = mark_told (number c 8) (number d 8) (buffer_of (kept c)) (buffer_of (kept d)) g.opened f.opened (ap (λ (s : Store Real). s.kept) store)

  live_half : SameLive c d
  live_half =
      let good : GoodHalf (number d 0) (number d 1) (live c) = rw (M_same, A_same) at g.now in
      let means = ap (λ (s : Store Real). s.now) store in
      let held = messages (live c) (live d) good f.now (omega (arith, f.M·high, g.lengths.owner)) (omega (arith, f.M·high, f.lengths.owner)) means in
      same_live c d g f M_same A_same means (turn_same (live c) (live d) held (ap (λ (t : Told). t.now) e))

  kept_half : number d 8 ≡ 1 → SameHalf (kept c) (kept d)
  kept_half q =
      let p : number c 8 ≡ 1 = opened ∙ q in
      let good : GoodHalf (number d 0) (number d 1) (kept c) = rw (M_same, A_same) at (g.then p) in
      let means = ap (λ (s : Store Real). s.kept) store in
      let then : if_marked 1 (buffer_of (kept c)) ≡ if_marked 1 (buffer_of (kept d)) = rw (p, q) at means in
      let turns : if_marked 1 (turns_of (kept c)) ≡ if_marked 1 (turns_of (kept d)) = rw (p, q) at (ap (λ (t : Told). t.kept) e) in
      let held = messages (kept c) (kept d) good (f.then q)
      (simp length-drop (omega (arith, f.M·high, g.lengths.owner)))
      (simp length-drop (omega (arith, f.M·high, f.lengths.owner))) (cc) in
      same_kept c d g f M_same A_same p q means (turn_same (kept c) (kept d) held (cc))

  pub same_buffer : SameBuffer c d
  same_buffer = record {
    M = M_same;
    A = A_same;
    live = live_half;
    opened = opened;
    last = g.blank.last ∙ sym f.blank.last;
    kept = kept_half;
  }
