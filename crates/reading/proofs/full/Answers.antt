-- `reading::full` meets its contract: what a turn reads stands behind what was read before. Assumes nothing.
use Rattle.std.proofs.Common.{◌≡◌, ℕ, ◌+◌, ◌≤◌, List, ◌++◌, Option, rules, arith, length, take, drop, sym, ap, ◌∙◌, subst, le_refl, drop_at, length-take-le}
use Rattle.std.proofs.lemmas.Slice.{take-put_mid_below}
use Rattle.std.proofs.KnownBytes.{Consumes-nil, Consumes-trans}
use Rattle.std.specs.Io.KnownBytes.{Consumes}
use borrow.Rule.Slice.PartMut.{put_mid, post_of}
use lib.Seq.{take-add, take-append-le}
use Rattle.reading.proofs.full.Goals as goal

-- the row's start as it was, and the start of the part behind it
grown : (at room n : ℕ) (row part : List ℕ) → at ≤ length row → n ≤ length part
    → take at row ++ take n part ≡ take (at + n) (put_mid at room row part)
grown at room n row part within fits =
    let after = post_of at room row in
    let now = put_mid at room row part in
    let read : take n (drop at now) ≡ take n part =
    ap (take n) (drop_at (take at row) (part ++ after) at (length-take-le at row within)) ∙ take-append-le n part after fits in
    let kept : take at now ≡ take at row = take-put_mid_below _ _ _ _ _ (le_refl at) within in
    sym (take-add at n now ∙ ap (λ l. l ++ take n (drop at now)) kept ∙ ap (λ l. take at row ++ l) read)

-- two reads, one behind the other
both : (x y z : Option (List ℕ)) (at room n : ℕ) (row part : List ℕ) → at ≤ length row → n ≤ length part
    → Consumes x y (take at row) → Consumes y z (take n part)
    → (k : ℕ) → at + n ≡ k → Consumes x z (take k (put_mid at room row part))
both x y z at room n row part within fits before read k e =
    subst (λ (k : ℕ). Consumes x z (take k (put_mid at room row part))) e
    (subst (Consumes x z) (grown at room n row part within fits) (Consumes-trans x y z _ _ before read))

pub loop-done-init : goal.loop-done-init
loop-done-init g c = record { within = omega arith; bytes = Consumes-nil _ }

pub returns-then-n-eq0-clause-bytes : goal.returns-then-n-eq0-clause-bytes
returns-then-n-eq0-clause-bytes g c =
    both _ _ _ _ _ _ _ _ c.loop-done.invariant.within c.in_ok-n.ensures.bound.0 c.loop-done.invariant.bytes c.in_ok-n.ensures.bytes.0 c.loop-done.done
    (omega (arith, c.if-n-eq0.true))

pub loop-done-preserved : goal.loop-done-preserved
loop-done-preserved g c = record {
  within = search rules;
  bytes = both _ _ _ _ _ _ _ _ c.loop-done.invariant.within c.in_ok-n.ensures.bound.0 c.loop-done.invariant.bytes c.in_ok-n.ensures.bytes.0 _ (omega arith);
}
