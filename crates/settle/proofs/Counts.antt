-- The numbers of a buffer that a fill left keep their number. Assumes nothing.
use mathlib.Core.Path.{◌≡◌, ◌∙◌}
use mathlib.Core.List.{List}
use Prim.Native.Nat.{ℕ, ◌-◌}
use lib.Dec.{eqb}
use lib.ListN.{length, set, length-set}
use Rattle.numbers.proofs.Bytes.{by_bool}
use Rattle.settle.specs.Ends.{left_counts}

pub counts_long : (r b i : ℕ) (ns : List ℕ) → length (left_counts r b i ns) ≡ length ns
unfolding left_counts
counts_long r b i ns =
    let kept = set (set (set (set ns 2 r) 3 b) 4 i) 5 (r - i) in
    let all = length-set (set (set (set ns 2 r) 3 b) 4 i) 5 (r - i) ∙ length-set (set (set ns 2 r) 3 b) 4 i ∙ length-set (set ns 2 r) 3 b ∙ length-set ns 2 r in
    by_bool (eqb b 0) (λ e. rw e (length-set (set kept 6 0) 7 0 ∙ length-set kept 6 0 ∙ all)) (λ e. rw e all)
