-- `arrivals::count_in` meets its contract: each number is written once, and each is what its helper or its test makes of the old one.
-- Assumes nothing.
use mathlib.Core.Path.{◌≡◌, ◌∙◌}
use mathlib.Core.Bool.{cond}
use mathlib.Core.List.{List}
use Prim.Native.Nat.{ℕ, ◌+◌}
use borrow.Author.Tests.{eq-eqb, ne_eqb}
use lib.Dec.{leb, eqb}
use lib.ListN.{get_or, set}
use Rattle.queues.specs.Append.{more, lowest, counted_c}
use Rattle.arrivals.proofs.count_in.Goals as goal
use Rattle.arrivals.proofs.count_in.Goals.{else-external, else-external-2, then-external, then-external-2}

-- the six numbers, one by one
numbered : (kind time seat : ℕ) (ns : List ℕ) {places ints exts least marked : ℕ}
    → places ≡ more (leb (get_or ns 3 0) seat) (get_or ns 3 0)
    → ints ≡ more (eqb kind 0) (get_or ns 4 0)
    → exts ≡ more (eqb kind 1) (get_or ns 5 0)
    → least ≡ cond (eqb kind 1) (lowest (get_or ns 7 0) (get_or ns 6 0) time) (get_or ns 6 0)
    → marked ≡ cond (eqb kind 1) 1 (get_or ns 7 0)
    → set (set (set (set (set (set ns 2 (get_or ns 2 0 + 1)) 3 places) 4 ints) 5 exts) 6 least) 7 marked ≡ counted_c kind time seat ns
unfolding counted_c
numbered kind time seat ns a b c d e i = set (set (set (set (set (set ns 2 (get_or ns 2 0 + 1)) 3 (a i)) 4 (b i)) 5 (c i)) 6 (d i)) 7 (e i)

pub returns : goal.returns
returns c =
    let a = c.args in
    numbered a.kind a.time a.seat a.numbers.now
    c.more.ensures
    c.more-2.ensures
    c.more-3.ensures
    (elim c.if-external.branch [
      | then-external w ↦ rw (eq-eqb _ _ w.if-external.true) (w.numbers-is ∙ w.lowest.ensures)
      | else-external w ↦ rw (ne_eqb _ _ w.if-external.false) w.numbers-is
    ])
    (elim c.if-external-2.branch [
      | then-external-2 w ↦ rw (eq-eqb _ _ w.if-external-2.true) w.numbers-is
      | else-external-2 w ↦ rw (ne_eqb _ _ w.if-external-2.false) w.numbers-is
    ])
