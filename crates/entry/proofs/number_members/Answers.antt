-- `entry::number_members` meets its contract: the loop lays the table of the parties over the column (proofs/Tables.antt).
-- Assumes nothing.
use Rattle.entry.proofs.Parties.{party_seated, party_own}
use mathlib.Core.Path.{◌∙◌}
use native.Mathlib.Omega.{arith}
use borrow.Author.Rules.{rules}
use Prim.Native.Nat.{◌<◌}
use Rattle.entry.specs.Entry.{numbered_c}
use Rattle.entry.proofs.Tables.{table_start, table_end, front_step}
use Rattle.entry.proofs.number_members.Goals as goal
use Rattle.entry.proofs.number_members.Goals.{else-seat-places, then-seat-places}

pub loop-g-init : goal.loop-g-init
loop-g-init c = table_start _ _ _ _

pub find_row-seat-requires : goal.find_row-seat-requires
find_row-seat-requires c = c.requires.places_in_bounds.0

pub overflow_cast-member : goal.overflow_cast-member
overflow_cast-member c =
    let l : c.loop-g.g < c.args.n = omega arith in
    elim c.if-seat-places.branch [
      | then-seat-places w ↦ omega (arith, w.if-seat-places.true, w.party-is, c.requires.places_bound)
      | else-seat-places w ↦ omega (arith, l, w.party-is, c.requires.places_bound)
    ]

pub loop-g-preserved : goal.loop-g-preserved
loop-g-preserved c =
    let row = c.get_row-x.ensures in
    let found = c.find_row-seat.ensures in
    front_step c.loop-g.invariant (omega (arith, c.requires.places_bound)) (omega arith) _
    (elim c.if-seat-places.branch [
      | then-seat-places w ↦ w.party-is ∙ party_seated _ _ _ _ _ _ row found w.if-seat-places.true
      | else-seat-places w ↦ w.party-is ∙ party_own _ _ _ _ _ _ row found w.if-seat-places.false
    ])

pub returns : goal.returns
unfolding numbered_c
returns c = table_end c.loop-g.invariant (omega arith)
