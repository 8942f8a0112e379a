-- Passes with no slot to open and none to fill, over rows of which none is droppable: they change no more than the operations. Assumes nothing.
use mathlib.Core.Path.{◌≡◌, refl, ap, ◌∙◌}
use mathlib.Core.Bool.{false}
use mathlib.Core.List.{List, []}
use Prim.Native.Nat.{ℕ, zero, suc, ◌-◌, ◌<◌}
use native.Mathlib.Nat.{zero-add}
use lib.Dec.{eqb}
use lib.ListN.{get_or}
use Rattle.moves.specs.declared.Fixed.{Fixed}
use Rattle.moves.specs.Moves.{with_tally, costs}
use Rattle.meaning.specs.Meaning.{Columns, columns_of, with_owner}
use Rattle.meaning.specs.Walks.{WalkC, walk}
use Rattle.meaning.specs.Passes.{RanC, ran_c, passed_c, left_c, sweep_cell, sweep_owners, serve_c, first_c, second_c, swept_c, rest_c, end_c, run_c}
use Rattle.standstill.proofs.Columns.{map_same}

module _ (class cost : List ℕ) (f : Fixed) (m : Columns) where
  serve_none : (r i : ℕ) → serve_c class cost f [] r i m ≡ walk i m
  unfolding serve_c
  serve_none zero i = refl
  serve_none (suc r) i = refl

  module _ (none : (q : ℕ) → q < f.rows → eqb (get_or class q 0) 2 ≡ false) (numbers : List ℕ) (slots last : ℕ) where
    sweep_none : sweep_owners class f.rows 0 f.places m.store.owner ≡ m.store.owner
    unfolding sweep_owners
    sweep_none = map_same (sweep_cell class 0 f.places) 0 f.rows 0 m.store.owner (λ j l. rw (zero-add, none j l))

    -- what the end makes of other owners
    abbrev ended_by : List ℕ → RanC
    ended_by os = end_c class cost f (passed_c (walk 0 (columns_of (with_owner m.store os) m.mark m.joined)) numbers slots last)

    pub run_still : run_c class cost f 0 [] numbers slots last m
        ≡ ran_c (columns_of (with_tally m.store (costs m.store.tally f.places)) m.mark m.joined) numbers slots last
        (f.rows - left_c f.rows f.places m.store.owner - m.store.tally.taken)
    unfolding run_c rest_c first_c second_c end_c
    run_still =
        ap (λ (w : WalkC). end_c class cost f (passed_c (swept_c class cost f w) numbers slots last)) (serve_none (f.places - 0) 0)
        ∙ ap ended_by sweep_none
