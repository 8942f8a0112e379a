-- `run_means`: what a run leaves in columns that meant a fill's entry means what the rules' passes make of that entry, and its counts are
-- those of the rules' answer. The parts are joined: `first_sim`, `second_sim`, `sweep_sim`, `end_sim`. Assumes nothing.
use mathlib.Core.Path.{◌≡◌, refl, sym, ap, ◌∙◌, subst}
use mathlib.Core.List.{List, []}
use mathlib.Core.Bool.{Bool}
use mathlib.Core.Option.{Option}
use Prim.Native.Nat.{ℕ, ◌+◌, ◌-◌, ◌≤◌, min}
use native.Mathlib.Nat.{sub-zero, zero-add}
use native.Mathlib.Omega.{arith}
use lib.Dec.{ltb}
use lib.ListN.{length, take}
use lib.Seq.{length-take-le}
use Rattle.rules.specs.World.{World, Buffer, Group, Args, at_least0, most}
use Rattle.rules.specs.Queues.{accounts, all_msgs, has_slot}
use Rattle.rules.specs.Passes.{State, Walked, first, second, sweep, to_open, listed, entered, passes, ended}
use Rattle.columns.specs.Lists.{tab_i}
use Rattle.moves.specs.declared.Fixed.{Fixed}
use Rattle.meaning.specs.Meaning.{Numbers, Columns, Setting, state_of, Agrees, order_row, slot_at}
use Rattle.meaning.specs.Walks.{WalkC}
use Rattle.meaning.specs.Passes.{PassedC, passed_c, RanC, position_from, left_c, first_c, second_c, swept_c, rest_c, end_c, run_c}
use Rattle.meaning.specs.Means.{Means, Walks, places, last_after, setting_after, billed, Ran}
use Rattle.meaning.specs.Begins.{Begun}
use Rattle.meaning.proofs.Lines.{position_cong, has_position, second_sim}
use Rattle.meaning.proofs.First.{first_sim, first_numbers}
use Rattle.meaning.proofs.Sweeps.{sweep_sim}
use Rattle.meaning.proofs.Ends.{left_is, accounts_are, end_sim}

module _ (ext : ℕ → Bool) (time : ℕ → ℕ) (A : Args (Numbers ext time)) (class cost : List ℕ) (f : Fixed) (a : Agrees ext time A class cost f)
    (bf : Buffer (Numbers ext time)) (g : Group (Numbers ext time)) (set : List ℕ) (b : Setting) (m : Columns)
    (begun : Begun ext time A f b bf g set cost m) where
  abbrev v : Means ext time A cost f b m (entered (Numbers ext time) A bf g set)
  v = begun.means

  abbrev W : World
  W = Numbers ext time

  abbrev entry : State W
  entry = entered W A bf g set

  -- ---- what the entry says of buffer and group

  order_is : bf.order ≡ tab_i f.places 0 (order_row ext time f.rows m.store.owner)
  unfolding entered state_of
  order_is = ap (λ (x : State W). x.order) v.state

  slots_are : g.slots ≡ tab_i b.slots 0
      (slot_at ext time b.number (take m.store.tally.accounts m.store.member) m.store.home m.store.ints m.store.exts)
  unfolding entered state_of
  slots_are = ap (λ (x : State W). x.slots) v.state

  last_is : g.last ≡ b.last
  unfolding entered state_of
  last_is = ap (λ (x : State W). x.last) v.state

  all_places : accounts W bf.order ≡ places ext time A cost f b 0
  all_places =
      ap (accounts W) order_is ∙ accounts_are ext time f.rows m.store.owner f.places 0
      ∙ ap (λ z. tab_i z 0 (λ (p : ℕ). p)) (sym (sub-zero f.places))

  module _ (k : ℕ) (room : b.slots + k ≤ 64) (xs : List ℕ) where
    -- ---- the passes, one after the other

    abbrev x₁ : PassedC
    x₁ = first_c class cost f k [] b.number b.slots (at_least0 b.last) 0 m

    abbrev after : Setting
    after = setting_after k b x₁.number x₁.slots x₁.last

    abbrev y₁ : Walked W
    y₁ = first W A k (at_least0 g.last + 1) [] (accounts W bf.order) entry

    after_first : Walks ext time A cost f after x₁.run y₁
    after_first =
        subst (λ (z : Option ℕ). Walks ext time A cost f after x₁.run (first W A k (at_least0 z + 1) [] (accounts W bf.order) entry))
        (sym last_is)
        (subst (λ (z : List ℕ). Walks ext time A cost f after x₁.run (first W A k (at_least0 b.last + 1) [] z entry)) (sym all_places)
        (first_sim ext time A class cost f a k b [] 0 m entry tt room begun.low begun.fresh v))

    -- the slots of entry are found at their positions
    link : (x : ℕ) → has_slot W x g.slots ≡ ltb (position_from x₁.number x b.slots 0) b.slots
    link x =
        let stand = first_numbers class cost f k [] b.number b.slots (at_least0 b.last) 0 m in
        ap (has_slot W x) slots_are
        ∙ has_position ext time b.number (take m.store.tally.accounts m.store.member) m.store.home m.store.ints m.store.exts x
        b.slots 0
        ∙ ap (λ z. ltb (position_from b.number x b.slots 0) z) (zero-add b.slots)
        ∙ ap (λ z. ltb z b.slots) (position_cong b.number x₁.number x b.slots 0 (λ i l h. sym (stand.same i (omega arith))))

    abbrev x₂ : WalkC
    x₂ = second_c class cost f x₁.number b.slots xs x₁.run.at x₁.run.now

    abbrev y₂ : Walked W
    y₂ = second W A g.slots xs y₁.rest y₁.now

    after_second : Walks ext time A cost f after x₂ y₂
    after_second =
        let stand = first_numbers class cost f k [] b.number b.slots (at_least0 b.last) 0 m in
        subst (λ (z : List ℕ). Walks ext time A cost f after x₂ (second W A g.slots xs z y₁.now)) (sym after_first.rest)
        (second_sim ext time A class cost f after a g.slots b.slots stand.more link xs x₁.run.at after_first.now)

    abbrev σ : State W
    σ = sweep W A y₂.rest y₂.now

    after_sweep : Means ext time A cost f after (swept_c class cost f x₂).now σ
    after_sweep =
        subst (λ (z : List ℕ). Means ext time A cost f after (swept_c class cost f x₂).now (sweep W A z y₂.now)) (sym after_second.rest)
        (sweep_sim ext time A class cost f after a (f.places - x₂.at) x₂.at refl after_second.now)

    abbrev z : RanC
    z = end_c class cost f (passed_c (swept_c class cost f x₂) x₁.number x₁.slots x₁.last)

    -- ---- the counts

    taken_is : z.now.store.tally.taken ≡ length σ.taken
    unfolding end_c state_of
    taken_is =
        let s = after_sweep.good.store in
        sym (ap (λ (x : State W). length x.taken) after_sweep.state
        ∙ length-take-le x₂.now.store.tally.taken x₂.now.store.taken (omega (arith, s.takes, s.rows_fit, s.taken_long)))

    held_is : length (all_msgs W σ.order) ≡ left_c f.rows f.places (swept_c class cost f x₂).now.store.owner
    unfolding state_of
    held_is =
        ap (λ (x : State W). length (all_msgs W x.order)) after_sweep.state
        ∙ left_is ext time f.rows (swept_c class cost f x₂).now.store.owner f.places

    ops_are : z.now.store.tally.ops ≡ min (σ.ops + length σ.order) most
    unfolding end_c billed state_of most
    ops_are =
        let e = end_sim ext time A class cost f after a after_sweep in
        e.fits.total ∙ ap (λ (n : ℕ). min n most) (sym (ap (λ (x : State W). x.ops) e.state))

    dropped_are : z.dropped ≡ length (all_msgs W bf.order) - length (all_msgs W σ.order) - length σ.taken
    unfolding end_c
    dropped_are =
        let whole : length (all_msgs W bf.order) ≡ f.rows =
        ap (λ (o : List _). length (all_msgs W o)) order_is ∙ left_is ext time f.rows m.store.owner f.places ∙ begun.held in
        rw (whole, held_is, ← taken_is)

    last_after_lem : σ.last ≡ last_after k g.last z.last
    unfolding end_c state_of
    last_after_lem = ap (λ (x : State W). x.last) after_sweep.state ∙ ap (λ (l : Option ℕ). last_after k l x₁.last) (sym last_is)

    run_is : run_c class cost f k xs b.number b.slots (at_least0 b.last) m ≡ z
    unfolding run_c rest_c
    run_is = refl

    ended_is : k ≡ to_open W A g.slots → xs ≡ listed W A g.index → ended W A bf g set ≡ σ
    unfolding ended passes
    ended_is ke xe = rw (ke, xe)

    joins : ended W A bf g set ≡ σ → Ran ext time A cost f b k bf g set z
    unfolding end_c
    joins t = record {
      means = subst (λ (s : State W). Means ext time A cost f after z.now (billed s)) (sym t)
          (end_sim ext time A class cost f after a after_sweep);
      collected = taken_is ∙ ap (λ (s : State W). length s.taken) (sym t);
      operations = ops_are ∙ ap (λ (s : State W). min (s.ops + length s.order) most) (sym t);
      dropped = dropped_are
          ∙ ap (λ (s : State W). length (all_msgs W bf.order) - length (all_msgs W s.order) - length s.taken) (sym t);
      last = ap (λ (s : State W). s.last) t ∙ last_after_lem;
    }

    -- k slots are to be opened, and xs are the slots listed; the last equation is what the code of `run` ensures
    pub run_means : k ≡ to_open W A g.slots → xs ≡ listed W A g.index
        → {x : RanC} → x ≡ run_c class cost f k xs b.number b.slots (at_least0 b.last) m → Ran ext time A cost f b k bf g set x
    run_means ke xe {x} e = subst (λ (r : RanC). Ran ext time A cost f b k bf g set r) (sym (e ∙ run_is)) (joins (ended_is ke xe))
