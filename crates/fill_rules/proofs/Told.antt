-- What a run leaves, as the rules' answer on numbers: each part of it, read off the columns (`told_is`), and how long the lists in it are.
-- Assumes nothing.
use mathlib.Core.Path.{◌≡◌, refl, sym, ap, subst, ◌∙◌}
use mathlib.Core.Bool.{Bool, not}
use mathlib.Core.List.{List, map}
use Prim.Native.Nat.{ℕ, ◌+◌, ◌≤◌}
use native.Mathlib.Omega.{arith}
use lib.ListN.{length, take, length-append}
use lib.Seq.{length-take-le}
use borrow.Author.Tests.{eqb-true, eq-eqb}
use Rattle.rules.specs.World.{World, Slot, Args, Buffer, Group, keep}
use Rattle.rules.specs.Queues.{count_of}
use Rattle.rules.specs.Passes.{State, entered}
use Rattle.rules.specs.Fill.{Filled, accepted, buffer_after, group_after}
use Rattle.demands.proofs.Rows.{Lawful}
use Rattle.demands.proofs.Steps.{R_ended}
use Rattle.demands.proofs.Move.{Le, le_steps}
use Rattle.columns.specs.Lists.{tab_i}
use Rattle.columns.proofs.Tabs.{length_tab}
use Rattle.moves.specs.declared.Fixed.{Fixed}
use Rattle.meaning.specs.Meaning.{Numbers, Setting, state_of, slot_at, group_row}
use Rattle.meaning.specs.Passes.{RanC}
use Rattle.meaning.specs.Means.{Ran, setting_after, billed}

-- numbers are told apart
pub numbers_lawful : (ext : ℕ → Bool) (time : ℕ → ℕ) → Lawful (Numbers ext time)
numbers_lawful ext time = record { decide = eqb-true; self = λ a. eq-eqb a a refl }

module _ {ext : ℕ → Bool} {time : ℕ → ℕ} {A : Args (Numbers ext time)} {cost : List ℕ} {fx : Fixed} {b : Setting} {k : ℕ}
    {bf : Buffer (Numbers ext time)} {g : Group (Numbers ext time)} {set : List ℕ} {x : RanC} (ran : Ran ext time A cost fx b k bf g set x) where
  abbrev W : World
  W = Numbers ext time

  abbrev pub after : Setting
  after = setting_after k b x.number x.slots x.last

  -- the state that the columns mean
  abbrev pub state : State W
  state = state_of ext time fx after ran.means.ops x.now

  abbrev pub told : Filled W
  told = record {
    code = 0;
    collected = x.now.store.tally.taken;
    ops = x.now.store.tally.ops;
    dropped = x.dropped;
    keys = map W.key (keep (λ m. not (W.external m)) state.taken);
    buffer = buffer_after W bf state;
    group = group_after W g state;
    skipped = state.skipped;
  }

  pub told_is : accepted W A bf g set ≡ told
  unfolding accepted buffer_after group_after billed
  told_is i = record {
    code = 0;
    collected = sym ran.collected i;
    ops = sym ran.operations i;
    dropped = sym ran.dropped i;
    keys = map W.key (keep (λ m. not (W.external m)) (ran.means.state i).taken);
    buffer = buffer_after W bf (ran.means.state i);
    group = group_after W g (ran.means.state i);
    skipped = (ran.means.state i).skipped;
  }

  -- ---- how many

  pub lists_many : length told.group.lists ≡ x.now.store.tally.accounts
  unfolding group_after state_of
  lists_many =
      length_tab x.now.store.tally.accounts 0
      (group_row ext time b.entry_lists x.now.store.member x.now.store.owner (take x.now.store.tally.taken x.now.store.taken))

  abbrev slots_now : ℕ → Slot W
  slots_now =
      slot_at ext time x.number (take x.now.store.tally.accounts x.now.store.member) x.now.store.home x.now.store.ints
      x.now.store.exts

  pub slots_are : told.group.slots ≡ tab_i x.slots 0 slots_now
  unfolding group_after state_of
  slots_are = refl

  pub slots_many : length told.group.slots ≡ x.slots
  slots_many =
      ap length slots_are ∙ length_tab x.slots 0 slots_now

  pub taken_few : x.now.store.tally.taken ≤ fx.rows
  taken_few = let s = ran.means.good.store in omega (arith, s.takes)

  pub joined_few : x.now.store.tally.joined ≤ 1280
  joined_few = let s = ran.means.good.marks in omega (arith, s.joins)

  pub skipped_many : length told.skipped ≡ length b.entry_skipped + x.now.store.tally.joined
  unfolding state_of
  skipped_many =
      let s = ran.means.good.marks in
      length-append b.entry_skipped (take x.now.store.tally.joined x.now.joined)
      ∙ ap (λ (n : ℕ). length b.entry_skipped + n)
      (length-take-le x.now.store.tally.joined x.now.joined (omega (arith, s.joins, s.joined_long)))

  pub last_is : told.group.last ≡ after.last
  unfolding group_after state_of
  last_is = refl

  -- ---- a slot's count does not fall

  pub counts_rise : (n : ℕ) → count_of W n g.slots ≤ count_of W n told.group.slots
  unfolding accepted group_after entered
  counts_rise n =
      let L = numbers_lawful ext time in
      subst (λ (ss : List (Slot W)). count_of W n g.slots ≤ count_of W n ss) (ap (λ (f : Filled W). f.group.slots) told_is)
      ((R_ended W L A 0 (Le W L A) (le_steps W L A 0) bf g set (omega arith)).counts n)
