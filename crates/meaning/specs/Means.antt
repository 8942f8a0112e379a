-- Columns that mean a state of the rules: the relation that every routine keeps, and what a whole fill leaves. Assumes nothing.
use Rattle.std.specs.Prelude.{◌≡◌, Bool, List, ℕ, zero, suc, ◌+◌, ◌-◌, ◌<◌, ◌≤◌, min, length, get_or}
use Rattle.std.proofs.Math.Option.{Option, some}
use Rattle.rules.specs.World.{Args, Buffer, Group, at_least0, most}
use Rattle.rules.specs.Queues.{all_msgs}
use Rattle.rules.specs.Passes.{State, Walked, ended}
use Rattle.columns.specs.Lists.{tab_i}
use Rattle.moves.specs.declared.Fixed.{Fixed}
use Rattle.meaning.specs.Meaning.{Numbers, Columns, Setting, state_of, Fits}
use Rattle.moves.specs.Moves.{nowhere}
use Rattle.meaning.specs.Walks.{Good, WalkC}
use Rattle.meaning.specs.Passes.{RanC}

module _ (ext : ℕ → Bool) (time : ℕ → ℕ) (A : Args (Numbers ext time)) (cost : List ℕ) (f : Fixed) (b : Setting) where
  pub record Means (m : Columns) (σ : State (Numbers ext time)) : Type 0 where
    pub ops : ℕ
    pub good : Good f cost m
    pub fits : Fits ext time A f b ops m
    pub state : σ ≡ state_of ext time f b ops m

  -- the places from i on
  abbrev pub places : ℕ → List ℕ
  places i = tab_i (f.places - i) i (λ (p : ℕ). p)

  pub record Walks (x : WalkC) (y : Walked (Numbers ext time)) : Type 0 where
    pub rest : y.rest ≡ places x.at
    pub now : Means x.now y.now

-- ---- the first pass opens slots

-- the cells of the positions from s on hold nothing, and no party has such a home
pub record Fresh (s : ℕ) (m : Columns) : Type 0 where
  pub ints0 : (j : ℕ) → s ≤ j → get_or m.store.ints j 0 ≡ 0
  pub exts0 : (j : ℕ) → s ≤ j → get_or m.store.exts j 0 ≡ 0
  pub homes : (p : ℕ) → p < 1280 → s ≤ get_or m.store.home p 0 → get_or m.store.home p 0 ≡ nowhere

-- the numbers of the slots stand in a column, and none is above the last
pub record Low (b : Setting) : Type 0 where
  pub long : length b.number ≡ 64
  pub low : (i : ℕ) → i < b.slots → get_or b.number i 0 ≤ at_least0 b.last

-- the last number after k slots were to be opened, n being the last number given
unfoldable pub last_after : (k : ℕ) → Option ℕ → (n : ℕ) → Option ℕ
last_after zero l n = l
last_after (suc k) l n = some n

abbrev pub setting_after : (k : ℕ) → Setting → (number : List ℕ) → (slots last : ℕ) → Setting
setting_after k b numbers slots last = record {
  entry_lists = b.entry_lists;
  entry_skipped = b.entry_skipped;
  slots = slots;
  number = numbers;
  last = last_after k b.last last;
}

-- ---- the end

-- the state with "One operation per account now in the order, emptied ones included"
unfoldable pub billed : {ext : ℕ → Bool} {time : ℕ → ℕ} → State (Numbers ext time) → State (Numbers ext time)
billed σ = record {
  order = σ.order;
  lists = σ.lists;
  slots = σ.slots;
  last = σ.last;
  skipped = σ.skipped;
  taken = σ.taken;
  ops = σ.ops + length σ.order;
}

module _ (ext : ℕ → Bool) (time : ℕ → ℕ) (A : Args (Numbers ext time)) (cost : List ℕ) (f : Fixed) (b : Setting) where
  -- what a run leaves, beside the state that the rules' passes make of a buffer, a group and a skipped set: the columns mean it, and the
  -- counts are those of the rules' answer (`accepted` of rules/specs/Fill)
  pub record Ran (k : ℕ) (bf : Buffer (Numbers ext time)) (g : Group (Numbers ext time)) (set : List ℕ) (x : RanC) : Type 0 where
    pub means :
        Means ext time A cost f (setting_after k b x.number x.slots x.last) x.now (billed (ended (Numbers ext time) A bf g set))
    pub collected : x.now.store.tally.taken ≡ length (ended (Numbers ext time) A bf g set).taken
    pub operations : x.now.store.tally.ops
        ≡ min ((ended (Numbers ext time) A bf g set).ops + length (ended (Numbers ext time) A bf g set).order) most
    pub dropped : x.dropped ≡ length (all_msgs (Numbers ext time) bf.order)
        - length (all_msgs (Numbers ext time) (ended (Numbers ext time) A bf g set).order) - length (ended (Numbers ext time) A bf g set).taken
    pub last : (ended (Numbers ext time) A bf g set).last ≡ last_after k g.last x.last
