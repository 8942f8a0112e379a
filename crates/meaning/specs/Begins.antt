-- What a caller has to show of the columns before a run: that they hold a buffer, a group and a skipped set, and no more. Assumes nothing.
use Rattle.std.specs.Prelude.{◌≡◌, Bool, false, not, List, [], ℕ, ◌<◌, ◌≤◌, eqb, length, get_or, take}
use Rattle.rules.specs.World.{Args, Buffer, Group, at_least0, is_nil}
use Rattle.rules.specs.Queues.{is_in}
use Rattle.rules.specs.Passes.{verdict_in, entered}
use Rattle.columns.specs.Lists.{tab_i}
use Rattle.moves.specs.declared.Fixed.{Fixed}
use Rattle.moves.specs.Moves.{held_at, nowhere}
use Rattle.meaning.specs.Meaning.{Numbers, Columns, Setting, row, order_row, slot_at}
use Rattle.meaning.specs.Passes.{left_c}
use Rattle.meaning.specs.Means.{Means, Fresh, Low}

-- every column has its length, and what a fill does not change is within its bounds
pub record Sizes (f : Fixed) (cost owner taken home member ints exts mark joined : List ℕ) : Type 0 where
  pub owner_long : length owner ≡ 1024
  pub taken_long : length taken ≡ 1024
  pub home_long : length home ≡ 1280
  pub member_long : length member ≡ 1280
  pub ints_long : length ints ≡ 64
  pub exts_long : length exts ≡ 64
  pub mark_long : length mark ≡ 1280
  pub joined_long : length joined ≡ 1280
  pub cost_long : length cost ≡ 1280
  pub rows_fit : f.rows ≤ 1024
  pub places_fit : f.places ≤ 256
  pub height_fit : f.height ≤ 16

module _ (ext : ℕ → Bool) (time : ℕ → ℕ) (A : Args (Numbers ext time)) (f : Fixed) (b : Setting) (bf : Buffer (Numbers ext time))
    (g : Group (Numbers ext time)) (set : List ℕ) where
  -- n accounts are in the group
  pub record Begins (owner home member ints exts mark : List ℕ) (n : ℕ) : Type 0 where
    -- the buffer: the queue of a place is the rows that it owns, and every row is owned by a place
    pub order : bf.order ≡ tab_i f.places 0 (order_row ext time f.rows owner)
    pub held : (i : ℕ) → i < f.rows → get_or owner i 0 < f.places
    -- the group's accounts: the members, each once, with their lists
    pub lists : g.lists ≡ tab_i n 0 (λ (i : ℕ). row ext time (get_or member i 0) (get_or b.entry_lists i []))
    pub as_many : length b.entry_lists ≤ n
    pub filled : (i : ℕ) → i < n → is_nil (get_or b.entry_lists i []) ≡ false
    pub most : n ≤ 1280
    pub parties : (i : ℕ) → i < n → get_or member i 0 < 1280
    pub once : (i j : ℕ) → i < n → j < n → get_or member i 0 ≡ get_or member j 0 → i ≡ j
    -- a party has a home where it is a member, and its home is a slot
    pub housed : (p : ℕ) → p < 1280 → is_in (Numbers ext time) p (take n member) ≡ not (eqb (get_or home p 0) nowhere)
    pub lodged : (p : ℕ) → p < 1280 → b.slots ≤ get_or home p 0 → get_or home p 0 ≡ nowhere
    -- the group's slots, each with its own number, none above the last; the cells behind them are 0
    pub slots : g.slots ≡ tab_i b.slots 0 (slot_at ext time b.number (take n member) home ints exts)
    pub last : g.last ≡ b.last
    pub few : b.slots ≤ 64
    pub small : (j : ℕ) → j < 64 → held_at ints exts j ≤ 16
    pub numbers_long : length b.number ≡ 64
    pub numbered : (i j : ℕ) → i < b.slots → j < b.slots → get_or b.number i 0 ≡ get_or b.number j 0 → i ≡ j
    pub low : (i : ℕ) → i < b.slots → get_or b.number i 0 ≤ at_least0 b.last
    pub ints0 : (j : ℕ) → b.slots ≤ j → j < 64 → get_or ints j 0 ≡ 0
    pub exts0 : (j : ℕ) → b.slots ≤ j → j < 64 → get_or exts j 0 ≡ 0
    -- the skipped set: mark 2 is a party in it, mark 1 another whose row says skip
    pub skipped : set ≡ b.entry_skipped
    pub inset : (p : ℕ) → p < 1280 → is_in (Numbers ext time) p set ≡ eqb (get_or mark p 0) 2
    pub says : (p : ℕ) → p < 1280 → eqb (get_or mark p 0) 2 ≡ false → verdict_in (Numbers ext time) A p A.rows ≡ eqb (get_or mark p 0) 1

  -- what a run starts from: columns that mean the entry of a fill, whose next slots are fresh and whose rows are all held
  pub record Begun (cost : List ℕ) (m : Columns) : Type 0 where
    pub means : Means ext time A cost f b m (entered (Numbers ext time) A bf g set)
    pub low : Low b
    pub fresh : Fresh b.slots m
    pub held : left_c f.rows f.places m.store.owner ≡ f.rows
