-- The columns of a fill, the state of the rules that they mean, and what makes it so. Assumes nothing.
use Rattle.std.specs.Prelude.{◌≡◌, Bool, false, not, List, [], ◌++◌, ℕ, ◌^◌, ◌-◌, ◌<◌, ◌≤◌, min, eqb, length, get_or, take}
use Rattle.std.proofs.Math.Option.{Option}
use Rattle.rules.specs.World.{World, Row, Slot, Args, is_nil, keep}
use Rattle.rules.specs.Queues.{is_in, droppable}
use Rattle.rules.specs.Passes.{State, verdict_in, cost_in}
use Rattle.columns.specs.Lists.{pick, tab_i}
use Rattle.moves.specs.declared.Tally.{Tally}
use Rattle.moves.specs.declared.Fixed.{Fixed}
use Rattle.moves.specs.Moves.{Store, store, Marks, marks, with_tally, check_marks, pass_owners, move_store, nowhere, taken_from}

-- the world of numbers: an account is a party, a message a row
abbrev pub Numbers : (ℕ → Bool) → (ℕ → ℕ) → World
Numbers ext time = record {
  Acc = ℕ;
  same = eqb;
  Msg = ℕ;
  external = ext;
  time = time;
  Key = ℕ;
  key = λ (i : ℕ). i;
}

-- ---- the columns, and the three routines on all of them

-- all that the passes change but the slots' numbers
pub record Columns : Type 0 where
  pub store : Store
  pub mark : List ℕ
  pub joined : List ℕ

abbrev pub columns_of : Store → (mark joined : List ℕ) → Columns
columns_of s m j = record { store = s; mark = m; joined = j }

abbrev pub columns : (owner taken home member ints exts mark joined : List ℕ) → Tally → Columns
columns o w h p i e k j t = columns_of (store o w h p i e t) k j

abbrev pub marks_of : Columns → Marks
marks_of m = marks m.mark m.joined m.store.tally

abbrev pub with_marks : Columns → Marks → Columns
with_marks m c = columns_of (with_tally m.store c.tally) c.mark c.joined

abbrev pub with_owner : Store → List ℕ → Store
with_owner s os = store os s.taken s.home s.member s.ints s.exts s.tally

abbrev pub check_c : (cost : List ℕ) → ℕ → Columns → Columns
check_c cost p m = with_marks m (check_marks cost p (marks_of m))

abbrev pub pass_c : (class : List ℕ) → Fixed → ℕ → Columns → Columns
pass_c class f p m = columns_of (with_owner m.store (pass_owners class f.rows p m.store.owner)) m.mark m.joined

abbrev pub move_c : (class : List ℕ) → Fixed → (p j : ℕ) → Columns → Columns
move_c class f p j m = columns_of (move_store class f p j m.store) m.mark m.joined

-- ---- the state

-- what a state has besides the columns: the group's lists and the skipped set at entry; how many slots there are, their numbers and the
-- last number, now
pub record Setting : Type 0 where
  pub entry_lists : List (List ℕ)
  pub entry_skipped : List ℕ
  pub slots : ℕ
  pub number : List ℕ
  pub last : Option ℕ

-- the rows of party p among the m from i on
abbrev pub owned : (p m i : ℕ) → List ℕ → List ℕ
owned p m i os = pick (λ (j : ℕ). j) p m i os

module _ (ext : ℕ → Bool) (time : ℕ → ℕ) where
  abbrev pub row : ℕ → List ℕ → Row (Numbers ext time)
  row a ms = record { acc = a; msgs = ms }

  -- the account at place p with its queue, of n rows
  abbrev pub order_row : (n : ℕ) → List ℕ → ℕ → Row (Numbers ext time)
  order_row n os p = row p (owned p n 0 os)

  -- the messages that party p gave, of the rows taken
  abbrev pub given : (owner taken : List ℕ) → ℕ → List ℕ
  given os ts p = keep (λ i. eqb (get_or os i 0) (taken_from p)) ts

  -- the g-th account of the group with its list: what it held at entry, and what it gave
  abbrev pub group_row : (entry : List (List ℕ)) → (member owner taken : List ℕ) → ℕ → Row (Numbers ext time)
  group_row entry ps os ts g = row (get_or ps g 0) (get_or entry g [] ++ given os ts (get_or ps g 0))

  abbrev pub slot : ℕ → List ℕ → (ints exts : ℕ) → Slot (Numbers ext time)
  slot n l i e = record { number = n; accounts = l; ints = i; exts = e }

  -- the parties of the slot at j, in the order in which they came to the group
  abbrev pub homed : (member home : List ℕ) → ℕ → List ℕ
  homed ps hs j = keep (λ p. eqb (get_or hs p 0) j) ps

  abbrev pub slot_at : (number member home ints exts : List ℕ) → ℕ → Slot (Numbers ext time)
  slot_at numbers ps hs is es j = slot (get_or numbers j 0) (homed ps hs j) (get_or is j 0) (get_or es j 0)

  -- the state that columns mean; o is the exact sum of the operations, which the columns hold at 2^64 − 1
  unfoldable pub state_of : Fixed → Setting → (o : ℕ) → Columns → State (Numbers ext time)
  state_of f b o m =
      let s = m.store in
      let t = s.tally in
      record {
        order = tab_i f.places 0 (order_row f.rows s.owner);
        lists = tab_i t.accounts 0 (group_row b.entry_lists s.member s.owner (take t.taken s.taken));
        slots = tab_i b.slots 0 (slot_at b.number (take t.accounts s.member) s.home s.ints s.exts);
        last = b.last;
        skipped = b.entry_skipped ++ take t.joined m.joined;
        taken = take t.taken s.taken;
        ops = o;
      }

  -- the columns that do not change say what the arguments say
  pub record Agrees (A : Args (Numbers ext time)) (class cost : List ℕ) (f : Fixed) : Type 0 where
    -- class 2 is a droppable external, class 0 an internal
    pub drops : (i : ℕ) → i < f.rows → droppable (Numbers ext time) A.filter i ≡ eqb (get_or class i 0) 2
    pub kinds : (i : ℕ) → i < f.rows → ext i ≡ not (eqb (get_or class i 0) 0)
    pub height : A.height ≡ f.height
    pub costs : (p : ℕ) → p < 1280 → cost_in (Numbers ext time) A p A.rows ≡ get_or cost p 0

  -- the columns that change
  pub record Fits (A : Args (Numbers ext time)) (f : Fixed) (b : Setting) (o : ℕ) (m : Columns) : Type 0 where
    -- mark 2 is a party in the skipped set, mark 1 another whose row says skip
    pub inset : (p : ℕ) → p < 1280
        → is_in (Numbers ext time) p (b.entry_skipped ++ take m.store.tally.joined m.joined) ≡ eqb (get_or m.mark p 0) 2
    pub says : (p : ℕ) → p < 1280 → eqb (get_or m.mark p 0) 2 ≡ false
        → verdict_in (Numbers ext time) A p A.rows ≡ eqb (get_or m.mark p 0) 1
    pub total : m.store.tally.ops ≡ min o (2 ^ 64 - 1)
    -- a taken row is a row, and no queue has it
    pub gone : (t : ℕ) → t < m.store.tally.taken
        → (get_or m.store.taken t 0 < f.rows) × (2048 ≤ get_or m.store.owner (get_or m.store.taken t 0) 0)
    -- a party has a home where it is one of the group's members, which are parties, each once, with a list that is not empty
    pub housed : (p : ℕ) → p < 1280
        → is_in (Numbers ext time) p (take m.store.tally.accounts m.store.member) ≡ not (eqb (get_or m.store.home p 0) nowhere)
    pub parties : (g : ℕ) → g < m.store.tally.accounts → get_or m.store.member g 0 < 1280
    pub once : (g h : ℕ) → g < m.store.tally.accounts → h < m.store.tally.accounts
        → get_or m.store.member g 0 ≡ get_or m.store.member h 0 → g ≡ h
    pub filled : (g : ℕ) → g < m.store.tally.accounts
        → is_nil (group_row b.entry_lists m.store.member m.store.owner (take m.store.tally.taken m.store.taken) g).msgs
        ≡ false
    -- the lists at entry are those of the first members; a party without a home gave nothing
    pub new : length b.entry_lists ≤ m.store.tally.accounts
    pub loose : (p : ℕ) → p < 1280 → get_or m.store.home p 0 ≡ nowhere
        → given m.store.owner (take m.store.tally.taken m.store.taken) p ≡ []
    -- slots have different numbers
    pub numbered : (i j : ℕ) → i < b.slots → j < b.slots → get_or b.number i 0 ≡ get_or b.number j 0 → i ≡ j
    pub few : b.slots ≤ 64
