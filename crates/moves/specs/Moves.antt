-- A check, passing over, a take and a move on columns: what each routine makes of what it is lent. An account is a number, its party; the
-- parties below `places` are the accounts of the order, by their place. A message is a row. `Marks` is what a check changes, `Store` what a
-- move changes. `class` holds the class of each row in its first cells; the chains behind them (specs/Linked.antt) are read by no rule: a rule
-- looks at every row, and the routine that goes along a chain leaves the same. A name that ends in C is that of a rule, on columns.
-- Assumes nothing.
use Rattle.std.specs.Prelude.{◌≡◌, List, [], ◌∷◌, Bool, false, cond, ℕ, zero, suc, ◌+◌, ◌-◌, ◌^◌, ◌≤◌, min, length, get_or, set, replicate, eqb, leb}
use Rattle.columns.specs.Lists.{map_i, count_i}
use Rattle.columns.specs.Laid.{laid_at}
use Rattle.moves.specs.declared.Tally.{Tally}
use Rattle.moves.specs.declared.Fixed.{Fixed}

abbrev pub tally : (joined accounts taken ops : ℕ) → Tally
tally j a t o = record { joined = j; accounts = a; taken = t; ops = o }

-- the sum held at 2^64 − 1
abbrev pub sum : ℕ → ℕ → ℕ
sum a b = min (a + b) (2 ^ 64 - 1)

abbrev pub costs : Tally → ℕ → Tally
costs t o = tally t.joined t.accounts t.taken (sum t.ops o)

-- ---- a check

-- the mark of a party: 2 if it is in the skipped set, 1 if its row says skip, else 0; and the parties that joined the set in this fill
pub record Marks : Type 0 where
  pub mark : List ℕ
  pub joined : List ℕ
  pub tally : Tally

abbrev pub marks : List ℕ → List ℕ → Tally → Marks
marks m j t = record { mark = m; joined = j; tally = t }

-- party p joins the set, at the cost c
abbrev pub joins : (c p : ℕ) → Marks → Marks
joins c p m =
    marks (set m.mark p 2) (set m.joined m.tally.joined p)
    (tally (m.tally.joined + 1) m.tally.accounts m.tally.taken (sum m.tally.ops c))

unfoldable pub check_marks : (cost : List ℕ) → ℕ → Marks → Marks
check_marks cost p m =
    cond (eqb (get_or m.mark p 0) 2) (marks m.mark m.joined (costs m.tally 1))
    (cond (eqb (get_or m.mark p 0) 1) (joins (get_or cost p 0) p m) (marks m.mark m.joined (costs m.tally (get_or cost p 0))))

-- ---- passing over

-- the owner of a row that was dropped
abbrev pub gone : ℕ
gone = 65535

-- the owner of a row that was taken from party p
abbrev pub taken_from : ℕ → ℕ
taken_from p = 2048 + p

-- a row of owner o and class k is a droppable one of party p
abbrev pub lapsed : (p o k : ℕ) → Bool
lapsed p o k = cond (eqb o p) (eqb k 2) false

abbrev pub pass_cell : (class : List ℕ) → (p i o : ℕ) → ℕ
pass_cell class p i o = cond (lapsed p o (get_or class i 0)) gone o

unfoldable pub pass_owners : (class : List ℕ) → (n p : ℕ) → List ℕ → List ℕ
pass_owners class n p os = map_i (pass_cell class p) n 0 os

-- ---- a take

unfoldable pub queued_c : (n p : ℕ) → List ℕ → ℕ
queued_c n p os = count_i (λ i o. eqb o p) n 0 os

-- the owners afterwards, the rows taken, in order, how many of them are internals, and how many rows were popped
pub record Taking : Type 0 where
  pub owners : List ℕ
  pub rows : List ℕ
  pub ints : ℕ
  pub pops : ℕ

abbrev pub untouched : List ℕ → Taking
untouched os = record { owners = os; rows = []; ints = 0; pops = 0 }

-- a row is passed by, popped and dropped, popped and taken
abbrev pub passed_by : ℕ → Taking → Taking
passed_by o t = record { owners = o ∷ t.owners; rows = t.rows; ints = t.ints; pops = t.pops }

abbrev pub dropped : Taking → Taking
dropped t = record { owners = gone ∷ t.owners; rows = t.rows; ints = t.ints; pops = t.pops + 1 }

abbrev pub chosen : (p k i : ℕ) → Taking → Taking
chosen p k i t = record {
  owners = taken_from p ∷ t.owners;
  rows = i ∷ t.rows;
  ints = t.ints + cond (eqb k 0) 1 0;
  pops = t.pops + 1;
}

-- rows are taken from the front of the queue of p until k are taken or m rows were looked at, the first of them i
abbrev pub take_c : (p : ℕ) (class : List ℕ) → (k m i : ℕ) → List ℕ → Taking
take_c p class k zero i os = untouched os
take_c p class zero (suc m) i os = untouched os
take_c p class (suc k) (suc m) i [] = untouched []
take_c p class (suc k) (suc m) i (o ∷ os) =
    cond (eqb o p)
    (cond (eqb (get_or class i 0) 2) (dropped (take_c p class (suc k) m (i + 1) os))
    (chosen p (get_or class i 0) i (take_c p class k m (i + 1) os)))
    (passed_by o (take_c p class (suc k) m (i + 1) os))

-- what the routine leaves, and bounds that save its caller an induction
pub record TookIs (t : Taking) (n k : ℕ) (lent owners out : List ℕ) (got ints pops : ℕ) : Type 0 where
  pub owners_are : owners ≡ t.owners
  pub out_is : out ≡ laid_at n t.rows lent
  pub got_is : got ≡ length t.rows
  pub ints_are : ints ≡ t.ints
  pub pops_are : pops ≡ t.pops
  pub fewer : ints ≤ got
  pub atmost : got ≤ k
  pub few : pops ≤ 1024
  pub fits : n + got ≤ 1024

-- ---- a move

-- the home of a party that is not in the group
abbrev pub nowhere : ℕ
nowhere = 255

-- the home of a party is the position of its slot; the members are the group's parties in the order in which they came
pub record Homes : Type 0 where
  pub home : List ℕ
  pub member : List ℕ
  pub tally : Tally

abbrev pub homes : List ℕ → List ℕ → Tally → Homes
homes h p t = record { home = h; member = p; tally = t }

abbrev pub enters : (p j : ℕ) → Homes → Homes
enters p j h =
    homes (set h.home p j) (set h.member h.tally.accounts p)
    (tally h.tally.joined (h.tally.accounts + 1) h.tally.taken h.tally.ops)

-- a party that is not in the group enters it with what was got; where that is nothing, its list goes again, at one operation
unfoldable pub enter_homes : (p j got : ℕ) → Homes → Homes
enter_homes p j got h =
    cond (eqb (get_or h.home p 0) nowhere)
    (cond (eqb got 0) (homes h.home h.member (costs h.tally 1)) (enters p j h))
    h

pub record Store : Type 0 where
  pub owner : List ℕ
  pub taken : List ℕ
  pub home : List ℕ
  pub member : List ℕ
  pub ints : List ℕ
  pub exts : List ℕ
  pub tally : Tally

abbrev pub store : (owner taken home member ints exts : List ℕ) → Tally → Store
store o w h p i e t = record { owner = o; taken = w; home = h; member = p; ints = i; exts = e; tally = t }

-- how many messages the slot at j holds
abbrev pub held_at : (ints exts : List ℕ) → ℕ → ℕ
held_at is es j = get_or is j 0 + get_or es j 0

-- the column of a table in which only the slot at j holds anything: x
unfoldable pub alone : (j x : ℕ) → List ℕ
alone j x = set (replicate 64 0) j x

-- "the lesser of queue length and remaining room"
unfoldable pub wanted_c : (length height held : ℕ) → ℕ
wanted_c length height held = min length (height - held)

-- what a take t for the slot at j leaves
abbrev pub with_homes : Store → ℕ → Taking → Homes → Store
with_homes s j t h =
    store t.owners (laid_at s.tally.taken t.rows s.taken) h.home h.member
    (set s.ints j (get_or s.ints j 0 + t.ints)) (set s.exts j (get_or s.exts j 0 + (length t.rows - t.ints))) h.tally

unfoldable pub took_store : (p j : ℕ) → Store → Taking → Store
took_store p j s t =
    with_homes s j t (enter_homes p j (length t.rows)
    (homes s.home s.member
    (tally s.tally.joined s.tally.accounts (s.tally.taken + length t.rows) (sum (sum s.tally.ops 1) (1 + t.pops)))))

abbrev pub with_tally : Store → Tally → Store
with_tally s t = store s.owner s.taken s.home s.member s.ints s.exts t

-- how many messages of party p the slot at j wants
abbrev pub wanted_of : Fixed → (p j : ℕ) → Store → ℕ
wanted_of f p j s = wanted_c (queued_c f.rows p s.owner) f.height (held_at s.ints s.exts j)

-- a party past the places has no queue
unfoldable pub move_store : (class : List ℕ) → Fixed → (p j : ℕ) → Store → Store
move_store class f p j s =
    cond (leb f.places p) s
    (cond (eqb (wanted_of f p j s) 0) (with_tally s (costs s.tally 1))
    (took_store p j s (take_c p class (wanted_of f p j s) f.rows 0 s.owner)))
