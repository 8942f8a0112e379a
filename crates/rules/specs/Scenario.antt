-- The scenario language (docs/SCENARIOS.md) over the rules: accounts and hashes are numbers, a command changes what stands on the desk, and
-- what a scenario prints is read off as lines of numbers. The worked cases run on it (`Cases`, `Codes`), and so does the comparison with
-- the original Rust (docs/COMPARISON.md). Assumes nothing.
use Rattle.std.specs.Prelude.{Bool, true, false, cond, not, List, [], ◌∷◌, ◌++◌, map, ℕ, zero, suc, ◌+◌, eqb, ltb, length, get_or, set as set_at}
use Rattle.std.proofs.Math.Option.{Option, none, some}
use Rattle.rules.specs.World.{World, Row, Slot, Filter, Skip, Args, is_nil, least_read}
use Rattle.rules.specs.Queues.{held_ints, held_exts, held_accounts, full_by_count, full_by_slots}
use Rattle.rules.specs.Fill.{is_filled, group_ints, group_exts, group_accounts, group_slots}
use Rattle.rules.specs.Calls.{Store, Target, Offer, Answer, FillAnswer, is_open, set_up_buffer, set_up_group, add_message, remove_accounts, begin as begin_call, commit as commit_call, rollback as rollback_call, fill_group, join_groups}

pub record Note : Type 0 where
  pub kind : ℕ
  pub time : ℕ
  pub hash : ℕ

-- a row of the key list
pub record Mark : Type 0 where
  pub lt : ℕ
  pub hash : ℕ

unfoldable pub W : World
W = record {
  Acc = ℕ;
  same = eqb;
  Msg = Note;
  external = λ (m : Note). eqb m.kind 1;
  time = λ (m : Note). m.time;
  Key = Mark;
  key = λ (m : Note). record { lt = m.time; hash = m.hash };
}

pub data Command : Type 0 where
  buffer : (M A : ℕ) → Command
  group : (G S : ℕ) → Command
  add : (kind : ℕ) (special other : Bool) (account time hash : ℕ) → Command
  remove : List ℕ → Command
  begin commit rollback : Command
  rows : Command
  row : (account : ℕ) (verdict : Bool) (cost : ℕ) → Command
  cost : ℕ → Command
  set : Command
  keys : ℕ → Command
  fill : (G slots height : ℕ) → Filter → Command
  join : (L R : ℕ) → Command
  isfilled : (G slots height : ℕ) → Command
  full : ℕ → Command
  times : ℕ → Command → Command

-- what a scenario works on, and the numbers of the last answer in the order in which they are printed
pub record Desk : Type 0 where
  pub store : Store W
  pub groups : List (Target W)
  pub rows : List (Skip W)
  pub cost : ℕ
  pub skipped : List ℕ
  pub keys : List Mark
  pub said : List ℕ

unfoldable pub many : {X : Type 0} → ℕ → X → List X
many zero x = []
many (suc n) x = x ∷ many n x

unfoldable pub digit : Bool → ℕ
digit true = 1
digit false = 0

-- "a buffer of set-up (1, 1), no groups, no rows, cost 0, an empty set, a key list of no rows"
unfoldable pub start : Desk
unfolding W
start = record { store = (set_up_buffer W 1 1).after; groups = []; rows = []; cost = 0; skipped = []; keys = []; said = [] }

-- the desk with one thing changed, and an answer
unfoldable pub with_store : Desk → Answer (Store W) → Desk
with_store d a = record {
  store = a.after;
  groups = d.groups;
  rows = d.rows;
  cost = d.cost;
  skipped = d.skipped;
  keys = d.keys;
  said = a.code ∷ [];
}

unfoldable pub with_groups : Desk → List (Target W) → ℕ → Desk
with_groups d gs c = record {
  store = d.store;
  groups = gs;
  rows = d.rows;
  cost = d.cost;
  skipped = d.skipped;
  keys = d.keys;
  said = c ∷ [];
}

unfoldable pub with_skips : Desk → List (Skip W) → ℕ → List ℕ → Desk
unfolding W
with_skips d rs c k = record {
  store = d.store;
  groups = d.groups;
  rows = rs;
  cost = c;
  skipped = k;
  keys = d.keys;
  said = 0 ∷ [];
}

unfoldable pub answered : Desk → List ℕ → Desk
answered d ns = record {
  store = d.store;
  groups = d.groups;
  rows = d.rows;
  cost = d.cost;
  skipped = d.skipped;
  keys = d.keys;
  said = ns;
}

unfoldable pub blank_keys : ℕ → List Mark
blank_keys n = many n (record { lt = 0; hash = 0 })

unfoldable pub target : Desk → ℕ → Target W
target d g = get_or d.groups g (set_up_group W 1).after

-- group g of the list becomes t; "groups below G that do not exist are made with S 1"
unfoldable pub placed : ℕ → Target W → List (Target W) → List (Target W)
placed zero t [] = t ∷ []
placed zero t (x ∷ gs) = t ∷ gs
placed (suc g) t [] = (set_up_group W 1).after ∷ placed g t []
placed (suc g) t (x ∷ gs) = x ∷ placed g t gs

-- "of another form it is 32 zero bytes"
unfoldable pub offered : ℕ → Bool → Bool → ℕ → ℕ → ℕ → Offer W
unfolding W
offered kind special other account time hash = record {
  special = special;
  kind = kind;
  acc = cond other 0 account;
  msg = record { kind = kind; time = time; hash = hash };
}

unfoldable pub filled : Desk → ℕ → Args W → Desk
unfolding W
filled d g A =
    let f = fill_group W A d.keys d.store (target d g) d.skipped in
    record {
      store = f.store;
      groups = set_at d.groups g f.target;
      rows = d.rows;
      cost = d.cost;
      skipped = f.skipped;
      keys = f.keys;
      said = f.code ∷ f.collected ∷ f.ops ∷ f.dropped ∷ [];
    }

unfoldable pub joined : Desk → ℕ → ℕ → Desk
joined d l r =
    let j = join_groups W (target d l) (target d r) in
    with_groups d (set_at (set_at d.groups l j.left) r j.right) j.code

unfoldable pub again : ℕ → (Desk → Desk) → Desk → Desk
again zero f d = d
again (suc n) f d = again n f (f d)

-- Group g as fills on an empty buffer leave it, slot after slot opened and dropped as empty, until the last number is n. Not a command:
-- a short way to where 65,000 such fills lead.
unfoldable pub raised : (g n : ℕ) → Desk → Desk
unfolding W
raised g n d =
    let t = target d g in
    let x = t.now in
    with_groups d (set_at d.groups g (record { S = t.S; now = record { lists = x.lists; slots = x.slots; last = some n; index = x.index } })) 0

unfoldable pub does : Command → Desk → Desk
unfolding W
does (buffer M A) d = with_store d (set_up_buffer W M A)
does (group g S) d = let t = set_up_group W S in with_groups d (placed g t.after d.groups) t.code
does (add k s o a t h) d = with_store d (add_message W (offered k s o a t h) d.store)
does (remove names) d = with_store d (remove_accounts W names d.store)
does begin d = with_store d (begin_call W d.store)
does commit d = with_store d (commit_call W d.store)
does rollback d = with_store d (rollback_call W d.store)
does rows d = with_skips d [] d.cost d.skipped
does (row a v c) d =
    -- "up to 300 are kept"
    with_skips d (cond (ltb (length d.rows) 300) (d.rows ++ (record { acc = a; skip = v; cost = c } ∷ [])) d.rows) d.cost d.skipped
does (cost c) d = with_skips d d.rows c d.skipped
does set d = with_skips d d.rows d.cost []
does (keys n) d = record {
  store = d.store;
  groups = d.groups;
  rows = d.rows;
  cost = d.cost;
  skipped = d.skipped;
  keys = blank_keys n;
  said = 0 ∷ [];
}
does (fill g k h f) d = filled d g (record { asked = k; height = h; filter = f; rows = d.rows; cost = d.cost })
does (join l r) d = joined d l r
does (isfilled g k h) d = answered d (digit (is_filled W k h (target d g).now) ∷ [])
does (full n) d = answered d (digit (full_by_count W n d.store.now) ∷ digit full_by_slots ∷ [])
does (times n c) d = again n (does c) d

-- ---- what is printed, a list of numbers for each line; the first of a line says which it is

-- "by rising account": insertion by a number
unfoldable pub into : {X : Type 0} → (X → ℕ) → X → List X → List X
into f x [] = x ∷ []
into f x (y ∷ l) = cond (ltb (f x) (f y)) (x ∷ y ∷ l) (y ∷ into f x l)

unfoldable pub rising : {X : Type 0} → (X → ℕ) → List X → List X
rising f [] = []
rising f (x ∷ l) = into f x (rising f l)

unfoldable pub notes : List Note → List ℕ
notes [] = []
notes (m ∷ ms) = m.kind ∷ m.time ∷ m.hash ∷ notes ms

unfoldable pub row_line : ℕ → Row W → List ℕ
unfolding W
row_line tag r = tag ∷ r.acc ∷ notes r.msgs

unfoldable pub slot_line : Slot W → List ℕ
unfolding W
slot_line s = 4 ∷ s.number ∷ s.ints ∷ s.exts ∷ s.accounts

-- "for each bucket that is not empty, by rising count"
unfoldable pub bucket_lines : ℕ → List (List ℕ) → List (List ℕ)
bucket_lines c [] = []
bucket_lines c (b ∷ bs) = cond (is_nil b) (bucket_lines (suc c) bs) ((5 ∷ c ∷ b) ∷ bucket_lines (suc c) bs)

-- the last slot number with one added; 0 for none
unfoldable pub last_number : Option ℕ → ℕ
last_number none = 0
last_number (some n) = suc n

unfoldable pub group_lines : ℕ → List (Target W) → List (List ℕ)
unfolding W
group_lines n [] = []
group_lines n (t ∷ ts) =
    let g = t.now in
    (3 ∷ n ∷ t.S ∷ group_ints W g ∷ group_exts W g ∷ group_accounts W g ∷ group_slots W g ∷ last_number g.last ∷ [])
    ∷ map slot_line g.slots
    ++ (bucket_lines 0 g.index ++ (map (row_line 6) (rising (λ (r : Row W). r.acc) g.lists) ++ group_lines (suc n) ts))

-- "the rows up to the last that is not zero"
unfoldable pub key_line : List Mark → List ℕ
key_line [] = []
key_line (k ∷ ks) =
    let l = key_line ks in
    cond (is_nil l) (cond (eqb (k.lt + k.hash) 0) [] (k.lt ∷ k.hash ∷ [])) (k.lt ∷ k.hash ∷ l)

unfoldable pub store_line : Store W → List ℕ
store_line s =
    1
    ∷ s.M
    ∷ s.A
    ∷ held_ints W s.now
    ∷ held_exts W s.now
    ∷ held_accounts W s.now
    ∷ least_read s.now.least
    ∷ digit (is_open s.now.least)
    ∷ digit (is_open s.kept)
    ∷ []

-- the answer and the whole state
unfoldable pub printed : Desk → List (List ℕ)
unfolding W
printed d =
    (0 ∷ d.said)
    ∷ store_line d.store
    ∷ map (row_line 2) d.store.now.order
    ++ (group_lines 0 d.groups ++ ((7 ∷ rising (λ (n : ℕ). n) d.skipped) ∷ (8 ∷ length d.keys ∷ key_line d.keys) ∷ []))

-- ---- what is compared

unfoldable pub same_line : List ℕ → List ℕ → Bool
same_line [] [] = true
same_line [] (y ∷ ys) = false
same_line (x ∷ xs) [] = false
same_line (x ∷ xs) (y ∷ ys) = let go = same_line xs ys in cond (eqb x y) go false

unfoldable pub same_lines : List (List ℕ) → List (List ℕ) → Bool
same_lines [] [] = true
same_lines [] (y ∷ ys) = false
same_lines (x ∷ xs) [] = false
same_lines (x ∷ xs) (y ∷ ys) = let go = same_lines xs ys in cond (same_line x y) go false

-- a command and what must be printed after it; nothing is printed while quiet
pub data Printed : Type 0 where
  quiet : Command → Printed
  loud : Command → List (List ℕ) → Printed
  raise : (g n : ℕ) → Printed

unfoldable pub agrees : List Printed → Desk → Bool
agrees [] d = true
agrees (quiet c ∷ ps) d = agrees ps (does c d)
agrees (raise g n ∷ ps) d = agrees ps (raised g n d)
agrees (loud c ls ∷ ps) d =
    let e = does c d in
    let go = agrees ps e in
    cond (same_lines (printed e) ls) go false
