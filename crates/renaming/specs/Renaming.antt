-- Renaming: accounts, messages and keys of one world sent to those of another, and with them rows, slots, buffers, groups and answers.
-- So code that runs on numbers says what it does to bytes (`Renamed` of the proofs). Assumes nothing.
use Rattle.std.specs.Prelude.{◌≡◌, List, map, ℕ, eqb, get_or}
use Rattle.std.proofs.Math.Option.{Option, none, some}
use Rattle.rules.specs.Calls.{Store, Target, Offer, Answer, FillAnswer, JoinAnswer}
use Rattle.rules.specs.World.{World, Row, Slot, Buffer, Group, Skip, Args, Each}
use Rattle.rules.specs.Passes.{State, Walked, Taken}
use Rattle.rules.specs.Fill.{Filled}

pub record Renaming (W U : World) : Type 0 where
  pub acc : W.Acc → U.Acc
  pub msg : W.Msg → U.Msg
  pub key : W.Key → U.Key

-- messages keep what the rules look at
pub record Kinds (W U : World) (f : Renaming W U) : Type 0 where
  pub external : (m : W.Msg) → U.external (f.msg m) ≡ W.external m
  pub time : (m : W.Msg) → U.time (f.msg m) ≡ W.time m
  pub key : (m : W.Msg) → U.key (f.msg m) ≡ f.key (W.key m)

-- different accounts stay different
pub record Faithful (W U : World) (f : Renaming W U) : Type 0 where
  pub same : (a b : W.Acc) → U.same (f.acc a) (f.acc b) ≡ W.same a b
  pub kinds : Kinds W U f

module _ {W U : World} (f : Renaming W U) where
  abbrev pub on_row : Row W → Row U
  on_row r = record { acc = f.acc r.acc; msgs = map f.msg r.msgs }

  abbrev pub on_slot : Slot W → Slot U
  on_slot s = record { number = s.number; accounts = map f.acc s.accounts; ints = s.ints; exts = s.exts }

  abbrev pub on_buffer : Buffer W → Buffer U
  on_buffer b = record { order = map on_row b.order; least = b.least }

  abbrev pub on_group : Group W → Group U
  on_group g = record { lists = map on_row g.lists; slots = map on_slot g.slots; last = g.last; index = g.index }

  abbrev pub on_skip : Skip W → Skip U
  on_skip r = record { acc = f.acc r.acc; skip = r.skip; cost = r.cost }

  abbrev pub on_args : Args W → Args U
  on_args A = record { asked = A.asked; height = A.height; filter = A.filter; rows = map on_skip A.rows; cost = A.cost }

  abbrev pub on_state : State W → State U
  on_state s = record {
    order = map on_row s.order;
    lists = map on_row s.lists;
    slots = map on_slot s.slots;
    last = s.last;
    skipped = map f.acc s.skipped;
    taken = map f.msg s.taken;
    ops = s.ops;
  }

  abbrev pub on_walked : Walked W → Walked U
  on_walked w = record { rest = map f.acc w.rest; now = on_state w.now }

  abbrev pub on_taken : Taken W → Taken U
  on_taken t = record { got = map f.msg t.got; left = map f.msg t.left }

  abbrev pub on_filled : Filled W → Filled U
  on_filled r = record {
    code = r.code;
    collected = r.collected;
    ops = r.ops;
    dropped = r.dropped;
    keys = map f.key r.keys;
    buffer = on_buffer r.buffer;
    group = on_group r.group;
    skipped = map f.acc r.skipped;
  }

  abbrev pub on_kept : Option (Buffer W) → Option (Buffer U)
  on_kept none = none
  on_kept (some b) = some (on_buffer b)

  abbrev pub on_store : Store W → Store U
  on_store s = record { M = s.M; A = s.A; now = on_buffer s.now; kept = on_kept s.kept }

  abbrev pub on_target : Target W → Target U
  on_target t = record { S = t.S; now = on_group t.now }

  abbrev pub on_offer : Offer W → Offer U
  on_offer o = record { special = o.special; kind = o.kind; acc = f.acc o.acc; msg = f.msg o.msg }

  abbrev pub on_fill_answer : FillAnswer W → FillAnswer U
  on_fill_answer p = record {
    code = p.code;
    collected = p.collected;
    ops = p.ops;
    dropped = p.dropped;
    keys = map f.key p.keys;
    store = on_store p.store;
    target = on_target p.target;
    skipped = map f.acc p.skipped;
  }

  abbrev pub on_join_answer : JoinAnswer W → JoinAnswer U
  on_join_answer j = record { code = j.code; left = on_target j.left; right = on_target j.right }

abbrev pub on_answer : {X Y : Type 0} → (X → Y) → Answer X → Answer Y
on_answer g a = record { code = a.code; after = g a.after }

-- ---- accounts of which something holds: P at every account of a list, a buffer, a group, a fill's arguments
module _ (W : World) (P : W.Acc → Type 0) where
  abbrev pub InRow : Row W → Type 0
  InRow r = P r.acc

  abbrev pub InSlot : Slot W → Type 0
  InSlot s = Each P s.accounts

  abbrev pub InBuffer : Buffer W → Type 0
  InBuffer b = Each InRow b.order

  abbrev pub InGroup : Group W → Type 0
  InGroup g = Each InRow g.lists × Each InSlot g.slots

  abbrev pub InKept : Option (Buffer W) → Type 0
  InKept none = Unit {0}
  InKept (some b) = InBuffer b

  abbrev pub InStore : Store W → Type 0
  InStore s = InBuffer s.now × InKept s.kept

  abbrev pub InArgs : Args W → Type 0
  InArgs A = Each (λ (r : Skip W). P r.acc) A.rows

-- different accounts among those of P stay different. Code that numbers the accounts that occur, 0 to n - 1, has P p = (p < n)
abbrev pub Agrees : (W U : World) → Renaming W U → (W.Acc → Type 0) → Type 0
Agrees W U f P = (a b : W.Acc) → P a → P b → U.same (f.acc a) (f.acc b) ≡ W.same a b

-- ---- accounts as numbers: p stands for row p of a table (d where there is none)
abbrev pub Numbered : (U : World) (Msg : Type 0) → (Msg → U.Msg) → World
Numbered U Msg μ = record {
  Acc = ℕ;
  same = eqb;
  Msg = Msg;
  external = λ (m : Msg). U.external (μ m);
  time = λ (m : Msg). U.time (μ m);
  Key = U.Key;
  key = λ (m : Msg). U.key (μ m);
}

abbrev pub by_table : (U : World) (Msg : Type 0) (μ : Msg → U.Msg) (table : List U.Acc) (d : U.Acc) → Renaming (Numbered U Msg μ) U
by_table U Msg μ table d = record { acc = λ (p : ℕ). get_or table p d; msg = μ; key = λ (k : U.Key). k }
