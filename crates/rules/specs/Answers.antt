-- One answer and no other. A contract that tells an answer by what can be read off it, field by field and account by account (`Reads`),
-- leaves one possible answer: any two agree (`Unique.antt` of the proofs). And code whose memory means an answer (`Answers`) has one
-- possible memory where memory that means the same is the same. Assumes nothing.
use Rattle.std.specs.Prelude.{◌≡◌, List}
use Rattle.rules.specs.World.{World, Row, Args, Buffer, Group}
use Rattle.rules.specs.Queues.{at, accounts}
use Rattle.rules.specs.Calls.{Store, Target, FillAnswer, fill_group}

-- memory y of code answers x by the rule: it is well formed and means what the rule gives
pub record Answers {X Y Z : Type 0} (Good : Y → Type 0) (means : Y → Z) (rule : X → Z) (x : X) (y : Y) : Type 0 where
  pub good : Good y
  pub agrees : means y ≡ rule x

-- rows o are read off as rows r: the accounts in order, and the messages of each account
pub record ReadsRows (W : World) (r o : List (Row W)) : Type 0 where
  pub order : accounts W o ≡ accounts W r
  pub of : (a : W.Acc) → at W a o ≡ at W a r

pub record ReadsBuffer (W : World) (r b : Buffer W) : Type 0 where
  pub queues : ReadsRows W r.order b.order
  pub least : b.least ≡ r.least

pub record ReadsGroup (W : World) (r g : Group W) : Type 0 where
  pub lists : ReadsRows W r.lists g.lists
  pub slots : g.slots ≡ r.slots
  pub last : g.last ≡ r.last
  pub index : g.index ≡ r.index

-- an answer p to a fill
pub record ReadsFill (W : World) (A : Args W) (keys : List W.Key) (s : Store W) (t : Target W) (skipped : List W.Acc) (p : FillAnswer W) : Type 0 where
  pub code : p.code ≡ (fill_group W A keys s t skipped).code
  pub collected : p.collected ≡ (fill_group W A keys s t skipped).collected
  pub ops : p.ops ≡ (fill_group W A keys s t skipped).ops
  pub dropped : p.dropped ≡ (fill_group W A keys s t skipped).dropped
  pub keys_after : p.keys ≡ (fill_group W A keys s t skipped).keys
  pub room_m : p.store.M ≡ s.M
  pub room_a : p.store.A ≡ s.A
  pub room_s : p.target.S ≡ t.S
  pub kept : p.store.kept ≡ s.kept
  pub buffer : ReadsBuffer W (fill_group W A keys s t skipped).store.now p.store.now
  pub group : ReadsGroup W (fill_group W A keys s t skipped).target.now p.target.now
  pub set : p.skipped ≡ (fill_group W A keys s t skipped).skipped
