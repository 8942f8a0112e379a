-- The calls as a caller meets them: a buffer with its room and its transaction, a group with its room, and each call's answer, refusals
-- included. Then what calls make, in any order and number. Assumes nothing.
use Rattle.std.specs.Prelude.{Bool, true, false, cond, not, ◌&&◌, List, [], ◌++◌, ℕ, leb, ltb, eqb, length, drop}
use Rattle.std.proofs.Math.Option.{Option, none, some}
use Rattle.rules.specs.World.{World, Buffer, Group, Args, first_of}
use Rattle.rules.specs.Queues.{has, all_msgs, add, remove, remove_code}
use Rattle.rules.specs.Fill.{fill, fresh, join, join_code}

-- "Set-up fixes M messages .. and A accounts .. for a buffer"; the buffer as it was at begin, while a transaction is open
pub record Store (W : World) : Type 0 where
  pub M : ℕ
  pub A : ℕ
  pub now : Buffer W
  pub kept : Option (Buffer W)

-- "S slots .. for a group"
pub record Target (W : World) : Type 0 where
  pub S : ℕ
  pub now : Group W

-- a message as it is offered: of its record, what the codes look at beside the world's own
pub record Offer (W : World) : Type 0 where
  pub special : Bool
  pub kind : ℕ
  pub acc : W.Acc
  pub msg : W.Msg

pub record Answer (X : Type 0) : Type 0 where
  pub code : ℕ
  pub after : X

-- "A refusal returns its code .. and all state and lent memory stay"
unfoldable pub answer : {X : Type 0} → ℕ → X → X → Answer X
answer c done same = record { code = c; after = cond (eqb c 0) done same }

unfoldable pub within : (low high n : ℕ) → Bool
within low high n = leb low n && leb n high

unfoldable pub is_open : {X : Type 0} → Option X → Bool
is_open none = false
is_open (some x) = true

unfoldable pub back : {X : Type 0} → Option X → X → X
back none x = x
back (some y) x = y

module _ (W : World) where
  unfoldable pub no_messages : Buffer W
  no_messages = record { order = []; least = none }

  -- ---- set-up
  -- "M messages (1 to 1,024) and A accounts (1 to 256)"; "a refused set-up gives a fresh one of size 1"
  unfoldable pub set_up_buffer : (M A : ℕ) → Answer (Store W)
  set_up_buffer M A =
      answer (first_of (within 1 1024 M && within 1 256 A) 0 1)
      (record { M = M; A = A; now = no_messages; kept = none })
      (record { M = 1; A = 1; now = no_messages; kept = none })

  -- "S slots (1 to 64)"
  unfoldable pub set_up_group : (S : ℕ) → Answer (Target W)
  set_up_group S = answer (first_of (within 1 64 S) 0 1) (record { S = S; now = fresh W }) (record { S = 1; now = fresh W })

  -- ---- the buffer's calls
  unfoldable pub with_now : Store W → Buffer W → Store W
  with_now s b = record { M = s.M; A = s.A; now = b; kept = s.kept }

  -- codes 2 to 5. "M and A count what the buffer holds now"
  unfoldable pub add_code : Offer W → Store W → ℕ
  add_code o s =
      first_of o.special 2
      (first_of (ltb 1 o.kind) 3
      (first_of (leb s.M (length (all_msgs W s.now.order))) 4
      (first_of (not (has W o.acc s.now.order) && leb s.A (length s.now.order)) 5 0)))

  unfoldable pub add_message : Offer W → Store W → Answer (Store W)
  add_message o s = answer (add_code o s) (with_now s (add W o.acc o.msg s.now)) s

  unfoldable pub remove_accounts : List W.Acc → Store W → Answer (Store W)
  remove_accounts names s = answer (remove_code W names s.now) (with_now s (remove W names s.now)) s

  -- "begin with one open" 7; "commit or rollback without a transaction" 6
  unfoldable pub begin : Store W → Answer (Store W)
  begin s = answer (first_of (is_open s.kept) 7 0) (record { M = s.M; A = s.A; now = s.now; kept = some s.now }) s

  unfoldable pub commit : Store W → Answer (Store W)
  commit s = answer (first_of (is_open s.kept) 0 6) (record { M = s.M; A = s.A; now = s.now; kept = none }) s

  -- "Rollback gives back every queue, the order, the counts and the minimum as at begin. Group, skipped set and key list do not go back"
  unfoldable pub rollback : Store W → Answer (Store W)
  rollback s = answer (first_of (is_open s.kept) 0 6) (record { M = s.M; A = s.A; now = back s.kept s.now; kept = none }) s

-- ---- a fill, a join
pub record FillAnswer (W : World) : Type 0 where
  pub code : ℕ
  pub collected : ℕ
  pub ops : ℕ
  pub dropped : ℕ
  pub keys : List W.Key
  pub store : Store W
  pub target : Target W
  pub skipped : List W.Acc

pub record JoinAnswer (W : World) : Type 0 where
  pub code : ℕ
  pub left : Target W
  pub right : Target W

module _ (W : World) where
  -- "put (created_lt, hash) on the key list in order of collection; rows past them stay"
  unfoldable pub written : {X : Type 0} → List X → List X → List X
  written new rows = new ++ drop (length new) rows

  unfoldable pub fill_group : Args W → List W.Key → Store W → Target W → List W.Acc → FillAnswer W
  fill_group A keys s t skipped =
      let f = fill W t.S (length keys) A s.now t.now skipped in
      record {
        code = f.code;
        collected = f.collected;
        ops = f.ops;
        dropped = f.dropped;
        keys = written f.keys keys;
        store = with_now W s f.buffer;
        target = record { S = t.S; now = f.group };
        skipped = f.skipped;
      }

  -- "the right is left fresh"
  unfoldable pub join_groups : Target W → Target W → JoinAnswer W
  join_groups l r =
      let c = join_code W l.S l.now r.now in
      let done : JoinAnswer W = record { code = c; left = record { S = l.S; now = join W l.now r.now }; right = record { S = r.S; now = fresh W } } in
      let same : JoinAnswer W = record { code = c; left = l; right = r } in
      cond (eqb c 0) done same
