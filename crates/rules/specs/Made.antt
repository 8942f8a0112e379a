-- What calls make: "Buffers, groups and skipped sets come from these calls only, fields closed". Any calls in any order, accepted or refused.
-- Assumes nothing.
use Rattle.std.specs.Prelude.{◌≡◌, List, [], ℕ, ◌≤◌, length}
use Rattle.std.proofs.Math.Option.{some}
use Rattle.rules.specs.World.{World, Args, Buffer, at_least0}
use Rattle.rules.specs.Queues.{all_msgs}
use Rattle.rules.specs.Demand.{Once}
use Rattle.rules.specs.Calls.{Store, Target, Offer, set_up_buffer, set_up_group, add_message, remove_accounts, begin, commit, rollback, fill_group, join_groups}

mutual
  pub data MadeStore (W : World) : Store W → Type 0 where
    set_up : {s : Store W} (M A : ℕ) → s ≡ (set_up_buffer W M A).after → MadeStore W s
    added : {s s' : Store W} (o : Offer W) → s' ≡ (add_message W o s).after → MadeStore W s → MadeStore W s'
    removed : {s s' : Store W} (names : List W.Acc) → s' ≡ (remove_accounts W names s).after → MadeStore W s → MadeStore W s'
    begun : {s s' : Store W} → s' ≡ (begin W s).after → MadeStore W s → MadeStore W s'
    committed : {s s' : Store W} → s' ≡ (commit W s).after → MadeStore W s → MadeStore W s'
    rolled_back : {s s' : Store W} → s' ≡ (rollback W s).after → MadeStore W s → MadeStore W s'
    emptied : {s s' : Store W} {t : Target W} (A : Args W) (keys : List W.Key) (skipped : List W.Acc) → s' ≡ (fill_group W A keys s t skipped).store → MadeStore W s → MadeTarget W t → MadeStore W s'

  pub data MadeTarget (W : World) : Target W → Type 0 where
    set_up_target : {t : Target W} (S : ℕ) → t ≡ (set_up_group W S).after → MadeTarget W t
    filled : {s : Store W} {t t' : Target W} (A : Args W) (keys : List W.Key) (skipped : List W.Acc) → t' ≡ (fill_group W A keys s t skipped).target → MadeStore W s → MadeTarget W t → MadeTarget W t'
    joined_left : {l r l' : Target W} → l' ≡ (join_groups W l r).left → MadeTarget W l → MadeTarget W r → MadeTarget W l'
    joined_right : {l r r' : Target W} → r' ≡ (join_groups W l r).right → MadeTarget W l → MadeTarget W r → MadeTarget W r'

-- skipped sets
pub data MadeSet (W : World) : List W.Acc → Type 0 where
  empty_set : {k : List W.Acc} → k ≡ [] → MadeSet W k
  widened : {k k' : List W.Acc} (A : Args W) (keys : List W.Key) (s : Store W) (t : Target W) → k' ≡ (fill_group W A keys s t k).skipped → MadeSet W k → MadeSet W k'

-- ---- the calls between a begin and its end: from store s to store s' by adds, removals and fills
pub data Inside (W : World) (s : Store W) : Store W → Type 0 where
  nothing : {s' : Store W} → s' ≡ s → Inside W s s'
  adds : {x y : Store W} (o : Offer W) → y ≡ (add_message W o x).after → Inside W s x → Inside W s y
  removes : {x y : Store W} (names : List W.Acc) → y ≡ (remove_accounts W names x).after → Inside W s x → Inside W s y
  fills : {x y : Store W} (A : Args W) (keys : List W.Key) (t : Target W) (skipped : List W.Acc) → y ≡ (fill_group W A keys x t skipped).store → Inside W s x → Inside W s y

-- ---- the room: what calls make fits it
pub record FitsBuffer (W : World) (M A : ℕ) (b : Buffer W) : Type 0 where
  pub messages : length (all_msgs W b.order) ≤ M
  pub accounts : length b.order ≤ A

pub record FitsStore (W : World) (s : Store W) : Type 0 where
  pub M·range : (1 ≤ s.M) × (s.M ≤ 1024)
  pub A·range : (1 ≤ s.A) × (s.A ≤ 256)
  pub now : FitsBuffer W s.M s.A s.now
  pub kept : (b : Buffer W) → s.kept ≡ some b → FitsBuffer W s.M s.A b

pub record FitsTarget (W : World) (t : Target W) : Type 0 where
  pub S·range : (1 ≤ t.S) × (t.S ≤ 64)
  pub slots : length t.now.slots ≤ t.S
  pub last : at_least0 t.now.last ≤ 65535

pub record FitsSet (W : World) (k : List W.Acc) : Type 0 where
  pub once : Once W k
  pub small : length k ≤ 512
