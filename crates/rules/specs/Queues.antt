-- The rules of document 01 for queues and lists, the buffer, droppable externals and slots. Each definition carries the sentence of 01
-- that it stands for. Assumes nothing.
use Rattle.std.specs.Prelude.{Bool, false, cond, not, ◌&&◌, ◌||◌, List, [], ◌∷◌, ◌++◌, map, ℕ, zero, suc, ◌+◌, leb, ltb, eqb, length}
use Rattle.std.proofs.Math.Option.{Option}
use Rattle.rules.specs.World.{World, Row, Slot, Buffer, Filter, Filter.off, Filter.below, joined, keep, nth, some_of, lowered}

-- "By slots the answer is always CanNotFill"
unfoldable pub full_by_slots : Bool
full_by_slots = false

module _ (W : World) where
  -- ---- rows: queues in the account order, lists in the group

  unfoldable pub has : W.Acc → List (Row W) → Bool
  has a [] = false
  has a (r ∷ o) = W.same a r.acc || has a o

  unfoldable pub at : W.Acc → List (Row W) → List W.Msg
  at a [] = []
  at a (r ∷ o) = cond (W.same a r.acc) r.msgs (at a o)

  -- the rows with f done to the messages of account a
  unfoldable pub edit : W.Acc → (List W.Msg → List W.Msg) → List (Row W) → List (Row W)
  edit a f [] = []
  edit a f (r ∷ o) = record { acc = r.acc; msgs = cond (W.same a r.acc) (f r.msgs) r.msgs } ∷ edit a f o

  -- the rows with the messages ms, if there are any, put last in the list of account a, a new list if it has none
  unfoldable pub give : W.Acc → List W.Msg → List (Row W) → List (Row W)
  give a [] o = o
  give a (m ∷ ms) [] = record { acc = a; msgs = m ∷ ms } ∷ []
  give a (m ∷ ms) (r ∷ o) =
      cond (W.same a r.acc) (record { acc = r.acc; msgs = r.msgs ++ (m ∷ ms) } ∷ o) (r ∷ give a (m ∷ ms) o)

  unfoldable pub is_in : W.Acc → List W.Acc → Bool
  is_in a [] = false
  is_in a (b ∷ bs) = W.same a b || is_in a bs

  -- the messages of the row at a place
  unfoldable pub queue_at : ℕ → List (Row W) → List W.Msg
  queue_at n [] = []
  queue_at zero (r ∷ o) = r.msgs
  queue_at (suc n) (r ∷ o) = queue_at n o

  unfoldable pub accounts : List (Row W) → List W.Acc
  accounts [] = []
  accounts (r ∷ o) = r.acc ∷ accounts o

  unfoldable pub internals : List W.Msg → ℕ
  internals ms = length (keep (λ m. not (W.external m)) ms)

  unfoldable pub externals : List W.Msg → ℕ
  externals ms = length (keep W.external ms)

  unfoldable pub all_msgs : List (Row W) → List W.Msg
  all_msgs o = joined (map (λ r. r.msgs) o)

  -- ---- the buffer's rules

  -- "Add appends to the queue .. Accounts stand in order of first insertion"
  unfoldable pub add : W.Acc → W.Msg → Buffer W → Buffer W
  add a m b = record {
    order = give a (m ∷ []) b.order;
    least = cond (W.external m) (lowered b.least (W.time m)) b.least;
  }

  -- "A removal ignores names without a queue and names given twice": the queues of the named accounts go
  unfoldable pub remove : List W.Acc → Buffer W → Buffer W
  remove names b = record { order = keep (λ r. not (is_in r.acc names)) b.order; least = b.least }

  -- code 8, "a named account's queue holds an external"
  unfoldable pub remove_code : List W.Acc → Buffer W → ℕ
  remove_code names b = cond (some_of (λ r. is_in r.acc names && some_of W.external r.msgs) b.order) 8 0

  unfoldable pub held_ints : Buffer W → ℕ
  held_ints b = internals (all_msgs b.order)

  unfoldable pub held_exts : Buffer W → ℕ
  held_exts b = externals (all_msgs b.order)

  unfoldable pub held_accounts : Buffer W → ℕ
  held_accounts b = length b.order

  -- "Full by count: messages held ≥ max_count"
  unfoldable pub full_by_count : ℕ → Buffer W → Bool
  full_by_count limit b = leb limit (length (all_msgs b.order))

  -- how many messages an account's queue holds, 0 if it has none
  unfoldable pub queued : W.Acc → Buffer W → ℕ
  queued a b = length (at a b.order)

  -- "walk in order": the account at a place, and the message at a position of its queue; none past the end
  unfoldable pub account_at : ℕ → Buffer W → Option W.Acc
  account_at place b = nth place (accounts b.order)

  unfoldable pub message_at : (place position : ℕ) → Buffer W → Option W.Msg
  message_at place position b = nth position (queue_at place b.order)

  -- ---- droppable externals

  -- "Droppable: the filter is on, kind external, chain time strictly below the threshold"
  unfoldable pub droppable : Filter → W.Msg → Bool
  droppable off m = false
  droppable (below t) m = W.external m && ltb (W.time m) t

  unfoldable pub undroppable : Filter → List W.Msg → List W.Msg
  undroppable f q = keep (λ m. not (droppable f m)) q

  -- ---- slots

  unfoldable pub count : Slot W → ℕ
  count s = s.ints + s.exts

  -- the count of slot n, 0 if there is none
  unfoldable pub count_of : ℕ → List (Slot W) → ℕ
  count_of n [] = 0
  count_of n (s ∷ ss) = cond (eqb n s.number) (count s) (count_of n ss)

  unfoldable pub accounts_of : ℕ → List (Slot W) → List W.Acc
  accounts_of n [] = []
  accounts_of n (s ∷ ss) = cond (eqb n s.number) s.accounts (accounts_of n ss)

  unfoldable pub has_slot : ℕ → List (Slot W) → Bool
  has_slot n [] = false
  has_slot n (s ∷ ss) = eqb n s.number || has_slot n ss

  -- slot s with the messages ms; account a, where it is new, is added to the slot's account list
  unfoldable pub grown : W.Acc → Bool → List W.Msg → Slot W → Slot W
  grown a new ms s = record {
    number = s.number;
    accounts = cond new (s.accounts ++ (a ∷ [])) s.accounts;
    ints = s.ints + internals ms;
    exts = s.exts + externals ms;
  }

  unfoldable pub grow : ℕ → (Slot W → Slot W) → List (Slot W) → List (Slot W)
  grow n f [] = []
  grow n f (s ∷ ss) = cond (eqb n s.number) (f s) s ∷ grow n f ss
