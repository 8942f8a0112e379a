-- Demand 3 of the request, sentence by sentence, about what stood before a fill and what stands after it. Assumes nothing.
use Rattle.std.specs.Prelude.{◌≡◌, Bool, true, false, not, ◌&&◌, ◌⊎◌, List, [], ◌∷◌, ◌++◌, ℕ, ◌≤◌, ◌<◌, max, length, get_or, eqb}
use Rattle.rules.specs.World.{World, Row, Slot, Args, Buffer, Group, Filter, keep, is_member, some_of}
use Rattle.rules.specs.Queues.{at, has, is_in, undroppable, count_of, accounts_of, has_slot}
use Rattle.rules.specs.Passes.{marked, listed}
use Rattle.rules.specs.Fill.{Filled, next_number, numbers}

-- "Each account's old queue without the droppable externals is what it newly gave to the group, in order, then its remaining queue
-- without them": of account a, for queues and group lists before and after
pub record Parted (W : World) (f : Filter) (a : W.Acc) (order lists order' lists' : List (Row W)) : Type 0 where
  pub given : List W.Msg
  pub list : at W a lists' ≡ at W a lists ++ given
  pub queue : undroppable W f (at W a order) ≡ given ++ undroppable W f (at W a order')

-- "No slot grows past the height": slot n holds at most the height, or what it held before
abbrev pub NotPast : (W : World) (height : ℕ) (slots slots' : List (Slot W)) → Type 0
NotPast W height slots slots' = (n : ℕ) → count_of W n slots' ≤ max height (count_of W n slots)

-- no account twice in the account order
abbrev pub Once : (W : World) → List W.Acc → Type 0
Once W [] = Unit {0}
Once W (a ∷ l) = (is_in W a l ≡ false) × Once W l

-- no slot number twice
abbrev pub OnceN : List ℕ → Type 0
OnceN [] = Unit {0}
OnceN (n ∷ l) = (is_member n l ≡ false) × OnceN l

-- what a group is after any accepted calls (`Sound.antt` of the proofs): no slot number twice and none above the last, each slot listed in
-- the bucket of its count, seventeen buckets, no slot above 16
pub record Sound (W : World) (g : Group W) : Type 0 where
  pub numbered : (n : ℕ) → has_slot W n g.slots ≡ true → n < next_number W g.last
  pub distinct : OnceN (numbers W g.slots)
  pub indexed : (n : ℕ) → has_slot W n g.slots ≡ true → is_member n (get_or g.index (count_of W n g.slots) []) ≡ true
  pub long : length g.index ≡ 17
  pub small : (n : ℕ) → count_of W n g.slots ≤ 16

-- every account with a list in the group stands in a slot
abbrev pub Placed : (W : World) → List (Row W) → List (Slot W) → Type 0
Placed W lists slots = (a : W.Acc) → has W a lists ≡ true → (n : ℕ) × (is_in W a (accounts_of W n slots) ≡ true)

-- "each time a bucket below the height lists at entry a slot of exactly the height with all its accounts marked":
-- is the listed slot n such a one?
unfoldable pub excuse : (W : World) → Args W → List W.Acc → List (Slot W) → ℕ → Bool
excuse W A skipped slots n =
    eqb (count_of W n slots) A.height && not (some_of (λ a. not (marked W A skipped a)) (accounts_of W n slots))

unfoldable pub excuses : (W : World) → Args W → List W.Acc → Group W → ℕ
excuses W A skipped g = length (keep (excuse W A skipped g.slots) (listed W A g.index))

-- "If an account not marked for skipping still has an undroppable message, then its own slot holds at least the height; or, if it has no
-- slot, the group has at least the slots asked for and every slot holds at least the height": of all but the accounts of `leftover`
pub record Served (W : World) (A : Args W) (skipped : List W.Acc) (order : List (Row W)) (g' : Group W) (leftover : List W.Acc) : Type 0 where
  pub own : (a : W.Acc) (n : ℕ) → marked W A skipped a ≡ false → is_in W a (accounts_of W n g'.slots) ≡ true →
      (undroppable W A.filter (at W a order) ≡ []) ⊎ (A.height ≤ count_of W n g'.slots)
  pub rest : (a : W.Acc) → marked W A skipped a ≡ false → ((n : ℕ) → is_in W a (accounts_of W n g'.slots) ≡ false) → is_in W a leftover ≡ false →
      (undroppable W A.filter (at W a order) ≡ []) ⊎
      ((A.asked ≤ length g'.slots) × ((n : ℕ) → has_slot W n g'.slots ≡ true → A.height ≤ count_of W n g'.slots))

-- Demand 3 of a fill with the answer f, in the user's words. "save that .. one account may be left over" each time: the accounts left over
-- are those of the last argument, at most one for each excuse. 000 leaves nobody over, since it goes to the next slot where 01's sentence
-- would lose an account, and so `demand3` (`Reached` of the proofs) holds with the list [].
pub record Demand3 (W : World) (A : Args W) (b : Buffer W) (g : Group W) (skipped : List W.Acc) (f : Filled W) (leftover : List W.Acc) : Type 0 where
  pub parted : (a : W.Acc) → Parted W A.filter a b.order g.lists f.buffer.order f.group.lists
  pub not_past : NotPast W A.height g.slots f.group.slots
  pub few : length leftover ≤ excuses W A skipped g
  pub served : Served W A skipped f.buffer.order f.group leftover
