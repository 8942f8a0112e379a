-- What the rules of document 01 speak of: a world of accounts and messages, rows, slots, the buffer, the group, the arguments of a fill; and
-- the few functions on lists and numbers that the rules are written with. Each definition carries the sentence of 01 that it stands for.
-- Assumes nothing.
use Rattle.std.specs.Prelude.{Bool, true, false, cond, ◌||◌, List, [], ◌∷◌, ◌++◌, ℕ, zero, suc, ◌-◌, ◌^◌, min, eqb}
use Rattle.std.proofs.Math.Option.{Option, none, some}

-- What the rules need to know of accounts and messages, and no more: they are stated and proved over any such world.
pub record World : Type 1 where
  pub Acc : Type 0
  pub same : Acc → Acc → Bool
  pub Msg : Type 0
  pub external : Msg → Bool
  pub time : Msg → ℕ
  pub Key : Type 0
  pub key : Msg → Key

-- an account with its messages: its queue in a buffer, its list in a group
pub record Row (W : World) : Type 0 where
  pub acc : W.Acc
  pub msgs : List W.Msg

pub record Slot (W : World) : Type 0 where
  pub number : ℕ
  pub accounts : List W.Acc
  pub ints : ℕ
  pub exts : ℕ

pub record Buffer (W : World) : Type 0 where
  pub order : List (Row W)
  pub least : Option ℕ

-- slots stand in rising number; the index is a list of slot numbers for each count from 0 to 16
pub record Group (W : World) : Type 0 where
  pub lists : List (Row W)
  pub slots : List (Slot W)
  pub last : Option ℕ
  pub index : List (List ℕ)

-- "the filter is on, .. strictly below the threshold"
pub data Filter : Type 0 where
  off : Filter
  below : ℕ → Filter

-- "The skip closure becomes rows (account, verdict, 64-bit cost)"
pub record Skip (W : World) : Type 0 where
  pub acc : W.Acc
  pub skip : Bool
  pub cost : ℕ

pub record Args (W : World) : Type 0 where
  pub asked : ℕ
  pub height : ℕ
  pub filter : Filter
  pub rows : List (Skip W)
  -- "an account without a row is not skipped at one given cost"
  pub cost : ℕ

-- numbers
unfoldable pub at_least0 : Option ℕ → ℕ
at_least0 none = 0
at_least0 (some n) = n

unfoldable pub most : ℕ
most = 2 ^ 64 - 1

unfoldable pub is_member : ℕ → List ℕ → Bool
is_member n [] = false
is_member n (m ∷ ms) = eqb n m || is_member n ms

unfoldable pub others : {A : Type 0} → List A → List A
others [] = []
others (x ∷ xs) = xs

-- the element at a place, none past the end
unfoldable pub nth : {A : Type 0} → ℕ → List A → Option A
nth n [] = none
nth zero (x ∷ xs) = some x
nth (suc n) (x ∷ xs) = nth n xs

unfoldable pub is_nil : {A : Type 0} → List A → Bool
is_nil [] = true
is_nil (x ∷ xs) = false

unfoldable pub joined : {A : Type 0} → List (List A) → List A
joined [] = []
joined (x ∷ xs) = x ++ joined xs

unfoldable pub keep : {A : Type 0} → (A → Bool) → List A → List A
keep p [] = []
keep p (x ∷ xs) = cond (p x) (x ∷ keep p xs) (keep p xs)

unfoldable pub some_of : {A : Type 0} → (A → Bool) → List A → Bool
some_of p [] = false
some_of p (x ∷ xs) = p x || some_of p xs

-- P holds of each
abbrev pub Each : {X : Type 0} → (X → Type 0) → List X → Type 0
Each P [] = Unit {0}
Each P (x ∷ xs) = P x × Each P xs

-- the code c if the test holds, else d
unfoldable pub first_of : Bool → ℕ → ℕ → ℕ
first_of true c d = c
first_of false c d = d

-- "an external lowers the minimum chain time, or sets it if absent"
unfoldable pub lowered : Option ℕ → ℕ → Option ℕ
lowered none t = some t
lowered (some u) t = some (min u t)

-- "Absent reads as 2^64 − 1"
unfoldable pub least_read : Option ℕ → ℕ
least_read none = most
least_read (some t) = t
