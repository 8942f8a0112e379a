-- What a call asks and leaves: the index of the rules, on slots that are no more than a number and a count. Assumes nothing.
use Rattle.std.specs.Prelude.{◌≡◌, Bool, true, false, cond, not, List, [], ◌∷◌, ◌++◌, ℕ, ◌+◌, ◌≤◌, ◌<◌, eqb, length, get_or, take, set}
use Rattle.rules.specs.World.{World, Slot, is_member, keep}
use Rattle.rules.specs.Demand.{OnceN}
use Rattle.columns.specs.Lists.{tab_i}
use Rattle.buckets.specs.Cells.{bucket_of, index, GoodBuckets}

-- a world for the index: of slots it tells numbers and counts only
abbrev pub Plain : World
Plain = record {
  Acc = ℕ;
  same = eqb;
  Msg = ℕ;
  external = λ m. false;
  time = λ m. m;
  Key = ℕ;
  key = λ m. m;
}

-- the slots whose numbers and counts stand in two columns of n cells
unfoldable pub slots_of : List ℕ → List ℕ → ℕ → List (Slot Plain)
slots_of numbers counts n = tab_i n 0 (λ i. record { number = get_or numbers i 0; accounts = []; ints = get_or counts i 0; exts = 0 })

-- what a call leaves: well-formed cells that hold this index
pub record Leaves (made : List (List ℕ)) (cells : List ℕ) : Type 0 where
  pub good : GoodBuckets cells
  pub holds : index cells ≡ made

-- ---- one slot put into a bucket, taken out of one, or both

unfoldable pub put_last : ℕ → ℕ → List (List ℕ) → List (List ℕ)
put_last c number buckets = set buckets c (get_or buckets c [] ++ (number ∷ []))

unfoldable pub taken_out : ℕ → ℕ → List (List ℕ) → List (List ℕ)
taken_out c number buckets = set buckets c (keep (λ n. not (eqb n number)) (get_or buckets c []))

unfoldable pub moved_on : (old new number : ℕ) → Bool → List (List ℕ) → List (List ℕ)
moved_on old new number again buckets =
    cond again (taken_out old number (put_last new number buckets)) (put_last new number buckets)

-- a slot can be put into bucket c: it is not listed there, and a cell is free
pub record MayPut (cells : List ℕ) (c number : ℕ) : Type 0 where
  pub good : GoodBuckets cells
  pub bucket : c < 17
  pub room : length (bucket_of cells c) < 64
  pub new : is_member number (bucket_of cells c) ≡ false

-- ---- the slots of a group

-- a fill can be followed: at most 64 slots, no number twice, counts to 16; a bucket lists none but these slots, and none in the bucket
-- that it comes to
pub record MayReindex (cells numbers olds news : List ℕ) (n : ℕ) : Type 0 where
  pub good : GoodBuckets cells
  pub few : n ≤ 64
  pub numbered : n ≤ length numbers
  pub counted : (n ≤ length olds) × (n ≤ length news)
  pub once : OnceN (take n numbers)
  pub low : (i : ℕ) → i < n → (get_or olds i 0 < 17) × (get_or news i 0 < 17)
  pub known : (c m : ℕ) → c < 17 → is_member m (bucket_of cells c) ≡ true → is_member m (take n numbers) ≡ true
  pub new : (i : ℕ) → i < n → (get_or olds i 0 ≡ get_or news i 0 → ⊥) → is_member (get_or numbers i 0) (bucket_of cells (get_or news i 0)) ≡ false

-- a join can be followed: the new slots have room in every bucket, no number twice, counts to 16, and none of them is listed yet
pub record MayList (cells numbers counts : List ℕ) (n : ℕ) : Type 0 where
  pub good : GoodBuckets cells
  pub room : (c : ℕ) → c < 17 → length (bucket_of cells c) + n ≤ 64
  pub numbered : n ≤ length numbers
  pub counted : n ≤ length counts
  pub once : OnceN (take n numbers)
  pub low : (i : ℕ) → i < n → get_or counts i 0 < 17
  pub new : (c i : ℕ) → c < 17 → i < n → is_member (get_or numbers i 0) (bucket_of cells c) ≡ false
