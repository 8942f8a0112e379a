-- A transaction on the columns: begin copies what is held into the backup room, rollback copies it back, commit forgets it. "Rollback gives
-- back every queue, the order, the counts and the minimum as at begin." Assumes nothing.
use Rattle.std.specs.Prelude.{cond, List, ℕ, ◌*◌, eqb, take, drop, set, replicate, Err}
use Rattle.columns.specs.Laid.{laid_at}
use Rattle.message.specs.Answers.{Code, Done}
use Rattle.message.specs.declared.Refusal.TheVariants.{NoTransaction, InTransaction}
use Rattle.queues.specs.Cols.{Cols, number, with_numbers}
use Rattle.queues.specs.Indexed.{indexed_c}
use Rattle.queues.specs.Append.{Left, left}

-- n cells copied, the first one first
abbrev pub copied : (from to n : ℕ) → List ℕ → List ℕ
copied from to n xs = laid_at to (take n (drop from xs)) xs

-- n messages and a accounts copied from one half to the other, which begin at these rows
unfoldable pub copied_c : (from to : ℕ) (places_from places_to : ℕ) (n a : ℕ) → Cols → Cols
copied_c from to places_from places_to n a c = record {
  owner = copied from to n c.owner;
  kind = copied from to n c.kind;
  form = copied from to n c.form;
  time = copied from to n c.time;
  address = copied (32 * from) (32 * to) (32 * n) c.address;
  hash = copied (32 * from) (32 * to) (32 * n) c.hash;
  accounts = copied (32 * places_from) (32 * places_to) (32 * a) c.accounts;
  numbers = c.numbers;
}

-- n cells from the first on hold 0
abbrev pub cleared : ℕ → List ℕ → List ℕ
cleared n xs = laid_at 0 (replicate n 0) xs

-- the rows of n messages and a accounts are fresh
unfoldable pub cleared_c : (n a : ℕ) → Cols → Cols
cleared_c n a c = record {
  owner = cleared n c.owner;
  kind = cleared n c.kind;
  form = cleared n c.form;
  time = cleared n c.time;
  address = cleared (32 * n) c.address;
  hash = cleared (32 * n) c.hash;
  accounts = cleared (32 * a) c.accounts;
  numbers = c.numbers;
}

unfoldable pub begun_c : Cols → Cols
begun_c c = with_numbers (set (copied 2 9 6 c.numbers) 8 1) (copied_c 0 1024 0 256 (number c 2) (number c 3) c)

unfoldable pub committed_c : Cols → Cols
committed_c c = with_numbers (set c.numbers 8 0) c

-- the index as it was
unfoldable pub rolled_c : Cols → Cols
rolled_c c =
    with_numbers (set (copied 9 2 6 c.numbers) 8 0)
    (copied_c 1024 0 256 0 (number c 9) (number c 10) (cleared_c (number c 2) (number c 3) c))

-- "begin with one open" 7; "commit or rollback without a transaction" 6
unfoldable pub begin_c : Cols → Left
begin_c c = cond (eqb (number c 8) 0) (left Done (begun_c c)) (left (Err InTransaction) c)

unfoldable pub commit_c : Cols → Left
commit_c c = cond (eqb (number c 8) 0) (left (Err NoTransaction) c) (left Done (committed_c c))

unfoldable pub rollback_c : Cols → Left
rollback_c c = cond (eqb (number c 8) 0) (left (Err NoTransaction) c) (left Done (indexed_c (number c 10) (rolled_c c)))
