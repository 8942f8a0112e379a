-- What an add does to the columns: its code, and the columns with the message in the next row. Assumes nothing.
use Rattle.std.specs.Prelude.{Bool, cond, ◌&&◌, List, ℕ, zero, suc, ◌+◌, ◌*◌, min, eqb, leb, ltb, get_or, set, Err}
use Rattle.columns.specs.Laid.{laid_at}
use Rattle.message.specs.declared.Refusal.TheVariants.{Special, WrongKind, Full, Crowded}
use Rattle.message.specs.declared.Message.{Message}
use Rattle.message.specs.Answers.{Code, Done, number as number_of}
use Rattle.message.specs.Records.{account_of}
use Rattle.records.specs.Records.{form_byte}
use Rattle.queues.specs.Cols.{Cols, number}
use Rattle.queues.specs.Indexed.{indexed_c}
use Rattle.queues.specs.Look.{seat_of}

-- a call's code, and the columns that it leaves
pub record Left : Type 0 where
  pub code : Code
  pub cols : Cols

abbrev pub left : Code → Cols → Left
left code c = record { code = code; cols = c }

-- codes 2 to 5 in their order; `seat` is the place of the account, or the number of places if it has none
unfoldable pub add_code_c : Message → (seat : ℕ) → List ℕ → Code
add_code_c m seat ns =
    cond m.special (Err Special)
    (cond (ltb 1 m.kind) (Err WrongKind)
    (cond (leb (get_or ns 0 0) (get_or ns 2 0)) (Err Full)
    (cond (leb (get_or ns 3 0) seat && leb (get_or ns 1 0) (get_or ns 3 0)) (Err Crowded) Done)))

-- n, and one more where the test holds
abbrev pub more : Bool → ℕ → ℕ
more t n = cond t (n + 1) n

-- the minimum lowered by an external of time t, or set if there was none
abbrev pub lowest : (marked least t : ℕ) → ℕ
lowest zero least t = t
lowest (suc n) least t = min least t

-- the numbers with one message more, of this kind and time, at this seat
unfoldable pub counted_c : (kind time seat : ℕ) → List ℕ → List ℕ
counted_c kind time seat ns =
    set (set (set (set (set (set ns 2 (get_or ns 2 0 + 1))
    3 (more (leb (get_or ns 3 0) seat) (get_or ns 3 0)))
    4 (more (eqb kind 0) (get_or ns 4 0)))
    5 (more (eqb kind 1) (get_or ns 5 0)))
    6 (cond (eqb kind 1) (lowest (get_or ns 7 0) (get_or ns 6 0) time) (get_or ns 6 0)))
    7 (cond (eqb kind 1) 1 (get_or ns 7 0))

-- the accounts with x at the seat behind the last
unfoldable pub seated_c : (seat places : ℕ) → List ℕ → List ℕ → List ℕ
seated_c seat places x accounts = cond (leb places seat) (laid_at (32 * seat) x accounts) accounts

-- the columns with the message in the next row; the index as it was
unfoldable pub appended_c : Message → (seat : ℕ) → Cols → Cols
appended_c m seat c = record {
  owner = set c.owner (number c 2) seat;
  kind = set c.kind (number c 2) m.kind;
  form = set c.form (number c 2) (form_byte m.form);
  time = set c.time (number c 2) m.time;
  address = laid_at (32 * number c 2) m.address c.address;
  hash = laid_at (32 * number c 2) m.hash c.hash;
  accounts = seated_c seat (number c 3) (account_of m) c.accounts;
  numbers = counted_c m.kind m.time seat c.numbers;
}

-- done, or refused with the columns as they were
abbrev pub only_done : Code → Cols → Cols → Left
only_done code done same = left code (cond (eqb (number_of code) 0) done same)

abbrev pub seat_c : Message → Cols → ℕ
seat_c m c = seat_of c.accounts (number c 3) (account_of m)

unfoldable pub add_c : Message → Cols → Left
add_c m c =
    only_done (add_code_c m (seat_c m c) c.numbers)
    (indexed_c (more (leb (number c 3) (seat_c m c)) (number c 3)) (appended_c m (seat_c m c) c)) c
