-- What a join makes of the columns of two groups. "The right group's slots, by rising number, take the numbers after the left's last, or from
-- 0 if it has none, and its last follows; each is listed in the bucket of its count. Counts add, lists move, the right is left fresh."
-- Assumes nothing.
use Rattle.std.specs.Prelude.{◌≡◌, Bool, true, false, cond, List, [], ◌∷◌, map, ℕ, zero, suc, ◌+◌, ◌-◌, ◌*◌, eqb, leb, ltb, length, get_or, take, set, replicate, Err}
use Rattle.columns.specs.Lists.{tab_i}
use Rattle.columns.specs.Laid.{laid_at}
use Rattle.columns.specs.Rows.{row_at, rows_of, index_of}
use Rattle.message.specs.declared.Refusal.TheVariants.{ManySlots, SharedAccount, NumbersUsedUp}
use Rattle.message.specs.Answers.{Code, Done, number as number_of}
use Rattle.slots.specs.Table.{Table, count}

-- a fresh group of S slots
unfoldable pub fresh_t : (S : ℕ) → Table
fresh_t S = record {
  number = replicate 64 0;
  ints = replicate 64 0;
  exts = replicate 64 0;
  accounts = replicate 32768 0;
  home = replicate 1024 0;
  owner = replicate 1024 0;
  kind = replicate 1024 0;
  form = replicate 1024 0;
  time = replicate 1024 0;
  address = replicate 32768 0;
  hash = replicate 32768 0;
  buckets = replicate 1088 65536;
  numbers = S ∷ replicate 15 0;
}

-- the first n cells of a column laid over another from place `to` on, as they are or raised
abbrev pub moved : (to n : ℕ) → List ℕ → List ℕ → List ℕ
moved to n from col = laid_at to (take n from) col

abbrev pub raised : (by to n : ℕ) → List ℕ → List ℕ → List ℕ
raised by to n from col = laid_at to (map (λ x. x + by) (take n from)) col

-- the number of the first new slot
unfoldable pub next_by : List ℕ → ℕ
next_by ns = cond (eqb (get_or ns 7 0) 0) 0 (get_or ns 6 0 + 1)

abbrev pub next_t : Table → ℕ
next_t t = next_by t.numbers

-- one of the first n rows of the right's accounts is one of the first m of the left's
unfoldable pub shared_t : (m : ℕ) (left : List ℕ) (n : ℕ) (right : List ℕ) → Bool
shared_t m left zero right = false
shared_t m left (suc n) right = cond (ltb (index_of (row_at right n) (rows_of m left)) m) true (shared_t m left n right)

-- codes 14, 15, 12 in this order
unfoldable pub join_code_by : (ns accounts ns2 accounts2 : List ℕ) → Code
join_code_by ns accounts ns2 accounts2 =
    cond (ltb (get_or ns 0 0) (get_or ns 1 0 + get_or ns2 1 0)) (Err ManySlots)
    (cond (shared_t (get_or ns 2 0) accounts (get_or ns2 2 0) accounts2) (Err SharedAccount)
    (cond (leb 65535 (next_by ns + get_or ns2 1 0)) (Err NumbersUsedUp) Done))

abbrev pub join_code_t : Table → Table → Code
join_code_t l r = join_code_by l.numbers l.accounts r.numbers r.accounts

-- the numbers of the left with those of the right
unfoldable pub joined_numbers_by : (first : ℕ) → List ℕ → List ℕ → List ℕ
joined_numbers_by first ns ns2 =
    let sums = set (set (set (set (set ns 1 (get_or ns 1 0 + get_or ns2 1 0))
    2 (get_or ns 2 0 + get_or ns2 2 0))
    3 (get_or ns 3 0 + get_or ns2 3 0))
    4 (get_or ns 4 0 + get_or ns2 4 0))
    5 (get_or ns 5 0 + get_or ns2 5 0) in
    cond (eqb (get_or ns2 1 0) 0) sums (set (set sums 6 (first + get_or ns2 1 0 - 1)) 7 1)

-- the left with the right's slots, accounts and messages behind its own; `cells` are the buckets with the new slots listed
unfoldable pub joined_t : Table → Table → (cells : List ℕ) → Table
joined_t l r cells = record {
  number = laid_at (count l 1) (tab_i (count r 1) (next_t l) (λ n. n)) l.number;
  ints = moved (count l 1) (count r 1) r.ints l.ints;
  exts = moved (count l 1) (count r 1) r.exts l.exts;
  accounts = moved (32 * count l 2) (32 * count r 2) r.accounts l.accounts;
  home = raised (count l 1) (count l 2) (count r 2) r.home l.home;
  owner = raised (count l 2) (count l 3) (count r 3) r.owner l.owner;
  kind = moved (count l 3) (count r 3) r.kind l.kind;
  form = moved (count l 3) (count r 3) r.form l.form;
  time = moved (count l 3) (count r 3) r.time l.time;
  address = moved (32 * count l 3) (32 * count r 3) r.address l.address;
  hash = moved (32 * count l 3) (32 * count r 3) r.hash l.hash;
  buckets = cells;
  numbers = joined_numbers_by (next_t l) l.numbers r.numbers;
}

-- a join's code, and both groups afterwards
pub record Joined : Type 0 where
  pub code : Code
  pub left : Table
  pub right : Table

-- ---- what each part leaves

pub record SlotsJoined (held n first : ℕ) (ints2 exts2 number₀ ints₀ exts₀ number' ints' exts' : List ℕ) : Type 0 where
  pub number : number' ≡ laid_at held (tab_i n first (λ k. k)) number₀
  pub ints : ints' ≡ moved held n ints2 ints₀
  pub exts : exts' ≡ moved held n exts2 exts₀

pub record AccountsJoined (held n slots : ℕ) (accounts2 home2 accounts₀ home₀ accounts' home' : List ℕ) : Type 0 where
  pub accounts : accounts' ≡ moved (32 * held) (32 * n) accounts2 accounts₀
  pub home : home' ≡ raised slots held n home2 home₀

pub record MessagesJoined (held n accounts : ℕ) (owner2 kind2 form2 time2 owner₀ kind₀ form₀ time₀ owner' kind' form' time' : List ℕ) : Type 0 where
  pub owner : owner' ≡ raised accounts held n owner2 owner₀
  pub kind : kind' ≡ moved held n kind2 kind₀
  pub form : form' ≡ moved held n form2 form₀
  pub time : time' ≡ moved held n time2 time₀

pub record RecordsJoined (held n : ℕ) (address2 hash2 address₀ hash₀ address' hash' : List ℕ) : Type 0 where
  pub address : address' ≡ moved (32 * held) (32 * n) address2 address₀
  pub hash : hash' ≡ moved (32 * held) (32 * n) hash2 hash₀
