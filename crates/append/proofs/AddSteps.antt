-- An add that is taken has room: the code says so, and with what the columns keep, the next row and the seat lie in them. Then the answer
-- of an add, taken or refused, from what its steps leave. Assumes nothing.
use mathlib.Core.Path.{◌≡◌, refl, sym, ap, ◌∙◌}
use mathlib.Core.Bool.{Bool, true, false, cond, ◌&&◌}
use mathlib.Core.List.{List}
use Prim.Native.Nat.{ℕ, ◌+◌, ◌*◌, ◌≤◌, ◌<◌}
use native.Mathlib.Omega.{arith}
use lib.Dec.{leb, ltb}
use lib.ListN.{length, get_or}
use borrow.Author.Tests.{leb-false, eq-eqb, ne_eqb}
use Rattle.std.specs.Prelude.{Err}
use Rattle.numbers.proofs.Bytes.{by_bool}
use Rattle.columns.specs.Rows.{rows_of}
use Rattle.columns.proofs.Index.{index_le}
use Rattle.columns.proofs.Rows.{length_rows}
use Rattle.index.specs.Names.{indexed_by}
use Rattle.message.specs.declared.Refusal.TheVariants.{Special, WrongKind, Full, Crowded}
use Rattle.message.specs.declared.Message.{Message}
use Rattle.message.specs.Answers.{Code, Done, number as number_of}
use Rattle.message.specs.Records.{account_of}
use Rattle.queues.specs.Cols.{Cols, cols, live, number}
use Rattle.queues.specs.Indexed.{indexed_c}
use Rattle.queues.specs.Good.{Good}
use Rattle.queues.specs.Look.{seat_of}
use Rattle.queues.specs.Append.{left, only_done, add_code_c, more, counted_c, seated_c, appended_c, add_c}
use Rattle.queues.proofs.Counts.{ints_few, exts_few}
use Rattle.arrivals.specs.Countable.{Countable}
use Rattle.admission.specs.Seats.{SeatedIn, entered_c}
use Rattle.append.specs.Rows.{Writable, Written}
use Rattle.append.proofs.Naming.{counted_length, counted_index, named}

-- neither of the two last tests held
open_room : (special wrong full crowded : Bool)
    → number_of (cond special (Err Special) (cond wrong (Err WrongKind) (cond full (Err Full) (cond crowded (Err Crowded) Done)))) ≡ 0
    → (full ≡ false) × (crowded ≡ false)
open_room true wrong full crowded e = absurd (omega arith)
open_room false true full crowded e = absurd (omega arith)
open_room false false true crowded e = absurd (omega arith)
open_room false false false true e = absurd (omega arith)
open_room false false false false e = (refl, refl)

module _ (m : Message) (seat : ℕ) (ns : List ℕ) (done : number_of (add_code_c m seat ns) ≡ 0) where
  rooms : (leb (get_or ns 0 0) (get_or ns 2 0) ≡ false) × ((leb (get_or ns 3 0) seat && leb (get_or ns 1 0) (get_or ns 3 0)) ≡ false)
  unfolding add_code_c
  rooms = open_room m.special (ltb 1 m.kind) _ _ done

  pub row_free : get_or ns 2 0 < get_or ns 0 0
  row_free = leb-false (get_or ns 0 0) (get_or ns 2 0) rooms.0

  -- the account has a seat, or there is a free one
  pub seat_free : seat ≤ get_or ns 3 0 → get_or ns 3 0 ≤ get_or ns 1 0 → seat < get_or ns 1 0
  seat_free l p =
      by_bool (leb (get_or ns 3 0) seat)
      (λ e. let h = leb-false (get_or ns 1 0) (get_or ns 3 0) (rw e at rooms.1) in omega arith)
      (λ e. let h = leb-false (get_or ns 3 0) seat e in omega arith)

-- what stands when the code is known: the account, its seat, and the code
pub record Decided (m : Message) (c : Cols) (x : List ℕ) (seat : ℕ) (code : Code) : Type 0 where
  pub account : x ≡ account_of m
  pub found : seat ≡ seat_of c.accounts (number c 3) x
  pub decision : code ≡ add_code_c m seat c.numbers

-- ---- what the steps need
module _ {m : Message} {c : Cols} {x : List ℕ} {seat : ℕ} {code : Code} (d : Decided m c x seat code) (done : number_of code ≡ 0) (good : Good c) where
  coded : number_of (add_code_c m seat c.numbers) ≡ 0
  coded = sym (ap number_of d.decision) ∙ done

  -- the seat lies in the account table
  pub low : seat < 256
  low =
      let h = index_le x x (rows_of (number c 3) c.accounts) in
      let l = length_rows (number c 3) c.accounts in
      let s = seat_free m seat c.numbers coded (omega (arith, d.found)) good.now.places in
      omega (arith, good.A·high)

  next : number c 2 < 1024
  next = omega (arith, row_free m seat c.numbers coded, good.M·high)

  pub writable : Writable (number c 2) seat
  writable = record { row = omega (arith, next); short = omega (arith, low) }

  -- the seat is behind the last at the most, and then there is room for the name
  seat_last : seat ≤ number c 3
  seat_last = omega (arith, d.found, index_le x x (rows_of (number c 3) c.accounts), length_rows (number c 3) c.accounts)

  room : number c 3 ≤ seat → 32 * number c 3 + 32 ≤ length c.accounts
  room l = omega (arith, low, good.lengths.accounts)

  pub countable : Countable c.numbers
  countable =
      let l : number c 2 ≤ length c.owner = omega (arith, next, good.lengths.owner) in
      record {
        many = good.many;
        messages = omega (arith, next);
        places = omega (arith, good.now.places, good.A·high);
        ints = omega (arith, next, ints_few (live c) good.now l);
        exts = omega (arith, next, exts_few (live c) good.now l);
      }

-- ---- the answer

-- the columns that the steps leave, one by one
rows : (m : Message) (c : Cols) (seat places : ℕ) {owner kind form time address hash accounts numbers : List ℕ}
    → Written m seat (number c 2) c.owner c.kind c.form c.time c.address c.hash owner kind form time address hash
    → accounts ≡ seated_c seat (number c 3) (account_of m) c.accounts
    → numbers ≡ indexed_by places (seated_c seat (number c 3) (account_of m) c.accounts) (counted_c m.kind m.time seat c.numbers)
    → cols owner kind form time address hash accounts numbers ≡ indexed_c places (appended_c m seat c)
unfolding appended_c indexed_c
rows m c seat places w a n i = record {
  owner = w.owner i;
  kind = w.kind i;
  form = w.form i;
  time = w.time i;
  address = w.address i;
  hash = w.hash i;
  accounts = a i;
  numbers = n i;
}

-- how many accounts there are with one at this seat
abbrev places_with : Cols → ℕ → ℕ
places_with c seat = more (leb (number c 3) seat) (number c 3)

module _ {m : Message} {c : Cols} {x : List ℕ} {seat : ℕ} {code : Code} (d : Decided m c x seat code) where
  -- at the seat found
  answer : only_done code (indexed_c (places_with c seat) (appended_c m seat c)) c ≡ add_c m c
  unfolding add_c
  answer =
      ap (λ (k : Code). only_done k (indexed_c (places_with c seat) (appended_c m seat c)) c) d.decision
      ∙ ap (λ (s : ℕ). only_done (add_code_c m s c.numbers) (indexed_c (places_with c s) (appended_c m s c)) c)
      (d.found ∙ ap (seat_of c.accounts (number c 3)) d.account)

  pub refused : (number_of code ≡ 0 → ⊥) → left code c ≡ add_c m c
  refused n = rw (ne_eqb (number_of code) 0 n) at answer

  pub taken : {owner kind form time address hash accounts numbers ns : List ℕ} → (done : number_of code ≡ 0) → Good c → length x ≡ 32
      → Written m seat (number c 2) c.owner c.kind c.form c.time c.address c.hash owner kind form time address hash
      → ns ≡ counted_c m.kind m.time seat c.numbers
      → SeatedIn seat (number c 3) x c.accounts ns accounts numbers
      → left code (cols owner kind form time address hash accounts numbers) ≡ add_c m c
  taken {ns = ns} done good wide w n s =
      let counted = counted_c m.kind m.time seat c.numbers in
      let index = counted_index m.kind m.time seat c.numbers ∙ good.index in
      let entered = named seat (number c 3) x c.accounts counted wide (seat_last d done good) (room d done good) index in
      let r = rows m c seat (places_with c seat) w
      (s.accounts ∙ ap (λ (y : List ℕ). seated_c seat (number c 3) y c.accounts) d.account)
      (s.numbers
      ∙ ap (entered_c seat (number c 3) x) n
      ∙ entered
      ∙ ap (λ (y : List ℕ). indexed_by (places_with c seat) (seated_c seat (number c 3) y c.accounts) counted) d.account) in
      ap (left code) r ∙ rw (eq-eqb (number_of code) 0 done) at answer
