-- The columns after begin, commit and rollback: well formed again, and what they mean. After a copy the two halves agree in their counts and
-- rows, so that they mean the same (`buffer_same`) and are as well formed (`good_same`). Assumes nothing.
use mathlib.Core.Path.{◌≡◌, refl, sym, ap, subst, ◌∙◌}
use mathlib.Core.Bool.{false}
use mathlib.Core.Option.{Option, none, some}
use Prim.Native.Nat.{ℕ, ◌*◌, ◌≤◌}
use native.Mathlib.Omega.{arith}
use lib.Dec.{eqb}
use lib.ListN.{length, length-set}
use lib.Seq.{get_or-set_same, get_or-set_other, drop-set-lt}
use borrow.Author.Tests.{eqb-false}
use Rattle.columns.specs.Rows.{rows_of}
use Rattle.index.specs.Names.{index_of_names}
use Rattle.rules.specs.World.{Buffer}
use Rattle.rules.specs.Calls.{Store}
use Rattle.message.specs.Real.{Real}
use Rattle.queues.specs.Cols.{Cols, Half, live, kept, number}
use Rattle.queues.specs.Meant.{if_marked, buffer_of, meant}
use Rattle.queues.specs.Good.{Long, GoodHalf, Blank, Formed, Good}
use Rattle.queues.specs.Indexed.{Indexed}
use Rattle.queues.specs.Transact.{copied_c, cleared_c, begun_c, committed_c, rolled_c}
use Rattle.queues.proofs.Meaning.{SameRows, SameHalf, buffer_same, good_same}
use Rattle.queues.proofs.Indexing.{names_same}
use Rattle.buffer_rules.proofs.HalfCells.{SameTo, same_row, down_length, down_live, down_kept, down_blank, up_length, up_live, up_blank, begun_length, begun_low, begun_mark, begun_high, begun_index, begun_last, rolled_length, rolled_low, rolled_mark, rolled_high, rolled_last}

-- ---- general

-- the rows of two halves whose columns agree
same_rows : (n a : ℕ) (h k : Half) → SameTo n h.owner k.owner → SameTo n h.kind k.kind → SameTo n h.form k.form
    → SameTo n h.time k.time → SameTo (32 * n) h.address k.address → SameTo (32 * n) h.hash k.hash
    → SameTo (32 * a) h.accounts k.accounts → SameRows n a h k
same_rows n a h k o d f t x y z = record {
  long = o.long;
  long' = o.long';
  owner = o.cells;
  kind = d.cells;
  form = f.cells;
  time = t.cells;
  address = same_row x;
  hash = same_row y;
  accounts = same_row z;
}

-- the same room, said otherwise
good_room : {M A M' A' : ℕ} (h : Half) → M' ≡ M → A' ≡ A → GoodHalf M A h → GoodHalf M' A' h
good_room {A = A} {M' = M'} h e f g = subst (λ A. GoodHalf M' A h) (sym f) (subst (λ M. GoodHalf M A h) (sym e) g)

-- a store of this room
abbrev pub store_of : Cols → Buffer Real → Option (Buffer Real) → Store Real
store_of c b k = record { M = number c 0; A = number c 1; now = b; kept = k }

zero_one : ◌≡◌ {A = ℕ} 0 1 → ⊥
zero_one e = omega arith

-- what n messages and a accounts need of columns of two halves
record Few (n a : ℕ) : Type 0 where
  rows : n ≤ 1024
  bytes : 32 * n ≤ 32768
  accounts : 32 * a ≤ 8192

few_of : (n a : ℕ) → n ≤ 1024 → a ≤ 256 → Few n a
few_of n a l m = record { rows = l; bytes = omega arith; accounts = omega arith }

module _ (c : Cols) (good : Good c) where
  long : Long c
  long = good.lengths

  few : Few (number c 2) (number c 3)
  few = few_of (number c 2) (number c 3) (omega (arith, good.now.messages, good.M·high)) (omega (arith, good.now.places, good.A·high))

  -- ---- begin

  begun_long : Long (begun_c c)
  unfolding begun_c copied_c
  begun_long = record {
    owner = down_length 1024 (number c 2) c.owner few.rows (omega (arith, long.owner, few.rows)) ∙ long.owner;
    kind = down_length 1024 (number c 2) c.kind few.rows (omega (arith, long.kind, few.rows)) ∙ long.kind;
    form = down_length 1024 (number c 2) c.form few.rows (omega (arith, long.form, few.rows)) ∙ long.form;
    time = down_length 1024 (number c 2) c.time few.rows (omega (arith, long.time, few.rows)) ∙ long.time;
    address = down_length 32768 (32 * number c 2) c.address few.bytes (omega (arith, long.address, few.bytes)) ∙ long.address;
    hash = down_length 32768 (32 * number c 2) c.hash few.bytes (omega (arith, long.hash, few.bytes)) ∙ long.hash;
    accounts = down_length 8192 (32 * number c 3) c.accounts few.accounts (omega (arith, long.accounts, few.accounts)) ∙ long.accounts;
  }

  begun_now : SameHalf (live (begun_c c)) (live c)
  unfolding begun_c copied_c
  begun_now = record {
    messages = begun_low c.numbers good.many 2 (omega arith);
    places = begun_low c.numbers good.many 3 (omega arith);
    ints = begun_low c.numbers good.many 4 (omega arith);
    exts = begun_low c.numbers good.many 5 (omega arith);
    least = begun_low c.numbers good.many 6 (omega arith);
    marked = begun_low c.numbers good.many 7 (omega arith);
    rows =
        same_rows (number c 2) (number c 3) (live (begun_c c)) (live c)
        (down_live 1024 (number c 2) c.owner few.rows (omega (arith, long.owner, few.rows)))
        (down_live 1024 (number c 2) c.kind few.rows (omega (arith, long.kind, few.rows)))
        (down_live 1024 (number c 2) c.form few.rows (omega (arith, long.form, few.rows)))
        (down_live 1024 (number c 2) c.time few.rows (omega (arith, long.time, few.rows)))
        (down_live 32768 (32 * number c 2) c.address few.bytes (omega (arith, long.address, few.bytes)))
        (down_live 32768 (32 * number c 2) c.hash few.bytes (omega (arith, long.hash, few.bytes)))
        (down_live 8192 (32 * number c 3) c.accounts few.accounts (omega (arith, long.accounts, few.accounts)));
  }

  begun_then : SameHalf (kept (begun_c c)) (live c)
  unfolding begun_c copied_c
  begun_then = record {
    messages = begun_high c.numbers good.many 0 (omega arith);
    places = begun_high c.numbers good.many 1 (omega arith);
    ints = begun_high c.numbers good.many 2 (omega arith);
    exts = begun_high c.numbers good.many 3 (omega arith);
    least = begun_high c.numbers good.many 4 (omega arith);
    marked = begun_high c.numbers good.many 5 (omega arith);
    rows =
        same_rows (number c 2) (number c 3) (kept (begun_c c)) (live c)
        (down_kept 1024 (number c 2) c.owner few.rows (omega (arith, long.owner, few.rows)))
        (down_kept 1024 (number c 2) c.kind few.rows (omega (arith, long.kind, few.rows)))
        (down_kept 1024 (number c 2) c.form few.rows (omega (arith, long.form, few.rows)))
        (down_kept 1024 (number c 2) c.time few.rows (omega (arith, long.time, few.rows)))
        (down_kept 32768 (32 * number c 2) c.address few.bytes (omega (arith, long.address, few.bytes)))
        (down_kept 32768 (32 * number c 2) c.hash few.bytes (omega (arith, long.hash, few.bytes)))
        (down_kept 8192 (32 * number c 3) c.accounts few.accounts (omega (arith, long.accounts, few.accounts)));
  }

  begun_blank : Blank (begun_c c)
  unfolding begun_c copied_c
  begun_blank =
      let e = begun_low c.numbers good.many 2 (omega arith) in
      let f = begun_low c.numbers good.many 3 (omega arith) in
      record {
        owner = rw e (down_blank 1024 (number c 2) c.owner few.rows (omega (arith, long.owner, few.rows)) (number c 2) good.blank.owner);
        kind = rw e (down_blank 1024 (number c 2) c.kind few.rows (omega (arith, long.kind, few.rows)) (number c 2) good.blank.kind);
        form = rw e (down_blank 1024 (number c 2) c.form few.rows (omega (arith, long.form, few.rows)) (number c 2) good.blank.form);
        time = rw e (down_blank 1024 (number c 2) c.time few.rows (omega (arith, long.time, few.rows)) (number c 2) good.blank.time);
        address = rw e (down_blank 32768 (32 * number c 2) c.address few.bytes (omega (arith, long.address, few.bytes)) (32 * number c 2) good.blank.address);
        hash = rw e (down_blank 32768 (32 * number c 2) c.hash few.bytes (omega (arith, long.hash, few.bytes)) (32 * number c 2) good.blank.hash);
        accounts = rw f (down_blank 8192 (32 * number c 3) c.accounts few.accounts (omega (arith, long.accounts, few.accounts)) (32 * number c 3) good.blank.accounts);
        last = begun_last c.numbers good.many ∙ good.blank.last;
      }

  begun_M : number (begun_c c) 0 ≡ number c 0
  unfolding begun_c
  begun_M = begun_low c.numbers good.many 0 (omega arith)

  begun_A : number (begun_c c) 1 ≡ number c 1
  unfolding begun_c
  begun_A = begun_low c.numbers good.many 1 (omega arith)

  begun_open : number (begun_c c) 8 ≡ 1
  unfolding begun_c
  begun_open = begun_mark c.numbers good.many

  begun_many : length (begun_c c).numbers ≡ 528
  unfolding begun_c
  begun_many = begun_length c.numbers good.many

  -- the names in the order are the same, and so is their index
  begun_names : rows_of (number (begun_c c) 3) (begun_c c).accounts ≡ rows_of (number c 3) c.accounts
  begun_names =
      ap (λ (n : ℕ). rows_of n (begun_c c).accounts) begun_now.places
      ∙ names_same (number c 3) (begun_c c).accounts c.accounts begun_now.rows.accounts

  begun_indexed : Indexed (begun_c c)
  unfolding begun_c
  begun_indexed = begun_index c.numbers good.many ∙ good.index ∙ ap index_of_names (sym begun_names)

  pub begun_good : Good (begun_c c)
  begun_good = record {
    lengths = begun_long;
    many = begun_many;
    M·low = rw begun_M good.M·low;
    M·high = rw begun_M good.M·high;
    A·low = rw begun_A good.A·low;
    A·high = rw begun_A good.A·high;
    now = good_room (live (begun_c c)) begun_M begun_A (good_same (live (begun_c c)) (live c) begun_now good.now);
    blank = begun_blank;
    opened = omega (arith, begun_open);
    then = λ e. good_room (kept (begun_c c)) begun_M begun_A (good_same (kept (begun_c c)) (live c) begun_then good.now);
    index = begun_indexed;
  }

  pub begun_meant : meant (begun_c c) ≡ store_of c (buffer_of (live c)) (some (buffer_of (live c)))
  begun_meant = λ i. record {
    M = begun_M i;
    A = begun_A i;
    now = buffer_same (live (begun_c c)) (live c) begun_now i;
    kept = if_marked (begun_open i) (buffer_same (kept (begun_c c)) (live c) begun_then i);
  }

  -- ---- commit

  committed_number : (k : ℕ) → eqb k 8 ≡ false → number (committed_c c) k ≡ number c k
  unfolding committed_c
  committed_number k e = get_or-set_other c.numbers 8 k 0 0 (eqb-false k 8 e)

  committed_shut : number (committed_c c) 8 ≡ 0
  unfolding committed_c
  committed_shut = get_or-set_same c.numbers 8 0 0 (omega (arith, good.many))

  committed_many : length (committed_c c).numbers ≡ 528
  unfolding committed_c
  committed_many = length-set c.numbers 8 0 ∙ good.many

  committed_now : live (committed_c c) ≡ live c
  unfolding committed_c
  committed_now = λ i. record {
    owner = c.owner;
    kind = c.kind;
    form = c.form;
    time = c.time;
    address = c.address;
    hash = c.hash;
    accounts = c.accounts;
    messages = committed_number 2 refl i;
    places = committed_number 3 refl i;
    ints = committed_number 4 refl i;
    exts = committed_number 5 refl i;
    least = committed_number 6 refl i;
    marked = committed_number 7 refl i;
  }

  committed_long : Long (committed_c c)
  unfolding committed_c
  committed_long = record {
    owner = long.owner;
    kind = long.kind;
    form = long.form;
    time = long.time;
    address = long.address;
    hash = long.hash;
    accounts = long.accounts;
  }

  committed_blank : Blank (committed_c c)
  unfolding committed_c
  committed_blank =
      let e = committed_number 2 refl in
      let f = committed_number 3 refl in
      record {
        owner = rw e good.blank.owner;
        kind = rw e good.blank.kind;
        form = rw e good.blank.form;
        time = rw e good.blank.time;
        address = rw e good.blank.address;
        hash = rw e good.blank.hash;
        accounts = rw f good.blank.accounts;
        last = committed_number 15 refl ∙ good.blank.last;
      }

  committed_indexed : Indexed (committed_c c)
  unfolding committed_c
  committed_indexed =
      drop-set-lt 16 c.numbers 8 0 (omega arith)
      ∙ good.index
      ∙ ap (λ (n : ℕ). index_of_names (rows_of n c.accounts)) (sym (committed_number 3 refl))

  pub committed_good : Good (committed_c c)
  committed_good = record {
    lengths = committed_long;
    many = committed_many;
    M·low = rw (committed_number 0 refl) good.M·low;
    M·high = rw (committed_number 0 refl) good.M·high;
    A·low = rw (committed_number 1 refl) good.A·low;
    A·high = rw (committed_number 1 refl) good.A·high;
    now =
        good_room (live (committed_c c)) (committed_number 0 refl) (committed_number 1 refl)
        (subst (GoodHalf (number c 0) (number c 1)) (sym committed_now) good.now);
    blank = committed_blank;
    opened = omega (arith, committed_shut);
    then = λ e. absurd (zero_one (sym committed_shut ∙ e));
    index = committed_indexed;
  }

  pub committed_meant : meant (committed_c c) ≡ store_of c (buffer_of (live c)) none
  committed_meant = λ i. record {
    M = committed_number 0 refl i;
    A = committed_number 1 refl i;
    now = buffer_of (committed_now i);
    kept = if_marked (committed_shut i) (buffer_of (kept (committed_c c)));
  }

  -- ---- rollback, with a transaction open

  module _ (held : GoodHalf (number c 0) (number c 1) (kept c)) where
    few_then : Few (number c 9) (number c 10)
    few_then = few_of (number c 9) (number c 10) (omega (arith, held.messages, good.M·high)) (omega (arith, held.places, good.A·high))

    rolled_long : Long (rolled_c c)
    unfolding rolled_c copied_c cleared_c
    rolled_long = record {
      owner = up_length 1024 (number c 2) (number c 9) c.owner few.rows few_then.rows (omega (arith, long.owner)) ∙ long.owner;
      kind = up_length 1024 (number c 2) (number c 9) c.kind few.rows few_then.rows (omega (arith, long.kind)) ∙ long.kind;
      form = up_length 1024 (number c 2) (number c 9) c.form few.rows few_then.rows (omega (arith, long.form)) ∙ long.form;
      time = up_length 1024 (number c 2) (number c 9) c.time few.rows few_then.rows (omega (arith, long.time)) ∙ long.time;
      address = up_length 32768 (32 * number c 2) (32 * number c 9) c.address few.bytes few_then.bytes (omega (arith, long.address)) ∙ long.address;
      hash = up_length 32768 (32 * number c 2) (32 * number c 9) c.hash few.bytes few_then.bytes (omega (arith, long.hash)) ∙ long.hash;
      accounts = up_length 8192 (32 * number c 3) (32 * number c 10) c.accounts few.accounts few_then.accounts (omega (arith, long.accounts)) ∙ long.accounts;
    }

    rolled_now : SameHalf (live (rolled_c c)) (kept c)
    unfolding rolled_c copied_c cleared_c
    rolled_now = record {
      messages = rolled_high c.numbers good.many 0 (omega arith);
      places = rolled_high c.numbers good.many 1 (omega arith);
      ints = rolled_high c.numbers good.many 2 (omega arith);
      exts = rolled_high c.numbers good.many 3 (omega arith);
      least = rolled_high c.numbers good.many 4 (omega arith);
      marked = rolled_high c.numbers good.many 5 (omega arith);
      rows =
          same_rows (number c 9) (number c 10) (live (rolled_c c)) (kept c)
          (up_live 1024 (number c 2) (number c 9) c.owner few.rows few_then.rows (omega (arith, long.owner)))
          (up_live 1024 (number c 2) (number c 9) c.kind few.rows few_then.rows (omega (arith, long.kind)))
          (up_live 1024 (number c 2) (number c 9) c.form few.rows few_then.rows (omega (arith, long.form)))
          (up_live 1024 (number c 2) (number c 9) c.time few.rows few_then.rows (omega (arith, long.time)))
          (up_live 32768 (32 * number c 2) (32 * number c 9) c.address few.bytes few_then.bytes (omega (arith, long.address)))
          (up_live 32768 (32 * number c 2) (32 * number c 9) c.hash few.bytes few_then.bytes (omega (arith, long.hash)))
          (up_live 8192 (32 * number c 3) (32 * number c 10) c.accounts few.accounts few_then.accounts (omega (arith, long.accounts)));
    }

    rolled_blank : Blank (rolled_c c)
    unfolding rolled_c copied_c cleared_c
    rolled_blank =
        let e = rolled_high c.numbers good.many 0 (omega arith) in
        let f = rolled_high c.numbers good.many 1 (omega arith) in
        record {
          owner = rw e (up_blank 1024 (number c 2) (number c 9) c.owner few.rows few_then.rows (omega (arith, long.owner)) good.blank.owner);
          kind = rw e (up_blank 1024 (number c 2) (number c 9) c.kind few.rows few_then.rows (omega (arith, long.kind)) good.blank.kind);
          form = rw e (up_blank 1024 (number c 2) (number c 9) c.form few.rows few_then.rows (omega (arith, long.form)) good.blank.form);
          time = rw e (up_blank 1024 (number c 2) (number c 9) c.time few.rows few_then.rows (omega (arith, long.time)) good.blank.time);
          address = rw e (up_blank 32768 (32 * number c 2) (32 * number c 9) c.address few.bytes few_then.bytes (omega (arith, long.address)) good.blank.address);
          hash = rw e (up_blank 32768 (32 * number c 2) (32 * number c 9) c.hash few.bytes few_then.bytes (omega (arith, long.hash)) good.blank.hash);
          accounts = rw f (up_blank 8192 (32 * number c 3) (32 * number c 10) c.accounts few.accounts few_then.accounts (omega (arith, long.accounts)) good.blank.accounts);
          last = rolled_last c.numbers good.many ∙ good.blank.last;
        }

    rolled_M : number (rolled_c c) 0 ≡ number c 0
    unfolding rolled_c
    rolled_M = rolled_low c.numbers good.many 0 (omega arith)

    rolled_A : number (rolled_c c) 1 ≡ number c 1
    unfolding rolled_c
    rolled_A = rolled_low c.numbers good.many 1 (omega arith)

    rolled_shut : number (rolled_c c) 8 ≡ 0
    unfolding rolled_c
    rolled_shut = rolled_mark c.numbers good.many

    rolled_many : length (rolled_c c).numbers ≡ 528
    unfolding rolled_c
    rolled_many = rolled_length c.numbers good.many

    pub enough : 16 ≤ length (rolled_c c).numbers
    enough = omega (arith, rolled_many)

    pub rolled_places : number (rolled_c c) 3 ≡ number c 10
    rolled_places = rolled_now.places

    -- but for the index, which is made anew
    pub rolled_good : Formed (Unit {0}) (rolled_c c)
    rolled_good = record {
      lengths = rolled_long;
      many = rolled_many;
      M·low = rw rolled_M good.M·low;
      M·high = rw rolled_M good.M·high;
      A·low = rw rolled_A good.A·low;
      A·high = rw rolled_A good.A·high;
      now = good_room (live (rolled_c c)) rolled_M rolled_A (good_same (live (rolled_c c)) (kept c) rolled_now held);
      blank = rolled_blank;
      opened = omega (arith, rolled_shut);
      then = λ e. absurd (zero_one (sym rolled_shut ∙ e));
      index = tt;
    }

    pub rolled_meant : meant (rolled_c c) ≡ store_of c (buffer_of (kept c)) none
    rolled_meant = λ i. record {
      M = rolled_M i;
      A = rolled_A i;
      now = buffer_same (live (rolled_c c)) (kept c) rolled_now i;
      kept = if_marked (rolled_shut i) (buffer_of (kept (rolled_c c)));
    }
