-- Columns packed by their seats (`compact_c`) mean the rows of the places that stay, in their order, each with the messages that it held; and
-- they are as long, as free and as well kept as before. A removal packs so, and so does the end of a fill. Assumes nothing.
use mathlib.Core.Path.{◌≡◌, sym, ap, ◌∙◌}
use mathlib.Core.Bool.{Bool, true, false}
use mathlib.Core.Logic.{◌⊎◌, ⊎_elim}
use mathlib.Core.List.{List}
use Prim.Native.Nat.{ℕ, ◌*◌, ◌<◌, ◌≤◌}
use native.Mathlib.Nat.{zero-add}
use native.Mathlib.Omega.{arith}
use lib.Dec.{eqb}
use lib.ListN.{length, get_or, drop}
use borrow.Author.Tests.{lt-ltb, le-ltb, ne_eqb}
use Rattle.numbers.proofs.Bytes.{by_bool, clash}
use Rattle.columns.specs.Lists.{pick, gather, rank}
use Rattle.columns.specs.Laid.{is_place, held}
use Rattle.columns.specs.Rows.{row_at}
use Rattle.columns.proofs.Laid.{drop_same, get_d_same}
use Rattle.columns.proofs.Scans.{length_map_i, get_d_map_i}
use Rattle.columns.proofs.Gathers.{rank_le, rank_less, rank_eqb, pick_gather}
use Rattle.columns.proofs.Packed.{length_packed, packed_kept}
use Rattle.columns.proofs.PackedRows.{length_packed_rows}
use Rattle.message.specs.declared.Message.{Message}
use Rattle.queues.specs.Cols.{Cols, Half, kept, number, with_numbers}
use Rattle.queues.specs.Meant.{message_in, row_in, order_of}
use Rattle.queues.specs.Good.{Long, Zeros, Blank}
use Rattle.queues.specs.Compact.{new_place, moved_c, packed_c, compact_c}
use Rattle.buffer_rules.proofs.Packs.{rank_cong, tab_kept, gather_kept, drop_map_i, packed_each, packed_free, packed_drop, row_kept, rows_packed_drop, rows_packed_free}

-- the live half of columns that hold n messages and a accounts, as far as its order goes
abbrev pub half_of : (n a : ℕ) → Cols → Half
half_of n a c = record {
  owner = c.owner;
  kind = c.kind;
  form = c.form;
  time = c.time;
  address = c.address;
  hash = c.hash;
  accounts = c.accounts;
  messages = n;
  places = a;
  ints = 0;
  exts = 0;
  least = 0;
  marked = 0;
}

-- the first n messages belong to one of a places or are gone, and the seats move up the places that stay
pub record Packable (n a : ℕ) (stays : ℕ → Bool) (seats : List ℕ) (c : Cols) : Type 0 where
  pub long : Long c
  pub messages : n ≤ 1024
  pub places : a ≤ 256
  pub owners : (i : ℕ) → i < n → (get_or c.owner i 0 < a) ⊎ (256 ≤ get_or c.owner i 0)
  pub stay : (p : ℕ) → p < a → stays p ≡ true → get_or seats p 0 ≡ rank stays p
  pub go : (p : ℕ) → p < a → stays p ≡ false → 256 ≤ get_or seats p 0

-- which of the messages stay, and how many
abbrev pub staying : (n : ℕ) (seats : List ℕ) → Cols → ℕ → Bool
staying n seats c = held (moved_c n seats c.owner)

abbrev pub left_of : (n : ℕ) (seats : List ℕ) → Cols → ℕ
left_of n seats c = rank (staying n seats c) n

module _ {n a : ℕ} {stays : ℕ → Bool} {seats : List ℕ} {c : Cols} (v : Packable n a stays seats c) where
  -- a place has a seat exactly if it stays
  pub seated : (p : ℕ) → p < a → held seats p ≡ stays p
  unfolding held
  seated p l =
      by_bool (stays p)
      (λ e. rw (e, v.stay p l e) (lt-ltb (rank stays p) 256 (omega (arith, rank_le stays p, v.places))))
      (λ e. rw e (le-ltb (get_or seats p 0) 256 (v.go p l e)))

  -- the new place of message i
  moved_at : (i : ℕ) → i < n → get_or (moved_c n seats c.owner) i 0 ≡ new_place seats i (get_or c.owner i 0)
  unfolding moved_c
  moved_at i l = get_d_map_i (new_place seats) 0 n 0 i i c.owner (sym (zero-add i)) l (omega (arith, v.long.owner, v.messages))

  -- a message of a place moves with it, one that is gone stays gone
  moved_in : (i : ℕ) → i < n → get_or c.owner i 0 < a → get_or (moved_c n seats c.owner) i 0 ≡ get_or seats (get_or c.owner i 0) 0
  moved_in i l h = moved_at i l ∙ rw (lt-ltb (get_or c.owner i 0) 256 (omega (arith, v.places)))

  moved_out : (i : ℕ) → i < n → 256 ≤ get_or c.owner i 0 → get_or (moved_c n seats c.owner) i 0 ≡ get_or c.owner i 0
  moved_out i l h = moved_at i l ∙ rw (le-ltb (get_or c.owner i 0) 256 h)

  -- a message of a place stays if the place does
  stays_with : (i : ℕ) → i < n → get_or c.owner i 0 < a → staying n seats c i ≡ stays (get_or c.owner i 0)
  unfolding held
  stays_with i l h = ap is_place (moved_in i l h) ∙ seated (get_or c.owner i 0) h

  gone_stays : (i : ℕ) → i < n → 256 ≤ get_or c.owner i 0 → staying n seats c i ≡ false
  unfolding held
  gone_stays i l h = ap is_place (moved_out i l h) ∙ le-ltb (get_or c.owner i 0) 256 h

  -- a message that stays is one of a place that stays, and belongs to its new place
  of_place : (i : ℕ) → i < n → staying n seats c i ≡ true → get_or c.owner i 0 < a
  of_place i l e = ⊎_elim (λ h. h) (λ h. clash (staying n seats c i) e (gone_stays i l h)) (v.owners i l)

  of_stay : (i : ℕ) → i < n → staying n seats c i ≡ true → stays (get_or c.owner i 0) ≡ true
  of_stay i l e = sym (stays_with i l (of_place i l e)) ∙ e

  of_rank : (i : ℕ) → i < n → staying n seats c i ≡ true → get_or (moved_c n seats c.owner) i 0 ≡ rank stays (get_or c.owner i 0)
  of_rank i l e = moved_in i l (of_place i l e) ∙ v.stay (get_or c.owner i 0) (of_place i l e) (of_stay i l e)

  -- one that goes belongs to no place that stays
  of_none : (i q : ℕ) → i < n → staying n seats c i ≡ false → q < a → stays q ≡ true → eqb (get_or c.owner i 0) q ≡ false
  of_none i q l e h s =
      ne_eqb (get_or c.owner i 0) q (λ z. clash (staying n seats c i) (stays_with i l (rw z h) ∙ rw z s) e)

  -- ---- the rows after
  owner_after : (i : ℕ) → i < n → staying n seats c i ≡ true → get_or (compact_c n a seats c).owner (rank (staying n seats c) i) 0 ≡ rank stays (get_or c.owner i 0)
  unfolding compact_c packed_c
  owner_after i l e = packed_kept 0 (staying n seats c) n (moved_c n seats c.owner) i l e ∙ of_rank i l e

  message_after : (i : ℕ) → i < n → staying n seats c i ≡ true
      → message_in (half_of (left_of n seats c) (rank stays a) (compact_c n a seats c)) (rank (staying n seats c) i) ≡ message_in (half_of n a c) i
  unfolding compact_c packed_c
  message_after i l e =
      let t = staying n seats c in
      rw (
        packed_kept 0 t n c.kind i l e,
        packed_kept 0 t n c.form i l e,
        packed_kept 0 t n c.time i l e,
        row_kept t n 2048 c.address (omega (arith, v.messages)) v.long.address i l e,
        row_kept t n 2048 c.hash (omega (arith, v.messages)) v.long.hash i l e,
      )

  moved_long : length (moved_c n seats c.owner) ≡ 2048
  unfolding moved_c
  moved_long = length_map_i (new_place seats) n 0 c.owner ∙ v.long.owner

  -- the columns stay as long
  pub long_after : Long (compact_c n a seats c)
  unfolding compact_c packed_c
  long_after =
      let t = staying n seats c in
      let few : n ≤ 2048 = omega (arith, v.messages) in
      record {
        owner = length_packed 0 t n (moved_c n seats c.owner) (omega (arith, moved_long)) ∙ moved_long;
        kind = length_packed 0 t n c.kind (omega (arith, v.long.kind)) ∙ v.long.kind;
        form = length_packed 0 t n c.form (omega (arith, v.long.form)) ∙ v.long.form;
        time = length_packed 0 t n c.time (omega (arith, v.long.time)) ∙ v.long.time;
        address = length_packed_rows t n 2048 c.address few v.long.address ∙ v.long.address;
        hash = length_packed_rows t n 2048 c.hash few v.long.hash ∙ v.long.hash;
        accounts = length_packed_rows (held seats) a 512 c.accounts (omega (arith, v.places)) v.long.accounts ∙ v.long.accounts;
      }

  -- the queue of a place that stays is what it was
  queue_after : (q : ℕ) → q < a → stays q ≡ true
      → pick (message_in (half_of (left_of n seats c) (rank stays a) (compact_c n a seats c))) (rank stays q) (left_of n seats c) 0 (compact_c n a seats c).owner
      ≡ pick (message_in (half_of n a c)) q n 0 c.owner
  queue_after q l e =
      let t = staying n seats c in
      let r = left_of n seats c in
      let made = compact_c n a seats c in
      let new : ℕ → Message = message_in (half_of r (rank stays a) made) in
      let old : ℕ → Message = message_in (half_of n a c) in
      pick_gather new (rank stays q) r 0 made.owner (omega (arith, rank_le t n, v.messages, long_after.owner))
      ∙ gather_kept t old n (λ j. eqb (get_or made.owner j 0) (rank stays q)) (λ j. eqb (get_or c.owner j 0) q) new
      (λ j h s. ap (λ (o : ℕ). eqb o (rank stays q)) (owner_after j h s) ∙ rank_eqb stays (get_or c.owner j 0) q (of_stay j h s) e)
      message_after
      (λ j h s. of_none j q h s l e)
      ∙ sym (pick_gather old q n 0 c.owner (omega (arith, v.messages, v.long.owner)))

  account_after : (q : ℕ) → q < a → stays q ≡ true → row_at (compact_c n a seats c).accounts (rank stays q) ≡ row_at c.accounts q
  unfolding compact_c packed_c
  account_after q l e =
      let same : rank (held seats) q ≡ rank stays q = rank_cong (held seats) stays q (λ j h. seated j (omega arith)) in
      rw (← same) (row_kept (held seats) a 512 c.accounts (omega (arith, v.places)) v.long.accounts q l (seated q l ∙ e))

  -- the order after is that of the places that stay
  pub order_after : order_of (half_of (left_of n seats c) (rank stays a) (compact_c n a seats c)) ≡ gather stays (row_in (half_of n a c)) a 0
  unfolding order_of
  order_after =
      tab_kept stays (row_in (half_of n a c)) a (row_in (half_of (left_of n seats c) (rank stays a) (compact_c n a seats c)))
      (λ q l e. rw (account_after q l e, queue_after q l e))

  -- ---- the cells after

  -- every message that stays belongs to a place of the new order
  pub placed_after : (i : ℕ) → i < left_of n seats c → get_or (compact_c n a seats c).owner i 0 < rank stays a
  unfolding compact_c packed_c
  placed_after =
      packed_each (staying n seats c) n (moved_c n seats c.owner) (λ o. o < rank stays a)
      (λ j l e. rw (of_rank j l e) (rank_less stays (get_or c.owner j 0) a (of_stay j l e) (of_place j l e)))

  -- what holds of the kind and of the form of each message holds of those that stay
  pub kinds_after : (P : ℕ → Type 0) → ((i : ℕ) → i < n → P (get_or c.kind i 0)) → (i : ℕ) → i < left_of n seats c → P (get_or (compact_c n a seats c).kind i 0)
  unfolding compact_c packed_c
  kinds_after P h = packed_each (staying n seats c) n c.kind P (λ j l e. h j l)

  pub forms_after : (P : ℕ → Type 0) → ((i : ℕ) → i < n → P (get_or c.form i 0)) → (i : ℕ) → i < left_of n seats c → P (get_or (compact_c n a seats c).form i 0)
  unfolding compact_c packed_c
  forms_after P h = packed_each (staying n seats c) n c.form P (λ j l e. h j l)

  -- behind the first n messages the owners are as they were
  moved_behind : drop n (moved_c n seats c.owner) ≡ drop n c.owner
  unfolding moved_c
  moved_behind = drop_map_i (new_place seats) n 0 c.owner

  moved_free : (last : ℕ) → Zeros c.owner n last → Zeros (moved_c n seats c.owner) n last
  moved_free last z i h l = get_d_same (moved_c n seats c.owner) c.owner n i moved_behind h 0 ∙ z i h l

  -- what is freed is cleared
  pub blank_after : (ns : List ℕ) → get_or ns 2 0 ≡ left_of n seats c → get_or ns 3 0 ≡ rank stays a → get_or ns 15 0 ≡ 0
      → number c 2 ≡ n → number c 3 ≡ a → Blank c → Blank (with_numbers ns (compact_c n a seats c))
  unfolding compact_c packed_c
  blank_after ns m p z e f b =
      let t = staying n seats c in
      let few : n ≤ 2048 = omega (arith, v.messages) in
      let same : rank (held seats) a ≡ rank stays a = rank_cong (held seats) stays a seated in
      record {
        owner = rw m (packed_free t n (moved_c n seats c.owner) 1024 (moved_free 1024 (rw e at b.owner)));
        kind = rw m (packed_free t n c.kind 1024 (rw e at b.kind));
        form = rw m (packed_free t n c.form 1024 (rw e at b.form));
        time = rw m (packed_free t n c.time 1024 (rw e at b.time));
        address = rw m (rows_packed_free t n 2048 c.address few v.long.address 32768 (rw e at b.address));
        hash = rw m (rows_packed_free t n 2048 c.hash few v.long.hash 32768 (rw e at b.hash));
        accounts = rw (p, ← same) (rows_packed_free (held seats) a 512 c.accounts (omega (arith, v.places)) v.long.accounts 8192 (rw f at b.accounts));
        last = z;
      }

  -- and the backup room stays
  pub kept_after : (ns : List ℕ) → kept (with_numbers ns (compact_c n a seats c)) ≡ kept (with_numbers ns c)
  unfolding compact_c packed_c
  kept_after ns =
      let t = staying n seats c in
      let few : n ≤ 2048 = omega (arith, v.messages) in
      let rows : 32 * n ≤ 32768 = omega (arith, v.messages) in
      let owner = packed_drop t n (moved_c n seats c.owner) 1024 v.messages ∙ drop_same _ _ n 1024 moved_behind v.messages in
      let kind = packed_drop t n c.kind 1024 v.messages in
      let form = packed_drop t n c.form 1024 v.messages in
      let time = packed_drop t n c.time 1024 v.messages in
      let address = rows_packed_drop t n 2048 c.address few v.long.address 32768 rows in
      let hash = rows_packed_drop t n 2048 c.hash few v.long.hash 32768 rows in
      let accounts = rows_packed_drop (held seats) a 512 c.accounts (omega (arith, v.places)) v.long.accounts 8192 (omega (arith, v.places)) in
      λ i. record {
        owner = owner i;
        kind = kind i;
        form = form i;
        time = time i;
        address = address i;
        hash = hash i;
        accounts = accounts i;
        messages = get_or ns 9 0;
        places = get_or ns 10 0;
        ints = get_or ns 11 0;
        exts = get_or ns 12 0;
        least = get_or ns 13 0;
        marked = get_or ns 14 0;
      }
