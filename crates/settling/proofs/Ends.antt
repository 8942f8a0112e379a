-- The end of a fill, part by part: what each part needs, from what the whole needs, and what the parts leave together. Assumes nothing.
use mathlib.Core.Path.{◌≡◌, refl, sym, ap, subst, ◌∙◌}
use mathlib.Core.List.{List}
use Prim.Native.Nat.{ℕ, zero, suc, ◌+◌, ◌-◌, ◌*◌, ◌<◌, ◌≤◌}
use native.Mathlib.Nat.{zero-add}
use native.Mathlib.Omega.{arith}
use lib.ListN.{length, get_or, set, replicate, length-set, length-replicate}
use Rattle.rules.specs.Fill.{reindexed}
use Rattle.columns.specs.Lists.{tab_i, rank}
use Rattle.columns.specs.Laid.{laid_at}
use Rattle.columns.specs.Rows.{flat}
use Rattle.columns.proofs.Tabs.{tab_get_d}
use Rattle.columns.proofs.Gathers.{rank_le}
use Rattle.buckets.specs.Cells.{index}
use Rattle.buckets.specs.Moves.{Plain, slots_of, Leaves, MayReindex}
use Rattle.joins.specs.Laying.{Countable}
use Rattle.queues.specs.Cols.{Cols}
use Rattle.queues.specs.Meant.{order_of}
use Rattle.queues.proofs.Counts.{both_kinds}
use Rattle.rules.specs.Fill.{group_ints, group_exts}
use Rattle.rules.specs.Queues.{all_msgs}
use Rattle.message.specs.Real.{Real}
use Rattle.slots.specs.Table.{Table, count}
use Rattle.slots.specs.Meant.{listed}
use Rattle.slots.specs.Good.{Good}
use Rattle.group_rules.proofs.GroupLook.{messages_told}
use Rattle.moves.specs.Moves.{held_at}
use Rattle.meaning.specs.Passes.{RanC}
use Rattle.settle.specs.Copies.{Takes, TakesRows, TakesOwners, seats_at, seated_by, is_key, accounts_at, Fields, Bodies, Entered, Keyed}
use Rattle.settle.specs.Ends.{MayCount, in_counts, filled_c}
use Rattle.settle_rules.specs.Facts.{held_by, TableSettled}
use Rattle.settle_rules.specs.Settling.{no_seats, messages, MayTake, Messages, Took, MayRenumber, Renumbered, from, MaySettleGroup, internals_of}
use Rattle.settle_rules.specs.Settling.{MayTell, Told, MaySettle, Settled}

-- ---- the rows taken

length_seated : (n : ℕ) (member seat : List ℕ) → length (seated_by n member seat) ≡ length seat
unfolding seated_by
length_seated zero member seat = refl
length_seated (suc n) member seat = length-set (seated_by n member seat) (get_or member n 0) n ∙ length_seated n member seat

pub seats_long : (n : ℕ) (member seat : List ℕ) → seat ≡ seated_by n member no_seats → length seat ≡ 1280
seats_long n member seat e = ap length e ∙ length_seated n member no_seats ∙ length-replicate {A = ℕ} 1280 0

module _ {taken : List ℕ} {n : ℕ} {member : List ℕ} {members at : ℕ} {from m m' : Messages} where
  pub took : (seat : List ℕ) → seat ≡ seated_by members member no_seats → m'.owner ≡ laid_at at (seats_at n taken from.owner seat) m.owner
      → Fields n taken at from.kind from.form from.time m.kind m.form m.time m'.kind m'.form m'.time
      → Bodies n taken at from.address from.hash m.address m.hash m'.address m'.hash → Took taken n member members at from m m'
  took seat e o f b = record {
    owners = o ∙ ap (λ (x : List ℕ). laid_at at (seats_at n taken from.owner x) m.owner) e;
    fields = f;
    bodies = b;
  }

-- ---- the slots

-- the counts, one by one, are those of the slots
abbrev pub Counts : (ints exts counts : List ℕ) → Type 0
Counts ints exts counts = (length counts ≡ 64) × ((i : ℕ) → i < 64 → get_or counts i 0 ≡ get_or ints i 0 + get_or exts i 0)

pub countable : (ints exts : List ℕ) → ((j : ℕ) → j < 64 → held_at ints exts j ≤ 16) → Countable 64 ints exts
countable ints exts low = record { few = omega arith; low = λ i l. omega (arith, low i l) }

pub counts_are : (ints exts counts : List ℕ) → Counts ints exts counts → counts ≡ held_by 64 ints exts
counts_are ints exts counts h =
    sym (tab_get_d 0 counts 64 0 (sym h.0) (λ (j : ℕ). get_or ints j 0 + get_or exts j 0) (λ j l. rw zero-add (sym (h.1 j l))))

module _ {slots : ℕ} {number ints exts number2 ints2 exts2 buckets : List ℕ} (p : MayRenumber slots number ints exts number2 ints2 exts2 buckets)
    (olds news : List ℕ) (a : Counts ints2 exts2 olds) (b : Counts ints exts news) where
  pub may_follow : MayReindex buckets number olds news slots
  may_follow =
      subst (λ (x : List ℕ). MayReindex buckets number x news slots) (sym (counts_are ints2 exts2 olds a))
      (subst (λ (x : List ℕ). MayReindex buckets number (held_by 64 ints2 exts2) x slots) (sym (counts_are ints exts news b)) p.index_fits)

  abbrev made : (olds news : List ℕ) → List (List ℕ)
  made olds news = reindexed Plain (slots_of number olds slots) (slots_of number news slots) 0 (index buckets)

  pub renumbered : (buckets' : List ℕ) → Leaves (made olds news) buckets' → Renumbered slots number ints exts ints2 exts2 buckets number ints exts buckets'
  renumbered buckets' l = record {
    number_is = refl;
    ints_is = refl;
    exts_is = refl;
    listed =
        subst (λ (x : List ℕ). Leaves (made x (held_by 64 ints exts)) buckets') (counts_are ints2 exts2 olds a)
        (subst (λ (x : List ℕ). Leaves (made olds x) buckets') (counts_are ints exts news b) l);
  }

-- ---- the group

-- a group's counts are few
kinds_few : (t : Table) → Good t → count t 4 + count t 5 ≤ 1024
unfolding group_ints group_exts
kinds_few t g = omega (arith, g.ints, g.exts, both_kinds Real (all_msgs Real (order_of (listed t))), messages_told t g, g.messages)

module _ {c : Cols} {t : Table} {x : RanC} (p : MaySettleGroup c t x) where
  abbrev n : ℕ
  n = x.now.store.tally.taken

  abbrev all : ℕ
  all = x.now.store.tally.accounts

  abbrev rows : List ℕ
  rows = x.now.store.taken

  abbrev member : List ℕ
  member = x.now.store.member

  pub may_take : MayTake x.now.store.owner rows n member all (count t 3)
      (length c.kind) (length c.form) (length c.time) (length c.address) (length c.hash)
      (length t.owner) (length t.kind) (length t.form) (length t.time) (length t.address) (length t.hash)
  may_take =
      let o = p.owners in
      let l = p.group.lengths in
      record {
        member_long = p.member_long;
        most = omega (arith, p.few);
        parties = p.parties;
        owners = record {
          few = o.few;
          rows_long = o.rows_long;
          owners_long = o.owners_long;
          seats_long = refl;
          there = o.there;
          from = o.from;
          party = o.party;
          room_long = l.owner;
          fits = o.fits;
        };
        fields = record {
          named = omega (arith, o.few, o.rows_long);
          there = λ k h. rw zero-add (omega (arith, o.there k h, p.kind_long));
          fits = omega (arith, o.fits, l.kind);
        };
        form_long = p.form_long ∙ sym p.kind_long;
        time_long = p.time_long ∙ sym p.kind_long;
        form2_long = l.form ∙ sym l.kind;
        time2_long = l.time ∙ sym l.kind;
        bodies = record {
          named = omega (arith, o.few, o.rows_long);
          there = λ k h. rw zero-add (omega (arith, o.there k h, p.address_long));
          fits = omega (arith, o.fits, l.address);
        };
        hash_long = p.hash_long ∙ sym p.address_long;
        hash2_long = l.hash ∙ sym l.address;
      }

  -- those that entered have a place in the order
  place : (k : ℕ) → k < all - count t 2 → get_or member (count t 2 + k) 0 < 256
  place k h = p.places (count t 2 + k) (omega arith) (omega arith)

  pub may_enter : TakesRows (count t 2) (all - count t 2) (length c.accounts) member (count t 2) (length t.accounts)
      × Takes (count t 2) (all - count t 2) (length x.now.store.home) member (count t 2) (length t.home)
  may_enter = (
    record {
      named = omega (arith, p.more, p.few, p.member_long);
      there = λ k h. omega (arith, place k h, p.accounts_long);
      fits = omega (arith, p.more, p.few, p.group.lengths.accounts);
    },
    record {
      named = omega (arith, p.more, p.few, p.member_long);
      there = λ k h. omega (arith, place k h, p.home_long);
      fits = omega (arith, p.more, p.few, p.group.lengths.home);
    },
  )

  pub may_count : (ints : ℕ) → ints ≡ internals_of c.kind x → MayCount n ints t.numbers
  may_count ints e = record {
    long = p.group.lengths.numbers;
    fewer = omega (arith, e, rank_le (is_key rows c.kind) n);
    few = p.owners.few;
    messages = p.group.messages;
    internals = omega (arith, kinds_few t p.group);
    externals = omega (arith, kinds_few t p.group);
  }

  -- t' after
  module _ {t' : Table}
      (rows_in : Took rows n member all (count t 3)
      (messages x.now.store.owner c.kind c.form c.time c.address c.hash)
      (messages t.owner t.kind t.form t.time t.address t.hash)
      (messages t'.owner t'.kind t'.form t'.time t'.address t'.hash))
      (members_in : Entered (count t 2) (all - count t 2) member c.accounts x.now.store.home t.accounts t.home t'.accounts t'.home)
      (slots_in : Renumbered x.slots x.number x.now.store.ints x.now.store.exts t.ints t.exts t.buckets
      t'.number t'.ints t'.exts t'.buckets) where
    pub group_settled : (k ints last : ℕ) → ints ≡ internals_of c.kind x → last ≡ x.last
        → t'.numbers ≡ in_counts x.slots all n ints k last t.numbers → TableSettled t t' c x k no_seats
    group_settled k ints last i l e = record {
      fields = rows_in.fields;
      bodies = rows_in.bodies;
      owners = rows_in.owners;
      entered = members_in;
      seats_long = length-replicate {A = ℕ} 1280 0;
      number = slots_in.number_is;
      ints = slots_in.ints_is;
      exts = slots_in.exts_is;
      numbers = e ∙ ap (λ (y : ℕ). in_counts x.slots all n y k last t.numbers) i
          ∙ ap (λ (y : ℕ). in_counts x.slots all n (internals_of c.kind x) k y t.numbers) l;
      buckets = slots_in.listed;
    }

-- ---- the whole end

-- the group's end reads these columns alone
abbrev part : Cols → Cols
part c = from c.kind c.form c.time c.address c.hash c.accounts

module _ {c : Cols} {t : Table} {x : RanC} where
  pub may_settle_group : MaySettleGroup c t x → MaySettleGroup (part c) t x
  may_settle_group p = record {
    kind_long = p.kind_long;
    form_long = p.form_long;
    time_long = p.time_long;
    address_long = p.address_long;
    hash_long = p.hash_long;
    accounts_long = p.accounts_long;
    group = p.group;
    home_long = p.home_long;
    member_long = p.member_long;
    owners = p.owners;
    more = p.more;
    few = p.few;
    parties = p.parties;
    places = p.places;
    slots_fit = p.slots_fit;
  }

  pub may_tell : {set : List ℕ} {held lts hashes : ℕ} → MaySettle c t x set held lts hashes
      → MayTell c.kind (length c.time) (length c.hash) (length c.accounts) (length t.accounts) x (length set) held lts hashes
  may_tell p = record {
    keys = p.keys;
    joins = p.joins;
    accounts_long = p.group.accounts_long;
    accounts2_long = p.group.group.lengths.accounts;
    set_long = p.set_long;
  }

  pub settled : {c' : Cols} {t' : Table} {k : ℕ} {set set' : List ℕ} {held held' : ℕ} {lts lts' hashes hashes' : List ℕ} (ints : ℕ)
      → Told c.kind c.time c.hash c.accounts t.accounts x set set' held held' lts lts' hashes hashes' ints
      → TableSettled t t' (part c) x k no_seats → c' ≡ filled_c x.now.store.owner c
      → Settled c c' t t' x k set set' held held' lts lts' hashes hashes'
  settled ints y g b = record {
    keys = record { count = refl; lts_are = y.keys.lts_are; hashes_are = y.keys.hashes_are };
    set_is = y.set_is;
    held_is = y.held_is;
    group = record {
      fields = g.fields;
      bodies = g.bodies;
      owners = g.owners;
      entered = g.entered;
      seats_long = g.seats_long;
      number = g.number;
      ints = g.ints;
      exts = g.exts;
      numbers = g.numbers;
      buckets = g.buckets;
    };
    buffer = b;
  }
