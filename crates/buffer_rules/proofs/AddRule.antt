-- What an add makes of the columns means what the rules' add makes of what they mean: `add_is`. The code is the rules' code; where it is 0
-- the columns hold one message more, the minimum is lowered by it, and the backup room is as it was. Assumes nothing.
use mathlib.Core.Path.{◌≡◌, refl, sym, ap, ◌∙◌}
use mathlib.Core.Bool.{Bool, true, false, cond, ◌&&◌}
use mathlib.Core.List.{List, [], ◌∷◌}
use Prim.Native.Nat.{ℕ, ◌+◌, ◌*◌, ◌<◌, ◌≤◌}
use native.Mathlib.Numerals.{add-one}
use native.Mathlib.Omega.{arith}
use lib.Dec.{eqb, leb, ltb}
use lib.ListN.{length, get_or, length-set}
use lib.Seq.{get_or-set_same, get_or-set_other, drop-set-lt}
use borrow.Author.Tests.{eqb-true, le-leb, leb-true, leb-false, ltb-false}
use Rattle.std.specs.Prelude.{Err}
use Rattle.numbers.proofs.Bytes.{by_bool}
use Rattle.columns.proofs.Laid.{drop_laid}
use Rattle.columns.proofs.Tabs.{length_tab}
use Rattle.rules.specs.World.{first_of, lowered}
use Rattle.rules.specs.Queues.{all_msgs, give, add}
use Rattle.rules.specs.Calls.{answer, with_now, add_code, add_message}
use Rattle.demands.proofs.Demand.{first_code}
use Rattle.message.specs.declared.Refusal.TheVariants.{Special, WrongKind, Full, Crowded}
use Rattle.message.specs.declared.Message.{Message}
use Rattle.message.specs.Answers.{Code, Done, number as number_of}
use Rattle.message.specs.Records.{account_of}
use Rattle.message.specs.Real.{Real, offer}
use Rattle.records.specs.Records.{form_byte, form_of}
use Rattle.queues.specs.Cols.{Cols, number, live, kept}
use Rattle.queues.specs.Meant.{if_marked, order_of, buffer_of, meant}
use Rattle.queues.specs.Indexed.{indexed_c}
use Rattle.queues.specs.Good.{Good}
use Rattle.queues.specs.Append.{add_code_c, more, appended_c, seat_c, add_c}
use Rattle.queues.proofs.Counts.{all_counted}
use Rattle.queues.proofs.Indexing.{meant_indexed}
use Rattle.buffer_rules.specs.Ruled.{answer_of}
use Rattle.buffer_rules.proofs.AddOrder.{seat_le, has_seat, OneMore, order_old, order_new}
use Rattle.buffer_rules.proofs.AddCells.{counted_length, counted_rest, counted_2, counted_3, counted_6, counted_7, least_more, wide_account, form_back, row_before, row_laid, seated_before, seated_new, seated_drop}

-- ---- the code

number_first : (t : Bool) (x y : Code) → number_of (cond t x y) ≡ first_of t (number_of x) (number_of y)
unfolding first_of
number_first true x y = refl
number_first false x y = refl

code_first : (m : Message) (seat : ℕ) (ns : List ℕ) → number_of (add_code_c m seat ns)
    ≡ first_of m.special 2
    (first_of (ltb 1 m.kind) 3
    (first_of (leb (get_or ns 0 0) (get_or ns 2 0)) 4
    (first_of (leb (get_or ns 3 0) seat && leb (get_or ns 1 0) (get_or ns 3 0)) 5 0)))
unfolding add_code_c
code_first m seat ns =
    number_first m.special (Err Special) _
    ∙ ap (first_of m.special 2) (number_first (ltb 1 m.kind) (Err WrongKind) _
    ∙ ap (first_of (ltb 1 m.kind) 3) (number_first (leb (get_or ns 0 0) (get_or ns 2 0)) (Err Full) _
    ∙ ap (first_of (leb (get_or ns 0 0) (get_or ns 2 0)) 4) (number_first (leb (get_or ns 3 0) seat && leb (get_or ns 1 0) (get_or ns 3 0)) (Err Crowded) Done)))

-- a message that is taken: what the add requires, and what its code rules out
pub record Taken (m : Message) (c : Cols) : Type 0 where
  pub good : Good c
  pub address : length m.address ≡ 32
  pub hash : length m.hash ≡ 32
  pub plain : m.special ≡ false
  pub kind : m.kind ≤ 1
  pub room : number c 2 < number c 0
  pub place : number c 3 ≤ seat_c m c → number c 3 < number c 1

module _ (m : Message) (c : Cols) (g : Good c) where
  pub taken : length m.address ≡ 32 → length m.hash ≡ 32 → number_of (add_code_c m (seat_c m c) c.numbers) ≡ 0 → Taken m c
  taken wa wh e =
      let special = first_code m.special 2 _ (λ e. omega arith) (sym (code_first m (seat_c m c) c.numbers) ∙ e) in
      let wrong = first_code (ltb 1 m.kind) 3 _ (λ e. omega arith) special.1 in
      let full = first_code (leb (number c 0) (number c 2)) 4 _ (λ e. omega arith) wrong.1 in
      let crowded = first_code (leb (number c 3) (seat_c m c) && leb (number c 1) (number c 3)) 5 _ (λ e. omega arith) full.1 in
      record {
        good = g;
        address = wa;
        hash = wh;
        plain = special.0;
        kind = ltb-false 1 m.kind wrong.0;
        room = leb-false (number c 0) (number c 2) full.0;
        place = λ l. leb-false (number c 1) (number c 3) (rw (le-leb (number c 3) (seat_c m c) l) at crowded.0);
      }

  -- "M and A count what the buffer holds now"
  pub code_is : number_of (add_code_c m (seat_c m c) c.numbers) ≡ add_code Real (offer m) (meant c)
  unfolding add_code order_of
  code_is =
      code_first m (seat_c m c) c.numbers
      ∙ (λ i. first_of m.special 2
      (first_of (ltb 1 m.kind) 3
      (first_of (leb (number c 0) (held i)) 4
      (first_of (has_seat (live c) (account_of m) i && leb (number c 1) (rows i)) 5 0))))
    where
      held : number c 2 ≡ length (all_msgs Real (order_of (live c)))
      held = sym (all_counted (live c) (omega (arith, g.now.messages, g.M·high, g.lengths.owner)) g.now.placed)

      rows : number c 3 ≡ length (order_of (live c))
      rows = sym (length_tab (number c 3) 0 _)

-- ---- the columns with the message

-- how many accounts there are then
abbrev pub places_after : Message → Cols → ℕ
places_after m c = more (leb (number c 3) (seat_c m c)) (number c 3)

abbrev pub after : Message → Cols → Cols
after m c = appended_c m (seat_c m c) c

module _ {m : Message} {c : Cols} (t : Taken m c) where
  -- the new row and the new place lie in the live half
  pub small : number c 2 < 1024
  small = omega (arith, t.room, t.good.M·high)

  pub few : number c 3 ≤ seat_c m c → 32 * number c 3 + 32 ≤ 8192
  few l = omega (arith, t.place l, t.good.A·high)

  pub seat_last : seat_c m c ≤ number c 3
  seat_last = seat_le (live c) (account_of m)

  pub wide : length (account_of m) ≡ 32
  wide = wide_account m.form m.address t.address

  pub address_fits : 32 * number c 2 + 32 ≤ length c.address
  address_fits = omega (arith, small, t.good.lengths.address)

  pub hash_fits : 32 * number c 2 + 32 ≤ length c.hash
  hash_fits = omega (arith, small, t.good.lengths.hash)

  pub accounts_fit : number c 3 ≤ seat_c m c → 32 * number c 3 + 32 ≤ length c.accounts
  accounts_fit l = omega (arith, few l, t.good.lengths.accounts)

  pub many : length (after m c).numbers ≡ 528
  unfolding appended_c
  many = counted_length m.kind m.time (seat_c m c) c.numbers ∙ t.good.many

  enough : 16 ≤ length (after m c).numbers
  enough = omega (arith, many)

  pub rest : (j : ℕ) → (2 ≤ j → j ≤ 7 → ⊥) → number (after m c) j ≡ number c j
  unfolding appended_c
  rest j n = counted_rest m.kind m.time (seat_c m c) c.numbers j n

  pub kept_same : kept (after m c) ≡ kept c
  unfolding appended_c
  kept_same = λ i. record {
    owner = drop-set-lt 1024 c.owner (number c 2) (seat_c m c) small i;
    kind = drop-set-lt 1024 c.kind (number c 2) m.kind small i;
    form = drop-set-lt 1024 c.form (number c 2) (form_byte m.form) small i;
    time = drop-set-lt 1024 c.time (number c 2) m.time small i;
    address = drop_laid (32 * number c 2) m.address c.address (omega (arith, t.address, address_fits)) 32768 (omega (arith, t.address, small)) i;
    hash = drop_laid (32 * number c 2) m.hash c.hash (omega (arith, t.hash, hash_fits)) 32768 (omega (arith, t.hash, small)) i;
    accounts = seated_drop (seat_c m c) (number c 3) (account_of m) c.accounts wide seat_last accounts_fit 8192 few i;
    messages = rest 9 (λ a b. omega arith) i;
    places = rest 10 (λ a b. omega arith) i;
    ints = rest 11 (λ a b. omega arith) i;
    exts = rest 12 (λ a b. omega arith) i;
    least = rest 13 (λ a b. omega arith) i;
    marked = rest 14 (λ a b. omega arith) i;
  }

  pub one_more : OneMore (live c) (live (after m c)) m (seat_c m c)
  unfolding appended_c
  one_more =
      let owners : number c 2 < length c.owner = omega (arith, small, t.good.lengths.owner) in
      record {
        messages = counted_2 m.kind m.time (seat_c m c) c.numbers t.good.many ∙ add-one (number c 2);
        rows = record {
          long = simp length-set (omega arith);
          long' = omega arith;
          owner = λ i l. get_or-set_other c.owner (number c 2) i (seat_c m c) 0 (λ e. omega arith);
          kind = λ i l. get_or-set_other c.kind (number c 2) i m.kind 0 (λ e. omega arith);
          form = λ i l. get_or-set_other c.form (number c 2) i (form_byte m.form) 0 (λ e. omega arith);
          time = λ i l. get_or-set_other c.time (number c 2) i m.time 0 (λ e. omega arith);
          address = row_before (number c 2) m.address c.address t.address address_fits;
          hash = row_before (number c 2) m.hash c.hash t.hash hash_fits;
          accounts = seated_before (seat_c m c) (number c 3) (account_of m) c.accounts wide seat_last accounts_fit;
        };
        long = simp length-set owners;
        owner = get_or-set_same c.owner (number c 2) (seat_c m c) 0 owners;
        message = λ i. record {
          kind = get_or-set_same c.kind (number c 2) m.kind 0 (omega (arith, small, t.good.lengths.kind)) i;
          special = sym t.plain i;
          form = (ap form_of (get_or-set_same c.form (number c 2) (form_byte m.form) 0 (omega (arith, small, t.good.lengths.form))) ∙ form_back m.form) i;
          address = row_laid (number c 2) m.address c.address t.address address_fits i;
          time = get_or-set_same c.time (number c 2) m.time 0 (omega (arith, small, t.good.lengths.time)) i;
          hash = row_laid (number c 2) m.hash c.hash t.hash hash_fits i;
        };
      }

  pub places_more : number (after m c) 3 ≡ places_after m c
  unfolding appended_c
  places_more = counted_3 m.kind m.time (seat_c m c) c.numbers t.good.many

  order_more : order_of (live (after m c)) ≡ give Real (account_of m) (m ∷ []) (order_of (live c))
  unfolding appended_c
  order_more =
      by_bool (leb (number c 3) (seat_c m c))
      (λ e. let l = leb-true (number c 3) (seat_c m c) e in
      order_new (live c) (live (after m c)) m (seat_c m c) one_more (account_of m) refl l (places_more ∙ rw e (add-one (number c 3)))
      (seated_new (seat_c m c) (number c 3) (account_of m) c.accounts wide seat_last accounts_fit l) t.good.now.placed)
      (λ e. order_old (live c) (live (after m c)) m (seat_c m c) one_more (account_of m) refl (leb-false (number c 3) (seat_c m c) e) (places_more ∙ rw e))

  least_is : if_marked (number (after m c) 7) (number (after m c) 6)
      ≡ cond (eqb m.kind 1) (lowered (if_marked (number c 7) (number c 6)) m.time) (if_marked (number c 7) (number c 6))
  unfolding appended_c
  least_is =
      (λ i. if_marked (counted_7 m.kind m.time (seat_c m c) c.numbers t.good.many i) (counted_6 m.kind m.time (seat_c m c) c.numbers t.good.many i))
      ∙ least_more (eqb m.kind 1) (number c 7) (number c 6) m.time

  pub buffer_more : buffer_of (live (after m c)) ≡ add Real (account_of m) m (buffer_of (live c))
  unfolding add
  buffer_more = λ i. record { order = order_more i; least = least_is i }

  pub meant_more : meant (after m c) ≡ with_now Real (meant c) (add Real (account_of m) m (buffer_of (live c)))
  unfolding with_now
  meant_more = λ i. record {
    M = rest 0 (λ a b. omega arith) i;
    A = rest 1 (λ a b. omega arith) i;
    now = buffer_more i;
    kept = if_marked (rest 8 (λ a b. omega arith) i) (buffer_of (kept_same i));
  }

-- ---- the answer

-- done or as it was, by a code that is the same
carried : {X Y : Type 0} (f : X → Y) (x y : ℕ) (d s : X) (e : Y) → x ≡ y → (x ≡ 0 → f d ≡ e) → f (cond (eqb x 0) d s) ≡ cond (eqb y 0) e (f s)
carried f x y d s e q h = rw (← q) (by_bool (eqb x 0) (λ t. rw t (h (eqb-true x 0 t))) (λ t. rw t))

pub add_is : (m : Message) (c : Cols) → Good c → length m.address ≡ 32 → length m.hash ≡ 32 → answer_of (add_c m c) ≡ add_message Real (offer m) (meant c)
unfolding add_c add_message answer
add_is m c g wa wh = λ i. record {
  code = code_is m c g i;
  after = carried meant _ _ (indexed_c (places_after m c) (after m c)) c _ (code_is m c g) (λ e. let t = taken m c g wa wh e in meant_indexed (places_after m c) (after m c) (enough t) ∙ meant_more t) i;
}
