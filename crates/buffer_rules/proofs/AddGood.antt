-- Columns that are well formed are so after an add: `add_good`. The counts grow with the queues, the cells behind the new row are fresh as
-- they were, and the buffer is tidy because the rules' add keeps it so. Assumes nothing.
use mathlib.Core.Path.{◌≡◌, refl, sym, ap, subst, ◌∙◌}
use mathlib.Core.Bool.{Bool, true, false, cond, not}
use mathlib.Core.List.{[], ◌∷◌}
use Prim.Native.Nat.{ℕ, zero, suc, ◌+◌, ◌*◌, ◌<◌, ◌≤◌}
use native.Mathlib.Nat.{not-suc-le-zero}
use native.Mathlib.Omega.{arith}
use lib.Dec.{eqb, leb}
use lib.ListN.{length, get_or, length-set}
use lib.Seq.{get_or-set_same, get_or-set_other}
use borrow.Author.Tests.{eqb-true, eqb-false, le-leb, leb-true, leb-false}
use Rattle.numbers.proofs.Bytes.{by_bool}
use Rattle.columns.proofs.Laid.{length_laid, get_d_laid_behind}
use Rattle.rules.specs.World.{keep}
use Rattle.rules.specs.Queues.{internals, externals, held_ints, held_exts, add}
use Rattle.rules.specs.Kept.{TidyBuffer}
use Rattle.demands.proofs.Accounts.{num_give}
use Rattle.demands.proofs.TidyBuffer.{buffer_add}
use Rattle.message.specs.declared.Form.{Form}
use Rattle.message.specs.declared.Form.TheVariants.{Standard, Other}
use Rattle.message.specs.declared.Message.{Message}
use Rattle.message.specs.Answers.{number as number_of}
use Rattle.message.specs.Records.{account_of}
use Rattle.message.specs.Real.{Real}
use Rattle.message.proofs.Real.{real_lawful}
use Rattle.records.specs.Records.{form_byte}
use Rattle.queues.specs.Cols.{Cols, Half, number, live}
use Rattle.queues.specs.Meant.{order_of, buffer_of}
use Rattle.queues.specs.Good.{Long, GoodHalf, Blank, Formed, Good}
use Rattle.queues.specs.Append.{add_code_c, more, lowest, appended_c, seat_c, add_c}
use Rattle.queues.proofs.Indexing.{good_indexed}
use Rattle.buffer_rules.proofs.AddCells.{counted_4, counted_5, counted_6, counted_7, seated_length, seated_behind}
use Rattle.buffer_rules.proofs.AddRule.{Taken, taken, places_after, after, many, small, seat_last, wide, address_fits, hash_fits, accounts_fit, rest, kept_same, one_more, places_more, buffer_more}

-- ---- facts of numbers

form_small : (f : Form) → form_byte f ≤ 1
form_small Standard = omega arith
form_small Other = omega arith

-- of two kinds, what is not external is internal
other_kind : (k : ℕ) → k ≤ 1 → eqb k 0 ≡ not (eqb k 1)
other_kind zero l = refl
other_kind (suc zero) l = refl
other_kind (suc (suc k)) l = absurd (not-suc-le-zero {n = 0} (omega arith))

-- one message counted
count_one : (t : Message → Bool) (m : Message) (n k : ℕ) → n ≡ k → more (t m) n ≡ k + length (keep t (m ∷ []))
unfolding keep
count_one t m n k e = by_bool (t m) (λ b. rw b (omega arith)) (λ b. rw b (omega arith))

mark_small : (t : Bool) (n : ℕ) → n ≤ 1 → cond t 1 n ≤ 1
mark_small true n l = omega arith
mark_small false n l = l

unmarked_more : (t : Bool) (marked least time : ℕ) → (marked ≡ 0 → least ≡ 0) → cond t 1 marked ≡ 0 → cond t (lowest marked least time) least ≡ 0
unmarked_more true marked least time h e = absurd (not-suc-le-zero {n = 0} (omega arith))
unmarked_more false marked least time h e = h e

good_half_same : {M A N B : ℕ} {h k : Half} → N ≡ M → B ≡ A → k ≡ h → GoodHalf M A h → GoodHalf N B k
good_half_same {M} {A} {N} {B} {h} {k} p q r x = rw (p, q, r) x

-- ---- the columns after an add that is done

module _ {m : Message} {c : Cols} (t : Taken m c) where
  messages_more : number (after m c) 2 ≡ suc (number c 2)
  messages_more = (one_more t).messages

  places_kept : number c 3 ≤ number (after m c) 3
  places_kept =
      let e = places_more t in
      by_bool (leb (number c 3) (seat_c m c)) (λ b. omega (arith, rw b at e)) (λ b. omega (arith, rw b at e))

  seat_in_lem : seat_c m c < number (after m c) 3
  seat_in_lem =
      let e = places_more t in
      by_bool (leb (number c 3) (seat_c m c))
      (λ b. omega (arith, rw b at e, seat_last t))
      (λ b. omega (arith, rw b at e, leb-false (number c 3) (seat_c m c) b))

  -- where the seat is new there is one place more
  place_new : number c 3 ≤ seat_c m c → number (after m c) 3 ≡ number c 3 + 1
  place_new l = rw (le-leb (number c 3) (seat_c m c) l) at (places_more t)

  long : Long (after m c)
  unfolding appended_c
  long =
      let l = t.good.lengths in
      record {
        owner = length-set c.owner (number c 2) (seat_c m c) ∙ l.owner;
        kind = length-set c.kind (number c 2) m.kind ∙ l.kind;
        form = length-set c.form (number c 2) (form_byte m.form) ∙ l.form;
        time = length-set c.time (number c 2) m.time ∙ l.time;
        address = length_laid (32 * number c 2) m.address c.address (omega (arith, t.address, address_fits t)) ∙ l.address;
        hash = length_laid (32 * number c 2) m.hash c.hash (omega (arith, t.hash, hash_fits t)) ∙ l.hash;
        accounts = seated_length (seat_c m c) (number c 3) (account_of m) c.accounts (wide t) (seat_last t) (accounts_fit t) ∙ l.accounts;
      }

  blank : Blank (after m c)
  unfolding appended_c
  blank =
      let b = t.good.blank in
      record {
        owner = λ i l u. get_or-set_other c.owner (number c 2) i (seat_c m c) 0 (λ e. omega (arith, messages_more)) ∙ b.owner i (omega (arith, messages_more)) u;
        kind = λ i l u. get_or-set_other c.kind (number c 2) i m.kind 0 (λ e. omega (arith, messages_more)) ∙ b.kind i (omega (arith, messages_more)) u;
        form = λ i l u. get_or-set_other c.form (number c 2) i (form_byte m.form) 0 (λ e. omega (arith, messages_more)) ∙ b.form i (omega (arith, messages_more)) u;
        time = λ i l u. get_or-set_other c.time (number c 2) i m.time 0 (λ e. omega (arith, messages_more)) ∙ b.time i (omega (arith, messages_more)) u;
        address = λ i l u. get_d_laid_behind (32 * number c 2) m.address c.address (omega (arith, t.address, address_fits t)) i 0 (omega (arith, t.address, messages_more)) ∙ b.address i (omega (arith, messages_more)) u;
        hash = λ i l u. get_d_laid_behind (32 * number c 2) m.hash c.hash (omega (arith, t.hash, hash_fits t)) i 0 (omega (arith, t.hash, messages_more)) ∙ b.hash i (omega (arith, messages_more)) u;
        accounts = λ i l u. seated_behind (seat_c m c) (number c 3) (account_of m) c.accounts (wide t) (seat_last t) (accounts_fit t) i (λ n. omega (arith, place_new n)) ∙ b.accounts i (omega (arith, places_kept)) u;
        last = rest t 15 (λ a b. omega arith) ∙ b.last;
      }

  -- the new row, and those before it
  module _ (P : ℕ → Type 0) where
    each_row : ((i : ℕ) → i < number c 2 → P i) → P (number c 2) → (i : ℕ) → i < number (after m c) 2 → P i
    each_row h n i l =
        by_bool (eqb i (number c 2))
        (λ e. rw (eqb-true i (number c 2) e) n)
        (λ e. let z = eqb-false i (number c 2) e in h i (omega (arith, messages_more)))

  -- the counts
  ints_more : number (after m c) 4 ≡ held_ints Real (buffer_of (live (after m c)))
  unfolding appended_c held_ints internals add
  ints_more =
      counted_4 m.kind m.time (seat_c m c) c.numbers t.good.many
      ∙ ap (λ (b : Bool). more b (number c 4)) (other_kind m.kind t.kind)
      ∙ count_one (λ x. not (eqb x.kind 1)) m (number c 4) _ t.good.now.ints
      ∙ sym (ap (held_ints Real) (buffer_more t) ∙ num_give Real real_lawful (λ x. not (eqb x.kind 1)) (account_of m) (m ∷ []) (order_of (live c)))

  exts_more : number (after m c) 5 ≡ held_exts Real (buffer_of (live (after m c)))
  unfolding appended_c held_exts externals add
  exts_more =
      counted_5 m.kind m.time (seat_c m c) c.numbers t.good.many
      ∙ count_one (λ x. eqb x.kind 1) m (number c 5) _ t.good.now.exts
      ∙ sym (ap (held_exts Real) (buffer_more t) ∙ num_give Real real_lawful (λ x. eqb x.kind 1) (account_of m) (m ∷ []) (order_of (live c)))

  marks : (number (after m c) 7 ≡ cond (eqb m.kind 1) 1 (number c 7)) × (number (after m c) 6 ≡ cond (eqb m.kind 1) (lowest (number c 7) (number c 6) m.time) (number c 6))
  unfolding appended_c
  marks = (
    counted_7 m.kind m.time (seat_c m c) c.numbers t.good.many,
    counted_6 m.kind m.time (seat_c m c) c.numbers t.good.many,
  )

  form_new : get_or (after m c).form (number c 2) 0 ≡ form_byte m.form
  unfolding appended_c
  form_new = get_or-set_same c.form (number c 2) (form_byte m.form) 0 (omega (arith, small t, t.good.lengths.form))

  good_now : GoodHalf (number c 0) (number c 1) (live (after m c))
  good_now =
      let g = t.good.now in
      let o = one_more t in
      record {
        messages = omega (arith, messages_more, t.room);
        places = by_bool (leb (number c 3) (seat_c m c))
            (λ b. omega (arith, rw b at (places_more t), t.place (leb-true (number c 3) (seat_c m c) b)))
            (λ b. omega (arith, rw b at (places_more t), g.places));
        placed = each_row (λ i. get_or (after m c).owner i 0 < number (after m c) 3)
            (λ i l. omega (arith, o.rows.owner i l, g.placed i l, places_kept))
            (omega (arith, o.owner, seat_in_lem));
        kinds = each_row (λ i. get_or (after m c).kind i 0 ≤ 1)
            (λ i l. omega (arith, o.rows.kind i l, g.kinds i l))
            (omega (arith, ap (λ (x : Message). x.kind) o.message, t.kind));
        forms = each_row (λ i. get_or (after m c).form i 0 ≤ 1)
            (λ i l. omega (arith, o.rows.form i l, g.forms i l))
            (omega (arith, form_new, form_small m.form));
        ints = ints_more;
        exts = exts_more;
        marked = rw marks.0 (mark_small (eqb m.kind 1) (number c 7) g.marked);
        unmarked = λ e. marks.1 ∙ unmarked_more (eqb m.kind 1) (number c 7) (number c 6) m.time g.unmarked (sym marks.0 ∙ e);
        tidy = subst (TidyBuffer Real) (sym (buffer_more t)) (buffer_add Real real_lawful (account_of m) m (buffer_of (live c)) g.tidy);
      }

  -- but for the index, which is made anew
  good_after : Formed (Unit {0}) (after m c)
  good_after =
      let g = t.good in
      let M : number (after m c) 0 ≡ number c 0 = rest t 0 (λ a b. omega arith) in
      let A : number (after m c) 1 ≡ number c 1 = rest t 1 (λ a b. omega arith) in
      let opened : number (after m c) 8 ≡ number c 8 = rest t 8 (λ a b. omega arith) in
      record {
        lengths = long;
        many = many t;
        M·low = omega (arith, g.M·low);
        M·high = omega (arith, g.M·high);
        A·low = omega (arith, g.A·low);
        A·high = omega (arith, g.A·high);
        now = good_half_same M A refl good_now;
        blank = blank;
        opened = omega (arith, g.opened);
        then = λ e. good_half_same M A (kept_same t) (g.then (sym opened ∙ e));
        index = tt;
      }

pub add_good : (m : Message) (c : Cols) → Good c → length m.address ≡ 32 → length m.hash ≡ 32 → Good (add_c m c).cols
unfolding add_c
add_good m c g wa wh =
    by_bool (eqb (number_of (add_code_c m (seat_c m c) c.numbers)) 0)
    (λ e. let t = taken m c g wa wh (eqb-true _ 0 e) in rw e (good_indexed (places_after m c) (after m c) (places_more t) (good_after t)))
    (λ e. rw e g)
