-- The columns that a join leaves are well formed: `join_good`. The counts are sums over both groups' lists; the cells behind stay clear; the
-- rest is what the rules keep of a join. Assumes nothing.
use mathlib.Core.Path.{◌≡◌, refl, sym, ap, ap₂, subst, ◌∙◌}
use mathlib.Core.Bool.{not}
use mathlib.Core.List.{List, [], ◌∷◌, ◌++◌, append_assoc}
use Prim.Native.Nat.{ℕ, ◌+◌, ◌-◌, ◌*◌, ◌≤◌}
use native.Mathlib.Omega.{arith}
use lib.Dec.{eqb}
use Rattle.numbers.proofs.Bytes.{by_bool}
use Rattle.rules.specs.World.{World, Row, joined}
use Rattle.rules.specs.Queues.{all_msgs, internals, externals}
use Rattle.rules.specs.Fill.{group_ints, group_exts}
use Rattle.rules.specs.Kept.{TidyGroup}
use Rattle.demands.proofs.Accounts.{num_append}
use Rattle.demands.proofs.TidyJoin.{tidy_join}
use Rattle.message.specs.Real.{Real}
use Rattle.message.proofs.Real.{real_lawful}
use Rattle.message.specs.Answers.{Done}
use Rattle.queues.specs.Meant.{order_of}
use Rattle.buckets.specs.Cells.{GoodBuckets}
use Rattle.slots.specs.Table.{Table, count}
use Rattle.slots.specs.Meant.{listed, group_of}
use Rattle.slots.specs.Good.{Long, Blank, Good}
use Rattle.slots.specs.Join.{join_code_t, joined_t}
use Rattle.group_rules.proofs.Follows.{zeros_behind, each_cell, each_owner}
use Rattle.group_rules.proofs.JoinOrder.{order_behind}
use Rattle.group_rules.proofs.JoinRoom.{Pair, pair, Laid, laid, accounts_fit, messages_fit}
use Rattle.group_rules.proofs.JoinRule.{behind, ListsNew, group_is}

-- ---- the messages of lists one behind the other
all_behind : (W : World) (x y : List (Row W)) → all_msgs W (x ++ y) ≡ all_msgs W x ++ all_msgs W y
unfolding all_msgs joined
all_behind W [] y = refl
all_behind W (r ∷ x) y = (λ i. r.msgs ++ all_behind W x y i) ∙ sym (append_assoc r.msgs (all_msgs W x) (all_msgs W y))

module _ {l r j : Table} (p : Pair l r) (b : Laid l r j) where
  lengths : Long j
  lengths =
      let x = p.left.lengths in
      record {
        number = b.number.long ∙ x.number;
        ints = b.ints.long ∙ x.ints;
        exts = b.exts.long ∙ x.exts;
        accounts = b.accounts.long ∙ x.accounts;
        home = b.home·cells.long ∙ x.home;
        owner = b.owner·cells.long ∙ x.owner;
        kind = b.kind.long ∙ x.kind;
        form = b.form.long ∙ x.form;
        time = b.time.long ∙ x.time;
        address = b.address.long ∙ x.address;
        hash = b.hash.long ∙ x.hash;
        numbers = b.numbers ∙ x.numbers;
      }

  blank : Blank j
  blank =
      let x = p.left.blank in
      let s = b.slots·held in
      let a = b.accounts·held in
      let m = b.messages·held in
      record {
        number = zeros_behind b.number (count l 1) 64 (count j 1) s (omega arith) x.number;
        ints = zeros_behind b.ints (count l 1) 64 (count j 1) s (omega arith) x.ints;
        exts = zeros_behind b.exts (count l 1) 64 (count j 1) s (omega arith) x.exts;
        accounts = zeros_behind b.accounts (32 * count l 2) 32768 (32 * count j 2) (omega arith) (omega arith) x.accounts;
        home = zeros_behind b.home·cells (count l 2) 1024 (count j 2) a (omega arith) x.home;
        owner = zeros_behind b.owner·cells (count l 3) 1024 (count j 3) m (omega arith) x.owner;
        kind = zeros_behind b.kind (count l 3) 1024 (count j 3) m (omega arith) x.kind;
        form = zeros_behind b.form (count l 3) 1024 (count j 3) m (omega arith) x.form;
        time = zeros_behind b.time (count l 3) 1024 (count j 3) m (omega arith) x.time;
        address = zeros_behind b.address (32 * count l 3) 32768 (32 * count j 3) (omega arith) (omega arith) x.address;
        hash = zeros_behind b.hash (32 * count l 3) 32768 (32 * count j 3) (omega arith) (omega arith) x.hash;
        numbers = λ i h k. b.rest i h ∙ x.numbers i h k;
      }

  messages_both : all_msgs Real (order_of (listed j)) ≡ all_msgs Real (order_of (listed l)) ++ all_msgs Real (order_of (listed r))
  messages_both = ap (all_msgs Real) (order_behind (behind b)) ∙ all_behind Real (order_of (listed l)) (order_of (listed r))

  ints_add : count j 4 ≡ group_ints Real (group_of j)
  unfolding group_ints internals
  ints_add =
      b.ints·held ∙ ap₂ ◌+◌ p.left.ints p.right.ints
      ∙ sym (ap (internals Real) messages_both ∙ num_append (λ m. not (Real.external m)) (all_msgs Real (order_of (listed l))) (all_msgs Real (order_of (listed r))))

  exts_add : count j 5 ≡ group_exts Real (group_of j)
  unfolding group_exts externals
  exts_add =
      b.exts·held ∙ ap₂ ◌+◌ p.left.exts p.right.exts
      ∙ sym (ap (externals Real) messages_both ∙ num_append Real.external (all_msgs Real (order_of (listed l))) (all_msgs Real (order_of (listed r))))

  last_fits : count j 6 ≤ 65535
  last_fits =
      by_bool (eqb (count r 1) 0)
      (λ t. omega (arith, rw t at b.last, p.left.last))
      (λ t. omega (arith, rw t at b.last, p.joins.numbers))

  marked_one : count j 7 ≤ 1
  marked_one =
      by_bool (eqb (count r 1) 0)
      (λ t. omega (arith, rw t at b.marked, p.left.marked))
      (λ t. omega (arith, rw t at b.marked))

  unmarked_none : count j 7 ≡ 0 → count j 6 ≡ 0
  unmarked_none e =
      by_bool (eqb (count r 1) 0)
      (λ t. (rw t at b.last) ∙ p.left.unmarked (sym (rw t at b.marked) ∙ e))
      (λ t. absurd (omega (arith, rw t at b.marked)))

  pub good_behind : GoodBuckets j.buckets → TidyGroup Real (group_of j) → Good j
  good_behind buckets tidy =
      let s = b.slots·held in
      let a = b.accounts·held in
      let m = b.messages·held in
      record {
        lengths = lengths;
        S·low = omega (arith, b.S, p.left.S·low);
        S·high = omega (arith, b.S, p.left.S·high);
        slots = omega (arith, b.S, p.joins.slots);
        accounts = omega (arith, accounts_fit p);
        messages = omega (arith, messages_fit p);
        placed = λ i h. rw a (each_owner b.owner (count r 2) p.right.placed i (omega arith));
        housed = λ i h. rw s (each_owner b.home (count r 1) p.right.housed i (omega arith));
        kinds = λ i h. each_cell b.kind 1 p.left.kinds p.right.kinds i (omega arith);
        forms = λ i h. each_cell b.form 1 p.left.forms p.right.forms i (omega arith);
        ints = ints_add;
        exts = exts_add;
        last = last_fits;
        marked = marked_one;
        unmarked = unmarked_none;
        buckets = buckets;
        blank = blank;
        tidy = tidy;
      }

pub join_good : (l r : Table) → Good l → Good r → join_code_t l r ≡ Done → (cells : List ℕ) → GoodBuckets cells → ListsNew l r cells → Good (joined_t l r cells)
unfolding joined_t
join_good l r good good2 done cells buckets e =
    let p = pair good good2 done in
    good_behind p (laid p cells) buckets
    (subst (TidyGroup Real) (sym (group_is p cells e)) (tidy_join Real real_lawful (group_of l) (group_of r) good.tidy good2.tidy p.joins.apart))
