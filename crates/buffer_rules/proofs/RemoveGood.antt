-- A removal leaves well-formed columns well formed. The queues that go hold no external, so the externals stay, and the internals are what
-- is left beside them. Assumes nothing.
use mathlib.Core.Path.{◌≡◌, refl, sym, ap, subst, ◌∙◌}
use mathlib.Core.Bool.{Bool, false, not, ◌&&◌}
use mathlib.Core.List.{List, [], ◌∷◌}
use Prim.Native.Nat.{ℕ, ◌+◌, ◌-◌, ◌<◌, ◌≤◌}
use native.Mathlib.Omega.{arith}
use lib.ListN.{get_or}
use Rattle.numbers.proofs.Bytes.{by_bool}
use Rattle.columns.proofs.Gathers.{rank_le}
use Rattle.rules.specs.World.{World, Row, keep, joined, some_of}
use Rattle.rules.specs.Queues.{is_in, externals, all_msgs, held_ints, held_exts}
use Rattle.rules.specs.Kept.{TidyBuffer}
use Rattle.demands.proofs.Rows.{or_false}
use Rattle.demands.proofs.Accounts.{num_append}
use Rattle.demands.proofs.TidyBuffer.{buffer_remove}
use Rattle.message.specs.Real.{Real}
use Rattle.message.proofs.Real.{real_lawful}
use Rattle.queues.specs.Cols.{Cols, live, number}
use Rattle.queues.specs.Meant.{order_of, buffer_of}
use Rattle.queues.specs.Good.{Long, GoodHalf, Blank, Formed, Good}
use Rattle.queues.specs.Compact.{left_numbers, seats_of, removed_c, remove_c}
use Rattle.queues.proofs.Counts.{all_counted, both_kinds, counts_add}
use Rattle.queues.proofs.Indexing.{good_indexed}
use Rattle.buffer_rules.proofs.CompactRule.{staying, long_after, placed_after, kinds_after, forms_after, blank_after}
use Rattle.buffer_rules.proofs.RemoveRule.{names_of, stays_c, loses, messages_left, places_left, removed_by, number_2, number_3, number_4, packable, lost_is, many_left, number_left, order_left, buffer_left, kept_left}

-- ---- externals

module _ (W : World) where
  externals_none : (ms : List W.Msg) → some_of W.external ms ≡ false → externals W ms ≡ 0
  unfolding some_of externals keep
  externals_none [] e = refl
  externals_none (m ∷ ms) e =
      let parts = or_false (W.external m) (some_of W.external ms) e in
      rw parts.0 (externals_none ms parts.1)

  -- rows that go without an external leave the externals as they are
  externals_stay : (goes : Row W → Bool) (o : List (Row W)) → some_of (λ r. goes r && some_of W.external r.msgs) o ≡ false
      → externals W (all_msgs W (keep (λ r. not (goes r)) o)) ≡ externals W (all_msgs W o)
  unfolding some_of externals keep all_msgs joined
  externals_stay goes [] e = refl
  externals_stay goes (r ∷ o) e =
      let parts = or_false (goes r && some_of W.external r.msgs) (some_of (λ r. goes r && some_of W.external r.msgs) o) e in
      let ih = externals_stay goes o parts.1 in
      by_bool (goes r)
      (λ b. rw b (omega (arith, num_append W.external r.msgs (all_msgs W o), externals_none r.msgs (rw b at parts.0))))
      (λ b. rw b (omega (arith, num_append W.external r.msgs (all_msgs W o), num_append W.external r.msgs (all_msgs W (keep (λ r. not (goes r)) o)))))

module _ (names : List ℕ) (c : Cols) (g : Good c) where
  long_left : Long (removed_by names c)
  unfolding removed_c
  long_left = let l = long_after (packable names c g) in record {
    owner = l.owner;
    kind = l.kind;
    form = l.form;
    time = l.time;
    address = l.address;
    hash = l.hash;
    accounts = l.accounts;
  }

  messages_left_lem : number (removed_by names c) 2 ≡ messages_left names c
  unfolding removed_c
  messages_left_lem = number_2 (messages_left names c) (places_left names c) c.numbers g.many

  places_left_lem : number (removed_by names c) 3 ≡ places_left names c
  unfolding removed_c
  places_left_lem = number_3 (messages_left names c) (places_left names c) c.numbers g.many

  ints_left_lem : number (removed_by names c) 4 ≡ number c 4 - (number c 2 - number (removed_by names c) 2)
  unfolding removed_c
  ints_left_lem =
      number_4 (messages_left names c) (places_left names c) c.numbers g.many
      ∙ ap (λ (r : ℕ). number c 4 - (number c 2 - r)) (sym messages_left_lem)

  blank_left : Blank (removed_by names c)
  unfolding removed_c
  blank_left =
      blank_after (packable names c g) (left_numbers (messages_left names c) (places_left names c) c.numbers)
      messages_left_lem places_left_lem (number_left names c g 15 refl ∙ g.blank.last) refl refl g.blank

  few_left : number (removed_by names c) 2 ≤ number c 2
  few_left = omega (arith, messages_left_lem, rank_le (staying (number c 2) (seats_of names c) c) (number c 2))

  placed_left : (i : ℕ) → i < number (removed_by names c) 2 → get_or (removed_by names c).owner i 0 < number (removed_by names c) 3
  unfolding removed_c
  placed_left i l = rw places_left_lem (placed_after (packable names c g) i (rw messages_left_lem at l))

  kinds_left : (i : ℕ) → i < number (removed_by names c) 2 → get_or (removed_by names c).kind i 0 ≤ 1
  unfolding removed_c
  kinds_left i l = kinds_after (packable names c g) (λ k. k ≤ 1) g.now.kinds i (rw messages_left_lem at l)

  forms_left : (i : ℕ) → i < number (removed_by names c) 2 → get_or (removed_by names c).form i 0 ≤ 1
  unfolding removed_c
  forms_left i l = forms_after (packable names c g) (λ k. k ≤ 1) g.now.forms i (rw messages_left_lem at l)

  -- ---- the counts, where no queue that goes holds an external
  module _ (none : some_of (loses (names_of names)) (order_of (live c)) ≡ false) where
    exts_same : held_exts Real (buffer_of (live (removed_by names c))) ≡ held_exts Real (buffer_of (live c))
    unfolding held_exts
    exts_same =
        ap (λ (o : List (Row Real)). externals Real (all_msgs Real o)) (order_left names c g)
        ∙ externals_stay Real (λ r. is_in Real r.acc (names_of names)) (order_of (live c)) none

    both_left : held_ints Real (buffer_of (live (removed_by names c))) + held_exts Real (buffer_of (live (removed_by names c))) ≡ number (removed_by names c) 2
    unfolding held_ints held_exts
    both_left =
        both_kinds Real (all_msgs Real (order_of (live (removed_by names c))))
        ∙ all_counted (live (removed_by names c)) (omega (arith, few_left, g.now.messages, g.M·high, long_left.owner)) placed_left

    half_left : GoodHalf (number c 0) (number c 1) (live (removed_by names c))
    half_left =
        let before = counts_add (live c) g.now (omega (arith, g.now.messages, g.M·high, g.lengths.owner)) in
        let exts = number_left names c g 5 refl in
        record {
          messages = omega (arith, few_left, g.now.messages);
          places = omega (arith, places_left_lem, rank_le (stays_c names c) (number c 3), g.now.places);
          placed = placed_left;
          kinds = kinds_left;
          forms = forms_left;
          ints = omega (arith, ints_left_lem, before, both_left, exts_same, g.now.exts, few_left);
          exts = exts ∙ g.now.exts ∙ sym exts_same;
          marked = rw (number_left names c g 7 refl) g.now.marked;
          unmarked = λ e. number_left names c g 6 refl ∙ g.now.unmarked (sym (number_left names c g 7 refl) ∙ e);
          tidy = subst (TidyBuffer Real) (sym (buffer_left names c g)) (buffer_remove Real real_lawful (names_of names) (buffer_of (live c)) g.now.tidy);
        }

    -- but for the index, which is made anew
    good_left : Formed (Unit {0}) (removed_by names c)
    good_left =
        let M = number_left names c g 0 refl in
        let A = number_left names c g 1 refl in
        record {
          lengths = long_left;
          many = many_left names c g;
          M·low = rw M g.M·low;
          M·high = rw M g.M·high;
          A·low = rw A g.A·low;
          A·high = rw A g.A·high;
          now = rw (M, A) half_left;
          blank = blank_left;
          opened = rw (number_left names c g 8 refl) g.opened;
          then = λ e. rw (M, A) (subst (GoodHalf (number c 0) (number c 1)) (sym (kept_left names c g)) (g.then (sym (number_left names c g 8 refl) ∙ e)));
          index = tt;
        }

  -- ---- the call
  pub remove_good : Good (remove_c names c).cols
  unfolding remove_c
  remove_good =
      by_bool (some_of (loses (names_of names)) (order_of (live c)))
      (λ t. rw (lost_is names c g, t) g)
      (λ f. rw (lost_is names c g, f) (good_indexed (places_left names c) (removed_by names c) places_left_lem (good_left f)))
