-- Renaming commutes with every call of the rules: fill, add, remove, is filled, join, and their codes. Assumes nothing.
use mathlib.Core.Path.{◌≡◌, refl, ap, ◌∙◌}
use mathlib.Core.Bool.{cond, not, ◌&&◌, ◌||◌}
use mathlib.Core.List.{List, [], ◌∷◌, ◌++◌, map}
use mathlib.Core.Option.{Option, none, some}
use Prim.Native.Nat.{ℕ, suc, ◌+◌, ◌-◌, min}
use lib.Dec.{eqb, ltb, leb}
use lib.ListN.{length, take}
use Rattle.rules.specs.World.{World, Row, Slot, Args, Buffer, Group, keep, some_of, is_nil, joined, first_of, at_least0, most, lowered}
use Rattle.rules.specs.Queues.{has, is_in, internals, externals, all_msgs, add, remove, remove_code, held_ints, held_exts, full_by_count, count, count_of}
use Rattle.rules.specs.Passes.{State, listed, ended}
use Rattle.rules.specs.Fill.{group_ints, group_exts, group_accounts, group_slots, Filled, numbers, fill_code, buffer_after, group_after, accepted, refused, fill, is_filled, fresh, next_number, renumbered, last_of, listed_too, join, join_code}
use Rattle.renaming.specs.Renaming.{Renaming, Faithful, on_row, on_slot, on_skip, on_args, on_state, on_buffer, on_group, on_filled}
use Rattle.renaming.proofs.Rows.{pick, append_on, length_on, is_nil_on, keep_on, some_on, has_on, give_on, is_in_on, internals_on, externals_on, internal_on, all_msgs_on, count_on, count_of_on, numbers_on, reindexed_on}
use Rattle.renaming.proofs.Passes.{to_open_on, listed_on, ended_on}

module _ {W U : World} (f : Renaming W U) (F : Faithful W U f) where
  -- ---- the buffer
  least_on : (m : W.Msg) (l : Option ℕ) → cond (U.external (f.msg m)) (lowered l (U.time (f.msg m))) l ≡ cond (W.external m) (lowered l (W.time m)) l
  least_on m l = λ i. cond (F.kinds.external m i) (lowered l (F.kinds.time m i)) l

  pub add_on : (a : W.Acc) (m : W.Msg) (b : Buffer W) → add U (f.acc a) (f.msg m) (on_buffer f b) ≡ on_buffer f (add W a m b)
  unfolding add
  add_on a m b = λ i. record { order = give_on f F a (m ∷ []) b.order i; least = least_on m b.least i }

  pub remove_on : (names : List W.Acc) (b : Buffer W) → remove U (map f.acc names) (on_buffer f b) ≡ on_buffer f (remove W names b)
  unfolding remove
  remove_on names b = λ i. record {
    order = keep_on (on_row f) (λ r. not (is_in U r.acc (map f.acc names))) (λ r. not (is_in W r.acc names)) (λ r j. not (is_in_on f F r.acc names j)) b.order i;
    least = b.least;
  }

  pub remove_code_on : (names : List W.Acc) (b : Buffer W) → remove_code U (map f.acc names) (on_buffer f b) ≡ remove_code W names b
  unfolding remove_code
  remove_code_on names b = λ i. cond (some_on (on_row f)
      (λ r. is_in U r.acc (map f.acc names) && some_of U.external r.msgs) (λ r. is_in W r.acc names && some_of W.external r.msgs)
      (λ r j. is_in_on f F r.acc names j && some_on f.msg U.external W.external F.kinds.external r.msgs j) b.order i) 8 0

  pub held_ints_on : (b : Buffer W) → held_ints U (on_buffer f b) ≡ held_ints W b
  unfolding held_ints
  held_ints_on b = ap (internals U) (all_msgs_on f F b.order) ∙ internals_on f F (all_msgs W b.order)

  pub held_exts_on : (b : Buffer W) → held_exts U (on_buffer f b) ≡ held_exts W b
  unfolding held_exts
  held_exts_on b = ap (externals U) (all_msgs_on f F b.order) ∙ externals_on f F (all_msgs W b.order)

  pub held_on : (o : List (Row W)) → length (all_msgs U (map (on_row f) o)) ≡ length (all_msgs W o)
  held_on o = ap length (all_msgs_on f F o) ∙ length_on f.msg (all_msgs W o)

  pub full_by_count_on : (limit : ℕ) (b : Buffer W) → full_by_count U limit (on_buffer f b) ≡ full_by_count W limit b
  unfolding full_by_count
  full_by_count_on limit b = λ i. leb limit (held_on b.order i)

  -- ---- a fill
  pub fill_code_on : (S key_rows : ℕ) (A : Args W) (b : Buffer W) (g : Group W) (skipped : List W.Acc) →
      fill_code U S key_rows (on_args f A) (on_buffer f b) (on_group f g) (map f.acc skipped) ≡ fill_code W S key_rows A b g skipped
  unfolding fill_code
  fill_code_on S key_rows A b g skipped = λ i.
      first_of (ltb S A.asked || ltb 16 A.height) 9
      (first_of (ltb key_rows (held_ints_on b i)) 10
      (first_of (ltb 256 (length_on (on_skip f) A.rows i) || ltb 512 (length_on f.acc skipped i + says i)) 11
      (first_of (ltb 0 (to_open_on f F A g.slots i) && ltb 65535 (at_least0 g.last + to_open_on f F A g.slots i)) 12
      (first_of (above i) 13 0))))
    where
      says : length (keep (λ r. r.skip) (map (on_skip f) A.rows)) ≡ length (keep (λ r. r.skip) A.rows)
      says = ap length (keep_on (on_skip f) (λ r. r.skip) (λ r. r.skip) (λ r. refl) A.rows) ∙ length_on (on_skip f) (keep (λ r. r.skip) A.rows)

      above : some_of (λ n. ltb A.height (count_of U n (map (on_slot f) g.slots))) (listed U (on_args f A) g.index) ≡ some_of (λ n. ltb A.height (count_of W n g.slots)) (listed W A g.index)
      above = λ i. some_of (λ n. ltb A.height (count_of_on f F n g.slots i)) (listed_on f F A g.index i)

  after_on : (b : Buffer W) (s : State W) → buffer_after U (on_buffer f b) (on_state f s) ≡ on_buffer f (buffer_after W b s)
  unfolding buffer_after
  after_on b s = λ i. record { order = left i; least = cond ((ap is_nil left ∙ is_nil_on (on_row f) (keep (λ r. not (is_nil r.msgs)) s.order)) i) none b.least }
    where
      left : keep (λ r. not (is_nil r.msgs)) (map (on_row f) s.order) ≡ map (on_row f) (keep (λ r. not (is_nil r.msgs)) s.order)
      left = keep_on (on_row f) (λ r. not (is_nil r.msgs)) (λ r. not (is_nil r.msgs)) (λ r j. not (is_nil_on f.msg r.msgs j)) s.order

  accepted_on : (A : Args W) (b : Buffer W) (g : Group W) (skipped : List W.Acc) →
      accepted U (on_args f A) (on_buffer f b) (on_group f g) (map f.acc skipped) ≡ on_filled f (accepted W A b g skipped)
  unfolding accepted group_after
  accepted_on A b g skipped = (λ i. answer (ended_on f F A b g skipped i)) ∙ (λ i. record {
    code = 0;
    collected = length_on f.msg s.taken i;
    ops = min (s.ops + length_on (on_row f) s.order i) most;
    dropped = held_on b.order i - held_on s.order i - length_on f.msg s.taken i;
    keys = keys i;
    buffer = after_on b s i;
    group = record { lists = map (on_row f) s.lists; slots = map (on_slot f) s.slots; last = s.last; index = reindexed_on f F g.slots s.slots 0 g.index i };
    skipped = map f.acc s.skipped;
  })
    where
      s : State W
      s = ended W A b g skipped

      -- the answer that a fill's last state gives
      answer : State U → Filled U
      answer t = record {
        code = 0;
        collected = length t.taken;
        ops = min (t.ops + length t.order) most;
        dropped = length (all_msgs U (map (on_row f) b.order)) - length (all_msgs U t.order) - length t.taken;
        keys = map U.key (keep (λ m. not (U.external m)) t.taken);
        buffer = buffer_after U (on_buffer f b) t;
        group = group_after U (on_group f g) t;
        skipped = t.skipped;
      }

      keyed : (l : List W.Msg) → map U.key (map f.msg l) ≡ map f.key (map W.key l)
      keyed [] = refl
      keyed (m ∷ l) = λ i. F.kinds.key m i ∷ keyed l i

      keys : map U.key (keep (λ m. not (U.external m)) (map f.msg s.taken)) ≡ map f.key (map W.key (keep (λ m. not (W.external m)) s.taken))
      keys = ap (map U.key) (keep_on f.msg (λ m. not (U.external m)) (λ m. not (W.external m)) (internal_on f F) s.taken) ∙ keyed (keep (λ m. not (W.external m)) s.taken)

  refused_on : (c : ℕ) (b : Buffer W) (g : Group W) (skipped : List W.Acc) → refused U c (on_buffer f b) (on_group f g) (map f.acc skipped) ≡ on_filled f (refused W c b g skipped)
  unfolding refused
  refused_on c b g skipped = refl

  pub fill_on : (S key_rows : ℕ) (A : Args W) (b : Buffer W) (g : Group W) (skipped : List W.Acc) →
      fill U S key_rows (on_args f A) (on_buffer f b) (on_group f g) (map f.acc skipped) ≡ on_filled f (fill W S key_rows A b g skipped)
  unfolding fill
  fill_on S key_rows A b g skipped = pick (on_filled f) (accepted W A b g skipped) (refused W c b g skipped)
      (λ i. eqb (fill_code_on S key_rows A b g skipped i) 0) (accepted_on A b g skipped)
      ((λ i. refused U (fill_code_on S key_rows A b g skipped i) (on_buffer f b) (on_group f g) (map f.acc skipped)) ∙ refused_on c b g skipped)
    where
      c : ℕ
      c = fill_code W S key_rows A b g skipped

  -- ---- the group
  pub is_filled_on : (asked height : ℕ) (g : Group W) → is_filled U asked height (on_group f g) ≡ is_filled W asked height g
  unfolding is_filled
  is_filled_on asked height g = λ i. leb asked (length_on (on_slot f) g.slots i) && is_nil (joined (take height g.index))

  pub group_ints_on : (g : Group W) → group_ints U (on_group f g) ≡ group_ints W g
  unfolding group_ints
  group_ints_on g = ap (internals U) (all_msgs_on f F g.lists) ∙ internals_on f F (all_msgs W g.lists)

  pub group_exts_on : (g : Group W) → group_exts U (on_group f g) ≡ group_exts W g
  unfolding group_exts
  group_exts_on g = ap (externals U) (all_msgs_on f F g.lists) ∙ externals_on f F (all_msgs W g.lists)

  pub group_accounts_on : (g : Group W) → group_accounts U (on_group f g) ≡ group_accounts W g
  unfolding group_accounts
  group_accounts_on g = length_on (on_row f) g.lists

  pub group_slots_on : (g : Group W) → group_slots U (on_group f g) ≡ group_slots W g
  unfolding group_slots
  group_slots_on g = length_on (on_slot f) g.slots

  pub fresh_on : fresh U ≡ on_group f (fresh W)
  unfolding fresh
  fresh_on = refl

  next_on : (l : Option ℕ) → next_number U l ≡ next_number W l
  unfolding next_number
  next_on none = refl
  next_on (some n) = refl

  renumbered_on : (n : ℕ) (ss : List (Slot W)) → renumbered U n (map (on_slot f) ss) ≡ map (on_slot f) (renumbered W n ss)
  unfolding renumbered
  renumbered_on n [] = refl
  renumbered_on n (s ∷ ss) = λ i. record { number = n; accounts = map f.acc s.accounts; ints = s.ints; exts = s.exts } ∷ renumbered_on (suc n) ss i

  last_of_on : (l : Option ℕ) (ss : List (Slot W)) → last_of U l (map (on_slot f) ss) ≡ last_of W l ss
  unfolding last_of
  last_of_on l [] = refl
  last_of_on l (s ∷ ss) = last_of_on (some s.number) ss

  listed_too_on : (new : List (Slot W)) (c : ℕ) (bs : List (List ℕ)) → listed_too U (map (on_slot f) new) c bs ≡ listed_too W new c bs
  unfolding listed_too
  listed_too_on new c [] = refl
  listed_too_on new c (b ∷ bs) = λ i. (b ++ comers i) ∷ listed_too_on new (suc c) bs i
    where
      comers : numbers U (keep (λ s. eqb (count U s) c) (map (on_slot f) new)) ≡ numbers W (keep (λ s. eqb (count W s) c) new)
      comers = ap (numbers U) (keep_on (on_slot f) (λ s. eqb (count U s) c) (λ s. eqb (count W s) c) (λ s j. eqb (count_on f F s j) c) new) ∙ numbers_on f F (keep (λ s. eqb (count W s) c) new)

  pub join_on : (l r : Group W) → join U (on_group f l) (on_group f r) ≡ on_group f (join W l r)
  unfolding join
  join_on l r = (λ i. record {
    lists = append_on (on_row f) l.lists r.lists i;
    slots = map (on_slot f) l.slots ++ new i;
    last = last_of U l.last (new i);
    index = listed_too U (new i) 0 l.index;
  }) ∙ (λ i. record {
    lists = map (on_row f) (l.lists ++ r.lists);
    slots = append_on (on_slot f) l.slots New i;
    last = last_of_on l.last New i;
    index = listed_too_on New 0 l.index i;
  })
    where
      New : List (Slot W)
      New = renumbered W (next_number W l.last) r.slots

      new : renumbered U (next_number U l.last) (map (on_slot f) r.slots) ≡ map (on_slot f) New
      new = (λ i. renumbered U (next_on l.last i) (map (on_slot f) r.slots)) ∙ renumbered_on (next_number W l.last) r.slots

  pub join_code_on : (S : ℕ) (l r : Group W) → join_code U S (on_group f l) (on_group f r) ≡ join_code W S l r
  unfolding join_code
  join_code_on S l r = λ i.
      first_of (ltb S (length_on (on_slot f) l.slots i + length_on (on_slot f) r.slots i)) 14
      (first_of (some_on (on_row f) (λ x. has U x.acc (map (on_row f) l.lists)) (λ x. has W x.acc l.lists) (λ x. has_on f F x.acc l.lists) r.lists i) 15
      (first_of (leb 65535 (next_on l.last i + length_on (on_slot f) r.slots i)) 12 0))
