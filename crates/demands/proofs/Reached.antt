-- What every call keeps, over any sequence of calls, accepted or refused; and demand 3 of any accepted fill of height 1 or more on what
-- calls have made. Assumes nothing.
use mathlib.Core.Path.{◌≡◌, refl, sym, ap, ◌∙◌, subst}
use mathlib.Core.Bool.{true, false}
use mathlib.Core.Logic.{inl, inr}
use mathlib.Core.List.{List, [], ◌∷◌}
use mathlib.Core.Option.{Option, none, some}
use Prim.Native.Nat.{ℕ, ◌≤◌}
use native.Mathlib.Omega.{arith}
use lib.Dec.{eqb}
use lib.ListN.{length}
use Rattle.rules.specs.World.{World, Row, Args, Buffer, Group, some_of}
use Rattle.rules.specs.Queues.{has}
use Rattle.rules.specs.Fill.{Filled, fill_code, fill, accepted, refused, join_code}
use Rattle.rules.specs.Demand.{Demand3}
use Rattle.rules.specs.Kept.{TidyGroup, TidyBuffer}
use Rattle.rules.specs.Calls.{Store, Target, answer, back, no_messages, set_up_buffer, set_up_group, with_now, add_message, remove_accounts, begin, commit, rollback, written, fill_group, join_groups}
use Rattle.rules.specs.Made.{MadeStore, MadeTarget, set_up, added, removed, begun, committed, rolled_back, emptied, set_up_target, filled, joined_left, joined_right}
use Rattle.demands.proofs.Rows.{Lawful, which, clash, or_false}
use Rattle.demands.proofs.Slots.{eq_of}
use Rattle.demands.proofs.Demand.{demand_3, low_height, first_code}
use Rattle.demands.proofs.Sound.{sound_fill}
use Rattle.demands.proofs.TidyFill.{tidy_fill}
use Rattle.demands.proofs.TidyIndex.{index_fill, filled_fill}
use Rattle.demands.proofs.TidyJoin.{tidy_fresh, tidy_join}
use Rattle.demands.proofs.TidyBuffer.{buffer_none, buffer_add, buffer_remove, buffer_fill}

-- a store is tidy now, and was at begin
pub record TidyStore (W : World) (s : Store W) : Type 0 where
  pub now : TidyBuffer W s.now
  pub kept : (b : Buffer W) → s.kept ≡ some b → TidyBuffer W b

-- what holds if a call is accepted and if it is refused holds of its answer
pub either : {X : Type 0} (P : X → Type 0) (c : ℕ) (done same : X) → (c ≡ 0 → P done) → P same → P (answer c done same).after
unfolding answer
either P c done same f p = elim (which (eqb c 0)) [ inl e ↦ rw e (f (eq_of c 0 e)) | inr e ↦ rw e p ]

module _ (W : World) (L : Lawful W) where
  -- ---- a fill, accepted or refused
  pub fill_either : (P : Filled W → Type 0) (S key_rows : ℕ) (A : Args W) (b : Buffer W) (g : Group W) (skipped : List W.Acc) →
      (fill_code W S key_rows A b g skipped ≡ 0 → P (accepted W A b g skipped)) → ((c : ℕ) → P (refused W c b g skipped)) → P (fill W S key_rows A b g skipped)
  unfolding fill
  fill_either P S key_rows A b g skipped f p = elim (which (eqb (fill_code W S key_rows A b g skipped) 0)) [
    | inl e ↦ rw e (f (eq_of _ 0 e))
    | inr e ↦ rw e (p (fill_code W S key_rows A b g skipped))
  ]

  pub tidy_group_fill : (S key_rows : ℕ) (A : Args W) (b : Buffer W) (g : Group W) (skipped : List W.Acc) → TidyGroup W g → fill_code W S key_rows A b g skipped ≡ 0 →
      TidyGroup W (accepted W A b g skipped).group
  tidy_group_fill S key_rows A b g skipped tg ok =
      let low = low_height W S key_rows A b g skipped ok in
      record {
        sound = sound_fill W L A b g skipped tg.sound low;
        tidy = tidy_fill W L A b g skipped tg.sound tg.tidy;
        index = index_fill W L A b g skipped tg.sound low tg.index;
        filled = filled_fill W L A b g skipped tg.sound low tg.filled;
      }

  group_fill : (S key_rows : ℕ) (A : Args W) (b : Buffer W) (g : Group W) (skipped : List W.Acc) → TidyGroup W g → TidyGroup W (fill W S key_rows A b g skipped).group
  unfolding refused
  group_fill S key_rows A b g skipped tg = fill_either (λ f. TidyGroup W f.group) S key_rows A b g skipped (tidy_group_fill S key_rows A b g skipped tg) (λ c. tg)

  store_fill : (S key_rows : ℕ) (A : Args W) (b : Buffer W) (g : Group W) (skipped : List W.Acc) → TidyBuffer W b → TidyBuffer W (fill W S key_rows A b g skipped).buffer
  unfolding refused
  store_fill S key_rows A b g skipped tb = fill_either (λ f. TidyBuffer W f.buffer) S key_rows A b g skipped (λ ok. buffer_fill W L A b g skipped tb) (λ c. tb)

  -- ---- a join
  none_of : (l : Group W) (o : List (Row W)) → some_of (λ x. has W x.acc l.lists) o ≡ false → (a : W.Acc) → has W a l.lists ≡ true → has W a o ≡ false
  unfolding some_of has
  none_of l [] h a i = refl
  none_of l (r ∷ o) h a i = elim (which (W.same a r.acc)) [
    | inl e ↦ clash _ i (ap (λ (x : W.Acc). has W x l.lists) (L.decide a r.acc e) ∙ (or_false (has W r.acc l.lists) _ h).0)
    | inr e ↦ rw e (none_of l o (or_false (has W r.acc l.lists) _ h).1 a i)
  ]

  apart : (S : ℕ) (l r : Group W) → join_code W S l r ≡ 0 → (a : W.Acc) → has W a l.lists ≡ true → has W a r.lists ≡ false
  unfolding join_code
  apart S l r ok = none_of l r.lists (first_code _ 15 _ (λ e. omega arith) (first_code _ 14 _ (λ e. omega arith) ok).1).0

  join_both : (l r : Target W) → TidyGroup W l.now → TidyGroup W r.now → TidyGroup W (join_groups W l r).left.now × TidyGroup W (join_groups W l r).right.now
  unfolding join_groups
  join_both l r tl tr = elim (which (eqb (join_code W l.S l.now r.now) 0)) [
    | inl e ↦ rw e (tidy_join W L l.now r.now tl tr (apart l.S l.now r.now (eq_of _ 0 e)), tidy_fresh W)
    | inr e ↦ rw e (tl, tr)
  ]

  -- ---- the buffer's calls
  pub no_some : {b : Buffer W} {X : Type 0} → none ≡ some b → X
  no_some q = absurd (subst Code q tt)
    where
      Code : Option (Buffer W) → Type 0
      Code none = Unit {0}
      Code (some x) = ⊥

  pub same_some : {x y : Buffer W} → some x ≡ some y → x ≡ y
  same_some {x} q = ap got q
    where
      got : Option (Buffer W) → Buffer W
      got none = x
      got (some z) = z

  fresh_store : (M A : ℕ) → TidyStore W (record { M = M; A = A; now = no_messages W; kept = none })
  fresh_store M A = record { now = buffer_none W L; kept = λ b e. no_some e }

  given_back : (k : Option (Buffer W)) (now : Buffer W) → ((b : Buffer W) → k ≡ some b → TidyBuffer W b) → TidyBuffer W now → TidyBuffer W (back k now)
  unfolding back
  given_back none now f t = t
  given_back (some b) now f t = f b refl

  changed : (s : Store W) (b : Buffer W) → TidyStore W s → TidyBuffer W b → TidyStore W (with_now W s b)
  unfolding with_now
  changed s b t tb = record { now = tb; kept = t.kept }

  -- ---- any calls; no mutual recursion: a fill keeps its buffer whatever the group, and its group whatever the buffer
  pub tidy_store : {s : Store W} → MadeStore W s → TidyStore W s
  unfolding set_up_buffer add_message remove_accounts begin commit rollback fill_group
  tidy_store (set_up M A e) = subst (TidyStore W) (sym e) (either (TidyStore W) _ _ _ (λ ok. fresh_store M A) (fresh_store 1 1))
  tidy_store (added {s = s} o e d) = subst (TidyStore W) (sym e) (either (TidyStore W) _ _ s (λ ok. changed s _ (tidy_store d) (buffer_add W L o.acc o.msg s.now (tidy_store d).now)) (tidy_store d))
  tidy_store (removed {s = s} names e d) = subst (TidyStore W) (sym e) (either (TidyStore W) _ _ s (λ ok. changed s _ (tidy_store d) (buffer_remove W L names s.now (tidy_store d).now)) (tidy_store d))
  tidy_store (begun {s = s} e d) = subst (TidyStore W) (sym e) (either (TidyStore W) _ _ s
      (λ ok. record { now = (tidy_store d).now; kept = λ b q. subst (TidyBuffer W) (same_some q) (tidy_store d).now }) (tidy_store d))
  tidy_store (committed {s = s} e d) = subst (TidyStore W) (sym e) (either (TidyStore W) _ _ s (λ ok. record { now = (tidy_store d).now; kept = λ b q. no_some q }) (tidy_store d))
  tidy_store (rolled_back {s = s} e d) = subst (TidyStore W) (sym e) (either (TidyStore W) _ _ s
      (λ ok. record { now = given_back s.kept s.now (tidy_store d).kept (tidy_store d).now; kept = λ b q. no_some q }) (tidy_store d))
  tidy_store (emptied {s = s} {t = t} A keys skipped e d c) = subst (TidyStore W) (sym e) (changed s _ (tidy_store d) (store_fill t.S (length keys) A s.now t.now skipped (tidy_store d).now))

  pub tidy_target : {t : Target W} → MadeTarget W t → TidyGroup W t.now
  unfolding set_up_group fill_group
  tidy_target (set_up_target S e) = subst (λ t. TidyGroup W t.now) (sym e) (either (λ (t : Target W). TidyGroup W t.now) _ _ _ (λ ok. tidy_fresh W) (tidy_fresh W))
  tidy_target (filled {s = s} {t = t} A keys skipped e d c) = subst (λ t. TidyGroup W t.now) (sym e) (group_fill t.S (length keys) A s.now t.now skipped (tidy_target c))
  tidy_target (joined_left {l = l} {r = r} e d c) = subst (λ t. TidyGroup W t.now) (sym e) (join_both l r (tidy_target d) (tidy_target c)).0
  tidy_target (joined_right {l = l} {r = r} e d c) = subst (λ t. TidyGroup W t.now) (sym e) (join_both l r (tidy_target d) (tidy_target c)).1

  -- ---- demand 3
  code_is : (S key_rows : ℕ) (A : Args W) (b : Buffer W) (g : Group W) (skipped : List W.Acc) → (fill W S key_rows A b g skipped).code ≡ fill_code W S key_rows A b g skipped
  unfolding fill accepted refused
  code_is S key_rows A b g skipped = elim (which (eqb (fill_code W S key_rows A b g skipped) 0)) [ inl e ↦ rw e (sym (eq_of _ 0 e)) | inr e ↦ rw e ]

  -- "A refusal returns its code, with zero counts .., and all state and lent memory stay"
  pub refusal_stays : (A : Args W) (keys : List W.Key) (s : Store W) (t : Target W) (skipped : List W.Acc) → ((fill_group W A keys s t skipped).code ≡ 0 → ⊥) →
      fill_group W A keys s t skipped ≡ record { code = fill_code W t.S (length keys) A s.now t.now skipped; collected = 0; ops = 0; dropped = 0; keys = keys; store = s; target = t; skipped = skipped }
  unfolding fill_group fill accepted refused with_now written
  refusal_stays A keys s t skipped no' = elim (which (eqb (fill_code W t.S (length keys) A s.now t.now skipped) 0)) [
    | inl e ↦ absurd (no' (code_is t.S (length keys) A s.now t.now skipped ∙ eq_of _ 0 e))
    | inr e ↦ rw e
  ]

  -- demand 3, with nobody left over
  pub demand3 : (A : Args W) (keys : List W.Key) (skipped : List W.Acc) {s : Store W} {t : Target W} → MadeStore W s → MadeTarget W t → (fill_group W A keys s t skipped).code ≡ 0 →
      1 ≤ A.height → Demand3 W A s.now t.now skipped (fill W t.S (length keys) A s.now t.now skipped) []
  unfolding fill_group
  demand3 A keys skipped {s} {t} d c ok h =
      demand_3 W t.S (length keys) A s.now t.now skipped (sym (code_is t.S (length keys) A s.now t.now skipped) ∙ ok) L (tidy_store d).now.once (tidy_target c).sound (tidy_target c).tidy h
