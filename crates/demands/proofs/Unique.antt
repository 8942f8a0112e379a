-- Any two answers agree: rows are told by their accounts in order and the messages of each, so that a buffer and a group that read the
-- same are the same; and with them all that a fill answers. Assumes nothing.
use mathlib.Core.Path.{◌≡◌, refl, sym, ap, ◌∙◌, subst}
use mathlib.Core.Bool.{Bool, false, cond}
use mathlib.Core.Logic.{inl, inr}
use mathlib.Core.List.{List, [], ◌∷◌}
use Rattle.rules.specs.World.{World, Row, Args, Buffer, Group}
use Rattle.rules.specs.Queues.{at, is_in, accounts}
use Rattle.rules.specs.Demand.{Once}
use Rattle.rules.specs.Calls.{Store, Target, FillAnswer, with_now, fill_group}
use Rattle.rules.specs.Made.{MadeStore, MadeTarget, emptied, filled}
use Rattle.rules.specs.Kept.{TidyBuffer, TidyGroup}
use Rattle.rules.specs.Answers.{Answers, ReadsRows, ReadsBuffer, ReadsGroup, ReadsFill}
use Rattle.demands.proofs.Rows.{Lawful, which, or_false}
use Rattle.demands.proofs.Reached.{tidy_store, tidy_target}

-- ---- memory of code
pub any_two : {X Y Z : Type 0} (Good : Y → Type 0) (means : Y → Z) (rule : X → Z) → ((y y' : Y) → Good y → Good y' → means y ≡ means y' → y ≡ y') →
    (x : X) (y y' : Y) → Answers Good means rule x y → Answers Good means rule x y' → y ≡ y'
any_two Good means rule told x y y' p q = told y y' p.good q.good (p.agrees ∙ sym q.agrees)

-- ---- what is read off
module _ (W : World) (L : Lawful W) where
  at_none : (a : W.Acc) (o : List (Row W)) → is_in W a (accounts W o) ≡ false → at W a o ≡ []
  unfolding is_in accounts at
  at_none a [] h = refl
  at_none a (r ∷ o) h = rw (or_false (W.same a r.acc) _ h).0 (at_none a o (or_false (W.same a r.acc) _ h).1)

  Code : List W.Acc → Type 0
  Code [] = ⊥
  Code (a ∷ l) = Unit {0}

  head_or : W.Acc → List W.Acc → W.Acc
  head_or a [] = a
  head_or a (b ∷ l) = b

  tail : List W.Acc → List W.Acc
  tail [] = []
  tail (a ∷ l) = l

  pub rows_told : (o r : List (Row W)) → Once W (accounts W r) → ReadsRows W r o → o ≡ r
  unfolding accounts at Code head_or tail
  rows_told [] [] u x = refl
  rows_told [] (s ∷ r) u x = absurd (subst Code (sym x.order) tt)
  rows_told (q ∷ o) [] u x = absurd (subst Code x.order tt)
  rows_told (q ∷ o) (s ∷ r) u x = λ i. record { acc = same i; msgs = msgs i } ∷ rows_told o r u.1 rest i
    where
      same : q.acc ≡ s.acc
      same = ap (head_or q.acc) x.order

      tails : accounts W o ≡ accounts W r
      tails = ap tail x.order

      msgs : q.msgs ≡ s.msgs
      msgs = sym (ap (λ (b : Bool). cond b q.msgs (at W s.acc o)) (ap (W.same s.acc) same ∙ L.self s.acc)) ∙ x.of s.acc
          ∙ ap (λ (b : Bool). cond b s.msgs (at W s.acc r)) (L.self s.acc)

      rest : ReadsRows W r o
      rest = record {
        order = tails;
        of = λ a. elim (which (W.same a s.acc)) [
          | inl e ↦ at_none a o (rw tails (rw (L.decide a s.acc e) u.0)) ∙ sym (at_none a r (rw (L.decide a s.acc e) u.0))
          | inr e ↦ sym (ap (λ (b : Bool). cond b q.msgs (at W a o)) (ap (W.same a) same ∙ e)) ∙ x.of a ∙ ap (λ (b : Bool). cond b s.msgs (at W a r)) e
        ];
      }

  pub buffer_told : (r b : Buffer W) → TidyBuffer W r → ReadsBuffer W r b → b ≡ r
  buffer_told r b t x = λ i. record { order = rows_told b.order r.order t.once x.queues i; least = x.least i }

  pub group_told : (r g : Group W) → TidyGroup W r → ReadsGroup W r g → g ≡ r
  group_told r g t x = λ i. record { lists = rows_told g.lists r.lists t.tidy.rows x.lists i; slots = x.slots i; last = x.last i; index = x.index i }

  -- ---- a fill on what calls made has one answer
  module _ (A : Args W) (keys : List W.Key) (s : Store W) (t : Target W) (skipped : List W.Acc) (ms : MadeStore W s) (mt : MadeTarget W t) where
    pub fill_told : (p : FillAnswer W) → ReadsFill W A keys s t skipped p → p ≡ fill_group W A keys s t skipped
    unfolding fill_group with_now
    fill_told p x = λ i. record {
      code = x.code i;
      collected = x.collected i;
      ops = x.ops i;
      dropped = x.dropped i;
      keys = x.keys_after i;
      store = record { M = x.room_m i; A = x.room_a i; now = now i; kept = x.kept i };
      target = record { S = x.room_s i; now = group i };
      skipped = x.set i;
    }
      where
        now : p.store.now ≡ (fill_group W A keys s t skipped).store.now
        now = buffer_told _ p.store.now (tidy_store W L (emptied A keys skipped refl ms mt)).now x.buffer

        group : p.target.now ≡ (fill_group W A keys s t skipped).target.now
        group = group_told _ p.target.now (tidy_target W L (filled A keys skipped refl ms mt)) x.group

    pub any_two_fills : (p q : FillAnswer W) → ReadsFill W A keys s t skipped p → ReadsFill W A keys s t skipped q → p ≡ q
    any_two_fills p q x y = fill_told p x ∙ sym (fill_told q y)
