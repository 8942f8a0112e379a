-- The buffer stays tidy: no account twice in the order, none without a message, the minimum not above any external's time. Assumes nothing.
use mathlib.Core.Path.{◌≡◌, refl, ap, subst}
use mathlib.Core.Bool.{false, cond, not}
use mathlib.Core.Logic.{inl, inr}
use mathlib.Core.List.{List, [], ◌∷◌}
use mathlib.Core.Option.{Option, none, some}
use Prim.Native.Nat.{ℕ, zero, suc, min}
use native.Mathlib.Omega.{arith}
use Rattle.rules.specs.World.{World, Row, Args, Buffer, Group, Each, keep, is_nil, lowered}
use Rattle.rules.specs.Queues.{accounts, edit, give, add, remove, undroppable, droppable}
use Rattle.rules.specs.Passes.{collect, moved, room, checked, pass_over, move, opened, closed, entered, ended}
use Rattle.rules.specs.Fill.{accepted, buffer_after}
use Rattle.rules.specs.Calls.{no_messages}
use Rattle.rules.specs.Kept.{NotAbove, TidyBuffer}
use Rattle.demands.proofs.Rows.{Lawful, which}
use Rattle.demands.proofs.Steps.{Steps, R_ended}
use Rattle.demands.proofs.OrderOnce.{once_add, once_remove, once_fill}
use Rattle.demands.proofs.Accounts.{each_append, each_keep, each_map}
use Rattle.demands.proofs.Tidy.{each_give}

-- ---- what holds of each message of a queue
module _ (W : World) (P : W.Msg → Type 0) where
  abbrev pub Queue : Row W → Type 0
  Queue r = Each P r.msgs

  each_add : (a : W.Acc) (ms : List W.Msg) (o : List (Row W)) → Each P ms → Each Queue o → Each Queue (give W a ms o)
  unfolding give
  each_add a [] o p e = e
  each_add a (m ∷ ms) [] p e = (p, tt)
  each_add a (m ∷ ms) (r ∷ o) p e = elim (which (W.same a r.acc)) [
    | inl d ↦ rw d (each_append P r.msgs (m ∷ ms) e.0 p, e.1)
    | inr d ↦ rw d (e.0, each_add a (m ∷ ms) o p e.1)
  ]

  each_edit : (a : W.Acc) (f : List W.Msg → List W.Msg) → ((q : List W.Msg) → Each P q → Each P (f q)) → (o : List (Row W)) → Each Queue o → Each Queue (edit W a f o)
  unfolding edit
  each_edit a f g [] e = tt
  each_edit a f g (r ∷ o) e = (elim (which (W.same a r.acc)) [ inl d ↦ rw d (g r.msgs e.0) | inr d ↦ rw d e.0 ], each_edit a f g o e.1)

  module _ (A : Args W) where
    each_left : (n : ℕ) (q : List W.Msg) → Each P q → Each P (collect W A n q).left
    unfolding collect
    each_left n [] e = tt
    each_left zero (m ∷ q) e = e
    each_left (suc n) (m ∷ q) e = elim (which (droppable W A.filter m)) [ inl d ↦ rw d (each_left (suc n) q e.1) | inr d ↦ rw d (each_left n q e.1) ]

    queue_steps : (N : ℕ) → Steps W A N (λ s t. Each Queue s.order → Each Queue t.order)
    unfolding checked pass_over move moved opened closed undroppable
    queue_steps N = record {
      core = record {
        stay = λ s e. e;
        and_then = λ s t u p q e. q (p e);
        check = λ a s e. e;
        pass = λ a s e. each_edit a (λ q. keep (λ m. not (droppable W A.filter m)) q) (λ q p. each_keep P (λ m. not (droppable W A.filter m)) q p) s.order e;
        mv = λ n a s e. each_edit a (λ q. (moved W A (room W A n s) q).left) (λ q p. each_left _ q p) s.order e;
      };
      opn = λ n s h e. e;
      cls = λ n s h z e. e;
    }

    pub queues_fill : Lawful W → (b : Buffer W) (g : Group W) (skipped : List W.Acc) → Each Queue b.order → Each Queue (ended W A b g skipped).order
    unfolding entered
    queues_fill L b g skipped e = R_ended W L A 0 (λ s t. Each Queue s.order → Each Queue t.order) (queue_steps 0) b g skipped (omega arith) e

-- ---- the calls
module _ (W : World) (L : Lawful W) where
  pub buffer_none : TidyBuffer W (no_messages W)
  unfolding no_messages accounts
  buffer_none = record { once = tt; nonempty = tt; least = tt }

  lowers : (l : Option ℕ) (t : ℕ) (m : W.Msg) → NotAbove W l m → NotAbove W (lowered l t) m
  unfolding lowered
  lowers none t m f e = absurd (no (f e).1)
    where
      Code : Option ℕ → Type 0
      Code none = Unit {0}
      Code (some x) = ⊥

      no : {x : ℕ} → none ≡ some x → ⊥
      no q = subst Code q tt
  lowers (some u) t m f e = (min u t, refl, omega (arith, (f e).2, same (f e).1))
    where
      got : Option ℕ → ℕ
      got none = 0
      got (some x) = x

      same : {x : ℕ} → some u ≡ some x → u ≡ x
      same q = ap got q

  reaches : (l : Option ℕ) (m : W.Msg) → NotAbove W (lowered l (W.time m)) m
  unfolding lowered
  reaches none m e = (W.time m, refl, omega arith)
  reaches (some u) m e = (min u (W.time m), refl, omega arith)

  pub buffer_add : (a : W.Acc) (m : W.Msg) (b : Buffer W) → TidyBuffer W b → TidyBuffer W (add W a m b)
  unfolding add
  buffer_add a m b t = record {
    once = once_add W L a m b t.once;
    nonempty = each_give W L a (m ∷ []) b.order t.nonempty;
    least = each_add W (NotAbove W l) a (m ∷ []) b.order (new, tt) (each_map (Queue W (NotAbove W b.least)) (Queue W (NotAbove W l)) (λ r. each_map (NotAbove W b.least) (NotAbove W l) older r.msgs) b.order t.least);
  }
    where
      l : Option ℕ
      l = cond (W.external m) (lowered b.least (W.time m)) b.least

      new : NotAbove W l m
      new e = rw e (reaches b.least m e)

      older : (x : W.Msg) → NotAbove W b.least x → NotAbove W l x
      older x f = elim (which (W.external m)) [ inl e ↦ rw e (lowers b.least (W.time m) x f) | inr e ↦ rw e f ]

  pub buffer_remove : (names : List W.Acc) (b : Buffer W) → TidyBuffer W b → TidyBuffer W (remove W names b)
  unfolding remove
  buffer_remove names b t = record {
    once = once_remove W L names b t.once;
    nonempty = each_keep _ _ b.order t.nonempty;
    least = each_keep _ _ b.order t.least;
  }

  kept_some : (o : List (Row W)) → Each (λ (r : Row W). is_nil r.msgs ≡ false) (keep (λ r. not (is_nil r.msgs)) o)
  unfolding keep
  kept_some [] = tt
  kept_some (r ∷ o) = elim (which (is_nil r.msgs)) [ inl e ↦ rw e (kept_some o) | inr e ↦ rw e (e, kept_some o) ]

  pub buffer_fill : (A : Args W) (b : Buffer W) (g : Group W) (skipped : List W.Acc) → TidyBuffer W b → TidyBuffer W (accepted W A b g skipped).buffer
  unfolding accepted buffer_after is_nil
  buffer_fill A b g skipped t = record {
    once = once_fill W L A b g skipped t.once;
    nonempty = kept_some (ended W A b g skipped).order;
    least = by left (each_keep (Queue W (NotAbove W b.least)) _ (ended W A b g skipped).order (queues_fill W (NotAbove W b.least) A L b g skipped t.least));
  }
    where
      left : List (Row W)
      left = keep (λ r. not (is_nil r.msgs)) (ended W A b g skipped).order

      by : (o : List (Row W)) → Each (Queue W (NotAbove W b.least)) o → Each (Queue W (NotAbove W (cond (is_nil o) none b.least))) o
      by [] e = tt
      by (r ∷ o) e = e
