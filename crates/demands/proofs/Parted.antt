-- Demand 3, its first two sentences: each queue is parted into what was given and what remains, and no slot grows past the height.
-- Assumes nothing.
use mathlib.Core.Path.{◌≡◌, refl, sym, ap, ◌∙◌, subst}
use mathlib.Core.Bool.{Bool, true, false, not, ◌&&◌}
use mathlib.Core.Logic.{inl, inr}
use mathlib.Core.List.{List, [], ◌∷◌, ◌++◌, append-nil, append_assoc}
use Prim.Native.Nat.{ℕ, min}
use native.Mathlib.Omega.{arith}
use lib.Dec.{eqb}
use lib.ListN.{length}
use Rattle.rules.specs.World.{World, Row, Args, Buffer, Group, keep, is_nil}
use Rattle.rules.specs.Queues.{has, at, edit, is_in, accounts, undroppable}
use Rattle.rules.specs.Passes.{State, checked, pass_over, collect, moved, room, move, opened, closed, entered, ended}
use Rattle.rules.specs.Fill.{buffer_after, group_after, accepted}
use Rattle.rules.specs.Demand.{Parted, NotPast, Once}
use Rattle.demands.proofs.Rows.{Lawful, which, clash, at_edit_same, at_edit_other, at_give_same, at_give_other, keep_twice, collect_splits, collect_most, moved_none}
use Rattle.demands.proofs.Slots.{eq_of, count_of_grow_most, count_of_grow_other, count_of_open, count_of_drop_other, count_of_none, has_slot_drop_same}
use Rattle.demands.proofs.Steps.{Steps, R_ended}

module _ (W : World) (L : Lawful W) (A : Args W) where
  -- ---- parted
  module _ (a : W.Acc) where
    abbrev pub Part : State W → State W → Type 0
    Part s t = Parted W A.filter a s.order s.lists t.order t.lists

    part_stay : (s : State W) → Part s s
    part_stay s = record { given = []; list = sym (append-nil (at W a s.lists)); queue = refl }

    part_then : (s t u : State W) → Part s t → Part t u → Part s u
    part_then s t u p q = record {
      given = p.given ++ q.given;
      list = q.list ∙ ap (λ l. l ++ q.given) p.list ∙ append_assoc (at W a s.lists) p.given q.given;
      queue = p.queue ∙ ap (λ l. p.given ++ l) q.queue ∙ sym (append_assoc p.given q.given _);
    }

    pub part_pass : (b : W.Acc) (s : State W) → Part s (pass_over W A b s)
    unfolding pass_over undroppable keep
    part_pass b s = record {
      given = [];
      list = sym (append-nil (at W a s.lists));
      queue = elim (which (W.same a b)) [
        | inl e ↦ rw (← (L.decide a b e)) (rw (at_edit_same W L a (undroppable W A.filter) refl s.order) (sym (keep_twice _ (at W a s.order))))
        | inr e ↦ rw (at_edit_other W L b a (undroppable W A.filter) e s.order)
      ];
    }

    pub part_move : (n : ℕ) (b : W.Acc) (s : State W) → Part s (move W A n b s)
    unfolding move moved
    part_move n b s = elim (which (W.same a b)) [ inl e ↦ rw (← (L.decide a b e)) mine | inr e ↦ other e ]
      where
        k : List W.Msg → ℕ
        k q = min (length q) (room W A n s)

        mine : Part s (move W A n a s)
        mine = record {
          given = (collect W A (k (at W a s.order)) (at W a s.order)).got;
          list = at_give_same W L a _ s.lists;
          queue = rw (at_edit_same W L a (λ q. (moved W A (room W A n s) q).left) (moved_none W A (room W A n s)) s.order) (collect_splits W A (k (at W a s.order)) (at W a s.order));
        }

        other : W.same a b ≡ false → Part s (move W A n b s)
        other e = record {
          given = [];
          list = at_give_other W L b a _ e s.lists ∙ sym (append-nil (at W a s.lists));
          queue = rw (at_edit_other W L b a (λ q. (moved W A (room W A n s) q).left) e s.order);
        }

    part_steps : (N : ℕ) → Steps W A N Part
    unfolding checked opened closed
    part_steps N = record {
      core = record {
        stay = part_stay;
        and_then = part_then;
        check = λ b s. part_stay s;
        pass = part_pass;
        mv = λ n b s. part_move n b s;
      };
      opn = λ n s h. part_stay s;
      cls = λ n s h z. part_stay s;
    }

  -- ---- no slot grows past the height
  abbrev Past : State W → State W → Type 0
  Past s t = NotPast W A.height s.slots t.slots

  past_move : (n : ℕ) (a : W.Acc) (s : State W) → Past s (move W A n a s)
  unfolding move moved room
  past_move n a s m = elim (which (eqb m n)) [
    | inl e ↦ rw (eq_of m n e) (omega (arith, count_of_grow_most W n a new got s.slots, collect_most W A (min (length q) (room W A n s)) q))
    | inr e ↦ rw (count_of_grow_other W n a new got m e s.slots) (omega arith)
  ]
    where
      q : List W.Msg
      q = at W a s.order

      got : List W.Msg
      got = (moved W A (room W A n s) q).got

      new : Bool
      new = not (has W a s.lists) && not (is_nil got)

  past_steps : (N : ℕ) → Steps W A N Past
  unfolding checked pass_over opened closed
  past_steps N = record {
    core = record {
      stay = λ s m. omega arith;
      and_then = λ s t u p q m. omega (arith, p m, q m);
      check = λ b s m. omega arith;
      pass = λ b s m. omega arith;
      mv = λ n b s. past_move n b s;
    };
    opn = λ n s h m. rw (count_of_open W n m s.slots) (omega arith);
    cls = λ n s h z m. elim (which (eqb m n)) [
      | inl e ↦ rw (eq_of m n e) (omega (arith, count_of_none W n _ (has_slot_drop_same W n s.slots)))
      | inr e ↦ rw (count_of_drop_other W n m e s.slots) (omega arith)
    ];
  }

  -- ---- the account order keeps its accounts; at the end the empty ones leave
  pub accounts_edit : (a : W.Acc) (f : List W.Msg → List W.Msg) (o : List (Row W)) → accounts W (edit W a f o) ≡ accounts W o
  unfolding accounts edit
  accounts_edit a f [] = refl
  accounts_edit a f (r ∷ o) = ap {B = List _} (λ l. r.acc ∷ l) (accounts_edit a f o)

  abbrev pub Order : State W → State W → Type 0
  Order s t = accounts W t.order ≡ accounts W s.order

  pub order_steps : (N : ℕ) → Steps W A N Order
  unfolding checked pass_over move opened closed
  order_steps N = record {
    core = record {
      stay = λ s. refl;
      and_then = λ s t u p q. q ∙ p;
      check = λ b s. refl;
      pass = λ b s. accounts_edit b _ s.order;
      mv = λ n b s. accounts_edit b _ s.order;
    };
    opn = λ n s h. refl;
    cls = λ n s h z. refl;
  }

  pub at_none : (a : W.Acc) (o : List (Row W)) → is_in W a (accounts W o) ≡ false → at W a o ≡ []
  unfolding is_in accounts at
  at_none a [] h = refl
  at_none a (r ∷ o) h = elim (which (W.same a r.acc)) [ inl e ↦ clash true refl (rw e at h) | inr e ↦ rw e (at_none a o (rw e at h)) ]

  nil_of : {X : Type 0} (l : List X) → is_nil l ≡ true → l ≡ []
  unfolding is_nil
  nil_of [] h = refl
  nil_of (x ∷ l) h = clash false h refl

  pub at_left : (a : W.Acc) (o : List (Row W)) → Once W (accounts W o) → at W a (keep (λ (r : Row W). not (is_nil r.msgs)) o) ≡ at W a o
  unfolding at keep accounts
  at_left a [] h = refl
  at_left a (r ∷ o) h = elim (which (is_nil r.msgs)) [
    | inl e ↦ rw e (at_left a o h.1 ∙ elim (which (W.same a r.acc)) [
      | inl d ↦ rw d (at_none a o (rw (L.decide a r.acc d) h.0) ∙ sym (nil_of r.msgs e))
      | inr d ↦ rw d
    ])
    | inr e ↦ rw e (elim (which (W.same a r.acc)) [ inl d ↦ rw d | inr d ↦ rw d (at_left a o h.1) ])
  ]

  -- ---- demand 3, first and second sentence
  module _ (b : Buffer W) (g : Group W) (skipped : List W.Acc) (once : Once W (accounts W b.order)) where
    pub after_at : (a : W.Acc) → at W a (accepted W A b g skipped).buffer.order ≡ at W a (ended W A b g skipped).order
    unfolding accepted buffer_after entered
    after_at a = at_left a _ (subst (Once W) (sym (R_ended W L A 0 Order (order_steps 0) b g skipped (omega arith))) once)

    pub parted : (a : W.Acc) → Parted W A.filter a b.order g.lists (accepted W A b g skipped).buffer.order (accepted W A b g skipped).group.lists
    unfolding accepted group_after entered
    parted a =
        let p : Part a (entered W A b g skipped) (ended W A b g skipped) = R_ended W L A 0 (Part a) (part_steps a 0) b g skipped (omega arith) in
        record { given = p.given; list = p.list; queue = rw (after_at a) p.queue }

  pub not_past_lem : (b : Buffer W) (g : Group W) (skipped : List W.Acc) → NotPast W A.height g.slots (accepted W A b g skipped).group.slots
  unfolding accepted group_after entered
  not_past_lem b g skipped = R_ended W L A 0 Past (past_steps 0) b g skipped (omega arith)
