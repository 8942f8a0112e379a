-- No account stands twice in the account order: after an add, a removal, a fill. Assumes nothing.
use mathlib.Core.Path.{◌≡◌, refl, sym, ap, ◌∙◌, subst}
use mathlib.Core.Bool.{Bool, false}
use mathlib.Core.Logic.{inl, inr}
use mathlib.Core.List.{List, [], ◌∷◌}
use native.Mathlib.Omega.{arith}
use Rattle.rules.specs.World.{World, Row, Args, Buffer, Group, keep}
use Rattle.rules.specs.Queues.{is_in, accounts, give, add, remove}
use Rattle.rules.specs.Passes.{entered, ended}
use Rattle.rules.specs.Fill.{accepted, buffer_after}
use Rattle.rules.specs.Demand.{Once}
use Rattle.demands.proofs.Rows.{Lawful, which, clash, or_false}
use Rattle.demands.proofs.Steps.{R_ended}
use Rattle.demands.proofs.Parted.{order_steps, Order}

module _ (W : World) (L : Lawful W) where
  in_give : (a b : W.Acc) (ms : List W.Msg) (o : List (Row W)) → W.same b a ≡ false → is_in W b (accounts W o) ≡ false → is_in W b (accounts W (give W a ms o)) ≡ false
  unfolding is_in accounts give
  in_give a b [] o d h = h
  in_give a b (m ∷ ms) [] d h = rw d
  in_give a b (m ∷ ms) (r ∷ o) d h = elim (which (W.same a r.acc)) [
    | inl e ↦ rw e h
    | inr e ↦ rw e (rw (or_false (W.same b r.acc) _ h).0 (in_give a b (m ∷ ms) o d (or_false (W.same b r.acc) _ h).1))
  ]

  pub once_give : (a : W.Acc) (ms : List W.Msg) (o : List (Row W)) → Once W (accounts W o) → Once W (accounts W (give W a ms o))
  unfolding accounts give is_in
  once_give a [] o h = h
  once_give a (m ∷ ms) [] h = (refl, tt)
  once_give a (m ∷ ms) (r ∷ o) h = elim (which (W.same a r.acc)) [
    | inl e ↦ rw e h
    | inr e ↦ rw e (in_give a r.acc (m ∷ ms) o (turn e) h.0, once_give a (m ∷ ms) o h.1)
  ]
    where
      turn : W.same a r.acc ≡ false → W.same r.acc a ≡ false
      turn e = elim (which (W.same r.acc a)) [ inl d ↦ clash _ (ap (W.same a) (L.decide r.acc a d) ∙ L.self a) e | inr d ↦ d ]

  in_keep : (p : Row W → Bool) (b : W.Acc) (o : List (Row W)) → is_in W b (accounts W o) ≡ false → is_in W b (accounts W (keep p o)) ≡ false
  unfolding is_in accounts keep
  in_keep p b [] h = refl
  in_keep p b (r ∷ o) h = elim (which (p r)) [
    | inl e ↦ rw e (rw (or_false (W.same b r.acc) _ h).0 (in_keep p b o (or_false (W.same b r.acc) _ h).1))
    | inr e ↦ rw e (in_keep p b o (or_false (W.same b r.acc) _ h).1)
  ]

  pub once_rows : (p : Row W → Bool) (o : List (Row W)) → Once W (accounts W o) → Once W (accounts W (keep p o))
  unfolding accounts keep
  once_rows p [] h = tt
  once_rows p (r ∷ o) h = elim (which (p r)) [ inl e ↦ rw e (in_keep p r.acc o h.0, once_rows p o h.1) | inr e ↦ rw e (once_rows p o h.1) ]

  pub once_add : (a : W.Acc) (m : W.Msg) (b : Buffer W) → Once W (accounts W b.order) → Once W (accounts W (add W a m b).order)
  unfolding add
  once_add a m b h = once_give a (m ∷ []) b.order h

  pub once_remove : (names : List W.Acc) (b : Buffer W) → Once W (accounts W b.order) → Once W (accounts W (remove W names b).order)
  unfolding remove
  once_remove names b h = once_rows _ b.order h

  pub once_fill : (A : Args W) (b : Buffer W) (g : Group W) (skipped : List W.Acc) → Once W (accounts W b.order) → Once W (accounts W (accepted W A b g skipped).buffer.order)
  unfolding accepted buffer_after entered
  once_fill A b g skipped h = once_rows _ (ended W A b g skipped).order (subst (Once W) (sym (R_ended W L A 0 (Order W L A) (order_steps W L A 0) b g skipped (omega arith))) h)
