-- Transactions leave no trace. Adds, removals and fills inside one leave what stood at begin alone, so that a rollback gives back the very
-- store that was begun with; and they do what they would have done without it, so that a commit leaves the store that they would have made.
-- Assumes nothing.
use mathlib.Core.Path.{◌≡◌, refl, sym, ap, ◌∙◌, subst}
use mathlib.Core.Logic.{inl, inr}
use mathlib.Core.List.{List}
use mathlib.Core.Option.{none, some}
use lib.Dec.{eqb}
use Rattle.rules.specs.World.{World, Buffer, Args, first_of}
use Rattle.rules.specs.Queues.{remove_code}
use Rattle.rules.specs.Calls.{Store, Target, Offer, FillAnswer, answer, is_open, back, with_now, add_code, add_message, remove_accounts, begin, commit, rollback, fill_group}
use Rattle.rules.specs.Made.{Inside, nothing, adds, removes, fills}
use Rattle.demands.proofs.Rows.{which}
use Rattle.demands.proofs.Reached.{either}

module _ (W : World) where
  -- the room and what is kept stay
  abbrev pub Around : Store W → Store W → Type 0
  Around s x = (x.M ≡ s.M) × (x.A ≡ s.A) × (x.kept ≡ s.kept)

  pub around : {s x : Store W} → Inside W s x → Around s x
  unfolding add_message remove_accounts fill_group with_now
  around (nothing e) = (ap (λ y. y.M) e, ap (λ y. y.A) e, ap (λ y. y.kept) e)
  around {s = s} (adds {x = x} o e d) = subst (Around s) (sym e) (either (Around s) _ _ x (λ ok. around d) (around d))
  around {s = s} (removes {x = x} names e d) = subst (Around s) (sym e) (either (Around s) _ _ x (λ ok. around d) (around d))
  around {s = s} (fills {x = x} A keys t skipped e d) = subst (Around s) (sym e) (around d)

  -- a store with nothing kept begins
  begins : (s : Store W) → s.kept ≡ none → (begin W s).after ≡ record { M = s.M; A = s.A; now = s.now; kept = some s.now }
  unfolding begin answer is_open first_of
  begins s e = rw e

  pub begin_ok : (s : Store W) → s.kept ≡ none → (begin W s).code ≡ 0
  unfolding begin answer is_open first_of
  begin_ok s e = rw e

  back_of : (x : Store W) (b : Buffer W) → x.kept ≡ some b → ((rollback W x).code ≡ 0) × ((rollback W x).after ≡ record { M = x.M; A = x.A; now = b; kept = none })
  unfolding rollback answer is_open first_of back
  back_of x b e = (rw e, rw e)

  pub rolled_back_lem : (s x : Store W) → s.kept ≡ none → Inside W (begin W s).after x → ((rollback W x).code ≡ 0) × ((rollback W x).after ≡ s)
  rolled_back_lem s x e d = (there.0, there.1 ∙ (λ i. record { M = (a.0 ∙ ap (λ y. y.M) (begins s e)) i; A = (a.1 ∙ ap (λ y. y.A) (begins s e)) i; now = s.now; kept = sym e i }))
    where
      a : Around (begin W s).after x
      a = around d

      there : ((rollback W x).code ≡ 0) × ((rollback W x).after ≡ record { M = x.M; A = x.A; now = s.now; kept = none })
      there = back_of x s.now (a.2 ∙ ap (λ y. y.kept) (begins s e))

  -- ---- with a transaction and without
  -- a store but for what is kept
  unfoldable pub bare : Store W → Store W
  bare s = record { M = s.M; A = s.A; now = s.now; kept = none }

  -- what a call answers, and what it leaves, is told by the bare store
  pub bare_add : (o : Offer W) (s : Store W) → ((add_message W o s).code ≡ (add_message W o (bare s)).code) × (bare (add_message W o s).after ≡ (add_message W o (bare s)).after)
  unfolding add_message add_code answer with_now bare
  bare_add o s = (refl, elim (which (eqb (add_code W o s) 0)) [ inl e ↦ rw e | inr e ↦ rw e ])

  pub bare_remove : (names : List W.Acc) (s : Store W) → ((remove_accounts W names s).code ≡ (remove_accounts W names (bare s)).code) × (bare (remove_accounts W names s).after ≡ (remove_accounts W names (bare s)).after)
  unfolding remove_accounts answer with_now bare
  bare_remove names s = (refl, elim (which (eqb (remove_code W names s.now) 0)) [ inl e ↦ rw e | inr e ↦ rw e ])

  -- the whole answer of a fill, but for the store's kept state
  unfoldable pub barely : FillAnswer W → FillAnswer W
  barely p = record {
    code = p.code;
    collected = p.collected;
    ops = p.ops;
    dropped = p.dropped;
    keys = p.keys;
    store = bare p.store;
    target = p.target;
    skipped = p.skipped;
  }

  pub bare_fill : (A : Args W) (keys : List W.Key) (s : Store W) (t : Target W) (skipped : List W.Acc) → barely (fill_group W A keys s t skipped) ≡ fill_group W A keys (bare s) t skipped
  unfolding fill_group with_now bare barely
  bare_fill A keys s t skipped = refl

  -- the same calls on a store that differs only in what is kept
  replay : {s x : Store W} (s' : Store W) → bare s ≡ bare s' → Inside W s x → (y : Store W) × Inside W s' y × (bare x ≡ bare y)
  unfolding barely
  replay s' e (nothing q) = (s', nothing refl, ap bare q ∙ e)
  replay s' e (adds o q d) = let r = replay s' e d in
      ((add_message W o r.0).after, adds o refl r.1, ap bare q ∙ (bare_add o _).1 ∙ ap (λ z. (add_message W o z).after) r.2 ∙ sym (bare_add o r.0).1)
  replay s' e (removes names q d) = let r = replay s' e d in
      ((remove_accounts W names r.0).after, removes names refl r.1, ap bare q ∙ (bare_remove names _).1 ∙ ap (λ z. (remove_accounts W names z).after) r.2 ∙ sym (bare_remove names r.0).1)
  replay s' e (fills A keys t skipped q d) = let r = replay s' e d in (
    (fill_group W A keys r.0 t skipped).store,
    fills A keys t skipped refl r.1,
    ap bare q ∙ ap (λ z. z.store) (bare_fill A keys _ t skipped) ∙ ap (λ z. (fill_group W A keys z t skipped).store) r.2 ∙ sym (ap (λ z. z.store) (bare_fill A keys r.0 t skipped)),
  )

  commits : (x : Store W) (b : Buffer W) → x.kept ≡ some b → ((commit W x).code ≡ 0) × ((commit W x).after ≡ bare x)
  unfolding commit answer is_open first_of bare
  commits x b e = (rw e, rw e)

  bare_begin : (s : Store W) → s.kept ≡ none → bare (begin W s).after ≡ bare s
  unfolding bare
  bare_begin s e = ap bare (begins s e)

  bare_none : (y : Store W) → y.kept ≡ none → bare y ≡ y
  unfolding bare
  bare_none y e = λ i. record { M = y.M; A = y.A; now = y.now; kept = sym e i }

  -- after a commit stands the store that the same calls make without the transaction
  pub committed_same : (s x : Store W) → s.kept ≡ none → Inside W (begin W s).after x → (y : Store W) × Inside W s y × ((commit W x).code ≡ 0) × ((commit W x).after ≡ y)
  committed_same s x e d =
      let r = replay s (bare_begin s e) d in
      let c = commits x s.now ((around d).2 ∙ ap (λ y. y.kept) (begins s e)) in
      (r.0, r.1, c.0, c.1 ∙ r.2 ∙ bare_none r.0 ((around r.1).2 ∙ e))
