-- The skipped set lists no account twice and at most 512: each account that joins it in a fill has a row of its own that says skip.
-- Assumes nothing.
use mathlib.Core.Path.{◌≡◌, refl, sym, ap, ◌∙◌, subst}
use mathlib.Core.Bool.{true, false, not, ◌&&◌, ◌||◌}
use mathlib.Core.Logic.{inl, inr}
use mathlib.Core.List.{List, [], ◌∷◌, ◌++◌, append-nil, append_assoc}
use Prim.Native.Nat.{ℕ, suc, ◌+◌, ◌≤◌}
use native.Mathlib.Omega.{arith}
use lib.Dec.{ltb}
use lib.ListN.{length, length-append}
use Rattle.rules.specs.World.{World, Skip, Args, Buffer, Group, Each, keep}
use Rattle.rules.specs.Queues.{is_in}
use Rattle.rules.specs.Passes.{State, verdict_in, checked, pass_over, move, opened, closed, entered, ended}
use Rattle.rules.specs.Fill.{fill_code, accepted, refused, fill}
use Rattle.rules.specs.Demand.{Once}
use Rattle.rules.specs.Calls.{fill_group}
use Rattle.rules.specs.Made.{MadeSet, empty_set, widened, FitsSet}
use Rattle.demands.proofs.Rows.{Lawful, which, clash, or_false, and_true, not_true}
use Rattle.demands.proofs.Steps.{Steps, R_ended}
use Rattle.demands.proofs.Accounts.{each_append, turn, once_right, once_both}
use Rattle.demands.proofs.Taken.{not_above}
use Rattle.demands.proofs.Demand.{first_code}
use Rattle.demands.proofs.Reached.{fill_either}

module _ (W : World) (L : Lawful W) (A : Args W) where
  -- ---- accounts with rows that say skip are not more than those rows
  Says : List (Skip W) → W.Acc → Type 0
  Says rs a = verdict_in W A a rs ≡ true

  others : W.Acc → List W.Acc → List W.Acc
  others x l = keep (λ a. not (W.same a x)) l

  in_others : (x b : W.Acc) (l : List W.Acc) → is_in W b l ≡ false → is_in W b (others x l) ≡ false
  unfolding others keep is_in
  in_others x b [] h = refl
  in_others x b (a ∷ l) h = elim (which (W.same a x)) [
    | inl e ↦ rw e (in_others x b l (or_false (W.same b a) _ h).1)
    | inr e ↦ rw e (rw (or_false (W.same b a) _ h).0 (in_others x b l (or_false (W.same b a) _ h).1))
  ]

  once_others : (x : W.Acc) (l : List W.Acc) → Once W l → Once W (others x l)
  unfolding others keep
  once_others x [] o = tt
  once_others x (a ∷ l) o = elim (which (W.same a x)) [ inl e ↦ rw e (once_others x l o.1) | inr e ↦ rw e (in_others x a l o.0, once_others x l o.1) ]

  all_others : (x : W.Acc) (l : List W.Acc) → is_in W x l ≡ false → length (others x l) ≡ length l
  unfolding others keep is_in
  all_others x [] h = refl
  all_others x (a ∷ l) h = rw (turn W L x a (or_false (W.same x a) _ h).0) (ap suc (all_others x l (or_false (W.same x a) _ h).1))

  one_less : (x : W.Acc) (l : List W.Acc) → Once W l → length l ≤ suc (length (others x l))
  unfolding others keep
  one_less x [] o = omega arith
  one_less x (a ∷ l) o = elim (which (W.same a x)) [
    | inl e ↦ rw e (omega (arith, all_others x l (rw (← (L.decide a x e)) o.0)))
    | inr e ↦ rw e (omega (arith, one_less x l o.1))
  ]

  -- the accounts other than that of a row have their verdict in the rows after it
  later : (r : Skip W) (rs : List (Skip W)) (l : List W.Acc) → Each (Says (r ∷ rs)) l → Each (Says rs) (others r.acc l)
  unfolding Says verdict_in others keep
  later r rs [] e = tt
  later r rs (a ∷ l) e = elim (which (W.same a r.acc)) [ inl d ↦ rw d (later r rs l e.1) | inr d ↦ rw d (rw d at e.0, later r rs l e.1) ]

  -- a row that does not say skip is the row of none of them
  none_here : (r : Skip W) (rs : List (Skip W)) (l : List W.Acc) → r.skip ≡ false → Each (Says (r ∷ rs)) l → is_in W r.acc l ≡ false
  unfolding Says verdict_in is_in
  none_here r rs [] f e = refl
  none_here r rs (a ∷ l) f e = elim (which (W.same a r.acc)) [
    | inl d ↦ clash _ (rw d at e.0) f
    | inr d ↦ rw (turn W L a r.acc d) (none_here r rs l f e.1)
  ]

  few : (rs : List (Skip W)) (l : List W.Acc) → Once W l → Each (Says rs) l → length l ≤ length (keep (λ r. r.skip) rs)
  unfolding Says verdict_in keep
  few [] [] o e = omega arith
  few [] (a ∷ l) o e = clash false e.0 refl
  few (r ∷ rs) l o e = elim (which r.skip) [
    | inl d ↦ rw d (omega (arith, one_less r.acc l o, few rs (others r.acc l) (once_others r.acc l o) (later r rs l e)))
    | inr d ↦ rw d (omega (arith, all_others r.acc l (none_here r rs l d e), few rs (others r.acc l) (once_others r.acc l o) (later r rs l e)))
  ]

  -- ---- what joins the set in a fill
  record Joins (s t : State W) : Type 0 where
    pub new : List W.Acc
    pub set : t.skipped ≡ s.skipped ++ new
    pub says : Each (Says A.rows) new
    pub once : Once W s.skipped → Once W t.skipped

  joins_stay : (s t : State W) → t.skipped ≡ s.skipped → Joins s t
  joins_stay s t e = record { new = []; set = e ∙ sym (append-nil s.skipped); says = tt; once = subst (Once W) (sym e) }

  joins_check : (a : W.Acc) (s : State W) → Joins s (checked W A a s)
  unfolding checked Says is_in
  joins_check a s = elim (which (not (is_in W a s.skipped) && verdict_in W A a A.rows)) [
    | inr e ↦ joins_stay s (checked W A a s) (rw e)
    | inl e ↦ let q = and_true (not (is_in W a s.skipped)) (verdict_in W A a A.rows) e in record {
      new = a ∷ [];
      set = rw e;
      says = (q.1, tt);
      once = λ o. rw e (once_both W L s.skipped (a ∷ []) o (refl, tt) (λ b i. last' b i (not_true _ q.0)));
    }
  ]
    where
      last' : (b : W.Acc) → is_in W b s.skipped ≡ true → is_in W a s.skipped ≡ false → (W.same b a || false) ≡ false
      last' b i h = elim (which (W.same b a)) [ inl d ↦ clash _ i (rw (L.decide b a d) h) | inr d ↦ rw d ]

  joins_steps : (N : ℕ) → Steps W A N Joins
  unfolding pass_over move opened closed
  joins_steps N = record {
    core = record {
      stay = λ s. joins_stay s s refl;
      and_then = λ s t u p q. record {
        new = p.new ++ q.new;
        set = q.set ∙ ap (λ (l : List W.Acc). l ++ q.new) p.set ∙ append_assoc s.skipped p.new q.new;
        says = each_append (Says A.rows) p.new q.new p.says q.says;
        once = λ o. q.once (p.once o);
      };
      check = joins_check;
      pass = λ a s. joins_stay s (pass_over W A a s) refl;
      mv = λ n a s. joins_stay s (move W A n a s) refl;
    };
    opn = λ n s h. joins_stay s (opened W A n s) refl;
    cls = λ n s h z. joins_stay s (closed W A n s) refl;
  }

  pub set_fill : (S key_rows : ℕ) (b : Buffer W) (g : Group W) (skipped : List W.Acc) → FitsSet W skipped → FitsSet W (fill W S key_rows A b g skipped).skipped
  unfolding refused accepted entered fill_code
  set_fill S key_rows b g skipped f = fill_either W L (λ r. FitsSet W r.skipped) S key_rows A b g skipped (λ ok. record {
    once = j.once f.once;
    small = omega (
      arith,
      ap length j.set,
      length-append skipped j.new,
      few A.rows j.new (once_right W L skipped j.new (subst (Once W) j.set (j.once f.once))) j.says,
      not_above 512 (length skipped + length (keep (λ r. r.skip) A.rows)) (or_false (ltb 256 (length A.rows)) _ (c11 ok)).1,
    );
  }) (λ c. f)
    where
      j : Joins (entered W A b g skipped) (ended W A b g skipped)
      j = R_ended W L A 0 Joins (joins_steps 0) b g skipped (omega arith)

      c11 : fill_code W S key_rows A b g skipped ≡ 0 → (ltb 256 (length A.rows) || ltb 512 (length skipped + length (keep (λ r. r.skip) A.rows))) ≡ false
      c11 ok = (first_code _ 11 _ (λ e. omega arith) (first_code _ 10 _ (λ e. omega arith) (first_code _ 9 _ (λ e. omega arith) ok).1).1).0

module _ (W : World) (L : Lawful W) where
  pub fits_set : {k : List W.Acc} → MadeSet W k → FitsSet W k
  unfolding fill_group
  fits_set (empty_set e) = subst (FitsSet W) (sym e) (record { once = tt; small = omega arith })
  fits_set (widened {k = k} A keys s t e d) = subst (FitsSet W) (sym e) (set_fill W L A t.S (length keys) s.now t.now k (fits_set d))
