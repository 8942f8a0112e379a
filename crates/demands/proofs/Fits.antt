-- What calls make fits its room: M messages, A accounts, S slots, and slot numbers to 65,535. Assumes nothing.
use mathlib.Core.Path.{◌≡◌, refl, sym, ap, ◌∙◌, subst}
use mathlib.Core.Bool.{Bool, true, false, cond, not, ◌&&◌}
use mathlib.Core.Logic.{inl, inr}
use mathlib.Core.List.{List, [], ◌∷◌}
use mathlib.Core.Option.{Option, none, some}
use Prim.Native.Nat.{ℕ, suc, ◌+◌, ◌≤◌, ◌<◌}
use native.Mathlib.Omega.{arith}
use lib.Dec.{leb, leb→le, nleb→lt, T}
use lib.ListN.{length}
use Rattle.rules.specs.World.{World, Row, Args, Buffer, Group, keep, joined, first_of}
use Rattle.rules.specs.Queues.{has, give, accounts, all_msgs, add, remove}
use Rattle.rules.specs.Passes.{entered, ended}
use Rattle.rules.specs.Fill.{accepted, refused, buffer_after}
use Rattle.rules.specs.Calls.{Store, Offer, within, back, no_messages, set_up_buffer, with_now, add_message, add_code, remove_accounts, begin, commit, rollback, fill_group}
use Rattle.rules.specs.Made.{MadeStore, set_up, added, removed, begun, committed, rolled_back, emptied, FitsBuffer, FitsStore}
use Rattle.demands.proofs.Rows.{Lawful, which, clash, and_true, keep_both}
use Rattle.demands.proofs.Slots.{of_true}
use Rattle.demands.proofs.Steps.{R_ended}
use Rattle.demands.proofs.Parted.{Order, order_steps}
use Rattle.demands.proofs.Accounts.{num_give}
use Rattle.demands.proofs.Taken.{all_keep, taken_fill}
use Rattle.demands.proofs.Demand.{first_code}
use Rattle.demands.proofs.Reached.{either, fill_either, no_some, same_some}

pub below : (m n : ℕ) → leb m n ≡ false → n < m
below m n e = nleb→lt m n (to_not (leb m n) e)
  where
    to_not : (t : Bool) → t ≡ false → T (not t)
    to_not true e = clash true refl e
    to_not false e = tt

pub in_range : (low high n : ℕ) → within low high n ≡ true → (low ≤ n) × (n ≤ high)
unfolding within
in_range low high n e = let q = and_true (leb low n) (leb n high) e in (leb→le low n (of_true _ q.0), leb→le n high (of_true _ q.1))

pub length_keep : {X : Type 0} (t : X → Bool) (l : List X) → length (keep t l) ≤ length l
unfolding keep
length_keep t [] = omega arith
length_keep t (x ∷ l) = elim (which (t x)) [ inl e ↦ rw e (omega (arith, length_keep t l)) | inr e ↦ rw e (omega (arith, length_keep t l)) ]

module _ (W : World) (L : Lawful W) where
  -- ---- the buffer's calls
  held_add : (a : W.Acc) (m : W.Msg) (o : List (Row W)) → length (all_msgs W (give W a (m ∷ []) o)) ≡ length (all_msgs W o) + 1
  held_add a m o = omega (
    arith,
    num_give W L (λ m. not (W.external m)) a (m ∷ []) o,
    num_give W L W.external a (m ∷ []) o,
    keep_both W.external (all_msgs W (give W a (m ∷ []) o)),
    keep_both W.external (all_msgs W o),
    keep_both W.external (m ∷ []),
  )

  rows_add : (a : W.Acc) (m : W.Msg) (o : List (Row W)) → length (give W a (m ∷ []) o) ≡ length o + cond (has W a o) 0 1
  unfolding give has
  rows_add a m [] = omega arith
  rows_add a m (r ∷ o) = elim (which (W.same a r.acc)) [ inl e ↦ rw e (omega arith) | inr e ↦ rw e (omega (arith, rows_add a m o)) ]

  fits_add : (o : Offer W) (s : Store W) → add_code W o s ≡ 0 → FitsBuffer W s.M s.A s.now → FitsBuffer W s.M s.A (add W o.acc o.msg s.now)
  unfolding add add_code
  fits_add o s ok f = record {
    messages = omega (arith, held_add o.acc o.msg s.now.order, below s.M (length (all_msgs W s.now.order)) c4.0);
    accounts = elim (which (has W o.acc s.now.order)) [
      | inl e ↦ omega (arith, rows_add o.acc o.msg s.now.order ∙ ap (λ (b : Bool). length s.now.order + cond b 0 1) e, f.accounts)
      | inr e ↦ omega (
        arith,
        rows_add o.acc o.msg s.now.order ∙ ap (λ (b : Bool). length s.now.order + cond b 0 1) e,
        below s.A (length s.now.order) (sym (ap (λ (b : Bool). not b && leb s.A (length s.now.order)) e) ∙ (first_code _ 5 0 (λ e. omega arith) c4.1).0),
      )
    ];
  }
    where
      c4 : (leb s.M (length (all_msgs W s.now.order)) ≡ false) × (first_of (not (has W o.acc s.now.order) && leb s.A (length s.now.order)) 5 0 ≡ 0)
      c4 = first_code _ 4 _ (λ e. omega arith) (first_code _ 3 _ (λ e. omega arith) (first_code _ 2 _ (λ e. omega arith) ok).1).1

  -- rows kept by a test are not more, nor their messages
  fits_keep : (M A : ℕ) (t : Row W → Bool) (o : List (Row W)) → length (all_msgs W o) ≤ M → length o ≤ A → (length (all_msgs W (keep t o)) ≤ M) × (length (keep t o) ≤ A)
  fits_keep M A t o h k = (
    omega (arith, all_keep W (λ m. not (W.external m)) t o, all_keep W W.external t o, keep_both W.external (all_msgs W o), keep_both W.external (all_msgs W (keep t o))),
    omega (arith, length_keep t o),
  )

  fits_remove : (M A : ℕ) (names : List W.Acc) (b : Buffer W) → FitsBuffer W M A b → FitsBuffer W M A (remove W names b)
  unfolding remove
  fits_remove M A names b f = let q = fits_keep M A _ b.order f.messages f.accounts in record { messages = q.0; accounts = q.1 }

  length_accounts : (o : List (Row W)) → length (accounts W o) ≡ length o
  unfolding accounts
  length_accounts [] = refl
  length_accounts (r ∷ o) = ap suc (length_accounts o)

  -- after an accepted fill the buffer holds no more messages and no more accounts
  pub fewer_fill : (A : Args W) (b : Buffer W) (g : Group W) (skipped : List W.Acc) →
      (length (all_msgs W (accepted W A b g skipped).buffer.order) ≤ length (all_msgs W b.order)) × (length (accepted W A b g skipped).buffer.order ≤ length b.order)
  unfolding accepted buffer_after entered
  fewer_fill A b g skipped = fits_keep (length (all_msgs W b.order)) (length b.order) _ (ended W A b g skipped).order
      (omega (
        arith,
        taken_fill W (λ m. not (W.external m)) A L b g skipped,
        taken_fill W W.external A L b g skipped,
        keep_both W.external (all_msgs W (ended W A b g skipped).order),
        keep_both W.external (all_msgs W b.order),
      ))
      (omega (arith, ap length (R_ended W L A 0 (Order W L A) (order_steps W L A 0) b g skipped (omega arith)), length_accounts (ended W A b g skipped).order, length_accounts b.order))

  fits_fill : (M K : ℕ) (A : Args W) (b : Buffer W) (g : Group W) (skipped : List W.Acc) → FitsBuffer W M K b → FitsBuffer W M K (accepted W A b g skipped).buffer
  fits_fill M K A b g skipped f =
      let q = fewer_fill A b g skipped in
      record { messages = omega (arith, q.0, f.messages); accounts = omega (arith, q.1, f.accounts) }

  fits_none : (M A : ℕ) → FitsBuffer W M A (no_messages W)
  unfolding no_messages all_msgs joined
  fits_none M A = record { messages = omega arith; accounts = omega arith }

  fits_back : (M A : ℕ) (k : Option (Buffer W)) (now : Buffer W) → ((b : Buffer W) → k ≡ some b → FitsBuffer W M A b) → FitsBuffer W M A now → FitsBuffer W M A (back k now)
  unfolding back
  fits_back M A none now f t = t
  fits_back M A (some b) now f t = f b refl

  fits_new : (M A : ℕ) → (1 ≤ M) × (M ≤ 1024) → (1 ≤ A) × (A ≤ 256) → FitsStore W (record { M = M; A = A; now = no_messages W; kept = none })
  fits_new M A m a = record { M·range = m; A·range = a; now = fits_none M A; kept = λ b e. no_some W L e }

  fits_with : (s : Store W) (b : Buffer W) → FitsStore W s → FitsBuffer W s.M s.A b → FitsStore W (with_now W s b)
  unfolding with_now
  fits_with s b f h = record { M·range = f.M·range; A·range = f.A·range; now = h; kept = f.kept }

  set_up_lem : (M A : ℕ) → first_of (within 1 1024 M && within 1 256 A) 0 1 ≡ 0 → ((1 ≤ M) × (M ≤ 1024)) × ((1 ≤ A) × (A ≤ 256))
  unfolding first_of
  set_up_lem M A ok = elim (which (within 1 1024 M && within 1 256 A)) [
    | inl e ↦ let q = and_true (within 1 1024 M) (within 1 256 A) e in (in_range 1 1024 M q.0, in_range 1 256 A q.1)
    | inr e ↦ absurd (omega (arith, rw e at ok))
  ]

  -- no mutual recursion: a fill fits its buffer whatever the group
  pub fits_store : {s : Store W} → MadeStore W s → FitsStore W s
  unfolding set_up_buffer add_message remove_accounts begin commit rollback fill_group refused
  fits_store (set_up M A e) = subst (FitsStore W) (sym e) (either (FitsStore W) _ _ _ (λ ok. fits_new M A (set_up_lem M A ok).0 (set_up_lem M A ok).1) (fits_new 1 1 (omega arith, omega arith) (omega arith, omega arith)))
  fits_store (added {s = s} o e d) = subst (FitsStore W) (sym e) (either (FitsStore W) _ _ s (λ ok. fits_with s _ (fits_store d) (fits_add o s ok (fits_store d).now)) (fits_store d))
  fits_store (removed {s = s} names e d) = subst (FitsStore W) (sym e) (either (FitsStore W) _ _ s (λ ok. fits_with s _ (fits_store d) (fits_remove s.M s.A names s.now (fits_store d).now)) (fits_store d))
  fits_store (begun {s = s} e d) = subst (FitsStore W) (sym e) (either (FitsStore W) _ _ s
      (λ ok. record { M·range = (fits_store d).M·range; A·range = (fits_store d).A·range; now = (fits_store d).now; kept = λ b q. subst (FitsBuffer W s.M s.A) (same_some W L q) (fits_store d).now }) (fits_store d))
  fits_store (committed {s = s} e d) = subst (FitsStore W) (sym e) (either (FitsStore W) _ _ s
      (λ ok. record { M·range = (fits_store d).M·range; A·range = (fits_store d).A·range; now = (fits_store d).now; kept = λ b q. no_some W L q }) (fits_store d))
  fits_store (rolled_back {s = s} e d) = subst (FitsStore W) (sym e) (either (FitsStore W) _ _ s
      (λ ok. record { M·range = (fits_store d).M·range; A·range = (fits_store d).A·range; now = fits_back s.M s.A s.kept s.now (fits_store d).kept (fits_store d).now; kept = λ b q. no_some W L q }) (fits_store d))
  fits_store (emptied {s = s} {t = t} A keys skipped e d c) = subst (FitsStore W) (sym e) (fits_with s _ (fits_store d)
      (fill_either W L (λ f. FitsBuffer W s.M s.A f.buffer) t.S (length keys) A s.now t.now skipped (λ ok. fits_fill s.M s.A A s.now t.now skipped (fits_store d).now) (λ x. (fits_store d).now)))
