-- What a fill takes comes from the buffer: of messages that pass a test, those taken and those left are together not more than were held.
-- So the keys of a fill fit the lent list. Assumes nothing.
use mathlib.Core.Path.{◌≡◌, refl, ap}
use mathlib.Core.Bool.{Bool, true, false, not}
use mathlib.Core.Logic.{inl, inr}
use mathlib.Core.List.{List, [], ◌∷◌, map}
use Prim.Native.Nat.{ℕ, zero, suc, ◌+◌, ◌≤◌}
use native.Mathlib.Omega.{arith}
use lib.Dec.{ltb, nltb→le, T}
use lib.ListN.{length, drop, length-append, length-drop}
use Rattle.rules.specs.World.{World, Row, Args, Buffer, Group, keep, joined}
use Rattle.rules.specs.Queues.{at, edit, internals, all_msgs, held_ints, undroppable, droppable}
use Rattle.rules.specs.Passes.{State, collect, moved, room, checked, pass_over, move, opened, closed, entered, ended}
use Rattle.rules.specs.Fill.{fill_code, accepted, refused, fill}
use Rattle.rules.specs.Calls.{Store, Target, written, fill_group}
use Rattle.demands.proofs.Rows.{Lawful, which, clash}
use Rattle.demands.proofs.Steps.{Steps, R_ended}
use Rattle.demands.proofs.Accounts.{num, num_nil, num_append}
use Rattle.demands.proofs.Demand.{first_code}
use Rattle.demands.proofs.Reached.{fill_either}

pub not_above : (m n : ℕ) → ltb m n ≡ false → n ≤ m
not_above m n e = nltb→le m n (to_not (ltb m n) e)
  where
    to_not : (t : Bool) → t ≡ false → T (not t)
    to_not true e = clash true refl e
    to_not false e = tt

num_keep : {X : Type 0} (p t : X → Bool) (l : List X) → num p (keep t l) ≤ num p l
unfolding keep
num_keep p t [] = omega arith
num_keep p t (x ∷ l) = elim (which (t x)) [
  | inl e ↦ rw e (elim (which (p x)) [ inl d ↦ rw d (omega (arith, num_keep p t l)) | inr d ↦ rw d (num_keep p t l) ])
  | inr e ↦ rw e (elim (which (p x)) [ inl d ↦ rw d (omega (arith, num_keep p t l)) | inr d ↦ rw d (num_keep p t l) ])
]

module _ (W : World) (p : W.Msg → Bool) where
  all_cons : (r : Row W) (o : List (Row W)) → num p (all_msgs W (r ∷ o)) ≡ num p r.msgs + num p (all_msgs W o)
  unfolding all_msgs joined
  all_cons r o = num_append p r.msgs (joined (map (λ r. r.msgs) o))

  nothing_held : num p (all_msgs W []) ≡ 0
  unfolding all_msgs joined
  nothing_held = num_nil p

  pub all_keep : (t : Row W → Bool) (o : List (Row W)) → num p (all_msgs W (keep t o)) ≤ num p (all_msgs W o)
  unfolding keep
  all_keep t [] = omega arith
  all_keep t (r ∷ o) = elim (which (t r)) [
    | inl e ↦ rw e (omega (arith, all_keep t o, all_cons r (keep t o), all_cons r o))
    | inr e ↦ rw e (omega (arith, all_keep t o, all_cons r o))
  ]

  all_edit : (a : W.Acc) (f : List W.Msg → List W.Msg) → ((q : List W.Msg) → num p (f q) ≤ num p q) → (o : List (Row W)) → num p (all_msgs W (edit W a f o)) ≤ num p (all_msgs W o)
  unfolding edit
  all_edit a f h [] = omega arith
  all_edit a f h (r ∷ o) = elim (which (W.same a r.acc)) [
    | inl e ↦ rw e (omega (arith, all_edit a f h o, all_cons (record { acc = r.acc; msgs = f r.msgs }) (edit W a f o), all_cons r o, h r.msgs))
    | inr e ↦ rw e (omega (arith, all_edit a f h o, all_cons r (edit W a f o), all_cons r o))
  ]

  all_taken : (a : W.Acc) (f g : List W.Msg → List W.Msg) → ((q : List W.Msg) → num p (g q) + num p (f q) ≤ num p q) → (o : List (Row W)) →
      num p (g (at W a o)) + num p (all_msgs W (edit W a f o)) ≤ num p (all_msgs W o)
  unfolding edit at
  all_taken a f g h [] = omega (arith, h [], num_nil p, nothing_held)
  all_taken a f g h (r ∷ o) = elim (which (W.same a r.acc)) [
    | inl e ↦ rw e (omega (arith, all_edit a f (λ q. omega (arith, h q)) o, all_cons (record { acc = r.acc; msgs = f r.msgs }) (edit W a f o), all_cons r o, h r.msgs))
    | inr e ↦ rw e (omega (arith, all_taken a f g h o, all_cons r (edit W a f o), all_cons r o))
  ]

  module _ (A : Args W) where
    num_collect : (n : ℕ) (q : List W.Msg) → num p (collect W A n q).got + num p (collect W A n q).left ≤ num p q
    unfolding collect keep
    num_collect n [] = omega arith
    num_collect zero (m ∷ q) = omega arith
    num_collect (suc n) (m ∷ q) = elim (which (droppable W A.filter m)) [
      | inl e ↦ rw e (elim (which (p m)) [ inl d ↦ rw d (omega (arith, num_collect (suc n) q)) | inr d ↦ rw d (num_collect (suc n) q) ])
      | inr e ↦ rw e (elim (which (p m)) [ inl d ↦ rw d (omega (arith, num_collect n q)) | inr d ↦ rw d (num_collect n q) ])
    ]

    Less : State W → State W → Type 0
    Less s t = num p t.taken + num p (all_msgs W t.order) ≤ num p s.taken + num p (all_msgs W s.order)

    less_steps : (N : ℕ) → Steps W A N Less
    unfolding Less checked pass_over move moved opened closed undroppable
    less_steps N = record {
      core = record {
        stay = λ s. omega arith;
        and_then = λ s t u x y. omega arith;
        check = λ a s. omega arith;
        pass = λ a s. omega (arith, all_edit a (λ q. keep (λ m. not (droppable W A.filter m)) q) (λ q. num_keep p (λ m. not (droppable W A.filter m)) q) s.order);
        mv = λ n a s. omega (
          arith,
          all_taken a (λ q. (moved W A (room W A n s) q).left) (λ q. (moved W A (room W A n s) q).got) (λ q. num_collect _ q) s.order,
          num_append p s.taken (moved W A (room W A n s) (at W a s.order)).got,
        );
      };
      opn = λ n s h. omega arith;
      cls = λ n s h z. omega arith;
    }

    pub taken_fill : Lawful W → (b : Buffer W) (g : Group W) (skipped : List W.Acc) →
        num p (ended W A b g skipped).taken + num p (all_msgs W (ended W A b g skipped).order) ≤ num p (all_msgs W b.order)
    unfolding Less entered
    taken_fill L b g skipped = omega (arith, R_ended W L A 0 Less (less_steps 0) b g skipped (omega arith), num_nil p)

-- ---- the key list
module _ (W : World) (L : Lawful W) where
  length_map : {X Y : Type 0} (f : X → Y) (l : List X) → length (map f l) ≡ length l
  length_map f [] = refl
  length_map f (x ∷ l) = ap suc (length_map f l)

  keys_few : (S key_rows : ℕ) (A : Args W) (b : Buffer W) (g : Group W) (skipped : List W.Acc) → fill_code W S key_rows A b g skipped ≡ 0 → length (accepted W A b g skipped).keys ≤ key_rows
  unfolding accepted fill_code held_ints internals
  keys_few S key_rows A b g skipped ok = omega (
    arith,
    length_map W.key (keep (λ m. not (W.external m)) (ended W A b g skipped).taken),
    taken_fill W (λ m. not (W.external m)) A L b g skipped,
    not_above key_rows (held_ints W b) (first_code _ 10 _ (λ e. omega arith) (first_code _ 9 _ (λ e. omega arith) ok).1).0,
  )

  pub key_rows_lem : (S key_rows : ℕ) (A : Args W) (b : Buffer W) (g : Group W) (skipped : List W.Acc) → length (fill W S key_rows A b g skipped).keys ≤ key_rows
  unfolding refused
  key_rows_lem S key_rows A b g skipped = fill_either W L (λ f. length f.keys ≤ key_rows) S key_rows A b g skipped (λ ok. keys_few S key_rows A b g skipped ok) (λ c. omega arith)

  -- the lent key list keeps its length
  pub keys_length : (A : Args W) (keys : List W.Key) (s : Store W) (t : Target W) (skipped : List W.Acc) → length (fill_group W A keys s t skipped).keys ≡ length keys
  unfolding fill_group written
  keys_length A keys s t skipped =
      let new = (fill W t.S (length keys) A s.now t.now skipped).keys in
      omega (arith, length-append new (drop (length new) keys), length-drop (length new) keys, key_rows_lem t.S (length keys) A s.now t.now skipped)
