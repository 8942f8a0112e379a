-- Renaming commutes with the calls as a caller meets them: set-up, add, remove, begin, commit, rollback, fill, join, with their codes and
-- refusals. Assumes nothing.
use mathlib.Core.Path.{◌≡◌, refl, ap, ◌∙◌}
use mathlib.Core.Bool.{not, ◌&&◌}
use mathlib.Core.List.{List, [], ◌∷◌, ◌++◌, map}
use mathlib.Core.Option.{Option, none, some}
use Prim.Native.Nat.{ℕ, zero, suc}
use lib.Dec.{eqb, ltb, leb}
use lib.ListN.{length, drop}
use Rattle.rules.specs.World.{World, Args, Buffer, first_of}
use Rattle.rules.specs.Queues.{add, remove}
use Rattle.rules.specs.Fill.{Filled, fill, fresh, join, join_code}
use Rattle.rules.specs.Calls.{Store, Target, Offer, FillAnswer, answer, is_open, back, no_messages, set_up_buffer, set_up_group, with_now, add_code, add_message, remove_accounts, begin, commit, rollback, written, fill_group, join_groups}
use Rattle.renaming.specs.Renaming.{Renaming, Faithful, on_row, on_args, on_buffer, on_group, on_filled, on_kept, on_store, on_target, on_offer, on_fill_answer, on_join_answer, on_answer}
use Rattle.renaming.proofs.Rows.{pick, append_on, length_on, has_on}
use Rattle.renaming.proofs.Calls.{add_on, remove_on, remove_code_on, held_on, fill_on, fresh_on, join_on, join_code_on}

answer_on : {X Y : Type 0} (g : X → Y) {c d : ℕ} {x y : Y} (x' y' : X) → c ≡ d → x ≡ g x' → y ≡ g y' → answer c x y ≡ on_answer g (answer d x' y')
unfolding answer
answer_on g x' y' e p q = λ i. record { code = e i; after = pick g x' y' (λ j. eqb (e j) 0) p q i }

module _ {W U : World} (f : Renaming W U) where
  open_on : (k : Option (Buffer W)) → is_open (on_kept f k) ≡ is_open k
  unfolding is_open
  open_on none = refl
  open_on (some b) = refl

  back_on : (k : Option (Buffer W)) (b : Buffer W) → back (on_kept f k) (on_buffer f b) ≡ on_buffer f (back k b)
  unfolding back
  back_on none b = refl
  back_on (some c) b = refl

  with_on : (s : Store W) (b : Buffer W) → with_now U (on_store f s) (on_buffer f b) ≡ on_store f (with_now W s b)
  unfolding with_now
  with_on s b = refl

  -- any renaming will do for these
  pub set_up_buffer_on : (M A : ℕ) → set_up_buffer U M A ≡ on_answer (on_store f) (set_up_buffer W M A)
  unfolding set_up_buffer no_messages
  set_up_buffer_on M A = answer_on (on_store f) (record { M = M; A = A; now = no_messages W; kept = none }) (record { M = 1; A = 1; now = no_messages W; kept = none }) refl refl refl

  pub begin_on : (s : Store W) → begin U (on_store f s) ≡ on_answer (on_store f) (begin W s)
  unfolding begin
  begin_on s = answer_on (on_store f) (record { M = s.M; A = s.A; now = s.now; kept = some s.now }) s (λ i. first_of (open_on s.kept i) 7 0) refl refl

  pub commit_on : (s : Store W) → commit U (on_store f s) ≡ on_answer (on_store f) (commit W s)
  unfolding commit
  commit_on s = answer_on (on_store f) (record { M = s.M; A = s.A; now = s.now; kept = none }) s (λ i. first_of (open_on s.kept i) 0 6) refl refl

  pub rollback_on : (s : Store W) → rollback U (on_store f s) ≡ on_answer (on_store f) (rollback W s)
  unfolding rollback
  rollback_on s = answer_on (on_store f) (record { M = s.M; A = s.A; now = back s.kept s.now; kept = none }) s (λ i. first_of (open_on s.kept i) 0 6)
      (λ i. record { M = s.M; A = s.A; now = back_on s.kept s.now i; kept = none }) refl

  -- what a fill and a join give their callers
  drop_on : (n : ℕ) (l : List W.Key) → drop n (map f.key l) ≡ map f.key (drop n l)
  drop_on zero l = refl
  drop_on (suc n) [] = refl
  drop_on (suc n) (x ∷ l) = drop_on n l

  written_on : (new rows : List W.Key) → written U (map f.key new) (map f.key rows) ≡ map f.key (written W new rows)
  unfolding written
  written_on new rows = (λ i. map f.key new ++ drop (length_on f.key new i) (map f.key rows)) ∙ (λ i. map f.key new ++ drop_on (length new) rows i) ∙ append_on f.key new (drop (length new) rows)

  pub fill_by : (A : Args W) (keys : List W.Key) (s : Store W) (t : Target W) (skipped : List W.Acc) →
      fill U t.S (length keys) (on_args f A) (on_buffer f s.now) (on_group f t.now) (map f.acc skipped) ≡ on_filled f (fill W t.S (length keys) A s.now t.now skipped) →
      fill_group U (on_args f A) (map f.key keys) (on_store f s) (on_target f t) (map f.acc skipped) ≡ on_fill_answer f (fill_group W A keys s t skipped)
  unfolding fill_group with_now
  fill_by A keys s t skipped e = (λ i. fill_answered (filled i)) ∙ (λ i. record {
    code = r.code;
    collected = r.collected;
    ops = r.ops;
    dropped = r.dropped;
    keys = written_on r.keys keys i;
    store = on_store f (with_now W s r.buffer);
    target = record { S = t.S; now = on_group f r.group };
    skipped = map f.acc r.skipped;
  })
    where
      r : Filled W
      r = fill W t.S (length keys) A s.now t.now skipped

      filled : fill U t.S (length (map f.key keys)) (on_args f A) (on_buffer f s.now) (on_group f t.now) (map f.acc skipped) ≡ on_filled f r
      filled = (λ i. fill U t.S (length_on f.key keys i) (on_args f A) (on_buffer f s.now) (on_group f t.now) (map f.acc skipped)) ∙ e

      fill_answered : Filled U → FillAnswer U
      fill_answered x = record {
        code = x.code;
        collected = x.collected;
        ops = x.ops;
        dropped = x.dropped;
        keys = written U x.keys (map f.key keys);
        store = with_now U (on_store f s) x.buffer;
        target = record { S = t.S; now = x.group };
        skipped = x.skipped;
      }

module _ {W U : World} (f : Renaming W U) (F : Faithful W U f) where
  pub set_up_group_on : (S : ℕ) → set_up_group U S ≡ on_answer (on_target f) (set_up_group W S)
  unfolding set_up_group
  set_up_group_on S = answer_on (on_target f) (record { S = S; now = fresh W }) (record { S = 1; now = fresh W }) refl (λ i. record { S = S; now = fresh_on f F i }) (λ i. record { S = 1; now = fresh_on f F i })

  pub add_code_on : (o : Offer W) (s : Store W) → add_code U (on_offer f o) (on_store f s) ≡ add_code W o s
  unfolding add_code
  add_code_on o s = λ i.
      first_of o.special 2
      (first_of (ltb 1 o.kind) 3
      (first_of (leb s.M (held_on f F s.now.order i)) 4
      (first_of (not (has_on f F o.acc s.now.order i) && leb s.A (length_on (on_row f) s.now.order i)) 5 0)))

  pub add_message_on : (o : Offer W) (s : Store W) → add_message U (on_offer f o) (on_store f s) ≡ on_answer (on_store f) (add_message W o s)
  unfolding add_message
  add_message_on o s = answer_on (on_store f) (with_now W s (add W o.acc o.msg s.now)) s (add_code_on o s)
      (ap (with_now U (on_store f s)) (add_on f F o.acc o.msg s.now) ∙ with_on f s (add W o.acc o.msg s.now)) refl

  pub remove_accounts_on : (names : List W.Acc) (s : Store W) → remove_accounts U (map f.acc names) (on_store f s) ≡ on_answer (on_store f) (remove_accounts W names s)
  unfolding remove_accounts
  remove_accounts_on names s = answer_on (on_store f) (with_now W s (remove W names s.now)) s (remove_code_on f F names s.now)
      (ap (with_now U (on_store f s)) (remove_on f F names s.now) ∙ with_on f s (remove W names s.now)) refl

  pub fill_group_on : (A : Args W) (keys : List W.Key) (s : Store W) (t : Target W) (skipped : List W.Acc) →
      fill_group U (on_args f A) (map f.key keys) (on_store f s) (on_target f t) (map f.acc skipped) ≡ on_fill_answer f (fill_group W A keys s t skipped)
  fill_group_on A keys s t skipped = fill_by f A keys s t skipped (fill_on f F t.S (length keys) A s.now t.now skipped)

  pub join_groups_on : (l r : Target W) → join_groups U (on_target f l) (on_target f r) ≡ on_join_answer f (join_groups W l r)
  unfolding join_groups
  join_groups_on l r = pick (on_join_answer f) (record { code = c; left = record { S = l.S; now = join W l.now r.now }; right = record { S = r.S; now = fresh W } }) (record { code = c; left = l; right = r })
      (λ i. eqb (code i) 0)
      (λ i. record { code = code i; left = record { S = l.S; now = join_on f F l.now r.now i }; right = record { S = r.S; now = fresh_on f F i } })
      (λ i. record { code = code i; left = on_target f l; right = on_target f r })
    where
      c : ℕ
      c = join_code W l.S l.now r.now

      code : join_code U l.S (on_group f l.now) (on_group f r.now) ≡ c
      code = join_code_on f F l.S l.now r.now
