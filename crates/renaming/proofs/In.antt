-- Renaming commutes with every call also where only the accounts that occur stay different (`Agrees`): the form that code can use, whose
-- account numbers stand for the rows of a table without repeats. What occurs is the image of a world of just those accounts (`Sub`), from
-- which both renamings are faithful. That a call brings in no other account comes with it. Assumes nothing.
use mathlib.Core.Path.{◌≡◌, refl, sym, ap, ◌∙◌, subst}
use mathlib.Core.List.{List, map}
use Prim.Native.Nat.{ℕ}
use lib.ListN.{length}
use Rattle.rules.specs.World.{World, Args, Buffer, Group, Each}
use Rattle.rules.specs.Queues.{add, remove, remove_code, held_ints, held_exts, full_by_count}
use Rattle.rules.specs.Fill.{group_ints, group_exts, group_accounts, group_slots, Filled, fill_code, fill, join, join_code, is_filled}
use Rattle.rules.specs.Calls.{Store, Target, Offer, add_message, remove_accounts, with_now, fill_group, join_groups}
use Rattle.renaming.specs.Renaming.{Renaming, Kinds, Faithful, on_args, on_buffer, on_group, on_filled, on_store, on_target, on_offer, on_fill_answer, on_join_answer, on_answer, InBuffer, InGroup, InStore, InArgs, Agrees}
use Rattle.renaming.proofs.Calls.{group_ints_on, group_exts_on, group_accounts_on, group_slots_on, add_on, remove_on, remove_code_on, fill_code_on, fill_on, join_on, join_code_on, held_ints_on, held_exts_on, full_by_count_on, is_filled_on}
use Rattle.renaming.proofs.Store.{add_message_on, remove_accounts_on, fill_by, join_groups_on}
use Rattle.renaming.proofs.Sub.{Sub, out, via, out_faithful, via_faithful, lift_accs, lift_buffer, lift_group, lift_args, lift_store, lift_target, each_accs, each_rows, each_slots, each_store, accs_via, buffer_via, group_via, args_via, filled_via, store_via, target_via}

-- ---- the calls
pub record FillIn {W U : World} (f : Renaming W U) (P : W.Acc → Type 0) (S key_rows : ℕ) (A : Args W) (b : Buffer W) (g : Group W) (skipped : List W.Acc) : Type 0 where
  pub there : fill U S key_rows (on_args f A) (on_buffer f b) (on_group f g) (map f.acc skipped) ≡ on_filled f (fill W S key_rows A b g skipped)
  pub code : fill_code U S key_rows (on_args f A) (on_buffer f b) (on_group f g) (map f.acc skipped) ≡ fill_code W S key_rows A b g skipped
  pub buffer : InBuffer W P (fill W S key_rows A b g skipped).buffer
  pub group : InGroup W P (fill W S key_rows A b g skipped).group
  pub set : Each P (fill W S key_rows A b g skipped).skipped

pub record AddIn {W U : World} (f : Renaming W U) (P : W.Acc → Type 0) (a : W.Acc) (m : W.Msg) (b : Buffer W) : Type 0 where
  pub there : add U (f.acc a) (f.msg m) (on_buffer f b) ≡ on_buffer f (add W a m b)
  pub buffer : InBuffer W P (add W a m b)

pub record RemoveIn {W U : World} (f : Renaming W U) (P : W.Acc → Type 0) (names : List W.Acc) (b : Buffer W) : Type 0 where
  pub there : remove U (map f.acc names) (on_buffer f b) ≡ on_buffer f (remove W names b)
  pub code : remove_code U (map f.acc names) (on_buffer f b) ≡ remove_code W names b
  pub buffer : InBuffer W P (remove W names b)

pub record JoinIn {W U : World} (f : Renaming W U) (P : W.Acc → Type 0) (S : ℕ) (l r : Group W) : Type 0 where
  pub there : join U (on_group f l) (on_group f r) ≡ on_group f (join W l r)
  pub code : join_code U S (on_group f l) (on_group f r) ≡ join_code W S l r
  pub group : InGroup W P (join W l r)

pub record CountsIn {W U : World} (f : Renaming W U) (b : Buffer W) : Type 0 where
  pub ints : held_ints U (on_buffer f b) ≡ held_ints W b
  pub exts : held_exts U (on_buffer f b) ≡ held_exts W b
  pub full : (limit : ℕ) → full_by_count U limit (on_buffer f b) ≡ full_by_count W limit b

pub record GroupCountsIn {W U : World} (f : Renaming W U) (g : Group W) : Type 0 where
  pub ints : group_ints U (on_group f g) ≡ group_ints W g
  pub exts : group_exts U (on_group f g) ≡ group_exts W g
  pub accounts : group_accounts U (on_group f g) ≡ group_accounts W g
  pub slots : group_slots U (on_group f g) ≡ group_slots W g

pub record PutIn {W U : World} (f : Renaming W U) (P : W.Acc → Type 0) (o : Offer W) (s : Store W) : Type 0 where
  pub there : add_message U (on_offer f o) (on_store f s) ≡ on_answer (on_store f) (add_message W o s)
  pub store : InStore W P (add_message W o s).after

pub record TakeOutIn {W U : World} (f : Renaming W U) (P : W.Acc → Type 0) (names : List W.Acc) (s : Store W) : Type 0 where
  pub there : remove_accounts U (map f.acc names) (on_store f s) ≡ on_answer (on_store f) (remove_accounts W names s)
  pub store : InStore W P (remove_accounts W names s).after

pub record FillGroupIn {W U : World} (f : Renaming W U) (P : W.Acc → Type 0) (A : Args W) (keys : List W.Key) (s : Store W) (t : Target W) (skipped : List W.Acc) : Type 0 where
  pub there : fill_group U (on_args f A) (map f.key keys) (on_store f s) (on_target f t) (map f.acc skipped) ≡ on_fill_answer f (fill_group W A keys s t skipped)
  pub store : InStore W P (fill_group W A keys s t skipped).store
  pub group : InGroup W P (fill_group W A keys s t skipped).target.now
  pub set : Each P (fill_group W A keys s t skipped).skipped

module _ {W U : World} (f : Renaming W U) (P : W.Acc → Type 0) (e : Agrees W U f P) (k : Kinds W U f) where
  faithful_out : Faithful (Sub W P) W (out f P)
  faithful_out = out_faithful f P

  faithful_via : Faithful (Sub W P) U (via f P)
  faithful_via = via_faithful f P e k

  fill_from : (S key_rows : ℕ) (A : Args (Sub W P)) (b : Buffer (Sub W P)) (g : Group (Sub W P)) (skipped : List ((a : W.Acc) × P a)) →
      FillIn f P S key_rows (on_args (out f P) A) (on_buffer (out f P) b) (on_group (out f P) g) (map (out f P).acc skipped)
  fill_from S key_rows A b g skipped = record {
    there = (λ i. fill U S key_rows (args_via f P A i) (buffer_via f P b i) (group_via f P g i) (accs_via f P skipped i))
        ∙ fill_on (via f P) faithful_via S key_rows A b g skipped ∙ sym (filled_via f P (fill (Sub W P) S key_rows A b g skipped)) ∙ ap (on_filled f) (sym here);
    code = (λ i. fill_code U S key_rows (args_via f P A i) (buffer_via f P b i) (group_via f P g i) (accs_via f P skipped i))
        ∙ fill_code_on (via f P) faithful_via S key_rows A b g skipped ∙ sym (fill_code_on (out f P) faithful_out S key_rows A b g skipped);
    buffer = subst (λ x. InBuffer W P x.buffer) (sym here) (each_rows f P r.buffer.order);
    group = subst (λ x. InGroup W P x.group) (sym here) (each_rows f P r.group.lists, each_slots f P r.group.slots);
    set = subst (λ x. Each P x.skipped) (sym here) (each_accs f P r.skipped);
  }
    where
      r : Filled (Sub W P)
      r = fill (Sub W P) S key_rows A b g skipped

      here : fill W S key_rows (on_args (out f P) A) (on_buffer (out f P) b) (on_group (out f P) g) (map (out f P).acc skipped) ≡ on_filled (out f P) (fill (Sub W P) S key_rows A b g skipped)
      here = fill_on (out f P) faithful_out S key_rows A b g skipped

  pub fill_in : (S key_rows : ℕ) (A : Args W) (b : Buffer W) (g : Group W) (skipped : List W.Acc) → InArgs W P A → InBuffer W P b → InGroup W P g → Each P skipped →
      FillIn f P S key_rows A b g skipped
  fill_in S key_rows A b g skipped pA pb pg ps =
      let A' = lift_args f P A pA in
      let b' = lift_buffer f P b pb in
      let g' = lift_group f P g pg in
      let s' = lift_accs f P skipped ps in
      subst (λ x. FillIn f P S key_rows x b g skipped) A'.1
      (subst (λ x. FillIn f P S key_rows (on_args (out f P) A'.0) x g skipped) b'.1
      (subst (λ x. FillIn f P S key_rows (on_args (out f P) A'.0) (on_buffer (out f P) b'.0) x skipped) g'.1
      (subst (λ x. FillIn f P S key_rows (on_args (out f P) A'.0) (on_buffer (out f P) b'.0) (on_group (out f P) g'.0) x) s'.1
      (fill_from S key_rows A'.0 b'.0 g'.0 s'.0))))

  add_from : (a : (a : W.Acc) × P a) (m : W.Msg) (b : Buffer (Sub W P)) → AddIn f P a.0 m (on_buffer (out f P) b)
  add_from a m b = record {
    there = (λ i. add U (f.acc a.0) (f.msg m) (buffer_via f P b i)) ∙ add_on (via f P) faithful_via a m b
        ∙ sym (buffer_via f P (add (Sub W P) a m b)) ∙ ap (on_buffer f) (sym (add_on (out f P) faithful_out a m b));
    buffer = subst (InBuffer W P) (sym (add_on (out f P) faithful_out a m b)) (each_rows f P (add (Sub W P) a m b).order);
  }

  pub add_in : (a : W.Acc) (m : W.Msg) (b : Buffer W) → P a → InBuffer W P b → AddIn f P a m b
  add_in a m b pa pb = let x = lift_buffer f P b pb in subst (AddIn f P a m) x.1 (add_from (a, pa) m x.0)

  remove_from : (names : List ((a : W.Acc) × P a)) (b : Buffer (Sub W P)) → RemoveIn f P (map (out f P).acc names) (on_buffer (out f P) b)
  remove_from names b = record {
    there = (λ i. remove U (accs_via f P names i) (buffer_via f P b i)) ∙ remove_on (via f P) faithful_via names b
        ∙ sym (buffer_via f P (remove (Sub W P) names b)) ∙ ap (on_buffer f) (sym (remove_on (out f P) faithful_out names b));
    code = (λ i. remove_code U (accs_via f P names i) (buffer_via f P b i)) ∙ remove_code_on (via f P) faithful_via names b ∙ sym (remove_code_on (out f P) faithful_out names b);
    buffer = subst (InBuffer W P) (sym (remove_on (out f P) faithful_out names b)) (each_rows f P (remove (Sub W P) names b).order);
  }

  pub remove_in : (names : List W.Acc) (b : Buffer W) → Each P names → InBuffer W P b → RemoveIn f P names b
  remove_in names b pn pb =
      let n' = lift_accs f P names pn in
      let b' = lift_buffer f P b pb in
      subst (λ x. RemoveIn f P x b) n'.1 (subst (RemoveIn f P (map (out f P).acc n'.0)) b'.1 (remove_from n'.0 b'.0))

  join_from : (S : ℕ) (l r : Group (Sub W P)) → JoinIn f P S (on_group (out f P) l) (on_group (out f P) r)
  join_from S l r = record {
    there = (λ i. join U (group_via f P l i) (group_via f P r i)) ∙ join_on (via f P) faithful_via l r
        ∙ sym (group_via f P (join (Sub W P) l r)) ∙ ap (on_group f) (sym (join_on (out f P) faithful_out l r));
    code = (λ i. join_code U S (group_via f P l i) (group_via f P r i)) ∙ join_code_on (via f P) faithful_via S l r ∙ sym (join_code_on (out f P) faithful_out S l r);
    group = subst (InGroup W P) (sym (join_on (out f P) faithful_out l r)) (each_rows f P (join (Sub W P) l r).lists, each_slots f P (join (Sub W P) l r).slots);
  }

  pub join_in : (S : ℕ) (l r : Group W) → InGroup W P l → InGroup W P r → JoinIn f P S l r
  join_in S l r pl pr =
      let l' = lift_group f P l pl in
      let r' = lift_group f P r pr in
      subst (λ x. JoinIn f P S x r) l'.1 (subst (JoinIn f P S (on_group (out f P) l'.0)) r'.1 (join_from S l'.0 r'.0))

  counts_from : (b : Buffer (Sub W P)) → CountsIn f (on_buffer (out f P) b)
  counts_from b = record {
    ints = ap (held_ints U) (buffer_via f P b) ∙ held_ints_on (via f P) faithful_via b ∙ sym (held_ints_on (out f P) faithful_out b);
    exts = ap (held_exts U) (buffer_via f P b) ∙ held_exts_on (via f P) faithful_via b ∙ sym (held_exts_on (out f P) faithful_out b);
    full = λ limit. ap (full_by_count U limit) (buffer_via f P b) ∙ full_by_count_on (via f P) faithful_via limit b ∙ sym (full_by_count_on (out f P) faithful_out limit b);
  }

  pub counts_in_lem : (b : Buffer W) → InBuffer W P b → CountsIn f b
  counts_in_lem b pb = let x = lift_buffer f P b pb in subst (CountsIn f) x.1 (counts_from x.0)

  pub is_filled_in : (asked height : ℕ) (g : Group W) → InGroup W P g → is_filled U asked height (on_group f g) ≡ is_filled W asked height g
  is_filled_in asked height g pg = let x = lift_group f P g pg in subst (λ y. is_filled U asked height (on_group f y) ≡ is_filled W asked height y) x.1
      (ap (is_filled U asked height) (group_via f P x.0) ∙ is_filled_on (via f P) faithful_via asked height x.0 ∙ sym (is_filled_on (out f P) faithful_out asked height x.0))

  group_from : (g : Group (Sub W P)) → GroupCountsIn f (on_group (out f P) g)
  group_from g = record {
    ints = ap (group_ints U) (group_via f P g) ∙ group_ints_on (via f P) faithful_via g ∙ sym (group_ints_on (out f P) faithful_out g);
    exts = ap (group_exts U) (group_via f P g) ∙ group_exts_on (via f P) faithful_via g ∙ sym (group_exts_on (out f P) faithful_out g);
    accounts = ap (group_accounts U) (group_via f P g) ∙ group_accounts_on (via f P) faithful_via g ∙ sym (group_accounts_on (out f P) faithful_out g);
    slots = ap (group_slots U) (group_via f P g) ∙ group_slots_on (via f P) faithful_via g ∙ sym (group_slots_on (out f P) faithful_out g);
  }

  pub group_counts_in : (g : Group W) → InGroup W P g → GroupCountsIn f g
  group_counts_in g pg = let x = lift_group f P g pg in subst (GroupCountsIn f) x.1 (group_from x.0)

  -- ---- as a caller meets them
  add_message_from : (o : Offer (Sub W P)) (s : Store (Sub W P)) → PutIn f P (on_offer (out f P) o) (on_store (out f P) s)
  add_message_from o s = record {
    there = (λ i. add_message U (on_offer (via f P) o) (store_via f P s i)) ∙ add_message_on (via f P) faithful_via o s
        ∙ (λ i. record { code = (add_message (Sub W P) o s).code; after = sym (store_via f P (add_message (Sub W P) o s).after) i }) ∙ ap (on_answer (on_store f)) (sym here);
    store = subst (λ x. InStore W P x.after) (sym here) (each_store f P (add_message (Sub W P) o s).after);
  }
    where
      here : add_message W (on_offer (out f P) o) (on_store (out f P) s) ≡ on_answer (on_store (out f P)) (add_message (Sub W P) o s)
      here = add_message_on (out f P) faithful_out o s

  pub add_message_in : (o : Offer W) (s : Store W) → P o.acc → InStore W P s → PutIn f P o s
  add_message_in o s pa ps = let x = lift_store f P s ps in
      subst (PutIn f P o) x.1 (add_message_from (record { special = o.special; kind = o.kind; acc = (o.acc, pa); msg = o.msg }) x.0)

  remove_accounts_from : (names : List ((a : W.Acc) × P a)) (s : Store (Sub W P)) → TakeOutIn f P (map (out f P).acc names) (on_store (out f P) s)
  remove_accounts_from names s = record {
    there = (λ i. remove_accounts U (accs_via f P names i) (store_via f P s i)) ∙ remove_accounts_on (via f P) faithful_via names s
        ∙ (λ i. record { code = (remove_accounts (Sub W P) names s).code; after = sym (store_via f P (remove_accounts (Sub W P) names s).after) i }) ∙ ap (on_answer (on_store f)) (sym here);
    store = subst (λ x. InStore W P x.after) (sym here) (each_store f P (remove_accounts (Sub W P) names s).after);
  }
    where
      here : remove_accounts W (map (out f P).acc names) (on_store (out f P) s) ≡ on_answer (on_store (out f P)) (remove_accounts (Sub W P) names s)
      here = remove_accounts_on (out f P) faithful_out names s

  pub remove_accounts_in : (names : List W.Acc) (s : Store W) → Each P names → InStore W P s → TakeOutIn f P names s
  remove_accounts_in names s pn ps =
      let n' = lift_accs f P names pn in
      let s' = lift_store f P s ps in
      subst (λ x. TakeOutIn f P x s) n'.1 (subst (TakeOutIn f P (map (out f P).acc n'.0)) s'.1 (remove_accounts_from n'.0 s'.0))

  pub fill_group_in : (A : Args W) (keys : List W.Key) (s : Store W) (t : Target W) (skipped : List W.Acc) → InArgs W P A → InStore W P s → InGroup W P t.now → Each P skipped →
      FillGroupIn f P A keys s t skipped
  unfolding fill_group with_now
  fill_group_in A keys s t skipped pA ps pt pk =
      let r = fill_in t.S (length keys) A s.now t.now skipped pA ps.0 pt pk in
      record { there = fill_by f A keys s t skipped r.there; store = (r.buffer, ps.1); group = r.group; set = r.set }

  join_groups_from : (l r : Target (Sub W P)) → join_groups U (on_target f (on_target (out f P) l)) (on_target f (on_target (out f P) r)) ≡ on_join_answer f (join_groups W (on_target (out f P) l) (on_target (out f P) r))
  join_groups_from l r = (λ i. join_groups U (target_via f P l i) (target_via f P r i)) ∙ join_groups_on (via f P) faithful_via l r
      ∙ (λ i. record { code = (join_groups (Sub W P) l r).code; left = sym (target_via f P (join_groups (Sub W P) l r).left) i; right = sym (target_via f P (join_groups (Sub W P) l r).right) i })
      ∙ ap (on_join_answer f) (sym (join_groups_on (out f P) faithful_out l r))

  pub join_groups_in : (l r : Target W) → InGroup W P l.now → InGroup W P r.now → join_groups U (on_target f l) (on_target f r) ≡ on_join_answer f (join_groups W l r)
  join_groups_in l r pl pr =
      let l' = lift_target f P l pl in
      let r' = lift_target f P r pr in
      subst (λ x. join_groups U (on_target f x) (on_target f r) ≡ on_join_answer f (join_groups W x r)) l'.1
      (subst (λ x. join_groups U (on_target f (on_target (out f P) l'.0)) (on_target f x) ≡ on_join_answer f (join_groups W (on_target (out f P) l'.0) x)) r'.1 (join_groups_from l'.0 r'.0))
