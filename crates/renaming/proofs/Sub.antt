-- The world of the accounts of which P holds (`Sub`): what is of P is the image of something there (`lift`), and a renaming that keeps
-- the accounts of P apart is faithful from there. Assumes nothing.
use mathlib.Core.Path.{◌≡◌, refl}
use mathlib.Core.List.{List, [], ◌∷◌, map}
use mathlib.Core.Option.{Option, none, some}
use Rattle.rules.specs.World.{World, Row, Slot, Skip, Args, Buffer, Group, Each}
use Rattle.rules.specs.Fill.{Filled}
use Rattle.rules.specs.Calls.{Store, Target}
use Rattle.renaming.specs.Renaming.{Renaming, Kinds, Faithful, on_row, on_slot, on_skip, on_args, on_buffer, on_group, on_filled, on_kept, on_store, on_target, InRow, InSlot, InBuffer, InGroup, InKept, InStore, InArgs, Agrees}

map_id : {X : Type 0} (l : List X) → map (λ x. x) l ≡ l
map_id [] = refl
map_id (x ∷ l) = λ i. x ∷ map_id l i

-- the accounts of P
abbrev pub Sub : (W : World) → (W.Acc → Type 0) → World
Sub W P = record {
  Acc = (a : W.Acc) × P a;
  same = λ (x y : (a : W.Acc) × P a). W.same x.0 y.0;
  Msg = W.Msg;
  external = W.external;
  time = W.time;
  Key = W.Key;
  key = W.key;
}

module _ {W U : World} (f : Renaming W U) (P : W.Acc → Type 0) where
  abbrev pub out : Renaming (Sub W P) W
  out = record { acc = λ (x : (a : W.Acc) × P a). x.0; msg = λ m. m; key = λ k. k }

  abbrev pub via : Renaming (Sub W P) U
  via = record { acc = λ (x : (a : W.Acc) × P a). f.acc x.0; msg = f.msg; key = f.key }

  pub out_faithful : Faithful (Sub W P) W out
  out_faithful = record { same = λ a b. refl; kinds = record { external = λ m. refl; time = λ m. refl; key = λ m. refl } }

  pub via_faithful : Agrees W U f P → Kinds W U f → Faithful (Sub W P) U via
  via_faithful e k = record { same = λ a b. e a.0 b.0 a.1 b.1; kinds = record { external = k.external; time = k.time; key = k.key } }

  -- ---- what is of P comes from there
  lift : {X Y : Type 0} (g : X → Y) (Q : Y → Type 0) → ((y : Y) → Q y → (x : X) × (g x ≡ y)) → (l : List Y) → Each Q l → (k : List X) × (map g k ≡ l)
  lift g Q h [] p = ([], refl)
  lift g Q h (y ∷ l) p = let t = lift g Q h l p.1 in let x = h y p.0 in (x.0 ∷ t.0, λ i. x.1 i ∷ t.1 i)

  pub lift_accs : (l : List W.Acc) → Each P l → (k : List ((a : W.Acc) × P a)) × (map out.acc k ≡ l)
  lift_accs = lift out.acc P (λ a p. ((a, p), refl))

  lift_row : (r : Row W) → InRow W P r → (x : Row (Sub W P)) × (on_row out x ≡ r)
  lift_row r p = (record { acc = (r.acc, p); msgs = r.msgs }, λ i. record { acc = r.acc; msgs = map_id r.msgs i })

  lift_slot : (s : Slot W) → InSlot W P s → (x : Slot (Sub W P)) × (on_slot out x ≡ s)
  lift_slot s p = let t = lift_accs s.accounts p in
      (record { number = s.number; accounts = t.0; ints = s.ints; exts = s.exts }, λ i. record { number = s.number; accounts = t.1 i; ints = s.ints; exts = s.exts })

  lift_skip : (r : Skip W) → P r.acc → (x : Skip (Sub W P)) × (on_skip out x ≡ r)
  lift_skip r p = (record { acc = (r.acc, p); skip = r.skip; cost = r.cost }, refl)

  pub lift_buffer : (b : Buffer W) → InBuffer W P b → (x : Buffer (Sub W P)) × (on_buffer out x ≡ b)
  lift_buffer b p = let o = lift (on_row out) (InRow W P) lift_row b.order p in (record { order = o.0; least = b.least }, λ i. record { order = o.1 i; least = b.least })

  pub lift_group : (g : Group W) → InGroup W P g → (x : Group (Sub W P)) × (on_group out x ≡ g)
  lift_group g p =
      let l = lift (on_row out) (InRow W P) lift_row g.lists p.0 in
      let s = lift (on_slot out) (InSlot W P) lift_slot g.slots p.1 in
      (record { lists = l.0; slots = s.0; last = g.last; index = g.index }, λ i. record { lists = l.1 i; slots = s.1 i; last = g.last; index = g.index })

  lift_kept : (k : Option (Buffer W)) → InKept W P k → (x : Option (Buffer (Sub W P))) × (on_kept out x ≡ k)
  lift_kept none p = (none, refl)
  lift_kept (some b) p = let x = lift_buffer b p in (some x.0, λ i. some (x.1 i))

  pub lift_store : (s : Store W) → InStore W P s → (x : Store (Sub W P)) × (on_store out x ≡ s)
  lift_store s p =
      let b = lift_buffer s.now p.0 in
      let k = lift_kept s.kept p.1 in
      (record { M = s.M; A = s.A; now = b.0; kept = k.0 }, λ i. record { M = s.M; A = s.A; now = b.1 i; kept = k.1 i })

  pub lift_target : (t : Target W) → InGroup W P t.now → (x : Target (Sub W P)) × (on_target out x ≡ t)
  lift_target t p = let g = lift_group t.now p in (record { S = t.S; now = g.0 }, λ i. record { S = t.S; now = g.1 i })

  pub lift_args : (A : Args W) → InArgs W P A → (x : Args (Sub W P)) × (on_args out x ≡ A)
  lift_args A p = let r = lift (on_skip out) (λ (r : Skip W). P r.acc) lift_skip A.rows p in (
    record { asked = A.asked; height = A.height; filter = A.filter; rows = r.0; cost = A.cost },
    λ i. record { asked = A.asked; height = A.height; filter = A.filter; rows = r.1 i; cost = A.cost },
  )

  -- ---- what comes from there is of P
  pub each_accs : (k : List ((a : W.Acc) × P a)) → Each P (map out.acc k)
  each_accs [] = tt
  each_accs (x ∷ k) = (x.1, each_accs k)

  pub each_rows : (k : List (Row (Sub W P))) → Each (InRow W P) (map (on_row out) k)
  each_rows [] = tt
  each_rows (x ∷ k) = (x.acc.1, each_rows k)

  pub each_slots : (k : List (Slot (Sub W P))) → Each (InSlot W P) (map (on_slot out) k)
  each_slots [] = tt
  each_slots (x ∷ k) = (each_accs x.accounts, each_slots k)

  -- ---- both ways round the triangle
  maps : {X Y Z : Type 0} (g : Y → Z) (h : X → Y) (k : X → Z) → ((x : X) → g (h x) ≡ k x) → (l : List X) → map g (map h l) ≡ map k l
  maps g h k e [] = refl
  maps g h k e (x ∷ l) = λ i. e x i ∷ maps g h k e l i

  row_via : (r : Row (Sub W P)) → on_row f (on_row out r) ≡ on_row via r
  row_via r = λ i. record { acc = f.acc r.acc.0; msgs = maps f.msg (λ m. m) f.msg (λ m. refl) r.msgs i }

  pub accs_via : (k : List ((a : W.Acc) × P a)) → map f.acc (map out.acc k) ≡ map via.acc k
  accs_via = maps f.acc out.acc via.acc (λ x. refl)

  slot_via : (s : Slot (Sub W P)) → on_slot f (on_slot out s) ≡ on_slot via s
  slot_via s = λ i. record { number = s.number; accounts = accs_via s.accounts i; ints = s.ints; exts = s.exts }

  pub buffer_via : (b : Buffer (Sub W P)) → on_buffer f (on_buffer out b) ≡ on_buffer via b
  buffer_via b = λ i. record { order = maps (on_row f) (on_row out) (on_row via) row_via b.order i; least = b.least }

  pub group_via : (g : Group (Sub W P)) → on_group f (on_group out g) ≡ on_group via g
  group_via g = λ i. record {
    lists = maps (on_row f) (on_row out) (on_row via) row_via g.lists i;
    slots = maps (on_slot f) (on_slot out) (on_slot via) slot_via g.slots i;
    last = g.last;
    index = g.index;
  }

  pub args_via : (A : Args (Sub W P)) → on_args f (on_args out A) ≡ on_args via A
  args_via A = λ i. record { asked = A.asked; height = A.height; filter = A.filter; rows = maps (on_skip f) (on_skip out) (on_skip via) (λ r. refl) A.rows i; cost = A.cost }

  pub filled_via : (r : Filled (Sub W P)) → on_filled f (on_filled out r) ≡ on_filled via r
  filled_via r = λ i. record {
    code = r.code;
    collected = r.collected;
    ops = r.ops;
    dropped = r.dropped;
    keys = maps f.key (λ k. k) f.key (λ k. refl) r.keys i;
    buffer = buffer_via r.buffer i;
    group = group_via r.group i;
    skipped = accs_via r.skipped i;
  }

  kept_via : (k : Option (Buffer (Sub W P))) → on_kept f (on_kept out k) ≡ on_kept via k
  kept_via none = refl
  kept_via (some b) = λ i. some (buffer_via b i)

  pub store_via : (s : Store (Sub W P)) → on_store f (on_store out s) ≡ on_store via s
  store_via s = λ i. record { M = s.M; A = s.A; now = buffer_via s.now i; kept = kept_via s.kept i }

  pub each_store : (s : Store (Sub W P)) → InStore W P (on_store out s)
  each_store s = (each_rows s.now.order, by s.kept)
    where
      by : (k : Option (Buffer (Sub W P))) → InKept W P (on_kept out k)
      by none = tt
      by (some b) = each_rows b.order

  pub target_via : (t : Target (Sub W P)) → on_target f (on_target out t) ≡ on_target via t
  target_via t = λ i. record { S = t.S; now = group_via t.now i }
