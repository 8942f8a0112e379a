-- Two groups that are well formed and mean the same, whose messages were collected in the same turns, are the same, cell by cell: the counts
-- and the rows are read off what the groups mean, an account's slot too, and the cells past them hold the fresh value. Assumes nothing.
use mathlib.Core.Path.{◌≡◌, refl, sym, ap, ◌∙◌}
use mathlib.Core.List.{List, [], ◌∷◌}
use Prim.Native.Nat.{ℕ, zero, suc, ◌+◌, ◌*◌, ◌<◌, ◌≤◌}
use native.Mathlib.Nat.{not-suc-le-zero, le_of_suc-le-suc, le_refl, zero-add}
use native.Mathlib.Omega.{arith}
use lib.Dec.{eqb}
use lib.ListN.{length, get_or}
use lib.Seq.{ext_get_or}
use borrow.Author.Tests.{eq-eqb, eqb-true, eqb-false}
use Rattle.numbers.proofs.Bytes.{by_bool, clash}
use Rattle.columns.specs.Lists.{tab_i, pick}
use Rattle.columns.specs.Rows.{row_at}
use Rattle.columns.proofs.Tabs.{later, length_tab, get_d_tab, pick_cong}
use Rattle.rules.specs.World.{World, Row, Slot, Group}
use Rattle.rules.specs.Queues.{has, is_in, accounts, all_msgs}
use Rattle.rules.specs.Calls.{Target}
use Rattle.rules.specs.Fill.{group_ints, group_exts}
use Rattle.rules.specs.Demand.{Once}
use Rattle.demands.proofs.Rows.{Lawful}
use Rattle.message.specs.declared.Message.{Message}
use Rattle.message.specs.Real.{Real}
use Rattle.message.proofs.Real.{real_lawful}
use Rattle.buckets.proofs.Groups.{one_way}
use Rattle.queues.specs.Meant.{message_in, row_in, if_marked, order_of}
use Rattle.queues.specs.Good.{Zeros}
use Rattle.queues.proofs.Meaning.{pick_owners}
use Rattle.buffer_rules.proofs.AddOrder.{has_tab}
use Rattle.buffer_rules.proofs.Unique.{picked, form_told, mark_told, least_told, cells_same, bytes_same}
use Rattle.slots.specs.Table.{Table, count}
use Rattle.slots.specs.Meant.{listed, slot_in, slots_of, group_of, meant}
use Rattle.slots.specs.Good.{Good}
use Rattle.group_rules.proofs.GroupLook.{messages_told}

-- ---- columns

-- two columns of one length whose rows held are the same and whose cells past them hold 0
whole : (xs ys : List ℕ) {n m size : ℕ} → length xs ≡ size → length ys ≡ size → n ≡ m → ((i : ℕ) → i < m → get_or xs i 0 ≡ get_or ys i 0)
    → Zeros xs n size → Zeros ys m size → xs ≡ ys
whole xs ys {n} {m} {size} a b e h x y =
    let x' : Zeros xs m size = rw e at x in
    ext_get_or 0 xs ys (a ∙ sym b) (λ i l. cells_same xs ys m size h x' y i (omega arith))

whole_flat : (xs ys : List ℕ) {n m size : ℕ} → length xs ≡ size → length ys ≡ size → n ≡ m → ((i : ℕ) → i < m → row_at xs i ≡ row_at ys i)
    → Zeros xs (32 * n) size → Zeros ys (32 * m) size → xs ≡ ys
whole_flat xs ys {n} {m} {size} a b e h x y =
    let x' : Zeros xs (32 * m) size = rw e at x in
    ext_get_or 0 xs ys (a ∙ sym b) (λ i l. bytes_same xs ys m size h x' y i (omega arith))

-- one cell more that is the same
one_more : (xs ys : List ℕ) (n : ℕ) → ((i : ℕ) → i < n → get_or xs i 0 ≡ get_or ys i 0) → get_or xs n 0 ≡ get_or ys n 0 → (i : ℕ) → i < suc n → get_or xs i 0 ≡ get_or ys i 0
one_more xs ys n e l i h =
    by_bool (eqb i n)
    (λ t. rw (eqb-true i n t) l)
    (λ f. let z = eqb-false i n f in e i (omega arith))

-- ---- what the owners pick tells the owners, where no two indices are told alike

module _ {A : Type 0} (f : ℕ → A) where
  -- what is picked from i on does not begin with what no index from there on has
  not_first : (p m i : ℕ) (os : List ℕ) (x : A) (xs : List A) → ((j : ℕ) → i ≤ j → j < i + m → x ≡ f j → ⊥) → x ∷ xs ≡ pick f p m i os → ⊥
  unfolding pick
  not_first p zero i os x xs n e = let z : ◌≡◌ {A = ℕ} 0 1 = cc in omega arith
  not_first p (suc m) i [] x xs n e = let z : ◌≡◌ {A = ℕ} 0 1 = cc in omega arith
  not_first p (suc m) i (o ∷ os) x xs n e =
      by_bool (eqb o p)
      (λ t. let w = rw t at e in n i (le_refl i) (omega arith) (cc))
      (λ d. not_first p m (i + 1) os x xs (later m i n) (rw d at e))

  head_told : (m i o p : ℕ) (os ps : List ℕ) → ((j : ℕ) → i + 1 ≤ j → j < i + 1 + m → f i ≡ f j → ⊥)
      → pick f o (suc m) i (o ∷ os) ≡ pick f o (suc m) i (p ∷ ps) → o ≡ p
  unfolding pick
  head_told m i o p os ps n e =
      by_bool (eqb p o)
      (λ t. sym (eqb-true p o t))
      (λ d. absurd (not_first o m (i + 1) ps (f i) _ n (rw (eq-eqb o o refl, d) at e)))

  rest_told : (q m i o : ℕ) (os ps : List ℕ) → pick f q (suc m) i (o ∷ os) ≡ pick f q (suc m) i (o ∷ ps) → pick f q m (i + 1) os ≡ pick f q m (i + 1) ps
  unfolding pick
  rest_told q m i o os ps e = by_bool (eqb o q) (λ t. let w = rw t at e in cc) (λ d. rw d at e)

  owners_told : (m i : ℕ) (os ps : List ℕ) → m ≤ length os → m ≤ length ps → ((j k : ℕ) → i ≤ j → j < k → k < i + m → f j ≡ f k → ⊥)
      → ((j : ℕ) → j < m → pick f (get_or os j 0) m i os ≡ pick f (get_or os j 0) m i ps) → (j : ℕ) → j < m → get_or os j 0 ≡ get_or ps j 0
  owners_told zero i os ps a b n e j l = absurd (not-suc-le-zero l)
  owners_told (suc m) i [] ps a b n e j l = absurd (not-suc-le-zero a)
  owners_told (suc m) i (o ∷ os) [] a b n e j l = absurd (not-suc-le-zero b)
  owners_told (suc m) i (o ∷ os) (p ∷ ps) a b n e zero l = head_told m i o p os ps (λ j x y. n i j (le_refl i) (omega arith) (omega arith)) (e 0 l)
  owners_told (suc m) i (o ∷ os) (p ∷ ps) a b n e (suc j) l =
      let h = head_told m i o p os ps (λ j x y. n i j (le_refl i) (omega arith) (omega arith)) (e 0 (omega arith)) in
      owners_told m (i + 1) os ps (le_of_suc-le-suc a) (le_of_suc-le-suc b) (λ j k x y z. n j k (omega arith) y (omega arith))
      (λ j x. rest_told (get_or os j 0) m i o os ps (rw (← h) at (e (suc j) (omega arith)))) j (le_of_suc-le-suc l)

-- ---- no account has two rows

module _ (W : World) where
  has_accounts : (a : W.Acc) (o : List (Row W)) → is_in W a (accounts W o) ≡ has W a o
  unfolding is_in accounts has
  has_accounts a [] = refl
  has_accounts a (r ∷ o) = rw (has_accounts a o)

  pub rows_apart : Lawful W → (f : ℕ → Row W) (m i j k : ℕ) → Once W (accounts W (tab_i m i f)) → i ≤ j → j < k → k < i + m → (f j).acc ≡ (f k).acc → ⊥
  unfolding accounts tab_i
  rows_apart L f zero i j k o a l u e = omega arith
  rows_apart L f (suc m) i j k o a l u e =
      by_bool (eqb i j)
      (λ t. clash (is_in W (f i).acc (accounts W (tab_i m (i + 1) f)))
      (has_accounts (f i).acc (tab_i m (i + 1) f)
      ∙ has_tab W (f i).acc m (i + 1) k f (omega (arith, eqb-true i j t)) (omega arith)
      (ap (W.same (f i).acc) (sym e ∙ ap (λ (x : ℕ). (f x).acc) (sym (eqb-true i j t))) ∙ L.self (f i).acc))
      o.0)
      (λ d. let z = eqb-false i j d in rows_apart L f m (i + 1) j k o.1 (omega arith) l (omega arith) e)

module _ (t u : Table) (g : Good t) (f : Good u) (means : group_of t ≡ group_of u) where
  -- ---- the counts

  lists : order_of (listed t) ≡ order_of (listed u)
  lists = ap (λ (x : Group Real). x.lists) means

  slots : slots_of t ≡ slots_of u
  slots = ap (λ (x : Group Real). x.slots) means

  last : if_marked (count t 7) (count t 6) ≡ if_marked (count u 7) (count u 6)
  last = ap (λ (x : Group Real). x.last) means

  held : count t 1 ≡ count u 1
  unfolding slots_of
  held = sym (length_tab (count t 1) 0 (slot_in t)) ∙ ap length slots ∙ length_tab (count u 1) 0 (slot_in u)

  places : count t 2 ≡ count u 2
  unfolding order_of
  places = sym (length_tab (count t 2) 0 (row_in (listed t))) ∙ ap length lists ∙ length_tab (count u 2) 0 (row_in (listed u))

  messages : count t 3 ≡ count u 3
  messages = sym (messages_told t g) ∙ ap (λ (o : List (Row Real)). length (all_msgs Real o)) lists ∙ messages_told u f

  -- ---- the rows

  slot_same : (s : ℕ) → s < count u 1 → slot_in t s ≡ slot_in u s
  unfolding slots_of
  slot_same s l =
      let d = slot_in t s in
      sym (get_d_tab (count t 1) 0 s s (slot_in t) d (sym (zero-add s)) (rw held l))
      ∙ ap (λ (o : List (Slot Real)). get_or o s d) slots
      ∙ get_d_tab (count u 1) 0 s s (slot_in u) d (sym (zero-add s)) l

  row_same : (p : ℕ) → p < count u 2 → row_in (listed t) p ≡ row_in (listed u) p
  unfolding order_of
  row_same p l =
      let d = row_in (listed t) p in
      sym (get_d_tab (count t 2) 0 p p (row_in (listed t)) d (sym (zero-add p)) (rw places l))
      ∙ ap (λ (o : List (Row Real)). get_or o p d) lists
      ∙ get_d_tab (count u 2) 0 p p (row_in (listed u)) d (sym (zero-add p)) l

  -- the slot of an account is the one that lists it
  homes : (a : ℕ) → a < count u 2 → get_or t.home a 0 ≡ get_or u.home a 0
  unfolding order_of
  homes =
      let n = count u 2 in
      owners_told (row_at u.accounts) n 0 t.home u.home (omega (arith, f.accounts, g.lengths.home)) (omega (arith, f.accounts, f.lengths.home))
      (λ j k a l m. rows_apart Real real_lawful (row_in (listed u)) n 0 j k f.tidy.tidy.rows a l m)
      (λ a l.
      let s = get_or t.home a 0 in
      pick_cong (row_at u.accounts) (row_at t.accounts) s n 0 t.home (λ p b c. sym (ap (λ (r : Row Real). r.acc) (row_same p (omega arith))))
      ∙ ap (λ (m : ℕ). pick (row_at t.accounts) s m 0 t.home) (sym places)
      ∙ ap (λ (x : Slot Real). x.accounts) (slot_same s (rw held at (g.housed a (rw places l)))))

  -- ---- every cell

  number_same : count t 0 ≡ count u 0 → (k : ℕ) → k < 8 → count t k ≡ count u k
  number_same e =
      let more = one_more t.numbers u.numbers in
      more 7 (more 6 (more 5 (more 4 (more 3 (more 2 (more 1 (more 0 (λ i l. absurd (not-suc-le-zero l)) e) held) places) messages)
      (g.ints ∙ ap (group_ints Real) means ∙ sym f.ints))
      (g.exts ∙ ap (group_exts Real) means ∙ sym f.exts))
      (least_told _ _ _ _ g.unmarked f.unmarked last))
      (mark_told _ _ _ _ g.marked f.marked last)

  module _ (room : count t 0 ≡ count u 0) (turns : (i : ℕ) → i < count u 3 → get_or t.owner i 0 ≡ get_or u.owner i 0) where
    message_same : (i : ℕ) → i < count u 3 → message_in (listed t) i ≡ message_in (listed u) i
    message_same i l =
        let p = get_or u.owner i 0 in
        let n = count u 3 in
        let few : n ≤ length u.owner = omega (arith, f.messages, f.lengths.owner) in
        let few' : n ≤ length t.owner = omega (arith, f.messages, g.lengths.owner) in
        let list : pick (message_in (listed t)) p n 0 u.owner ≡ pick (message_in (listed u)) p n 0 u.owner =
        sym (pick_owners (message_in (listed t)) p n 0 t.owner u.owner few' few turns)
        ∙ ap (λ (m : ℕ). pick (message_in (listed t)) p m 0 t.owner) (sym messages)
        ∙ ap (λ (r : Row Real). r.msgs) (row_same p (f.placed i l)) in
        picked (message_in (listed t)) (message_in (listed u)) p n 0 i i u.owner list l (omega arith) refl (sym (zero-add i))

    same_cells : t ≡ u
    same_cells i =
        let long = g.lengths in
        let long' = f.lengths in
        let rest = g.blank in
        let rest' = f.blank in
        record {
          number = whole t.number u.number long.number long'.number held (λ s l. ap (λ (x : Slot Real). x.number) (slot_same s l)) rest.number rest'.number i;
          ints = whole t.ints u.ints long.ints long'.ints held (λ s l. ap (λ (x : Slot Real). x.ints) (slot_same s l)) rest.ints rest'.ints i;
          exts = whole t.exts u.exts long.exts long'.exts held (λ s l. ap (λ (x : Slot Real). x.exts) (slot_same s l)) rest.exts rest'.exts i;
          accounts = whole_flat t.accounts u.accounts long.accounts long'.accounts places
              (λ p l. ap (λ (r : Row Real). r.acc) (row_same p l)) rest.accounts rest'.accounts i;
          home = whole t.home u.home long.home long'.home places homes rest.home rest'.home i;
          owner = whole t.owner u.owner long.owner long'.owner messages turns rest.owner rest'.owner i;
          kind = whole t.kind u.kind long.kind long'.kind messages (λ k l. ap (λ (m : Message). m.kind) (message_same k l)) rest.kind rest'.kind i;
          form = whole t.form u.form long.form long'.form messages
              (λ k l. form_told _ _ (g.forms k (rw messages l)) (f.forms k l) (ap (λ (m : Message). m.form) (message_same k l))) rest.form rest'.form i;
          time = whole t.time u.time long.time long'.time messages (λ k l. ap (λ (m : Message). m.time) (message_same k l)) rest.time rest'.time i;
          address = whole_flat t.address u.address long.address long'.address messages
              (λ k l. ap (λ (m : Message). m.address) (message_same k l)) rest.address rest'.address i;
          hash = whole_flat t.hash u.hash long.hash long'.hash messages (λ k l. ap (λ (m : Message). m.hash) (message_same k l)) rest.hash rest'.hash i;
          buckets = one_way t.buckets u.buckets g.buckets f.buckets (ap (λ (x : Group Real). x.index) means) i;
          numbers = whole t.numbers u.numbers long.numbers long'.numbers refl (number_same room) rest.numbers rest'.numbers i;
        }

pub same_group : (t u : Table) → Good t → Good u → meant t ≡ meant u → ((i : ℕ) → i < count u 3 → get_or t.owner i 0 ≡ get_or u.owner i 0) → t ≡ u
same_group t u g f means = same_cells t u g f (ap (λ (x : Target Real). x.now) means) (ap (λ (x : Target Real). x.S) means)
