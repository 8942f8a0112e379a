-- The order with one message more: where a half holds what another holds and one row behind it, its order is the other's with that message
-- given to its account. The account's place is its seat, or a new place behind the last. Assumes nothing.
use mathlib.Core.Path.{◌≡◌, refl, sym, ap, ap₂, ◌∙◌}
use mathlib.Core.Bool.{true, false, cond, not}
use mathlib.Core.List.{List, [], ◌∷◌, ◌++◌, append-nil}
use Prim.Native.Nat.{ℕ, zero, suc, ◌+◌, ◌<◌, ◌≤◌}
use native.Mathlib.Nat.{not-suc-le-zero, le_refl}
use native.Mathlib.Omega.{arith}
use lib.Dec.{eqb, leb, ltb}
use lib.ListN.{length, get_or}
use borrow.Author.Tests.{eq-eqb, ne_eqb, eqb-true, eqb-false, le-leb, lt-leb, ltb-true, ltb-false}
use Rattle.numbers.specs.Bytes.{eq_l}
use Rattle.numbers.proofs.Bytes.{by_bool, eq_l_true, eq_l_self}
use Rattle.columns.specs.Lists.{tab_i, pick}
use Rattle.columns.specs.Rows.{row_at, rows_of}
use Rattle.columns.proofs.Tabs.{later, tab_cong, tab_snoc, pick_snoc, pick_none}
use Rattle.columns.proofs.Rows.{length_rows, get_d_rows}
use Rattle.columns.proofs.Index.{index_le, index_found, index_first}
use Rattle.rules.specs.World.{World, Row}
use Rattle.rules.specs.Queues.{has, give}
use Rattle.message.specs.declared.Message.{Message}
use Rattle.message.specs.Real.{Real}
use Rattle.queues.specs.Cols.{Half}
use Rattle.queues.specs.Meant.{message_in, row_in, order_of}
use Rattle.queues.specs.Look.{seat_of}
use Rattle.queues.proofs.Meaning.{SameRows, same_queue}

-- ---- rows in a table

module _ (W : World) (a : W.Acc) where
  pub has_tab : (m i k : ℕ) (f : ℕ → Row W) → i ≤ k → k < i + m → W.same a (f k).acc ≡ true → has W a (tab_i m i f) ≡ true
  unfolding has tab_i
  has_tab zero i k f l u e = absurd (not-suc-le-zero {n = 0} (omega arith))
  has_tab (suc m) i k f l u e =
      by_bool (eqb i k)
      (λ t. rw (eqb-true i k t, e))
      (λ t. let n = eqb-false i k t in let r = has_tab m (i + 1) k f (omega arith) (omega arith) e in
      by_bool (W.same a (f i).acc) (λ s. rw s) (λ s. rw s r))

  module _ (f : ℕ → Row W) where
    pub has_none : (m i : ℕ) → ((j : ℕ) → i ≤ j → j < i + m → W.same a (f j).acc ≡ false) → has W a (tab_i m i f) ≡ false
    unfolding has tab_i
    has_none zero i h = refl
    has_none (suc m) i h = rw (h i (le_refl i) (omega arith)) (has_none m (i + 1) (later m i h))

    module _ (x : W.Msg) where
      -- an account with no row gets one behind the last
      pub give_none : (m i : ℕ) → ((j : ℕ) → i ≤ j → j < i + m → W.same a (f j).acc ≡ false)
          → give W a (x ∷ []) (tab_i m i f) ≡ tab_i m i f ++ (record { acc = a; msgs = x ∷ [] } ∷ [])
      unfolding give tab_i
      give_none zero i h = refl
      give_none (suc m) i h =
          rw (h i (le_refl i) (omega arith)) (ap (λ (l : List (Row W)). f i ∷ l) (give_none m (i + 1) (later m i h)))

      -- the first row of the account is row k
      pub give_tab : (g : ℕ → Row W) (m i k : ℕ) → i ≤ k → k < i + m → W.same a (f k).acc ≡ true
          → ((j : ℕ) → i ≤ j → j < k → W.same a (f j).acc ≡ false)
          → g k ≡ record { acc = (f k).acc; msgs = (f k).msgs ++ (x ∷ []) }
          → ((j : ℕ) → i ≤ j → j < i + m → (j ≡ k → ⊥) → g j ≡ f j) → tab_i m i g ≡ give W a (x ∷ []) (tab_i m i f)
      unfolding give tab_i
      give_tab g zero i k l u e n v o = absurd (not-suc-le-zero {n = 0} (omega arith))
      give_tab g (suc m) i k l u e n v o =
          by_bool (eqb i k)
          (λ t. let z = eqb-true i k t in
          rw (z, e) (ap₂ ◌∷◌ v (tab_cong m (k + 1) g f (λ j b c. o j (omega arith) (omega arith) (λ r. omega arith)))))
          (λ t. let z = eqb-false i k t in
          rw (n i (le_refl i) (omega arith))
          (ap₂ ◌∷◌ (o i (le_refl i) (omega arith) z)
          (give_tab g m (i + 1) k (omega arith) (omega arith) e (λ j b. n j (omega arith)) v (λ j b c. o j (omega arith) (omega arith)))))

-- ---- the seat of an account

module _ (h : Half) (a : List ℕ) where
  abbrev seat : ℕ
  seat = seat_of h.accounts h.places a

  pub seat_le : seat ≤ h.places
  seat_le = omega (arith, index_le a [] (rows_of h.places h.accounts), length_rows h.places h.accounts)

  pub seat_found : seat < h.places → eq_l a (row_at h.accounts seat) ≡ true
  seat_found l =
      let rows = rows_of h.places h.accounts in
      let e : row_at h.accounts seat ≡ a =
      sym (get_d_rows h.places seat h.accounts [] l) ∙ index_found a [] rows (omega (arith, length_rows h.places h.accounts)) in
      rw e (eq_l_self a)

  pub seat_first : (j : ℕ) → j < seat → eq_l a (row_at h.accounts j) ≡ false
  seat_first j l =
      let rows = rows_of h.places h.accounts in
      by_bool (eq_l a (row_at h.accounts j))
      (λ t. absurd (index_first a [] rows j l (get_d_rows h.places j h.accounts [] (omega (arith, seat_le)) ∙ sym (eq_l_true a _ t))))
      (λ f. f)

  -- "A counts what the buffer holds now": an account is new where its seat is behind the last
  pub has_seat : leb h.places seat ≡ not (has Real a (order_of h))
  unfolding order_of
  has_seat =
      by_bool (ltb seat h.places)
      (λ t. let l = ltb-true seat h.places t in
      rw (lt-leb h.places seat l, has_tab Real a h.places 0 seat (row_in h) (omega arith) (omega arith) (seat_found l)))
      (λ t. let l = ltb-false seat h.places t in
      rw (le-leb h.places seat l, has_none Real a (row_in h) h.places 0 (λ j b c. seat_first j (omega arith))))

-- ---- one message more

-- k holds what h holds, and message m behind it, whose owner is p
pub record OneMore (h k : Half) (m : Message) (p : ℕ) : Type 0 where
  pub messages : k.messages ≡ suc h.messages
  pub rows : SameRows h.messages h.places k h
  pub long : h.messages < length k.owner
  pub owner : get_or k.owner h.messages 0 ≡ p
  pub message : message_in k h.messages ≡ m

module _ (h k : Half) (m : Message) (p : ℕ) (o : OneMore h k m p) where
  abbrev queue_of : Half → ℕ → List Message
  queue_of x q = pick (message_in x) q x.messages 0 x.owner

  queue_more : (q : ℕ) → queue_of k q ≡ queue_of h q ++ cond (eqb p q) (m ∷ []) []
  queue_more q =
      ap (λ (n : ℕ). pick (message_in k) q n 0 k.owner) o.messages
      ∙ pick_snoc (message_in k) q h.messages 0 h.messages k.owner (omega arith) o.long
      ∙ (λ i. same_queue k h h.messages h.places o.rows q i ++ cond (eqb (o.owner i) q) (o.message i ∷ []) [])

  queue_own : queue_of k p ≡ queue_of h p ++ (m ∷ [])
  queue_own = rw (eq-eqb p p refl) at (queue_more p)

  queue_other : (q : ℕ) → (q ≡ p → ⊥) → queue_of k q ≡ queue_of h q
  queue_other q n = (rw (ne_eqb p q (λ e. n (sym e))) at (queue_more q)) ∙ append-nil (queue_of h q)

  row_other : (q : ℕ) → q < h.places → (q ≡ p → ⊥) → row_in k q ≡ row_in h q
  row_other q l n = λ i. record { acc = o.rows.accounts q l i; msgs = queue_other q n i }

  module _ (a : List ℕ) (seated : p ≡ seat_of h.accounts h.places a) where
    -- to an account that has a queue
    pub order_old : p < h.places → k.places ≡ h.places → order_of k ≡ give Real a (m ∷ []) (order_of h)
    unfolding order_of
    order_old l e =
        ap (λ (n : ℕ). tab_i n 0 (row_in k)) e
        ∙ give_tab Real a (row_in h) m (row_in k) h.places 0 p (omega arith) (omega arith)
        (rw seated (seat_found h a (rw seated at l)))
        (λ j b c. seat_first h a j (omega arith))
        (λ i. record { acc = o.rows.accounts p l i; msgs = queue_own i })
        (λ j b c n. row_other j (omega arith) n)

    -- to a new one, whose row is the next
    pub order_new : h.places ≤ p → k.places ≡ suc h.places → row_at k.accounts h.places ≡ a
        → ((i : ℕ) → i < h.messages → get_or h.owner i 0 < h.places) → order_of k ≡ give Real a (m ∷ []) (order_of h)
    unfolding order_of
    order_new l e r own =
        let z : p ≡ h.places = omega (arith, seat_le h a) in
        ap (λ (n : ℕ). tab_i n 0 (row_in k)) e
        ∙ tab_snoc h.places 0 h.places (row_in k) (omega arith)
        ∙ ap₂ ◌++◌ (tab_cong h.places 0 (row_in k) (row_in h) (λ j b c. row_other j (omega arith) (λ t. omega arith)))
        (ap (λ (x : Row Real). x ∷ []) (new z r own))
        ∙ sym (give_none Real a (row_in h) m h.places 0 (λ j b c. seat_first h a j (omega arith)))
      where
        none : p ≡ h.places → ((i : ℕ) → i < h.messages → get_or h.owner i 0 < h.places) → queue_of h p ≡ []
        none z own = pick_none (message_in h) p h.messages 0 h.owner (λ j c e. let x = own j c in omega arith)

        new : p ≡ h.places → row_at k.accounts h.places ≡ a → ((i : ℕ) → i < h.messages → get_or h.owner i 0 < h.places)
            → row_in k h.places ≡ record { acc = a; msgs = m ∷ [] }
        new z r own = λ i. record { acc = r i; msgs = (ap (queue_of k) (sym z) ∙ queue_own ∙ ap (λ (l : List Message). l ++ (m ∷ [])) (none z own)) i }
