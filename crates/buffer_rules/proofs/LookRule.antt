-- What is read off the columns is what the rules read off their meaning: the counts, the queue of an account, the account at a place, the
-- message at a position. Assumes nothing.
use mathlib.Core.Path.{◌≡◌, refl, sym, ap, ap₂, ◌∙◌}
use mathlib.Core.Bool.{Bool, true, false, cond}
use mathlib.Core.List.{List, [], ◌∷◌}
use mathlib.Core.Option.{Option, none, some}
use Prim.Native.Nat.{ℕ, zero, suc, ◌+◌, ◌*◌, ◌<◌, ◌≤◌}
use native.Mathlib.Nat.{not-suc-le-zero, le_of_suc-le-suc, add-zero, zero-add}
use native.Mathlib.Numerals.{add-one}
use native.Mathlib.Omega.{arith}
use lib.Dec.{eqb, ltb, leb}
use lib.ListN.{length, get_or, take, drop}
use lib.Seq.{drop-drop}
use borrow.Author.Tests.{eq-eqb, ne_eqb, eqb-true, eqb-false, lt-ltb, le-ltb, ltb-true, ltb-false}
use Rattle.numbers.specs.Bytes.{eq_l}
use Rattle.numbers.proofs.Bytes.{by_bool, eq_l_sym}
use Rattle.columns.specs.Lists.{tab_i, pick, count_i}
use Rattle.columns.specs.Rows.{row_at, rows_of, index_of}
use Rattle.columns.proofs.Tabs.{length_tab, length_pick, pick_none}
use Rattle.rules.specs.World.{Row, nth}
use Rattle.rules.specs.Queues.{at, accounts, queue_at, all_msgs, held_accounts, full_by_count, queued, account_at, message_at}
use Rattle.message.specs.declared.Message.{Message}
use Rattle.message.specs.Real.{Real}
use Rattle.queues.specs.Cols.{Cols, Half, live, number}
use Rattle.queues.specs.Meant.{message_in, row_in, order_of, buffer_of, meant}
use Rattle.queues.specs.Good.{GoodHalf, Good}
use Rattle.queues.specs.Look.{seat_of, owned_by, row_of}
use Rattle.queues.proofs.Counts.{all_counted}

-- ---- general

none_left : (x bytes : List ℕ) → index_of x (rows_of 0 bytes) ≡ 0
unfolding index_of rows_of
none_left x bytes = refl

module _ (h : Half) where
  -- ---- the queue of an account
  first_row : (a i : ℕ) → rows_of (suc a) (drop (32 * i) h.accounts) ≡ row_at h.accounts i ∷ rows_of a (drop (32 * (i + 1)) h.accounts)
  unfolding rows_of row_at
  first_row a i =
      let e : 32 * i + 32 ≡ 32 * (i + 1) = omega arith in
      ap (λ (l : List ℕ). row_at h.accounts i ∷ rows_of a l) (drop-drop 32 (32 * i) h.accounts ∙ ap (λ (k : ℕ). drop k h.accounts) e)

  index_split : (x : List ℕ) (a i : ℕ) → index_of x (rows_of (suc a) (drop (32 * i) h.accounts))
      ≡ cond (eq_l (row_at h.accounts i) x) 0 (suc (index_of x (rows_of a (drop (32 * (i + 1)) h.accounts))))
  unfolding index_of
  index_split x a i = ap (index_of x) (first_row a i)

  abbrev owned : ℕ → ℕ
  owned p = owned_by h.owner h.messages p

  -- among the a places from i on; the place behind them owns nothing
  found : (x : List ℕ) (a i : ℕ) → ((j : ℕ) → j < h.messages → get_or h.owner j 0 ≡ i + a → ⊥)
      → length (at Real x (tab_i a i (row_in h))) ≡ owned (i + index_of x (rows_of a (drop (32 * i) h.accounts)))
  unfolding at tab_i
  found x zero i empty =
      ap length (sym (pick_none (message_in h) (i + 0) h.messages 0 h.owner empty))
      ∙ length_pick (message_in h) (i + 0) h.messages 0 h.owner
      ∙ ap (λ (k : ℕ). owned (i + k)) (sym (none_left x (drop (32 * i) h.accounts)))
  found x (suc a) i empty =
      let z : i + suc a ≡ i + 1 + a = omega arith in
      let ih = found x a (i + 1) (λ j l e. empty j l (e ∙ sym z)) in
      let rest = index_of x (rows_of a (drop (32 * (i + 1)) h.accounts)) in
      let y : i + 1 + rest ≡ i + suc rest = omega arith in
      let split = index_split x a i in
      by_bool (eq_l (row_at h.accounts i) x)
      (λ t. rw (eq_l_sym x (row_at h.accounts i), t)
      (length_pick (message_in h) i h.messages 0 h.owner ∙ ap owned (sym (ap (λ (k : ℕ). i + k) (split ∙ rw t) ∙ add-zero i))))
      (λ f. rw (eq_l_sym x (row_at h.accounts i), f) (ih ∙ ap owned (y ∙ sym (ap (λ (k : ℕ). i + k) (split ∙ rw f)))))

  pub queued_told : (x : List ℕ) → ((i : ℕ) → i < h.messages → get_or h.owner i 0 < h.places)
      → owned_by h.owner h.messages (seat_of h.accounts h.places x) ≡ queued Real x (buffer_of h)
  unfolding queued order_of
  queued_told x p =
      sym (found x h.places 0 (λ j l e. let y = p j l in omega arith) ∙ rw zero-add)

  -- ---- the walk in order
  account_nth : (a i p : ℕ) → nth p (accounts Real (tab_i a i (row_in h))) ≡ cond (ltb p a) (some (row_at h.accounts (i + p))) none
  unfolding nth accounts tab_i
  account_nth zero i p = rw (le-ltb p 0 (omega arith))
  account_nth (suc a) i zero = rw (lt-ltb 0 (suc a) (omega arith), add-zero)
  account_nth (suc a) i (suc p) =
      let e : i + 1 + p ≡ i + suc p = omega arith in
      by_bool (ltb p a)
      (λ t. let y = ltb-true p a t in rw (lt-ltb (suc p) (suc a) (omega arith), ← e) (account_nth a (i + 1) p ∙ rw t))
      (λ f. let y = ltb-false p a f in rw (le-ltb (suc p) (suc a) (omega arith)) (account_nth a (i + 1) p ∙ rw f))

  pub account_told : (p : ℕ) → account_at Real p (buffer_of h) ≡ cond (ltb p h.places) (some (row_at h.accounts p)) none
  unfolding account_at order_of
  account_told p = account_nth h.places 0 p ∙ rw zero-add

  queue_of_lem : (a i p : ℕ) → ((j : ℕ) → j < h.messages → get_or h.owner j 0 < i + a) → queue_at Real p (tab_i a i (row_in h)) ≡ pick (message_in h) (i + p) h.messages 0 h.owner
  unfolding queue_at tab_i
  queue_of_lem zero i p o = sym (pick_none (message_in h) (i + p) h.messages 0 h.owner (λ j l e. let y = o j l in omega arith))
  queue_of_lem (suc a) i zero o = rw add-zero
  queue_of_lem (suc a) i (suc p) o =
      let e : i + 1 + p ≡ i + suc p = omega arith in
      queue_of_lem a (i + 1) p (λ j l. let y = o j l in omega arith) ∙ ap (λ (k : ℕ). pick (message_in h) k h.messages 0 h.owner) e

-- the k-th of what is picked, by the row where it stands
pub pick_nth : {A : Type 0} (f : ℕ → A) (n p m i k : ℕ) (os : List ℕ) → i + m ≤ n
    → nth k (pick f p m i os) ≡ cond (ltb (get_or (pick (λ j. j) p m i os) k n) n) (some (f (get_or (pick (λ j. j) p m i os) k n))) none
unfolding pick nth
pick_nth f n p zero i k os l = rw (le-ltb n n (omega arith))
pick_nth f n p (suc m) i k [] l = rw (le-ltb n n (omega arith))
pick_nth f n p (suc m) i k (o ∷ os) l =
    by_bool (eqb o p)
    (λ t. rw t (here (λ k. pick_nth f n p m (i + 1) k os (omega arith)) k))
    (λ e. rw e (pick_nth f n p m (i + 1) k os (omega arith)))
  where
    here : ((k : ℕ) → nth k (pick f p m (i + 1) os)
        ≡ cond (ltb (get_or (pick (λ j. j) p m (i + 1) os) k n) n) (some (f (get_or (pick (λ j. j) p m (i + 1) os) k n))) none)
        → (k : ℕ) → nth k (f i ∷ pick f p m (i + 1) os)
        ≡ cond (ltb (get_or (i ∷ pick (λ j. j) p m (i + 1) os) k n) n) (some (f (get_or (i ∷ pick (λ j. j) p m (i + 1) os) k n))) none
    here ih zero = rw (lt-ltb i n (omega arith))
    here ih (suc k) = ih k

module _ (h : Half) (placed : (i : ℕ) → i < h.messages → get_or h.owner i 0 < h.places) where
  pub message_told : (p k : ℕ) → message_at Real p k (buffer_of h)
      ≡ cond (ltb (row_of h.owner h.messages p k) h.messages) (some (message_in h (row_of h.owner h.messages p k))) none
  unfolding message_at order_of
  message_told p k =
      ap (nth k) (queue_of_lem h h.places 0 p (λ j l. let y = placed j l in omega arith) ∙ rw zero-add)
      ∙ pick_nth (message_in h) h.messages p h.messages 0 k h.owner (omega arith)

-- ---- the counts

pub held_told : (c : Cols) → Good c → length (all_msgs Real (meant c).now.order) ≡ number c 2
held_told c g =
    all_counted (live c) (omega (arith, g.now.messages, g.M·high, g.lengths.owner)) g.now.placed

pub accounts_told : (c : Cols) → held_accounts Real (meant c).now ≡ number c 3
unfolding held_accounts order_of
accounts_told c = length_tab (number c 3) 0 (row_in (live c))

pub full_told : (c : Cols) → Good c → (limit : ℕ) → full_by_count Real limit (meant c).now ≡ leb limit (number c 2)
unfolding full_by_count
full_told c g limit = ap (leb limit) (held_told c g)
