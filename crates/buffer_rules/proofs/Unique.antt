-- Two buffers that mean the same, whose messages arrived in the same turns, are the same: `half_told` reads the counts and the rows off what
-- a half means, and `same_live` adds that the cells past them hold the fresh value and that the index is that of the names. The exceptions stand in docs/CHOICES.md. Assumes nothing.
use mathlib.Core.Path.{◌≡◌, refl, sym, ap, ◌∙◌}
use mathlib.Core.Bool.{true, false, cond}
use mathlib.Core.List.{List, [], ◌∷◌}
use mathlib.Core.Option.{Option, none, some}
use Prim.Native.Nat.{ℕ, zero, suc, ◌+◌, ◌*◌, ◌/◌, ◌%◌, ◌<◌, ◌≤◌}
use native.Mathlib.Nat.{not-suc-le-zero, le_of_suc-le-suc, zero-add, add-zero}
use native.Mathlib.Omega.{arith}
use lib.Dec.{eqb, ltb}
use lib.ListN.{length, get_or, drop, length-drop}
use borrow.Author.Tests.{eq-eqb, ltb-true, ltb-false}
use Rattle.numbers.proofs.Bytes.{by_bool}
use Rattle.columns.specs.Lists.{tab_i, pick}
use Rattle.columns.specs.Rows.{row_at, rows_of}
use Rattle.index.specs.Names.{index_of_names}
use Rattle.columns.proofs.Tabs.{length_tab, get_d_tab}
use Rattle.columns.proofs.Rows.{row_cell}
use Rattle.rules.specs.World.{Row, Buffer}
use Rattle.rules.specs.Queues.{all_msgs, held_ints, held_exts}
use Rattle.message.specs.declared.Form.{Form}
use Rattle.message.specs.declared.Message.{Message}
use Rattle.message.specs.Real.{Real}
use Rattle.records.specs.Records.{form_of}
use Rattle.queues.specs.Cols.{Cols, Half, live, kept, number}
use Rattle.queues.specs.Meant.{message_in, row_in, if_marked, order_of, buffer_of, meant}
use Rattle.queues.specs.Good.{GoodHalf, Zeros, Good}
use Rattle.queues.proofs.Counts.{all_counted}
use Rattle.queues.proofs.Meaning.{pick_owners, SameRows, SameHalf}
use Rattle.queues.proofs.Indexing.{names_same}

-- ---- one step each

-- what one owner picks tells the function at each of its rows
pub picked : {A : Type 0} (f g : ℕ → A) (p m i j k : ℕ) (os : List ℕ) → pick f p m i os ≡ pick g p m i os → j < m → j < length os → get_or os j 0 ≡ p → k ≡ i + j → f k ≡ g k
unfolding pick
picked f g p zero i j k os e l h o z = absurd (not-suc-le-zero l)
picked f g p (suc m) i j k [] e l h o z = absurd (not-suc-le-zero h)
picked f g p (suc m) i zero k (x ∷ os) e l h o z =
    let t = rw (eq-eqb x p o) at e in
    let y : k ≡ i = z ∙ add-zero i in
    let s : f i ≡ g i = cc in
    rw y s
picked f g p (suc m) i (suc j) k (x ∷ os) e l h o z =
    by_bool (eqb x p)
    (λ t. let w = rw t at e in
    let s : pick f p m (i + 1) os ≡ pick g p m (i + 1) os = cc in
    picked f g p m (i + 1) j k os s (le_of_suc-le-suc l) (le_of_suc-le-suc h) o (omega arith))
    (λ t. picked f g p m (i + 1) j k os (rw t at e) (le_of_suc-le-suc l) (le_of_suc-le-suc h) o (omega arith))

-- a form byte of at most 1 is told by its form
pub form_told : (x y : ℕ) → x ≤ 1 → y ≤ 1 → form_of x ≡ form_of y → x ≡ y
form_told zero zero a b e = refl
form_told zero (suc y) a b e = let z : ◌≡◌ {A = ℕ} 0 1 = cc in absurd (omega arith)
form_told (suc x) zero a b e = let z : ◌≡◌ {A = ℕ} 0 1 = cc in absurd (omega arith)
form_told (suc x) (suc y) a b e = omega arith

-- a mark of at most 1, and a number that is 0 without it
pub mark_told : {X : Type 0} (n m : ℕ) (x y : X) → n ≤ 1 → m ≤ 1 → if_marked n x ≡ if_marked m y → n ≡ m
mark_told zero zero x y a b e = refl
mark_told zero (suc m) x y a b e = let z : ◌≡◌ {A = ℕ} 0 1 = cc in absurd (omega arith)
mark_told (suc n) zero x y a b e = let z : ◌≡◌ {A = ℕ} 0 1 = cc in absurd (omega arith)
mark_told (suc n) (suc m) x y a b e = omega arith

pub least_told : (n m x y : ℕ) → (n ≡ 0 → x ≡ 0) → (m ≡ 0 → y ≡ 0) → if_marked n x ≡ if_marked m y → x ≡ y
least_told zero zero x y a b e = a refl ∙ sym (b refl)
least_told zero (suc m) x y a b e = let z : ◌≡◌ {A = ℕ} 0 1 = cc in absurd (omega arith)
least_told (suc n) zero x y a b e = let z : ◌≡◌ {A = ℕ} 0 1 = cc in absurd (omega arith)
least_told (suc n) (suc m) x y a b e = cc

-- ---- a half is told by what it means and by the turns in which its messages arrived

module _ {M A : ℕ} (h k : Half) (g : GoodHalf M A h) (f : GoodHalf M A k) (long : M ≤ length h.owner) (long' : M ≤ length k.owner)
    (means : buffer_of h ≡ buffer_of k) where
  orders : order_of h ≡ order_of k
  orders = ap (λ (b : Buffer Real). b.order) means

  pub messages : h.messages ≡ k.messages
  messages =
      sym (all_counted h (omega (arith, g.messages)) g.placed)
      ∙ ap (λ (o : List (Row Real)). length (all_msgs Real o)) orders
      ∙ all_counted k (omega (arith, f.messages)) f.placed

  places : h.places ≡ k.places
  unfolding order_of
  places = sym (length_tab h.places 0 (row_in h)) ∙ ap length orders ∙ length_tab k.places 0 (row_in k)

  row_same : (p : ℕ) → p < k.places → row_in h p ≡ row_in k p
  unfolding order_of
  row_same p l =
      let d = row_in h p in
      sym (get_d_tab h.places 0 p p (row_in h) d (sym (zero-add p)) (rw places l))
      ∙ ap (λ (o : List (Row Real)). get_or o p d) orders
      ∙ get_d_tab k.places 0 p p (row_in k) d (sym (zero-add p)) l

  module _ (turns : (i : ℕ) → i < k.messages → get_or h.owner i 0 ≡ get_or k.owner i 0) where
    queue_same : (p : ℕ) → p < k.places → pick (message_in h) p k.messages 0 k.owner ≡ pick (message_in k) p k.messages 0 k.owner
    queue_same p l =
        sym (pick_owners (message_in h) p k.messages 0 h.owner k.owner (omega (arith, f.messages)) (omega (arith, f.messages)) turns)
        ∙ ap (λ (n : ℕ). pick (message_in h) p n 0 h.owner) (sym messages)
        ∙ ap (λ (r : Row Real). r.msgs) (row_same p l)

    message_same : (i : ℕ) → i < k.messages → message_in h i ≡ message_in k i
    message_same i l =
        let p = get_or k.owner i 0 in
        picked (message_in h) (message_in k) p k.messages 0 i i k.owner (queue_same p (f.placed i l)) l (omega (arith, f.messages)) refl (sym (zero-add i))

    pub half_told : SameHalf h k
    half_told = record {
      messages = messages;
      places = places;
      ints = g.ints ∙ ap (held_ints Real) means ∙ sym f.ints;
      exts = g.exts ∙ ap (held_exts Real) means ∙ sym f.exts;
      least = least_told _ _ _ _ g.unmarked f.unmarked (ap (λ (b : Buffer Real). b.least) means);
      marked = mark_told _ _ _ _ g.marked f.marked (ap (λ (b : Buffer Real). b.least) means);
      rows = record {
        long = omega (arith, f.messages);
        long' = omega (arith, f.messages);
        owner = turns;
        kind = λ i l. ap (λ (m : Message). m.kind) (message_same i l);
        form = λ i l. form_told _ _ (g.forms i (rw messages l)) (f.forms i l) (ap (λ (m : Message). m.form) (message_same i l));
        time = λ i l. ap (λ (m : Message). m.time) (message_same i l);
        address = λ i l. ap (λ (m : Message). m.address) (message_same i l);
        hash = λ i l. ap (λ (m : Message). m.hash) (message_same i l);
        accounts = λ p l. ap (λ (r : Row Real). r.acc) (row_same p l);
      };
    }

-- ---- the live half, cell by cell

-- two columns whose rows before n are the same and whose cells from there on hold 0
pub cells_same : (xs ys : List ℕ) (n size : ℕ) → ((i : ℕ) → i < n → get_or xs i 0 ≡ get_or ys i 0) → Zeros xs n size → Zeros ys n size
    → (i : ℕ) → i < size → get_or xs i 0 ≡ get_or ys i 0
cells_same xs ys n size e x y i l =
    by_bool (ltb i n)
    (λ t. e i (ltb-true i n t))
    (λ f. let z = ltb-false i n f in x i z l ∙ sym (y i z l))

-- the same for a flat column, whose rows are the same
pub bytes_same : (xs ys : List ℕ) (n size : ℕ) → ((i : ℕ) → i < n → row_at xs i ≡ row_at ys i) → Zeros xs (32 * n) size → Zeros ys (32 * n) size
    → (i : ℕ) → i < size → get_or xs i 0 ≡ get_or ys i 0
bytes_same xs ys n size e x y = cells_same xs ys (32 * n) size in_row x y
  where
    in_row : (i : ℕ) → i < 32 * n → get_or xs i 0 ≡ get_or ys i 0
    in_row i l =
        let q = i / 32 in
        let r = i % 32 in
        let z : i ≡ 32 * q + r = omega arith in
        rw z
        (sym (row_cell xs q r (omega arith)) ∙ ap (λ (row : List ℕ). get_or row r 0) (e q (omega arith)) ∙ row_cell ys q r (omega arith))

-- what the two live halves have in common: every cell
pub record SameLive (c d : Cols) : Type 0 where
  pub owner : (i : ℕ) → i < 1024 → get_or c.owner i 0 ≡ get_or d.owner i 0
  pub kind : (i : ℕ) → i < 1024 → get_or c.kind i 0 ≡ get_or d.kind i 0
  pub form : (i : ℕ) → i < 1024 → get_or c.form i 0 ≡ get_or d.form i 0
  pub time : (i : ℕ) → i < 1024 → get_or c.time i 0 ≡ get_or d.time i 0
  pub address : (i : ℕ) → i < 32768 → get_or c.address i 0 ≡ get_or d.address i 0
  pub hash : (i : ℕ) → i < 32768 → get_or c.hash i 0 ≡ get_or d.hash i 0
  pub accounts : (i : ℕ) → i < 8192 → get_or c.accounts i 0 ≡ get_or d.accounts i 0
  pub numbers : SameHalf (live c) (live d)
  pub index : drop 16 c.numbers ≡ drop 16 d.numbers

module _ (c d : Cols) (g : Good c) (f : Good d) (M_same : number c 0 ≡ number d 0) (A_same : number c 1 ≡ number d 1) where
  pub same_live : (meant c).now ≡ (meant d).now → ((i : ℕ) → i < number d 2 → get_or c.owner i 0 ≡ get_or d.owner i 0) → SameLive c d
  same_live means turns =
      let good : GoodHalf (number d 0) (number d 1) (live c) = rw (M_same, A_same) at g.now in
      let s = half_told (live c) (live d) good f.now (omega (arith, f.M·high, g.lengths.owner)) (omega (arith, f.M·high, f.lengths.owner)) means turns in
      let n = number d 2 in
      record {
        owner = cells_same c.owner d.owner n 1024 turns (rw s.messages at g.blank.owner) f.blank.owner;
        kind = cells_same c.kind d.kind n 1024 s.rows.kind (rw s.messages at g.blank.kind) f.blank.kind;
        form = cells_same c.form d.form n 1024 s.rows.form (rw s.messages at g.blank.form) f.blank.form;
        time = cells_same c.time d.time n 1024 s.rows.time (rw s.messages at g.blank.time) f.blank.time;
        address = bytes_same c.address d.address n 32768 s.rows.address (rw s.messages at g.blank.address) f.blank.address;
        hash = bytes_same c.hash d.hash n 32768 s.rows.hash (rw s.messages at g.blank.hash) f.blank.hash;
        accounts = bytes_same c.accounts d.accounts (number d 3) 8192 s.rows.accounts (rw s.places at g.blank.accounts) f.blank.accounts;
        numbers = s;
        index =
            g.index
            ∙ ap (λ (n : ℕ). index_of_names (rows_of n c.accounts)) s.places
            ∙ ap index_of_names (names_same (number d 3) c.accounts d.accounts s.rows.accounts)
            ∙ sym f.index;
      }

  -- and what was held at begin: the counts and the rows; the cells past them are the spare room
  pub same_kept : number c 8 ≡ 1 → number d 8 ≡ 1 → (meant c).kept ≡ (meant d).kept
      → ((i : ℕ) → i < number d 9 → get_or (kept c).owner i 0 ≡ get_or (kept d).owner i 0) → SameHalf (kept c) (kept d)
  same_kept p q means turns =
      let good : GoodHalf (number d 0) (number d 1) (kept c) = rw (M_same, A_same) at (g.then p) in
      let then : if_marked 1 (buffer_of (kept c)) ≡ if_marked 1 (buffer_of (kept d)) = rw (p, q) at means in
      half_told (kept c) (kept d) good (f.then q)
      (simp length-drop (omega (arith, f.M·high, g.lengths.owner)))
      (simp length-drop (omega (arith, f.M·high, f.lengths.owner)))
      (cc) turns
