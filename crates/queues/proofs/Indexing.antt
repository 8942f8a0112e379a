-- Columns with the index made anew: the same numbers and the same meaning, and well formed where the columns are but for their index. Then
-- what a search by the index relies on, for columns that are well formed (`sought`). Assumes nothing.
use mathlib.Core.Path.{◌≡◌, sym, ap, subst, ◌∙◌}
use mathlib.Core.Bool.{true}
use mathlib.Core.List.{List, []}
use Prim.Native.Nat.{ℕ, zero, suc, ◌+◌, ◌<◌, ◌≤◌}
use native.Mathlib.Nat.{not-suc-le-zero}
use native.Mathlib.Omega.{arith}
use lib.Dec.{eqb}
use lib.ListN.{length, drop}
use lib.Seq.{ext_get_or}
use borrow.Author.Tests.{eqb-true, eqb-false}
use Rattle.numbers.proofs.Bytes.{by_bool, clash, eq_l_self}
use Rattle.numbers.specs.Bytes.{eq_l}
use Rattle.columns.specs.Lists.{tab_i}
use Rattle.columns.specs.Rows.{row_at, rows_of}
use Rattle.columns.proofs.Rows.{length_rows, get_d_rows}
use Rattle.index.specs.Names.{index_of_names}
use Rattle.index.specs.Needs.{Sought}
use Rattle.index.proofs.Chains.{length_index}
use Rattle.index.proofs.Cells.{length_with, drop_with, get_d_with}
use Rattle.rules.specs.World.{Row}
use Rattle.rules.specs.Queues.{is_in, accounts}
use Rattle.rules.specs.Demand.{Once}
use Rattle.message.specs.Real.{Real}
use Rattle.queues.specs.Cols.{Cols, live, kept, number}
use Rattle.queues.specs.Indexed.{indexed_c}
use Rattle.queues.specs.Meant.{row_in, order_of, buffer_of, if_marked, meant}
use Rattle.queues.specs.Good.{Long, GoodHalf, Blank, Formed, Good}

-- two columns with the same rows have the same names
pub names_same : (n : ℕ) (xs ys : List ℕ) → ((p : ℕ) → p < n → row_at xs p ≡ row_at ys p) → rows_of n xs ≡ rows_of n ys
names_same n xs ys h =
    ext_get_or [] (rows_of n xs) (rows_of n ys) (length_rows n xs ∙ sym (length_rows n ys))
    (λ p l. let k : p < n = omega (arith, length_rows n xs) in get_d_rows n p xs [] k ∙ h p k ∙ sym (get_d_rows n p ys [] k))

-- ---- the index made anew

module _ (a : ℕ) (c : Cols) (enough : 16 ≤ length c.numbers) where
  pub number_indexed : (k : ℕ) → k < 16 → number (indexed_c a c) k ≡ number c k
  unfolding indexed_c
  number_indexed k l = get_d_with (index_of_names (rows_of a c.accounts)) c.numbers enough k l

  pub live_indexed : live (indexed_c a c) ≡ live c
  unfolding indexed_c
  live_indexed = λ i. record {
    owner = c.owner;
    kind = c.kind;
    form = c.form;
    time = c.time;
    address = c.address;
    hash = c.hash;
    accounts = c.accounts;
    messages = number_indexed 2 (omega arith) i;
    places = number_indexed 3 (omega arith) i;
    ints = number_indexed 4 (omega arith) i;
    exts = number_indexed 5 (omega arith) i;
    least = number_indexed 6 (omega arith) i;
    marked = number_indexed 7 (omega arith) i;
  }

  pub kept_indexed : kept (indexed_c a c) ≡ kept c
  unfolding indexed_c
  kept_indexed = λ i. record {
    owner = drop 1024 c.owner;
    kind = drop 1024 c.kind;
    form = drop 1024 c.form;
    time = drop 1024 c.time;
    address = drop 32768 c.address;
    hash = drop 32768 c.hash;
    accounts = drop 8192 c.accounts;
    messages = number_indexed 9 (omega arith) i;
    places = number_indexed 10 (omega arith) i;
    ints = number_indexed 11 (omega arith) i;
    exts = number_indexed 12 (omega arith) i;
    least = number_indexed 13 (omega arith) i;
    marked = number_indexed 14 (omega arith) i;
  }

  pub meant_indexed : meant (indexed_c a c) ≡ meant c
  meant_indexed = λ i. record {
    M = number_indexed 0 (omega arith) i;
    A = number_indexed 1 (omega arith) i;
    now = buffer_of (live_indexed i);
    kept = if_marked (number_indexed 8 (omega arith) i) (buffer_of (kept_indexed i));
  }

  blank_indexed : Blank c → Blank (indexed_c a c)
  unfolding indexed_c
  blank_indexed b =
      let n = number_indexed 2 (omega arith) in
      let p = number_indexed 3 (omega arith) in
      record {
        owner = rw n b.owner;
        kind = rw n b.kind;
        form = rw n b.form;
        time = rw n b.time;
        address = rw n b.address;
        hash = rw n b.hash;
        accounts = rw p b.accounts;
        last = number_indexed 15 (omega arith) ∙ b.last;
      }

  long_indexed : Long c → Long (indexed_c a c)
  unfolding indexed_c
  long_indexed l = record {
    owner = l.owner;
    kind = l.kind;
    form = l.form;
    time = l.time;
    address = l.address;
    hash = l.hash;
    accounts = l.accounts;
  }

pub good_indexed : {said : Type 0} (a : ℕ) (c : Cols) → number c 3 ≡ a → Formed said c → Good (indexed_c a c)
unfolding indexed_c
good_indexed a c e g =
    let enough : 16 ≤ length c.numbers = omega (arith, g.many) in
    let few : a ≤ 256 = omega (arith, g.now.places, g.A·high) in
    let names = rows_of a c.accounts in
    let M = number_indexed a c enough 0 (omega arith) in
    let A = number_indexed a c enough 1 (omega arith) in
    let opened = number_indexed a c enough 8 (omega arith) in
    record {
      lengths = long_indexed a c enough g.lengths;
      many = length_with (index_of_names names) c.numbers enough ∙ omega (arith, length_index names (omega (arith, length_rows a c.accounts)));
      M·low = rw M g.M·low;
      M·high = rw M g.M·high;
      A·low = rw A g.A·low;
      A·high = rw A g.A·high;
      now = rw (M, A) (subst (GoodHalf (number c 0) (number c 1)) (sym (live_indexed a c enough)) g.now);
      blank = blank_indexed a c enough g.blank;
      opened = rw opened g.opened;
      then = λ o. rw (M, A) (subst (GoodHalf (number c 0) (number c 1)) (sym (kept_indexed a c enough)) (g.then (sym opened ∙ o)));
      index =
          drop_with (index_of_names names) c.numbers enough
          ∙ ap (λ (n : ℕ). index_of_names (rows_of n c.accounts)) (sym (number_indexed a c enough 3 (omega arith) ∙ e));
    }

-- ---- a search by the index

-- an account that stands in a table of rows
in_tab : (x : List ℕ) (f : ℕ → Row Real) (m i k : ℕ) → i ≤ k → k < i + m → x ≡ (f k).acc → is_in Real x (accounts Real (tab_i m i f)) ≡ true
unfolding tab_i accounts is_in
in_tab x f zero i k a l e = absurd (not-suc-le-zero {n = 0} (omega arith))
in_tab x f (suc m) i k a l e =
    by_bool (eqb i k)
    (λ t. let z = eqb-true i k t in rw (z, ← e, eq_l_self x))
    (λ n. let z = eqb-false i k n in
    let r = in_tab x f m (i + 1) k (omega arith) (omega arith) e in
    by_bool (eq_l x (f i).acc) (λ s. rw s) (λ s. rw s r))

-- where no account stands twice, two places have two names
apart : (f : ℕ → Row Real) (m i j k : ℕ) → Once Real (accounts Real (tab_i m i f)) → i ≤ j → j < k → k < i + m → (f j).acc ≡ (f k).acc → ⊥
unfolding tab_i accounts
apart f zero i j k o a b l e = not-suc-le-zero {n = 0} (omega arith)
apart f (suc m) i j k o a b l e =
    by_bool (eqb i j)
    (λ t. let z = eqb-true i j t in
    clash (is_in Real (f i).acc (accounts Real (tab_i m (i + 1) f))) (in_tab (f i).acc f m (i + 1) k (omega arith) (omega arith) (rw z e)) o.0)
    (λ n. let z = eqb-false i j n in apart f m (i + 1) j k o.1 (omega arith) b (omega arith) e)

pub sought : (c : Cols) (x : List ℕ) → Good c → Sought c.accounts (number c 3) c.numbers x
unfolding order_of
sought c x g = record {
  bytes = omega (arith, g.now.places, g.A·high, g.lengths.accounts);
  few = omega (arith, g.now.places, g.A·high);
  index = g.index;
  once = λ i j a b. apart (row_in (live c)) (number c 3) 0 i j g.now.tidy.once (omega arith) a (omega arith);
}
