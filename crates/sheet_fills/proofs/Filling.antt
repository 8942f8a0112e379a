-- A fill with the rows of a sheet: what the call answers is what the rules answer on what the columns mean. Assumes nothing.
use mathlib.Core.Path.{◌≡◌, sym, ap, ◌∙◌}
use mathlib.Core.List.{List}
use Prim.Native.Nat.{ℕ, ◌*◌, ◌/◌, ◌≤◌, ◌<◌, min}
use native.Mathlib.Nat.{mul-div_right, zero-add}
use native.Mathlib.Omega.{arith}
use lib.ListN.{length, get_or, take, replicate, length-replicate, get_or-replicate}
use lib.Seq.{length-take-le}
use Rattle.rules.specs.Calls.{fill_group}
use Rattle.numbers.specs.Bytes.{zeros}
use Rattle.message.specs.Real.{Real, Key, filter_of}
use Rattle.columns.specs.Lists.{tab_i}
use Rattle.columns.specs.Rows.{row_at}
use Rattle.columns.proofs.Rows.{get_d_rows, rows_first, rows_zeros}
use Rattle.columns.proofs.Tabs.{tab_cong, tab_get_d}
use Rattle.queues.specs.Meant as queues
use Rattle.slots.specs.Meant as slots
use Rattle.settle_rules.specs.Facts.{key_at, keys_of}
use Rattle.entry_rules.specs.Calling as called
use Rattle.entry_rules.specs.Calling.{Call, args}
use Rattle.fill_rules.specs.Fills.{Keys, keys, Fills}
use Rattle.fill_answer.specs.declared.Asked.{Asked}
use Rattle.lintelsong.specs.declared.Buffer.{Buffer}
use Rattle.lintelsong.specs.declared.Group.{Group}
use Rattle.lintelsong.specs.declared.Skipped.{Skipped}
use Rattle.lintelsong.specs.declared.fill_calls.FillAnswer.{FillAnswer}
use Rattle.lintelsong.specs.Closed.{cols_of, table_of, accounts_in, call_on, says_in, left_in}
use Rattle.sheet_rows.specs.Answer.{no_keys}
use Rattle.sheet_rows.specs.Asking.{args_of}
use Rattle.sheet_fills.specs.declared.skips.Rows.{Rows}
use Rattle.sheet_fills.specs.Steps.{GoodRows, skip_in, skips_in, FillsBy}

-- ---- the arguments

-- as many rows as are counted
pub count_rows : (n : ℕ) (names verdicts costs : List ℕ) → n ≤ 64 → length names ≡ 32 * n → length verdicts ≡ 64 → length costs ≡ 64
    → min (min (length names / 32) (length verdicts)) (length costs) ≡ n
count_rows n names verdicts costs few a b c =
    let whole : length names / 32 ≡ n = ap (λ (k : ℕ). k / 32) a ∙ mul-div_right n (omega arith) in
    rw (whole, b, c) (omega arith)

-- the rows of a front
pub row_front : (n i : ℕ) (bytes : List ℕ) → 32 * n ≤ length bytes → i < n → row_at (take (32 * n) bytes) i ≡ row_at bytes i
row_front n i bytes fits l =
    sym (get_d_rows n i (take (32 * n) bytes) zeros l)
    ∙ ap (λ (rs : List (List ℕ)). get_or rs i zeros) (rows_first n bytes fits)
    ∙ get_d_rows n i bytes zeros l

-- a key list of fresh rows
key : Key
key = record { lt = 0; hash = zeros }

row_fresh : (n j : ℕ) → j < n → row_at (replicate (32 * n) 0) j ≡ zeros
row_fresh n j l =
    sym (get_d_rows n j (replicate (32 * n) 0) zeros l)
    ∙ ap (λ (rs : List (List ℕ)). get_or rs j zeros) (rows_zeros n)
    ∙ get_or-replicate n j zeros zeros l

keys_any : (n : ℕ) → keys_of n (replicate n 0) (replicate (32 * n) 0) ≡ replicate n key
unfolding keys_of key
keys_any n =
    tab_get_d key (replicate n key) n 0 (sym (length-replicate n key)) (key_at (replicate n 0) (replicate (32 * n) 0)) (λ j l.
    rw (zero-add j) ((λ i. record { lt = get_or-replicate n j 0 0 l i; hash = row_fresh n j l i }) ∙ sym (get_or-replicate n j key key l)))

pub keys_fresh : keys_of 256 (replicate 256 0) (replicate 8192 0) ≡ no_keys
unfolding no_keys key
keys_fresh = keys_any 256

-- ---- the call

module _ (rows : Rows) (good : GoodRows rows) (asked : Asked) (b : Buffer) (g : Group) (s : Skipped) where
  abbrev call : Call
  call = call_on b g s asked (take (32 * rows.count) rows.names) rows.verdicts rows.costs

  fits : 32 * rows.count ≤ length rows.names
  fits = omega (arith, good.few, good.names_long)

  same_rows : (args call).rows ≡ skips_in rows
  same_rows =
      let n = rows.count in
      ap (λ (k : ℕ). tab_i k 0 (called.skip_in call.said))
      (count_rows n (take (32 * n) rows.names) rows.verdicts rows.costs good.few (length-take-le (32 * n) rows.names fits) good.verdicts_long good.costs_long)
      ∙ tab_cong n 0 (called.skip_in call.said) (skip_in rows) (λ j _ h.
      λ k. record { acc = row_front n j rows.names fits (omega arith) k; skip = (skip_in rows j).skip; cost = (skip_in rows j).cost })

  same_args : args call ≡ args_of (skips_in rows) asked
  same_args = λ i. record { asked = asked.slots; height = asked.height; filter = filter_of asked.filter; rows = same_rows i; cost = asked.cost }

  pub fills_by : (lts hashes : List ℕ) → length lts ≡ 256 → length hashes ≡ 8192 → keys_of 256 lts hashes ≡ no_keys → (r : FillAnswer) (after : Keys)
      → Fills call (keys lts hashes) (says_in r) (left_in r after)
      → FillsBy (fill_group Real (args_of (skips_in rows) asked) no_keys (queues.meant (cols_of b)) (slots.meant (table_of g)) (accounts_in s)) r
  fills_by lts hashes x y e r after f =
      let n : min (length lts) (length hashes / 32) ≡ 256 = rw (x, y) in
      let k = ap (λ (m : ℕ). keys_of m lts hashes) n ∙ e in
      let p = f.ruled ∙ (λ i. fill_group Real (same_args i) (k i) (queues.meant (cols_of b)) (slots.meant (table_of g)) (accounts_in s)) in
      record {
        good = f.good;
        code = λ i. (p i).code;
        collected = λ i. (p i).collected;
        operations = λ i. (p i).ops;
        dropped = λ i. (p i).dropped;
        store = λ i. (p i).store;
        target = λ i. (p i).target;
        skipped = λ i. (p i).skipped;
      }
