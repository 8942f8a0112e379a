-- What a join lays over the columns fits them, so each column of the left has the right's behind its own: `Laid`. Assumes nothing.
use mathlib.Core.Path.{◌≡◌}
use mathlib.Core.Bool.{cond}
use mathlib.Core.List.{List}
use Prim.Native.Nat.{ℕ, ◌+◌, ◌-◌, ◌*◌, ◌≤◌}
use native.Mathlib.Omega.{arith}
use lib.Dec.{eqb}
use lib.ListN.{length, get_or}
use Rattle.columns.specs.Lists.{tab_i}
use Rattle.columns.proofs.Tabs.{length_tab}
use Rattle.message.specs.Answers.{Done}
use Rattle.slots.specs.Table.{Table, count}
use Rattle.slots.specs.Good.{Good}
use Rattle.slots.specs.Join.{next_t, join_code_t, joined_t}
use Rattle.group_rules.proofs.Behind.{Owners}
use Rattle.group_rules.proofs.Follows.{Follows, up, laid_follows, moved_follows, raised_follows, raised_owners}
use Rattle.group_rules.proofs.JoinCode.{Joins, joins}
use Rattle.group_rules.proofs.JoinNumbers.{numbers_long, number_0, number_1, number_2, number_3, number_4, number_5, number_6, number_7, number_rest}
use Rattle.group_rules.proofs.Room.{messages_few, accounts_few}

-- two well-formed groups whose join is accepted
pub record Pair (l r : Table) : Type 0 where
  pub left : Good l
  pub right : Good r
  pub joins : Joins l r

pub pair : {l r : Table} → Good l → Good r → join_code_t l r ≡ Done → Pair l r
pair {l} {r} good good2 done = record { left = good; right = good2; joins = joins l r done }

module _ {l r : Table} (p : Pair l r) where
  pub slots_fit : count l 1 + count r 1 ≤ 64
  slots_fit = omega (arith, p.joins.slots, p.left.S·high)

  pub messages_fit : count l 3 + count r 3 ≤ 1024
  messages_fit = omega (arith, slots_fit, messages_few l p.left, messages_few r p.right)

  pub accounts_fit : count l 2 + count r 2 ≤ 1024
  accounts_fit = omega (arith, messages_fit, accounts_few l p.left, accounts_few r p.right)

-- the slots, accounts and messages of the right behind those of the left
pub record Laid (l r j : Table) : Type 0 where
  pub number : Follows (count l 1) (count r 1) (tab_i (count r 1) (next_t l) (λ n. n)) l.number j.number
  pub ints : Follows (count l 1) (count r 1) r.ints l.ints j.ints
  pub exts : Follows (count l 1) (count r 1) r.exts l.exts j.exts
  pub accounts : Follows (32 * count l 2) (32 * count r 2) r.accounts l.accounts j.accounts
  pub home : Owners (count l 1) (count l 2) (count r 2) j.home l.home r.home
  pub owner : Owners (count l 2) (count l 3) (count r 3) j.owner l.owner r.owner
  pub kind : Follows (count l 3) (count r 3) r.kind l.kind j.kind
  pub form : Follows (count l 3) (count r 3) r.form l.form j.form
  pub time : Follows (count l 3) (count r 3) r.time l.time j.time
  pub address : Follows (32 * count l 3) (32 * count r 3) r.address l.address j.address
  pub hash : Follows (32 * count l 3) (32 * count r 3) r.hash l.hash j.hash
  -- the cells of the owners too
  pub home·cells : Follows (count l 2) (count r 2) (up (count l 1) (count r 2) r.home) l.home j.home
  pub owner·cells : Follows (count l 3) (count r 3) (up (count l 2) (count r 3) r.owner) l.owner j.owner
  -- the numbers
  pub S : count j 0 ≡ count l 0
  pub slots·held : count j 1 ≡ count l 1 + count r 1
  pub accounts·held : count j 2 ≡ count l 2 + count r 2
  pub messages·held : count j 3 ≡ count l 3 + count r 3
  pub ints·held : count j 4 ≡ count l 4 + count r 4
  pub exts·held : count j 5 ≡ count l 5 + count r 5
  pub last : count j 6 ≡ cond (eqb (count r 1) 0) (count l 6) (next_t l + count r 1 - 1)
  pub marked : count j 7 ≡ cond (eqb (count r 1) 0) (count l 7) 1
  pub rest : (i : ℕ) → 8 ≤ i → get_or j.numbers i 0 ≡ get_or l.numbers i 0
  pub numbers : length j.numbers ≡ length l.numbers

module _ {l r : Table} (p : Pair l r) (cells : List ℕ) where
  pub laid : Laid l r (joined_t l r cells)
  unfolding joined_t
  laid =
      let x = p.left.lengths in
      let y = p.right.lengths in
      let s = slots_fit p in
      let a = accounts_fit p in
      let m = messages_fit p in
      let new = length_tab (count r 1) (next_t l) (λ (n : ℕ). n) in
      record {
        number = rw new at (laid_follows (count l 1) (tab_i (count r 1) (next_t l) (λ n. n)) l.number (omega (arith, x.number)));
        ints = moved_follows (count l 1) (count r 1) r.ints l.ints (omega (arith, y.ints)) (omega (arith, x.ints));
        exts = moved_follows (count l 1) (count r 1) r.exts l.exts (omega (arith, y.exts)) (omega (arith, x.exts));
        accounts = moved_follows (32 * count l 2) (32 * count r 2) r.accounts l.accounts (omega (arith, y.accounts)) (omega (arith, x.accounts));
        home = raised_owners (count l 1) (count l 2) (count r 2) r.home l.home (omega (arith, y.home)) (omega (arith, x.home)) p.left.housed;
        owner = raised_owners (count l 2) (count l 3) (count r 3) r.owner l.owner (omega (arith, y.owner)) (omega (arith, x.owner)) p.left.placed;
        kind = moved_follows (count l 3) (count r 3) r.kind l.kind (omega (arith, y.kind)) (omega (arith, x.kind));
        form = moved_follows (count l 3) (count r 3) r.form l.form (omega (arith, y.form)) (omega (arith, x.form));
        time = moved_follows (count l 3) (count r 3) r.time l.time (omega (arith, y.time)) (omega (arith, x.time));
        address = moved_follows (32 * count l 3) (32 * count r 3) r.address l.address (omega (arith, y.address)) (omega (arith, x.address));
        hash = moved_follows (32 * count l 3) (32 * count r 3) r.hash l.hash (omega (arith, y.hash)) (omega (arith, x.hash));
        home·cells = raised_follows (count l 1) (count l 2) (count r 2) r.home l.home (omega (arith, y.home)) (omega (arith, x.home));
        owner·cells = raised_follows (count l 2) (count l 3) (count r 3) r.owner l.owner (omega (arith, y.owner)) (omega (arith, x.owner));
        S = number_0 (next_t l) l.numbers r.numbers;
        slots·held = number_1 (next_t l) l.numbers r.numbers x.numbers;
        accounts·held = number_2 (next_t l) l.numbers r.numbers x.numbers;
        messages·held = number_3 (next_t l) l.numbers r.numbers x.numbers;
        ints·held = number_4 (next_t l) l.numbers r.numbers x.numbers;
        exts·held = number_5 (next_t l) l.numbers r.numbers x.numbers;
        last = number_6 (next_t l) l.numbers r.numbers x.numbers;
        marked = number_7 (next_t l) l.numbers r.numbers x.numbers;
        rest = number_rest (next_t l) l.numbers r.numbers;
        numbers = numbers_long (next_t l) l.numbers r.numbers;
      }
