-- Codes 9 to 13 of a fill, the lowest that fits, as one expression over the columns. Assumes nothing.
use Rattle.std.specs.Prelude.{◌≡◌, cond, List, ℕ, ◌-◌, ◌≤◌, ltb, length, get_or, take, Err}
use Rattle.rules.specs.World.{joined}
use Rattle.buckets.specs.Cells.{index, GoodBuckets}
use Rattle.message.specs.Answers.{Code, Done}
use Rattle.message.specs.declared.Refusal.TheVariants.{TooLarge, FewKeys, ManySkips, NumbersUsedUp, Overfull}
use Rattle.limits.specs.Limits.{too_large, many_skips, used_up}
use Rattle.over_height.specs.Heights.{some_above}

-- what the tests read
pub record MayDecide (rows : ℕ) (verdicts : List ℕ) (held : ℕ) (buckets numbers2 : List ℕ) : Type 0 where
  pub rows_fit : rows ≤ length verdicts
  pub held_fits : held ≤ 512
  pub buckets_good : GoodBuckets buckets
  pub few : get_or numbers2 0 0 ≤ 64
  pub slots_fit : get_or numbers2 1 0 ≤ get_or numbers2 0 0
  pub last_fits : get_or numbers2 6 0 ≤ 65535

-- "codes 9 to 13 .. the lowest that fits": the buffer's number 4 is its internals; the group's 0, 1 and 6 are S, its slots and the last number
unfoldable pub code_c : (asked height keys rows : ℕ) (verdicts : List ℕ) (held : ℕ) (numbers number ints exts buckets numbers2 : List ℕ) → Code
code_c asked height keys rows verdicts held numbers number ints exts buckets numbers2 =
    cond (too_large asked height (get_or numbers2 0 0)) (Err TooLarge)
    (cond (ltb keys (get_or numbers 4 0)) (Err FewKeys)
    (cond (many_skips rows verdicts held) (Err ManySkips)
    (cond (used_up (asked - get_or numbers2 1 0) (get_or numbers2 6 0)) (Err NumbersUsedUp)
    (cond (some_above height number ints exts (get_or numbers2 1 0) (joined (take height (index buckets)))) (Err Overfull) Done))))
