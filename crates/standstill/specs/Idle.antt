-- A fill with nothing to do, by its numbers, its filter and the group's index. Assumes nothing.
use Rattle.std.specs.Prelude.{Bool, true, false, cond, List, ℕ, eqb, take}
use Rattle.rules.specs.World.{is_nil, joined}
use Rattle.message.specs.declared.Filter.{Filter}
use Rattle.message.specs.declared.Filter.TheVariants.{Off, Below}
use Rattle.buckets.specs.Cells.{index}

abbrev pub off : Filter → Bool
off Off = true
off (Below threshold) = false

-- the order has an account, no slot is to be opened, the filter is off, and no slot is listed below the height
unfoldable pub idle_c : (places opens height : ℕ) → Filter → (buckets : List ℕ) → Bool
idle_c places opens height f buckets =
    cond (eqb places 0) false (cond (eqb opens 0) (cond (off f) (is_nil (joined (take height (index buckets)))) false) false)
