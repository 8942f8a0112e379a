-- Fresh columns are what the entry is to be lent: no home, no mark, the cost of an account without a row, and no first row of a place. The
-- sizes stand as variables, so that nothing counts the cells. Assumes nothing.
use mathlib.Core.Path.{◌≡◌, ◌∙◌}
use mathlib.Core.List.{List}
use Prim.Native.Nat.{ℕ, ◌+◌, ◌<◌}
use native.Mathlib.Omega.{arith}
use lib.ListN.{length, get_or, replicate, length-replicate, get_or-replicate}
use Rattle.moves.specs.Moves.{nowhere}
use Rattle.entry_rules.specs.Calling.{Lent, GoodLent}

module _ (a b d cost : ℕ) (short : a ≡ 1024) (long : b ≡ 1280) (wide : d ≡ 2304) where
  abbrev pub fresh : Lent
  fresh = record {
    owner = replicate a 0;
    plan = replicate d 1024;
    taken = replicate a 0;
    home = replicate b nowhere;
    member = replicate b 0;
    mark = replicate b 0;
    cost = replicate b cost;
    joined = replicate b 0;
  }

  pub fresh_good : GoodLent cost fresh
  fresh_good = record {
    owner = length-replicate a 0 ∙ short;
    plan = length-replicate d 1024 ∙ wide;
    taken = length-replicate a 0 ∙ short;
    home = length-replicate b nowhere ∙ long;
    member = length-replicate b 0 ∙ long;
    mark = length-replicate b 0 ∙ long;
    cost_long = length-replicate b cost ∙ long;
    joined = length-replicate b 0 ∙ long;
    homes = λ p l. get_or-replicate b p nowhere 0 (omega arith);
    marks = λ p l. get_or-replicate b p 0 0 (omega arith);
    costs = λ p l. get_or-replicate b p cost 0 (omega arith);
    firsts = λ p l. get_or-replicate d (2048 + p) 1024 0 (omega arith);
  }
