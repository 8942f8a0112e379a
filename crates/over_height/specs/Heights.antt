-- A slot listed below the height that holds more than the height. Assumes nothing.
use Rattle.std.specs.Prelude.{Bool, cond, List, ℕ, ◌+◌, ltb, get_or}
use Rattle.rules.specs.World.{some_of}
use Rattle.meaning.specs.Passes.{position_from}

-- how many messages the slot numbered x holds, 0 if there is none
unfoldable pub held_of : (number ints exts : List ℕ) (slots x : ℕ) → ℕ
held_of number ints exts slots x =
    let at = position_from number x slots 0 in
    cond (ltb at slots) (get_or ints at 0 + get_or exts at 0) 0

-- "a bucket below the height lists a slot of more than the height"
unfoldable pub some_above : (height : ℕ) (number ints exts : List ℕ) (slots : ℕ) → List ℕ → Bool
some_above height number ints exts slots listed = some_of (λ x. ltb height (held_of number ints exts slots x)) listed
