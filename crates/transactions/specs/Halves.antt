-- What the copies of a transaction need, and what a commit leaves of the numbers. Assumes nothing.
use Rattle.std.specs.Prelude.{◌≡◌, cond, List, ◌⊎◌, ℕ, ◌+◌, ◌≤◌, eqb, get_or, set, Err}
use Rattle.message.specs.Answers.{Code, Done}
use Rattle.message.specs.declared.Refusal.TheVariants.{NoTransaction}

-- two halves that begin at these rows and places, neither of which reaches into the other
pub record Halves (from to places_from places_to n a : ℕ) : Type 0 where
  pub messages : n ≤ 1024
  pub accounts : a ≤ 256
  pub rows : ((from ≡ 0) × (to ≡ 1024)) ⊎ ((from ≡ 1024) × (to ≡ 0))
  pub places : ((places_from ≡ 0) × (places_to ≡ 256)) ⊎ ((places_from ≡ 256) × (places_to ≡ 0))

-- a commit touches the numbers alone
pub record Commits (r : Code) (ns₀ ns : List ℕ) : Type 0 where
  pub code : r ≡ cond (eqb (get_or ns₀ 8 0) 0) (Err NoTransaction) Done
  pub numbers : ns ≡ cond (eqb (get_or ns₀ 8 0) 0) ns₀ (set ns₀ 8 0)
