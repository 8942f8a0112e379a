-- What is said of the lent numbers by a commit, which touches nothing else. Assumes nothing.
use Rattle.std.specs.Prelude.{◌≡◌, cond, List, ℕ, eqb, get_or, set, Err}
use Rattle.message.specs.declared.Refusal.TheVariants.{NoTransaction}
use Rattle.message.specs.Answers.{Done, number as number_of}

pub record Commits (r : ℕ) (ns₀ ns : List ℕ) : Type 0 where
  pub code : r ≡ number_of (cond (eqb (get_or ns₀ 8 0) 0) (Err NoTransaction) Done)
  pub numbers : ns ≡ cond (eqb (get_or ns₀ 8 0) 0) ns₀ (set ns₀ 8 0)
