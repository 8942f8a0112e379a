-- Words cut out of a line. Assumes nothing.
use Rattle.std.specs.Prelude.{◌≡◌, Bool, cond, not, List, [], ◌∷◌, ℕ, suc, ◌+◌, ◌≤◌, min, eqb, length, drop}
use Rattle.words.specs.declared.cut.Span.{Span}

-- how many bytes in front pass the test
unfoldable pub leading : (ℕ → Bool) → List ℕ → ℕ
leading test [] = 0
leading test (x ∷ xs) = cond (test x) (suc (leading test xs)) 0

-- how many bytes b stand in front, and how many bytes stand before the first b
abbrev pub run : ℕ → List ℕ → ℕ
run b s = leading (λ x. eqb x b) s

abbrev pub before : ℕ → List ℕ → ℕ
before b s = leading (λ x. not (eqb x b)) s

-- the index that so many bytes from `from` on lead to: it lies not before `from`, and in the list or at its end
pub record Leads (from : ℕ) (s : List ℕ) (many r : ℕ) : Type 0 where
  pub exactly : r ≡ min from (length s) + many
  pub onward : min from (length s) ≤ r
  pub within : r ≤ length s

-- the first word from `at` on: behind the spaces, up to the next one
pub record IsWord (at : ℕ) (s : List ℕ) (w : Span) : Type 0 where
  pub starts : w.from ≡ min at (length s) + run 32 (drop at s)
  pub ends : w.to ≡ w.from + before 32 (drop w.from s)
  pub onward : w.from ≤ w.to
  pub within : w.to ≤ length s
