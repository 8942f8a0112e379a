-- What the contracts of a buffer's exports cite: what a call gives, with its code as a number, and counts in their order. Assumes nothing.
use Rattle.std.specs.Prelude.{◌≡◌, List, [], ◌∷◌, ℕ}
use Rattle.rules.specs.Calls as calls
use Rattle.rules.specs.Calls.{Store}
use Rattle.message.specs.Answers.{number as number_of}
use Rattle.message.specs.Real.{Real}
use Rattle.queues.specs.Cols.{Cols}
use Rattle.queues.specs.Meant.{meant}
use Rattle.queues.specs.Good.{Good}
use Rattle.queues.specs.Append.{Left}
use Rattle.buffer_reads.specs.declared.Counts.{Counts}

-- a code by its number, and the columns that a call leaves
pub record Coded : Type 0 where
  pub code : ℕ
  pub cols : Cols

abbrev pub coded : ℕ → Cols → Coded
coded r c = record { code = r; cols = c }

abbrev pub coded_of : Left → Coded
coded_of l = coded (number_of l.code) l.cols

-- what a call gives: well formed columns, the rule's code and meaning, and exactly these columns
pub record Gives (rule : calls.Answer (Store Real)) (model : Left) (r : ℕ) (c : Cols) : Type 0 where
  pub good : Good c
  pub ruled : record { code = r; after = meant c } ≡ rule
  pub exactly : coded r c ≡ coded_of model

-- the counts in their order
abbrev pub listed : Counts → List ℕ
listed k = k.capacity ∷ k.places ∷ k.messages ∷ k.accounts ∷ k.ints ∷ k.exts ∷ []
