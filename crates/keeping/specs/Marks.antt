-- What the numbers say of a transaction: whether it may begin or end, by the mark of an open one, and how much each half holds.
-- Assumes nothing.
use Rattle.std.specs.Prelude.{cond, List, ℕ, eqb, get_or, Err}
use Rattle.message.specs.Answers.{Code, Done}
use Rattle.message.specs.declared.Refusal.TheVariants.{NoTransaction, InTransaction}
use Rattle.keeping.specs.declared.Extent.{Extent}

-- "begin with one open" 7
abbrev pub begin_code : (mark : ℕ) → Code
begin_code mark = cond (eqb mark 0) Done (Err InTransaction)

-- "commit or rollback without a transaction" 6
abbrev pub end_code : (mark : ℕ) → Code
end_code mark = cond (eqb mark 0) (Err NoTransaction) Done

abbrev pub held_of : List ℕ → Extent
held_of ns = record { messages = get_or ns 2 0; places = get_or ns 3 0 }

abbrev pub kept_of : List ℕ → Extent
kept_of ns = record { messages = get_or ns 9 0; places = get_or ns 10 0 }
