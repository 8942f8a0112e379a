-- The skip rows of a sheet on three columns, and what a fill with them leaves. Assumes nothing.
use Rattle.std.specs.Prelude.{◌≡◌, cond, not, List, ℕ, ◌+◌, ◌*◌, ◌≤◌, ◌<◌, eqb, length, get_or}
use Rattle.rules.specs.World.{Skip}
use Rattle.rules.specs.Calls as calls
use Rattle.message.specs.Answers.{number as number_of}
use Rattle.message.specs.Real.{Real}
use Rattle.columns.specs.Lists.{tab_i}
use Rattle.columns.specs.Rows.{row_at}
use Rattle.queues.specs.Meant as queues
use Rattle.slots.specs.Meant as slots
use Rattle.words.specs.Digits.{name_of}
use Rattle.lintelsong.specs.declared.fill_calls.FillAnswer.{FillAnswer}
use Rattle.lintelsong.specs.Closed.{cols_of, table_of, accounts_in, GoodBuffer, GoodGroup, GoodSet}
use Rattle.sheet_fills.specs.declared.skips.Rows.{Rows}

-- ---- the skip rows

pub record GoodRows (r : Rows) : Type 0 where
  pub few : r.count ≤ 64
  pub names_long : length r.names ≡ 2048
  pub verdicts_long : length r.verdicts ≡ 64
  pub costs_long : length r.costs ≡ 64

abbrev pub skip_in : Rows → ℕ → Skip Real
skip_in r i = record { acc = row_at r.names i; skip = not (eqb (get_or r.verdicts i 0) 0); cost = get_or r.costs i 0 }

abbrev pub skips_in : Rows → List (Skip Real)
skips_in r = tab_i r.count 0 (skip_in r)

-- each column, of the first n rows of a table of cells
abbrev pub NamesLaid : (cells : List ℕ) (n : ℕ) (names : List ℕ) → Type 0
NamesLaid cells n names = (i : ℕ) → i < n → row_at names i ≡ name_of (get_or cells (3 * i) 0)

abbrev pub VerdictsLaid : (cells : List ℕ) (n : ℕ) (verdicts : List ℕ) → Type 0
VerdictsLaid cells n verdicts = (i : ℕ) → i < n → get_or verdicts i 0 ≡ cond (eqb (get_or cells (3 * i + 1) 0) 0) 0 1

abbrev pub CostsLaid : (cells : List ℕ) (n : ℕ) (costs : List ℕ) → Type 0
CostsLaid cells n costs = (i : ℕ) → i < n → get_or costs i 0 ≡ get_or cells (3 * i + 2) 0

-- the columns hold these rows
pub record Lays (rows : List (Skip Real)) (r : Rows) : Type 0 where
  pub good : GoodRows r
  pub same : skips_in r ≡ rows

-- ---- a fill

-- the answer of the rules, and what they leave
pub record FillsBy (a : calls.FillAnswer Real) (r : FillAnswer) : Type 0 where
  pub good : GoodBuffer r.buffer × GoodGroup r.group × GoodSet r.skipped
  pub code : number_of r.code ≡ a.code
  pub collected : r.collected ≡ a.collected
  pub operations : r.operations ≡ a.ops
  pub dropped : r.dropped ≡ a.dropped
  pub store : queues.meant (cols_of r.buffer) ≡ a.store
  pub target : slots.meant (table_of r.group) ≡ a.target
  pub skipped : accounts_in r.skipped ≡ a.skipped
