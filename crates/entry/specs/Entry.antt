-- The entry of a fill: what stands in each column that a fill works on, as one expression over the columns of the buffer, of the group, of
-- the skipped set and of the skip rows. An account is a number, its party: its place in the buffer's order, or 256 and its row in the group.
-- Assumes nothing.
use Rattle.std.specs.Prelude.{◌≡◌, Bool, cond, not, List, [], ℕ, zero, suc, ◌+◌, ◌*◌, ◌≤◌, ◌<◌, eqb, ltb, length, get_or, take, set}
use Rattle.columns.specs.Lists.{tab_i}
use Rattle.columns.specs.Laid.{laid_at}
use Rattle.columns.specs.Rows.{row_at, rows_of, index_of}
use Rattle.message.specs.declared.Filter.{Filter}
use Rattle.message.specs.Records.{drops}

-- the row of x among the first n of a column of accounts, n if it is none of them
abbrev pub seat_in : (bytes : List ℕ) → (n : ℕ) → List ℕ → ℕ
seat_in bytes n x = index_of x (rows_of n bytes)

-- ---- the group's accounts as parties

-- the party of the g-th account of the group: its place among the `places` accounts of the order, if it has one
abbrev pub party_of : (order : List ℕ) → (places : ℕ) → (group : List ℕ) → ℕ → ℕ
party_of order places group g =
    cond (ltb (seat_in order places (row_at group g)) places) (seat_in order places (row_at group g)) (256 + g)

unfoldable pub numbered_c : (order : List ℕ) → (places : ℕ) → (group : List ℕ) → (n : ℕ) → List ℕ → List ℕ
numbered_c order places group n member = laid_at 0 (tab_i n 0 (party_of order places group)) member

-- the homes of m accounts, from the g-th on, go to the cells of their parties
unfoldable pub housed_c : (homes member : List ℕ) → (m g : ℕ) → List ℕ → List ℕ
housed_c homes member zero g home = home
housed_c homes member (suc m) g home = housed_c homes member m (g + 1) (set home (get_or member g 0) (get_or homes g 0))

-- ---- the skipped set and the skip rows

-- what is said of accounts: the set of k accounts; n rows with a name, a verdict and a cost each; the cost of an account without a row
pub record Sayings : Type 0 where
  pub set : List ℕ
  pub k : ℕ
  pub names : List ℕ
  pub verdicts : List ℕ
  pub costs : List ℕ
  pub n : ℕ
  pub cost : ℕ

abbrev pub sayings : (set : List ℕ) (k : ℕ) (names verdicts costs : List ℕ) (n cost : ℕ) → Sayings
sayings s k names verdicts costs n cost = record {
  set = s;
  k = k;
  names = names;
  verdicts = verdicts;
  costs = costs;
  n = n;
  cost = cost;
}

-- the columns have the rows that are spoken of
pub record Spoken (s : Sayings) : Type 0 where
  pub set : 32 * s.k ≤ length s.set
  pub names : 32 * s.n ≤ length s.names
  pub verdicts : s.n ≤ length s.verdicts
  pub costs : s.n ≤ length s.costs

-- the first row of an account, n if it has none
abbrev pub row_of : Sayings → List ℕ → ℕ
row_of s x = seat_in s.names s.n x

-- a row of verdict 0 does not say skip
abbrev pub verdict_mark : (verdict : ℕ) → ℕ
verdict_mark v = cond (eqb v 0) 0 1

-- 2 if the set has the account, else 1 if its first row says skip, else 0
unfoldable pub mark_by : (set : List ℕ) (k : ℕ) (verdicts : List ℕ) (n row : ℕ) → List ℕ → ℕ
mark_by set k verdicts n row x = cond (ltb (seat_in set k x) k) 2 (cond (ltb row n) (verdict_mark (get_or verdicts row 0)) 0)

unfoldable pub mark_of : Sayings → List ℕ → ℕ
mark_of s x = mark_by s.set s.k s.verdicts s.n (row_of s x) x

unfoldable pub cost_of : Sayings → List ℕ → ℕ
cost_of s x = cond (ltb (row_of s x) s.n) (get_or s.costs (row_of s x) 0) s.cost

-- the number 256 + g is the party of the g-th account of the group, which has no place in the order
abbrev pub is_own : (member : List ℕ) → ℕ → Bool
is_own member g = eqb (get_or member g 0) (256 + g)

abbrev pub group_mark : Sayings → (accounts member : List ℕ) → ℕ → ℕ
group_mark s accounts member g = cond (is_own member g) (mark_of s (row_at accounts g)) 0

abbrev pub group_cost : Sayings → (accounts member : List ℕ) → ℕ → ℕ
group_cost s accounts member g = cond (is_own member g) (cost_of s (row_at accounts g)) s.cost

unfoldable pub order_marks : Sayings → (accounts : List ℕ) → (places : ℕ) → List ℕ → List ℕ
order_marks s accounts places mark = laid_at 0 (tab_i places 0 (λ (p : ℕ). mark_of s (row_at accounts p))) mark

unfoldable pub order_costs : Sayings → (accounts : List ℕ) → (places : ℕ) → List ℕ → List ℕ
order_costs s accounts places cost = laid_at 0 (tab_i places 0 (λ (p : ℕ). cost_of s (row_at accounts p))) cost

unfoldable pub group_marks : Sayings → (accounts member : List ℕ) → (n : ℕ) → List ℕ → List ℕ
group_marks s accounts member n mark = laid_at 256 (tab_i n 0 (group_mark s accounts member)) mark

unfoldable pub group_costs : Sayings → (accounts member : List ℕ) → (n : ℕ) → List ℕ → List ℕ
group_costs s accounts member n cost = laid_at 256 (tab_i n 0 (group_cost s accounts member)) cost

-- what a judging leaves
pub record Judges (marks costs mark cost : List ℕ) : Type 0 where
  pub mark_is : mark ≡ marks
  pub cost_is : cost ≡ costs

-- ---- the rows

-- 0 an internal, 1 an external, 2 a droppable one
abbrev pub class_of : Filter → (kind time : List ℕ) → ℕ → ℕ
class_of f kind time i = cond (drops f (get_or kind i 0) (get_or time i 0)) 2 (get_or kind i 0)

unfoldable pub classes_c : Filter → (kind time : List ℕ) → (n : ℕ) → List ℕ → List ℕ
classes_c f kind time n plan = laid_at 0 (tab_i n 0 (class_of f kind time)) plan

unfoldable pub owners_c : (owner : List ℕ) → (n : ℕ) → List ℕ → List ℕ
owners_c owner n scratch = laid_at 0 (take n owner) scratch

-- row i goes before the rows of its place that are chained: the first of them is its next, and it is the first
abbrev pub link_row : (owner : List ℕ) → (i : ℕ) → List ℕ → List ℕ
link_row owner i plan =
    set (set plan (1024 + i) (get_or plan (2048 + get_or owner i 0) 0)) (2048 + get_or owner i 0) i

-- the rows below n are chained, the last of them first
unfoldable pub link_c : (owner : List ℕ) → (n : ℕ) → List ℕ → List ℕ
link_c owner zero plan = plan
link_c owner (suc n) plan = link_c owner n (link_row owner n plan)

-- ---- the slots listed

-- a list laid over the front of a column, and its length
pub record Lists (made lent listed : List ℕ) (count : ℕ) : Type 0 where
  pub cells : listed ≡ laid_at 0 made lent
  pub count_is : count ≡ length made
  pub few : count ≤ 1024
