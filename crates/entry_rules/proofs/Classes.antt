-- The classes and the owners of the rows: what the columns say of the messages; and the chains of their queues. Assumes nothing.
use mathlib.Core.Path.{◌≡◌, refl, sym, ap, ◌∙◌}
use mathlib.Core.Bool.{Bool, true, false, cond, not, ◌&&◌}
use mathlib.Core.List.{List, []}
use Prim.Native.Nat.{ℕ, zero, suc, ◌+◌, ◌<◌, ◌≤◌}
use native.Mathlib.Nat.{not-suc-le-zero, le_of_suc-le-suc, zero-add}
use native.Mathlib.Omega.{arith}
use lib.Dec.{eqb, ltb}
use lib.ListN.{length, get_or, take}
use lib.Seq.{length-take-le, get_or-take}
use borrow.Author.Tests.{ne_eqb}
use Rattle.numbers.proofs.Bytes.{by_bool}
use Rattle.rules.specs.Queues.{droppable}
use Rattle.columns.specs.Laid.{laid_at}
use Rattle.columns.proofs.Laid.{length_laid, get_d_laid_in}
use Rattle.message.specs.declared.Filter.{Filter}
use Rattle.message.specs.declared.Filter.TheVariants.{Off, Below}
use Rattle.message.specs.Records.{drops}
use Rattle.message.specs.Real.{filter_of}
use Rattle.moves.specs.Linked.{Linked}
use Rattle.entry.specs.Entry.{class_of, classes_c, owners_c}
use Rattle.entry_rules.specs.Calling.{Call, GoodCall, Lent, GoodLent, rows, message_of, ext, time, World', args_num, owner_made, class_made, plan_made}
use Rattle.entry_rules.proofs.Tabs.{laid_long, laid_behind, front_cell}
use Rattle.entry_rules.proofs.Facts.{few_rows, few_places, buffer_message}
use Rattle.entry_rules.proofs.Links.{link_class, unlinked, all_linked, chained}

-- ---- a kind of 0 or 1
class_two : (f : Filter) (k t : ℕ) → k ≤ 1 → drops f k t ≡ eqb (cond (drops f k t) 2 k) 2
class_two f k t l = by_bool (drops f k t) (λ y. rw y) (λ n. rw n (sym (ne_eqb k 2 (λ e. omega arith))))

internal_stays : (f : Filter) (t : ℕ) → drops f 0 t ≡ false
internal_stays Off t = refl
internal_stays (Below threshold) t = refl

class_kind : (f : Filter) (k t : ℕ) → k ≤ 1 → eqb k 1 ≡ not (eqb (cond (drops f k t) 2 k) 0)
class_kind f zero t l = rw (internal_stays f t)
class_kind f (suc zero) t l = by_bool (drops f 1 t) (λ y. rw y) (λ n. rw n)
class_kind f (suc (suc k)) t l = absurd (not-suc-le-zero (le_of_suc-le-suc l))

-- ---- owners
module _ (owner scratch : List ℕ) (n : ℕ) (enough : n ≤ length owner) (fits : n ≤ length scratch) where
  whole : length (take n owner) ≡ n
  whole = length-take-le n owner enough

  pub owners_long : length (owners_c owner n scratch) ≡ length scratch
  unfolding owners_c
  owners_long = length_laid 0 (take n owner) scratch (omega (arith, whole))

  pub owners_cell : (i : ℕ) → i < n → get_or (owners_c owner n scratch) i 0 ≡ get_or owner i 0
  unfolding owners_c
  owners_cell i l =
      ap (λ (k : ℕ). get_or (laid_at 0 (take n owner) scratch) k 0) (sym (zero-add i))
      ∙ get_d_laid_in 0 (take n owner) scratch (omega (arith, whole)) i 0 (omega (arith, whole)) ∙ get_or-take n owner i 0 l

pub owner_place : (v : Call) → GoodCall v → (i : ℕ) → i < rows v → get_or v.buffer.owner i 0 < 256
owner_place v good i h = omega (arith, good.buffer.now.placed i h, few_places v good)

module _ (v : Call) (good : GoodCall v) (l : Lent) (lent : GoodLent v.said.cost l) where
  kind_one : (i : ℕ) → i < rows v → get_or v.buffer.kind i 0 ≤ 1
  kind_one i h = good.buffer.now.kinds i h

  -- what a row's message is dropped by
  row_drops : (i : ℕ) → i < rows v → droppable (World' v) (filter_of v.filter) i ≡ drops v.filter (get_or v.buffer.kind i 0) (get_or v.buffer.time i 0)
  unfolding droppable
  row_drops i h = by v.filter ∙ ap (λ m. drops v.filter m.kind m.time) (buffer_message v good i h)
    where
      by : (f : Filter) → droppable (World' v) (filter_of f) i ≡ drops f (message_of v i).kind (message_of v i).time
      by Off = refl
      by (Below threshold) = refl

  class_cell : (i : ℕ) → i < rows v → get_or (plan_made v l) i 0 ≡ class_of v.filter v.buffer.kind v.buffer.time i
  unfolding classes_c
  class_cell i h =
      link_class v.buffer.owner (rows v) (class_made v l) i (omega (arith, few_rows v good))
      ∙ front_cell (class_of v.filter v.buffer.kind v.buffer.time) (rows v) l.plan (omega (arith, few_rows v good, lent.plan)) i h

  pub class_drops : (i : ℕ) → i < rows v → droppable (World' v) (args_num v).filter i ≡ eqb (get_or (plan_made v l) i 0) 2
  class_drops i h =
      row_drops i h ∙ class_two v.filter (get_or v.buffer.kind i 0) (get_or v.buffer.time i 0) (kind_one i h)
      ∙ ap (λ (c : ℕ). eqb c 2) (sym (class_cell i h))

  pub class_kinds : (i : ℕ) → i < rows v → ext v i ≡ not (eqb (get_or (plan_made v l) i 0) 0)
  class_kinds i h =
      ap (λ m. eqb m.kind 1) (buffer_message v good i h)
      ∙ class_kind v.filter (get_or v.buffer.kind i 0) (get_or v.buffer.time i 0) (kind_one i h)
      ∙ ap (λ (c : ℕ). not (eqb c 0)) (sym (class_cell i h))

  -- ---- the chains
  class_long : length (class_made v l) ≡ 2304
  unfolding classes_c
  class_long =
      laid_long (class_of v.filter v.buffer.kind v.buffer.time) 0 (rows v) l.plan (omega (arith, few_rows v good, lent.plan)) ∙ lent.plan

  -- no place has a first row yet
  class_firsts : (p : ℕ) → p < 256 → get_or (class_made v l) (2048 + p) 0 ≡ 1024
  unfolding classes_c
  class_firsts p h =
      laid_behind (class_of v.filter v.buffer.kind v.buffer.time) 0 (rows v) l.plan (omega (arith, few_rows v good, lent.plan)) (2048 + p) (omega (arith, few_rows v good)) ∙ lent.firsts p h

  pub owner_long : length (owner_made v l) ≡ 1024
  owner_long =
      owners_long v.buffer.owner l.owner (rows v) (omega (arith, few_rows v good, good.buffer.lengths.owner)) (omega (arith, few_rows v good, lent.owner))
      ∙ lent.owner

  pub owner_cell : (i : ℕ) → i < rows v → get_or (owner_made v l) i 0 ≡ get_or v.buffer.owner i 0
  owner_cell i h =
      owners_cell v.buffer.owner l.owner (rows v) (omega (arith, few_rows v good, good.buffer.lengths.owner)) (omega (arith, few_rows v good, lent.owner)) i h

  pub rows_linked : Linked (plan_made v l) (rows v) (owner_made v l)
  rows_linked =
      let start = unlinked v.buffer.owner (rows v) (few_rows v good) (class_made v l) class_long class_firsts in
      let whole = all_linked v.buffer.owner (rows v) (few_rows v good) (owner_place v good) (rows v) (omega arith) start in
      chained v.buffer.owner (rows v) (few_rows v good) (owner_place v good) whole (owner_made v l) owner_cell
