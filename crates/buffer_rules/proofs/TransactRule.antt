-- Begin, commit and rollback on the columns are the rules' begin, commit and rollback on what the columns mean, and leave the columns well
-- formed. Assumes nothing.
use mathlib.Core.Path.{◌≡◌, sym, ap, subst, ◌∙◌}
use mathlib.Core.Option.{none, some}
use native.Mathlib.Omega.{arith}
use lib.Dec.{eqb}
use borrow.Author.Tests.{eq-eqb, ne_eqb, eqb-true, eqb-false}
use Rattle.std.specs.Prelude.{Err}
use Rattle.numbers.proofs.Bytes.{by_bool}
use Rattle.rules.specs.World.{first_of}
use Rattle.rules.specs.Calls.{answer, is_open, back, begin, commit, rollback}
use Rattle.message.specs.Answers.{Done}
use Rattle.message.specs.declared.Refusal.TheVariants.{NoTransaction, InTransaction}
use Rattle.message.specs.Real.{Real}
use Rattle.queues.specs.Cols.{Cols, live, kept, number}
use Rattle.queues.specs.Meant.{if_marked, buffer_of, meant}
use Rattle.queues.specs.Indexed.{indexed_c}
use Rattle.queues.specs.Good.{Good}
use Rattle.queues.specs.Append.{left}
use Rattle.queues.specs.Transact.{begun_c, committed_c, rolled_c, begin_c, commit_c, rollback_c}
use Rattle.queues.proofs.Indexing.{meant_indexed, good_indexed}
use Rattle.buffer_rules.specs.Ruled.{answer_of}
use Rattle.buffer_rules.proofs.TransactCols.{store_of, begun_good, begun_meant, committed_good, committed_meant, enough, rolled_places, rolled_good, rolled_meant}

-- ---- by whether a transaction is open

module _ (c : Cols) where
  meant_none : number c 8 ≡ 0 → meant c ≡ store_of c (buffer_of (live c)) none
  meant_none z = λ i. store_of c (buffer_of (live c)) (if_marked (z i) (buffer_of (kept c)))

  meant_one : number c 8 ≡ 1 → meant c ≡ store_of c (buffer_of (live c)) (some (buffer_of (kept c)))
  meant_one z = λ i. store_of c (buffer_of (live c)) (if_marked (z i) (buffer_of (kept c)))

  begin_taken : number c 8 ≡ 0 → begin_c c ≡ left Done (begun_c c)
  unfolding begin_c
  begin_taken z = rw (eq-eqb _ _ z)

  begin_refused : (number c 8 ≡ 0 → ⊥) → begin_c c ≡ left (Err InTransaction) c
  unfolding begin_c
  begin_refused z = rw (ne_eqb _ _ z)

  commit_taken : (number c 8 ≡ 0 → ⊥) → commit_c c ≡ left Done (committed_c c)
  unfolding commit_c
  commit_taken z = rw (ne_eqb _ _ z)

  commit_refused : number c 8 ≡ 0 → commit_c c ≡ left (Err NoTransaction) c
  unfolding commit_c
  commit_refused z = rw (eq-eqb _ _ z)

  rollback_taken : (number c 8 ≡ 0 → ⊥) → rollback_c c ≡ left Done (indexed_c (number c 10) (rolled_c c))
  unfolding rollback_c
  rollback_taken z = rw (ne_eqb _ _ z)

  rollback_refused : number c 8 ≡ 0 → rollback_c c ≡ left (Err NoTransaction) c
  unfolding rollback_c
  rollback_refused z = rw (eq-eqb _ _ z)

-- ---- the calls

module _ (c : Cols) (good : Good c) where
  -- a mark that is not 0 is 1
  one : (number c 8 ≡ 0 → ⊥) → number c 8 ≡ 1
  one z = omega (arith, z, good.opened)

  pub begin_is : answer_of (begin_c c) ≡ begin Real (meant c)
  unfolding begin answer is_open first_of
  begin_is =
      by_bool (eqb (number c 8) 0)
      (λ t. let z = eqb-true (number c 8) 0 t in
      ap answer_of (begin_taken c z) ∙ (λ i. record { code = 0; after = begun_meant c good i }) ∙ sym (ap (begin Real) (meant_none c z)))
      (λ f. let z = eqb-false (number c 8) 0 f in let e = meant_one c (one z) in
      ap answer_of (begin_refused c z) ∙ (λ i. record { code = 7; after = e i }) ∙ sym (ap (begin Real) e))

  pub begin_good : Good (begin_c c).cols
  begin_good =
      by_bool (eqb (number c 8) 0)
      (λ t. subst (λ l. Good l.cols) (sym (begin_taken c (eqb-true (number c 8) 0 t))) (begun_good c good))
      (λ f. subst (λ l. Good l.cols) (sym (begin_refused c (eqb-false (number c 8) 0 f))) good)

  pub commit_is : answer_of (commit_c c) ≡ commit Real (meant c)
  unfolding commit answer is_open first_of
  commit_is =
      by_bool (eqb (number c 8) 0)
      (λ t. let z = eqb-true (number c 8) 0 t in let e = meant_none c z in
      ap answer_of (commit_refused c z) ∙ (λ i. record { code = 6; after = e i }) ∙ sym (ap (commit Real) e))
      (λ f. let z = eqb-false (number c 8) 0 f in
      ap answer_of (commit_taken c z) ∙ (λ i. record { code = 0; after = committed_meant c good i }) ∙ sym (ap (commit Real) (meant_one c (one z))))

  pub commit_good : Good (commit_c c).cols
  commit_good =
      by_bool (eqb (number c 8) 0)
      (λ t. subst (λ l. Good l.cols) (sym (commit_refused c (eqb-true (number c 8) 0 t))) good)
      (λ f. subst (λ l. Good l.cols) (sym (commit_taken c (eqb-false (number c 8) 0 f))) (committed_good c good))

  pub rollback_is : answer_of (rollback_c c) ≡ rollback Real (meant c)
  unfolding rollback answer is_open first_of back
  rollback_is =
      by_bool (eqb (number c 8) 0)
      (λ t. let z = eqb-true (number c 8) 0 t in let e = meant_none c z in
      ap answer_of (rollback_refused c z) ∙ (λ i. record { code = 6; after = e i }) ∙ sym (ap (rollback Real) e))
      (λ f. let z = eqb-false (number c 8) 0 f in
      let held = good.then (one z) in
      let e = meant_indexed (number c 10) (rolled_c c) (enough c good held) ∙ rolled_meant c good held in
      ap answer_of (rollback_taken c z) ∙ (λ i. record { code = 0; after = e i }) ∙ sym (ap (rollback Real) (meant_one c (one z))))

  pub rollback_good : Good (rollback_c c).cols
  rollback_good =
      by_bool (eqb (number c 8) 0)
      (λ t. subst (λ l. Good l.cols) (sym (rollback_refused c (eqb-true (number c 8) 0 t))) good)
      (λ f. let z = eqb-false (number c 8) 0 f in
      let held = good.then (one z) in
      subst (λ l. Good l.cols) (sym (rollback_taken c z))
      (good_indexed (number c 10) (rolled_c c) (rolled_places c good held) (rolled_good c good held)))
