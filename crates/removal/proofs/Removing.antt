-- What a removal asks of well-formed columns, and how the contracts of its calls make its answer: `refused` if an account that goes holds an
-- external, `removed` if none does. Assumes nothing.
use mathlib.Core.Path.{◌≡◌, ap, ◌∙◌}
use mathlib.Core.List.{List, []}
use Prim.Native.Nat.{ℕ, ◌*◌, ◌/◌, ◌≤◌}
use native.Mathlib.Nat.{div-add-mod'}
use native.Mathlib.Omega.{arith}
use lib.ListN.{replicate}
use borrow.Author.Tests.{eq-eqb, ne_eqb}
use Rattle.std.specs.Prelude.{Err}
use Rattle.index.specs.Names.{indexed_by}
use Rattle.message.specs.Answers.{Done}
use Rattle.message.specs.declared.Refusal.TheVariants.{HoldsExternal}
use Rattle.queues.specs.Cols.{Cols, number, with_numbers}
use Rattle.queues.specs.Indexed.{indexed_c}
use Rattle.queues.specs.Good.{Long, Good}
use Rattle.queues.specs.Append.{left}
use Rattle.queues.specs.Compact.{gone, packed_c, compact_c, Compacted, lost_externals, left_numbers, goes_c, seats_of, removed_c, remove_c}
use Rattle.leaving.specs.Seats.{Seated}

module _ (c : Cols) (g : Good c) where
  -- the numbers are not packed
  pub long : Long (with_numbers [] c)
  long =
      let l = g.lengths in
      record {
        owner = l.owner;
        kind = l.kind;
        form = l.form;
        time = l.time;
        address = l.address;
        hash = l.hash;
        accounts = l.accounts;
      }

-- the whole names lie in the list
pub whole : (l : ℕ) → 32 * (l / 32) ≤ l
whole l = omega (arith, div-add-mod' l 32)

module _ (names : List ℕ) (c : Cols) (seats : List ℕ) (stay lost : ℕ) (seat : Seated (goes_c names c) (number c 3) (replicate 256 gone) seats stay)
    (count : lost ≡ lost_externals seats c.kind (number c 2) c.owner) where
  of_names : seats ≡ seats_of names c
  unfolding seats_of
  of_names = seat.seats

  loses : lost ≡ lost_externals (seats_of names c) c.kind (number c 2) c.owner
  loses = count ∙ ap (λ (s : List ℕ). lost_externals s c.kind (number c 2) c.owner) of_names

  pub refused : (lost ≡ 0 → ⊥) → left (Err HoldsExternal) c ≡ remove_c names c
  unfolding remove_c
  refused h = rw (← loses, ne_eqb lost 0 h)

  module _ (none : lost ≡ 0) (c₁ : Cols) (r : ℕ) (done : Compacted (number c 2) (number c 3) seats (with_numbers [] c) c₁ r)
      (ns : List ℕ) (left_over : ns ≡ indexed_by stay c₁.accounts (left_numbers r stay c.numbers)) where
    packed : with_numbers ns c₁ ≡ indexed_c stay (removed_c seats stay c)
    unfolding indexed_c removed_c compact_c packed_c
    packed =
        (λ i. with_numbers (left_over i) c₁)
        ∙ (λ i. with_numbers (indexed_by stay (done.cols i).accounts (left_numbers r stay c.numbers)) (done.cols i))
        ∙ (λ i. indexed_c stay (with_numbers (left_numbers (done.count i) stay c.numbers) (compact_c (number c 2) (number c 3) seats c)))

    pub removed : left Done (with_numbers ns c₁) ≡ remove_c names c
    unfolding remove_c
    removed =
        rw (← loses, eq-eqb lost 0 none) (ap (left Done) (packed ∙ (λ i. indexed_c (seat.stay i) (removed_c (of_names i) (seat.stay i) c))))
