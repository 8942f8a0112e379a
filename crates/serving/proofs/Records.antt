-- A slot of the table by its record: what the routines need of the table they need of the record, and what they make of the record, written
-- back, is what the rule makes of the table. Assumes nothing.
use mathlib.Core.Path.{◌≡◌, ap, ◌∙◌}
use mathlib.Core.List.{List}
use Prim.Native.Nat.{ℕ, ◌+◌, ◌<◌}
use native.Mathlib.Omega.{arith}
use lib.ListN.{length, get_or, set}
use lib.Seq.{get_or-set_same}
use Rattle.moves.specs.declared.Fixed.{Fixed}
use Rattle.moves.specs.declared.Slot.{Slot}
use Rattle.moves.specs.declared.Tally.{Tally}
use Rattle.moves.specs.Moves.{held_at, alone}
use Rattle.slot_rows.specs.Rows.{no_slot, ints_of, exts_of}
use Rattle.slot_rows.proofs.Tables.{ints_of_at, exts_of_at, ints_of_set, exts_of_set}
use Rattle.meaning.specs.Meaning.{columns}
use Rattle.meaning.specs.Walks.{Ready, walk, meet_c, seek_c, visit_c}
use Rattle.meaning.proofs.OneSlot.{ready_alone, meet_in_table, seek_in_table, visit_in_table}

module _ (table : List Slot) {f : Fixed} {class cost o w h p k j : List ℕ} {t : Tally}
    (v : Ready f class cost (columns o w h p (ints_of table) (exts_of table) k j t)) {s : ℕ} (l : s < 64) where
  pub ready_record : Ready f class cost (columns o w h p (alone s (get_or table s no_slot).ints) (alone s (get_or table s no_slot).exts) k j t)
  ready_record = ready_alone v l (ints_of_at table s) (exts_of_at table s)

  -- the record r is written back
  module _ (r : Slot) {u : List Slot} (e : u ≡ set table s r) where
    ints_are : ints_of u ≡ set (ints_of table) s r.ints
    ints_are = ap ints_of e ∙ ints_of_set table s r

    exts_are : exts_of u ≡ set (exts_of table) s r.exts
    exts_are = ap exts_of e ∙ exts_of_set table s r

    pub held_record : r.ints + r.exts ≡ held_at (ints_of u) (exts_of u) s
    held_record =
        let il : s < length (ints_of table) = omega (arith, v.good.store.ints_long) in
        let el : s < length (exts_of table) = omega (arith, v.good.store.exts_long) in
        rw (ints_are, exts_are, get_or-set_same (ints_of table) s r.ints 0 il, get_or-set_same (exts_of table) s r.exts 0 el)

    module _ {o' w' h' p' k' j' : List ℕ} {t' : Tally} where
      pub meet_record : (q : ℕ)
          → columns o' w' h' p' (alone s r.ints) (alone s r.exts) k' j' t'
          ≡ meet_c class cost f s q (columns o w h p (alone s (get_or table s no_slot).ints) (alone s (get_or table s no_slot).exts) k j t)
          → columns o' w' h' p' (ints_of u) (exts_of u) k' j' t' ≡ meet_c class cost f s q (columns o w h p (ints_of table) (exts_of table) k j t)
      meet_record q m =
          (λ i. columns o' w' h' p' (ints_are i) (exts_are i) k' j' t')
          ∙ meet_in_table v l (ints_of_at table s) (exts_of_at table s) r.ints r.exts q m

      pub seek_record : (left i : ℕ) {n : ℕ}
          → walk n (columns o' w' h' p' (alone s r.ints) (alone s r.exts) k' j' t')
          ≡ seek_c class cost f s left i (columns o w h p (alone s (get_or table s no_slot).ints) (alone s (get_or table s no_slot).exts) k j t)
          → walk n (columns o' w' h' p' (ints_of u) (exts_of u) k' j' t')
          ≡ seek_c class cost f s left i (columns o w h p (ints_of table) (exts_of table) k j t)
      seek_record left i {n} m =
          (λ x. walk n (columns o' w' h' p' (ints_are x) (exts_are x) k' j' t'))
          ∙ seek_in_table v l (ints_of_at table s) (exts_of_at table s) r.ints r.exts left i m

      pub visit_record : (i : ℕ) {n : ℕ}
          → walk n (columns o' w' h' p' (alone s r.ints) (alone s r.exts) k' j' t')
          ≡ visit_c class cost f s i (columns o w h p (alone s (get_or table s no_slot).ints) (alone s (get_or table s no_slot).exts) k j t)
          → walk n (columns o' w' h' p' (ints_of u) (exts_of u) k' j' t')
          ≡ visit_c class cost f s i (columns o w h p (ints_of table) (exts_of table) k j t)
      visit_record i {n} m =
          (λ x. walk n (columns o' w' h' p' (ints_are x) (exts_are x) k' j' t'))
          ∙ visit_in_table v l (ints_of_at table s) (exts_of_at table s) r.ints r.exts i m
