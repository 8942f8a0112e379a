-- The index stays where no slot changes: `index_same`. Assumes nothing.
use mathlib.Core.Path.{◌≡◌, refl, sym, ap, ap₂, ◌∙◌}
use mathlib.Core.Bool.{true, not}
use mathlib.Core.List.{List, [], ◌∷◌, ◌++◌, append-nil}
use Prim.Native.Nat.{ℕ, suc, ◌<◌}
use native.Mathlib.Omega.{arith}
use lib.Dec.{eqb}
use lib.ListN.{get_or}
use borrow.Author.Tests.{eq-eqb}
use Rattle.rules.specs.World.{Slot, is_member, others, keep}
use Rattle.rules.specs.Queues.{count, count_of}
use Rattle.rules.specs.Fill as rules
use Rattle.rules.specs.Fill.{changed, bucket, reindexed}
use Rattle.columns.specs.Lists.{tab_i}
use Rattle.buckets.specs.Moves.{Plain, slots_of}
use Rattle.entry_rules.proofs.Slotted.{count_slots}
use Rattle.standstill.proofs.Columns.{keep_none}

keep_every : (b : List ℕ) → keep (λ n. true) b ≡ b
unfolding keep
keep_every [] = refl
keep_every (n ∷ b) = ap (λ (l : List ℕ). n ∷ l) (keep_every b)

-- n slots by their columns, no number twice
module _ (numbers counts : List ℕ) (n : ℕ) (apart : (i j : ℕ) → i < n → j < n → get_or numbers i 0 ≡ get_or numbers j 0 → i ≡ j) where
  abbrev held : List (Slot Plain)
  held = slots_of numbers counts n

  abbrev slot : ℕ → Slot Plain
  slot i = record { number = get_or numbers i 0; accounts = []; ints = get_or counts i 0; exts = 0 }

  none_changed : changed Plain held held ≡ []
  unfolding changed slots_of
  none_changed =
      keep_none (λ s. not (eqb (count Plain s) (count_of Plain s.number (tab_i n 0 slot)))) slot n 0
      (λ j a l. ap not
      (eq-eqb (count Plain (slot j)) (count_of Plain (slot j).number (tab_i n 0 slot))
      (sym (count_slots Plain slot j n 0 a l (λ g b h e. apart j g (omega arith) (omega arith) e)))))

  bucket_same : (c : ℕ) (b : List ℕ) → bucket Plain held held c b ≡ b
  unfolding bucket rules.numbers others keep is_member
  bucket_same c b =
      ap (λ (ss : List (Slot Plain)). keep (λ n. not (is_member n (others (rules.numbers Plain (keep (λ s. eqb (count_of Plain s.number held) c) ss))))) b
      ++ rules.numbers Plain (keep (λ s. eqb (count Plain s) c) ss)) none_changed
      ∙ append-nil (keep (λ n. true) b)
      ∙ keep_every b

  pub index_same : (c : ℕ) (bs : List (List ℕ)) → reindexed Plain held held c bs ≡ bs
  unfolding reindexed
  index_same c [] = refl
  index_same c (b ∷ bs) = ap₂ ◌∷◌ (bucket_same c b) (index_same (suc c) bs)
