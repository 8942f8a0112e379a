-- The columns packed one by one are the columns packed: the contracts of the calls of `compact`, as one equation. Assumes nothing.
use mathlib.Core.Path.{◌≡◌, ap, ◌∙◌}
use mathlib.Core.List.{List}
use Prim.Native.Nat.{ℕ, ◌*◌, ◌≤◌}
use native.Mathlib.Omega.{arith}
use lib.ListN.{length}
use Rattle.columns.specs.Lists.{rank}
use Rattle.columns.specs.Laid.{Packs, packed, held}
use Rattle.columns.specs.Rows.{packed_rows}
use Rattle.columns.proofs.Scans.{length_map_i}
use Rattle.queues.specs.Cols.{Cols}
use Rattle.queues.specs.Compact.{new_place, moved_c, packed_c, compact_c, Compacted}

module _ (n a : ℕ) (seats : List ℕ) (c₀ c : Cols) {r rk rf rt ra rh rp : ℕ} {owner : List ℕ} where
  pub compacted : owner ≡ moved_c n seats c₀.owner
      → Packs (held owner) n (packed 0 (held owner) n c₀.kind) c.kind rk
      → Packs (held owner) n (packed 0 (held owner) n c₀.form) c.form rf
      → Packs (held owner) n (packed 0 (held owner) n c₀.time) c.time rt
      → Packs (held owner) n (packed_rows (held owner) n c₀.address) c.address ra
      → Packs (held owner) n (packed_rows (held owner) n c₀.hash) c.hash rh
      → Packs (held seats) a (packed_rows (held seats) a c₀.accounts) c.accounts rp
      → Packs (held owner) n (packed 0 (held owner) n owner) c.owner r
      → c.numbers ≡ c₀.numbers
      → Compacted n a seats c₀ c r
  unfolding compact_c packed_c
  compacted moved kind form time address hash accounts places same = record {
    cols = (λ i. record {
      owner = places.cells i;
      kind = kind.cells i;
      form = form.cells i;
      time = time.cells i;
      address = address.cells i;
      hash = hash.cells i;
      accounts = accounts.cells i;
      numbers = same i;
    }) ∙ ap (λ (o : List ℕ). packed_c n a seats o c₀) moved;
    count = places.count ∙ ap (λ (o : List ℕ). rank (held o) n) moved;
  }
