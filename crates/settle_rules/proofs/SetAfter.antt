-- The skipped set after a fill: the accounts that it held, and behind them those of the parties that joined (`set_after`). Assumes nothing.
use mathlib.Core.Path.{◌≡◌, refl, sym, ap, ap₂, ◌∙◌}
use mathlib.Core.Bool.{Bool}
use mathlib.Core.List.{List, [], ◌∷◌, ◌++◌, map, map-append, append-nil}
use Prim.Native.Nat.{ℕ, zero, suc, ◌+◌, ◌-◌, ◌*◌, ◌<◌, ◌≤◌}
use native.Mathlib.Omega.{arith}
use lib.Dec.{ltb}
use lib.ListN.{length, get_or, take, drop, drop_of_length-le}
use borrow.Author.Tests.{ltb-true, ltb-false}
use Rattle.numbers.proofs.Bytes.{by_bool}
use Rattle.columns.specs.Lists.{tab_i}
use Rattle.columns.specs.Laid.{laid_at}
use Rattle.columns.specs.Rows.{row_at, rows_of, flat}
use Rattle.columns.proofs.Tabs.{length_tab, tab_cong}
use Rattle.columns.proofs.Rows.{Wide, length_rows, length_row, length_flat, rows_flat, rows_laid, rows_take}
use Rattle.message.specs.Real.{Real}
use Rattle.settle.specs.Copies.{party_row, accounts_at}
use Rattle.settle.proofs.Copying.{party_low, party_high}
use Rattle.moves.specs.declared.Fixed.{Fixed}
use Rattle.meaning.specs.Meaning.{Numbers, Columns, Setting, state_of}
use Rattle.renaming.specs.Renaming.{Renaming}
use Rattle.settle_rules.specs.Facts.{SetFacts}
use Rattle.settle_rules.proofs.Maps.{map_tab, take_tab}

pub wide_tab : (f : ℕ → List ℕ) (m i : ℕ) → ((j : ℕ) → i ≤ j → j < i + m → length (f j) ≡ 32) → Wide (tab_i m i f)
unfolding tab_i
wide_tab f zero i h = tt
wide_tab f (suc m) i h = (h i (omega arith) (omega arith), wide_tab f m (i + 1) (λ j a l. h j (omega arith) (omega arith)))

pub party_long : (accounts others : List ℕ) (p : ℕ) → length accounts ≡ 16384 → length others ≡ 32768 → p < 1280 → length (party_row accounts others p) ≡ 32
party_long accounts others p a o l =
    by_bool (ltb p 256)
    (λ e. let h = ltb-true p 256 e in ap length (party_low accounts others p h) ∙ length_row accounts p (omega arith))
    (λ e. let h = ltb-false p 256 e in ap length (party_high accounts others p h) ∙ length_row others (p - 256) (omega arith))

-- rows laid behind the first k
pub rows_behind : (k n : ℕ) (rs : List (List ℕ)) (bytes : List ℕ) → length rs ≡ n → Wide rs → 32 * (k + n) ≤ length bytes
    → rows_of (k + n) (laid_at (32 * k) (flat rs) bytes) ≡ rows_of k bytes ++ rs
unfolding laid_at
rows_behind k n rs bytes e w h =
    let all = rows_of (k + n) bytes in
    rows_laid (k + n) k n (flat rs) bytes (length_flat rs w ∙ ap (λ (i : ℕ). 32 * i) e) (omega arith) h
    ∙ ap (λ l. laid_at k l all) (rows_flat n rs e w)
    ∙ ap₂ ◌++◌ (rows_take k (k + n) bytes (omega arith))
    (ap (λ l. rs ++ l) (drop_of_length-le all {i = k + length rs} (omega (arith, length_rows (k + n) bytes))) ∙ append-nil rs)

module _ {ext : ℕ → Bool} {time : ℕ → ℕ} {f : Renaming (Numbers ext time) Real} {k n : ℕ} {entry joined accounts others set₀ : List ℕ}
    (v : SetFacts ext time f k n entry joined accounts others set₀) where
  joined_are : accounts_at n joined accounts others ≡ map f.acc (take n joined)
  joined_are =
      tab_cong n 0 _ (λ i. f.acc (get_or joined i 0)) (λ j a l. sym (v.acc j (omega arith)))
      ∙ sym (map_tab f.acc (λ i. get_or joined i 0) n 0)
      ∙ ap (map f.acc) (take_tab n joined v.named)

  pub set_put : {set : List ℕ} → set ≡ laid_at (32 * k) (flat (accounts_at n joined accounts others)) set₀ → rows_of (k + n) set ≡ map f.acc (entry ++ take n joined)
  set_put e =
      let wide = wide_tab (λ i. party_row accounts others (get_or joined i 0)) n 0 (λ j a l. party_long accounts others (get_or joined j 0) v.accounts_long v.others_long (v.there j (omega arith))) in
      ap (rows_of (k + n)) e
      ∙ rows_behind k n (accounts_at n joined accounts others) set₀ (length_tab n 0 _) wide (omega (arith, v.fits, v.set_long))
      ∙ ap₂ ◌++◌ v.entry_is joined_are
      ∙ sym (map-append f.acc entry (take n joined))

-- over the state that columns mean
pub set_after : {ext : ℕ → Bool} {time : ℕ → ℕ} {f : Renaming (Numbers ext time) Real} (m : Columns) (b : Setting) {k : ℕ} {accounts others set₀ set : List ℕ}
    → SetFacts ext time f k m.store.tally.joined b.entry_skipped m.joined accounts others set₀
    → set ≡ laid_at (32 * k) (flat (accounts_at m.store.tally.joined m.joined accounts others)) set₀
    → (fx : Fixed) (o : ℕ)
    → rows_of (k + m.store.tally.joined) set ≡ map f.acc (state_of ext time fx b o m).skipped
unfolding state_of
set_after m b v e fx o = set_put v e
