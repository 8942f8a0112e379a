-- The key list after a fill: the keys of the internals taken, in order of collection, and behind them the rows as they were (`keys_after`).
-- Assumes nothing.
use mathlib.Core.Path.{◌≡◌, refl, sym, ap, ap₂, ◌∙◌}
use mathlib.Core.Bool.{Bool, true, false, not}
use mathlib.Core.List.{List, [], ◌∷◌, ◌++◌, map, map-map}
use Prim.Native.Nat.{ℕ, zero, suc, ◌+◌, ◌-◌, ◌*◌, ◌<◌, ◌≤◌}
use native.Mathlib.Nat.{zero-add}
use native.Mathlib.Omega.{arith}
use lib.ListN.{length, get_or, take, drop}
use Rattle.numbers.proofs.Bytes.{by_bool}
use Rattle.columns.specs.Lists.{tab_i, gather, rank}
use Rattle.columns.specs.Laid.{laid_at}
use Rattle.columns.specs.Rows.{row_at, rows_of, flat}
use Rattle.columns.proofs.Laid.{get_d_laid_in, get_d_laid_behind}
use Rattle.columns.proofs.Tabs.{tab_cong}
use Rattle.columns.proofs.Gathers.{gather_at}
use Rattle.columns.proofs.Rows.{Wide, length_rows, length_row, get_d_rows, length_flat, rows_flat, rows_laid}
use Rattle.buffer_rules.proofs.Packs.{tab_kept}
use Rattle.rules.specs.World.{keep}
use Rattle.rules.specs.Calls.{written}
use Rattle.message.specs.Real.{Real, Key, key_of}
use Rattle.queues.specs.Cols.{Cols, live, number}
use Rattle.queues.specs.Meant.{message_in}
use Rattle.settle.specs.Copies.{is_key, Keyed}
use Rattle.settle.proofs.Copying.{gathered}
use Rattle.moves.specs.declared.Fixed.{Fixed}
use Rattle.meaning.specs.Meaning.{Numbers, Columns, Setting, state_of}
use Rattle.renaming.specs.Renaming.{Renaming}
use Rattle.settle_rules.specs.Facts.{key_at, keys_of, KeyFacts}
use Rattle.settle_rules.proofs.Maps.{tab_split, drop_tab, take_tab, gather_map}

abbrev key : ℕ → List ℕ → Key
key t h = record { lt = t; hash = h }

-- ---- what is gathered

module _ (t : ℕ → Bool) (n : ℕ) where
  at_rank : {A : Type 0} (f : ℕ → A) (d : A) (q : ℕ) → q < n → t q ≡ true → get_or (gather t f n 0) (rank t q) d ≡ f q
  unfolding rank
  at_rank f d q l e = gather_at t f d n 0 q (rank t q) (omega arith) (omega arith) e (sym (zero-add (rank t q)))

  zipped : (f : ℕ → ℕ) (g : ℕ → List ℕ) → tab_i (rank t n) 0 (λ i. key (get_or (gather t f n 0) i 0) (get_or (gather t g n 0) i [])) ≡ gather t (λ k. key (f k) (g k)) n 0
  zipped f g = tab_kept t (λ k. key (f k) (g k)) n _ (λ q l e. ap₂ key (at_rank f 0 q l e) (at_rank g [] q l e))

pub wide_gather : (t : ℕ → Bool) (f : ℕ → List ℕ) (m i : ℕ) → ((j : ℕ) → j < i + m → length (f j) ≡ 32) → Wide (gather t f m i)
unfolding gather
wide_gather t f zero i h = tt
wide_gather t f (suc m) i h =
    let r = wide_gather t f m (i + 1) (λ j l. h j (omega arith)) in
    by_bool (t i) (λ e. rw e (h i (omega arith), r)) (λ e. rw e r)

-- ---- lists laid over the front

module _ {A : Type 0} (xs ys : List A) (fits : length xs ≤ length ys) where
  front : (j : ℕ) (d : A) → j < length xs → get_or (laid_at 0 xs ys) j d ≡ get_or xs j d
  front j d l = ap (λ (k : ℕ). get_or (laid_at 0 xs ys) k d) (sym (zero-add j)) ∙ get_d_laid_in 0 xs ys (omega arith) j d l

  behind : (j : ℕ) (d : A) → length xs ≤ j → get_or (laid_at 0 xs ys) j d ≡ get_or ys j d
  behind j d l = get_d_laid_behind 0 xs ys (omega arith) j d (omega arith)

module _ (K : ℕ) (xs : List ℕ) (rs : List (List ℕ)) (lts₀ hashes₀ : List ℕ) (r : ℕ) (many : length xs ≡ r) (rows : length rs ≡ r) (wide : Wide rs) (few : r ≤ K)
    (times : K ≤ length lts₀) (room : 32 * K ≤ length hashes₀) where
  hashes_are : rows_of K (laid_at 0 (flat rs) hashes₀) ≡ laid_at 0 rs (rows_of K hashes₀)
  hashes_are =
      rows_laid K 0 r (flat rs) hashes₀ (length_flat rs wide ∙ ap (λ (k : ℕ). 32 * k) rows) (omega arith) room
      ∙ ap (λ l. laid_at 0 l (rows_of K hashes₀)) (rows_flat r rs rows wide)

  hash_at : (j : ℕ) → j < K → row_at (laid_at 0 (flat rs) hashes₀) j ≡ get_or (laid_at 0 rs (rows_of K hashes₀)) j []
  hash_at j l = sym (get_d_rows K j (laid_at 0 (flat rs) hashes₀) [] l) ∙ ap (λ h. get_or h j []) hashes_are

  key_front : (j : ℕ) → j < r → key_at (laid_at 0 xs lts₀) (laid_at 0 (flat rs) hashes₀) j ≡ key (get_or xs j 0) (get_or rs j [])
  key_front j l =
      ap₂ key (front xs lts₀ (omega arith) j 0 (omega arith))
      (hash_at j (omega arith) ∙ front rs (rows_of K hashes₀) (omega (arith, length_rows K hashes₀)) j [] (omega arith))

  key_behind : (j : ℕ) → r ≤ j → j < K → key_at (laid_at 0 xs lts₀) (laid_at 0 (flat rs) hashes₀) j ≡ key_at lts₀ hashes₀ j
  key_behind j a l =
      ap₂ key (behind xs lts₀ (omega arith) j 0 (omega arith))
      (hash_at j l ∙ behind rs (rows_of K hashes₀) (omega (arith, length_rows K hashes₀)) j [] (omega arith) ∙ get_d_rows K j hashes₀ [] l)

  keys_laid : keys_of K (laid_at 0 xs lts₀) (laid_at 0 (flat rs) hashes₀) ≡ tab_i r 0 (λ i. key (get_or xs i 0) (get_or rs i [])) ++ drop r (keys_of K lts₀ hashes₀)
  unfolding keys_of
  keys_laid =
      let e : K ≡ r + (K - r) = omega arith in
      let F = key_at (laid_at 0 xs lts₀) (laid_at 0 (flat rs) hashes₀) in
      ap (λ (k : ℕ). tab_i k 0 F) e
      ∙ tab_split F r (K - r) 0
      ∙ ap₂ ◌++◌ (tab_cong r 0 F _ (λ j a l. key_front j (omega arith)))
      (ap (λ (k : ℕ). tab_i (K - r) k F) (zero-add r) ∙ tab_cong (K - r) r F (key_at lts₀ hashes₀) (λ j a l. key_behind j a (omega arith)) ∙ sym (drop_tab (key_at lts₀ hashes₀) r K few))

-- ---- the key list

module _ {ext : ℕ → Bool} {time : ℕ → ℕ} {f : Renaming (Numbers ext time) Real} {c : Cols} {n : ℕ} {rows : List ℕ} (v : KeyFacts ext time f c n rows) where
  -- the keys that are put on the list, by the renaming
  pub keys_are : gather (is_key rows c.kind) (λ k. key (get_or c.time (get_or rows k 0) 0) (row_at c.hash (get_or rows k 0))) n 0
      ≡ map f.key (map (λ (i : ℕ). i) (keep (λ i. not (ext i)) (take n rows)))
  keys_are =
      gather_map (is_key rows c.kind) _ f.key (λ i. not (ext i)) (λ k. get_or rows k 0) n 0
      (λ j a l. ap not (sym (v.external (get_or rows j 0) (v.there j (omega arith)))))
      (λ j a l e. let h = v.there j (omega arith) in ap key_of (sym (v.msg (get_or rows j 0) h)) ∙ sym (v.key (get_or rows j 0) h))
      ∙ ap (λ l. map f.key (keep (λ i. not (ext i)) l)) (take_tab n rows v.named)
      ∙ sym (map-map f.key (λ (i : ℕ). i) (keep (λ i. not (ext i)) (take n rows)))

  module _ {lts₀ hashes₀ lts hashes : List ℕ} {r : ℕ} (k : Keyed n rows c.kind c.time c.hash lts₀ hashes₀ lts hashes r)
      (K : ℕ) (times : K ≤ length lts₀) (room : 32 * K ≤ length hashes₀) (few : rank (is_key rows c.kind) n ≤ K) where
    pub keys_put : keys_of K lts hashes ≡ written Real (map f.key (map (λ (i : ℕ). i) (keep (λ i. not (ext i)) (take n rows)))) (keys_of K lts₀ hashes₀)
    unfolding written
    keys_put =
        let t = is_key rows c.kind in
        let xs = gather t (λ j. get_or c.time (get_or rows j 0) 0) n 0 in
        let rs = gather t (λ j. row_at c.hash (get_or rows j 0)) n 0 in
        let wide = wide_gather t (λ j. row_at c.hash (get_or rows j 0)) n 0 (λ j l. length_row c.hash (get_or rows j 0) (omega (arith, v.there j (omega arith), v.hash_long))) in
        let new = zipped t n (λ j. get_or c.time (get_or rows j 0) 0) (λ j. row_at c.hash (get_or rows j 0)) in
        let long = sym (gathered t (λ j. key (get_or c.time (get_or rows j 0) 0) (row_at c.hash (get_or rows j 0))) n) in
        ap₂ (keys_of K) k.lts_are k.hashes_are
        ∙ keys_laid K xs rs lts₀ hashes₀ (rank t n) (gathered t _ n) (gathered t _ n) wide few times room
        ∙ ap₂ ◌++◌ new (ap (λ (i : ℕ). drop i (keys_of K lts₀ hashes₀)) long)
        ∙ ap (λ l. l ++ drop (length l) (keys_of K lts₀ hashes₀)) keys_are

-- over the state that columns mean: "Collected internals put (created_lt, hash) on the key list in order of collection", rows past them stay
pub keys_after : {ext : ℕ → Bool} {time : ℕ → ℕ} {f : Renaming (Numbers ext time) Real} {c : Cols} (m : Columns)
    → KeyFacts ext time f c m.store.tally.taken m.store.taken
    → {lts₀ hashes₀ lts hashes : List ℕ} {r : ℕ} → Keyed m.store.tally.taken m.store.taken c.kind c.time c.hash lts₀ hashes₀ lts hashes r
    → (K : ℕ) → K ≤ length lts₀ → 32 * K ≤ length hashes₀ → rank (is_key m.store.taken c.kind) m.store.tally.taken ≤ K
    → (fx : Fixed) (b : Setting) (o : ℕ)
    → keys_of K lts hashes ≡ written Real (map f.key (map (Numbers ext time).key (keep (λ i. not ((Numbers ext time).external i)) (state_of ext time fx b o m).taken))) (keys_of K lts₀ hashes₀)
unfolding state_of
keys_after m v k K times room few fx b o = keys_put v k K times room few
