-- The steps of a transaction as laws of columns: what the copies between the halves need, and how the new columns make one value.
-- Assumes nothing.
use mathlib.Core.Path.{◌≡◌, refl, sym, ap, subst, ◌∙◌}
use mathlib.Core.Logic.{⊎_elim, inl, inr}
use mathlib.Core.List.{List, []}
use Prim.Native.Nat.{ℕ, ◌+◌, ◌*◌, ◌≤◌}
use native.Mathlib.Omega.{arith}
use lib.ListN.{length, set, replicate, length-replicate}
use lib.Dec.{eqb}
use mir.Syntax.{w64}
use mir.Val.{Fits}
use borrow.Author.Tests.{eqb-false}
use Rattle.std.specs.Prelude.{Err}
use Rattle.numbers.proofs.Bytes.{by_bool}
use Rattle.columns.proofs.Laid.{length_laid}
use Rattle.index.specs.Names.{indexed_by}
use Rattle.message.specs.declared.Refusal.TheVariants.{NoTransaction, InTransaction}
use Rattle.message.specs.Answers.{Code, Done, number as number_of}
use Rattle.queues.specs.Cols.{Cols, number, with_numbers}
use Rattle.queues.specs.Indexed.{indexed_c}
use Rattle.queues.specs.Good.{Long, Good}
use Rattle.queues.specs.Append.{left}
use Rattle.queues.specs.Transact.{copied, cleared, copied_c, cleared_c, begun_c, committed_c, rolled_c, begin_c, commit_c, rollback_c}
use Rattle.queues.proofs.Copied.{length_copied}
use Rattle.keeping.specs.declared.Extent.{Extent}
use Rattle.keeping.specs.Marks.{begin_code, end_code, held_of, kept_of}
use Rattle.keeping.proofs.Codes.{begins, begun_already, ends, none_to_end}
use Rattle.transactions.specs.Halves.{Halves, Commits}

-- ---- what the copies between the halves need

-- 32 bytes a row or a place
pub fits_32 : {x : ℕ} → x ≤ 1024 → Fits w64 (32 * x)
fits_32 l = record { fits = omega arith }

module _ {from to places_from places_to n a : ℕ} (h : Halves from to places_from places_to n a) where
  pub from_fits : Fits w64 (32 * from)
  from_fits = ⊎_elim (λ w. fits_32 (omega arith)) (λ w. fits_32 (omega arith)) h.rows

  pub to_fits : Fits w64 (32 * to)
  to_fits = ⊎_elim (λ w. fits_32 (omega arith)) (λ w. fits_32 (omega arith)) h.rows

  pub places_from_fits : Fits w64 (32 * places_from)
  places_from_fits = ⊎_elim (λ w. fits_32 (omega arith)) (λ w. fits_32 (omega arith)) h.places

  pub places_to_fits : Fits w64 (32 * places_to)
  places_to_fits = ⊎_elim (λ w. fits_32 (omega arith)) (λ w. fits_32 (omega arith)) h.places

  pub copies_rows : {k size : ℕ} → k ≤ n → size ≡ 2048 → (from + k ≤ size) × (to + k ≤ size)
  copies_rows few e =
      ⊎_elim
      (λ w. (omega arith, omega arith))
      (λ w. (omega arith, omega arith))
      h.rows

  pub copies_bytes : {k size : ℕ} → k ≤ 32 * n → size ≡ 65536 → (32 * from + k ≤ size) × (32 * to + k ≤ size)
  copies_bytes few e =
      ⊎_elim
      (λ w. (omega arith, omega arith))
      (λ w. (omega arith, omega arith))
      h.rows

  pub copies_accounts : {k size : ℕ} → k ≤ 32 * a → size ≡ 16384 → (32 * places_from + k ≤ size) × (32 * places_to + k ≤ size)
  copies_accounts few e =
      ⊎_elim
      (λ w. (omega arith, omega arith))
      (λ w. (omega arith, omega arith))
      h.places

-- ---- a clearing keeps the lengths

length_cleared : (n : ℕ) (xs : List ℕ) → n ≤ length xs → length (cleared n xs) ≡ length xs
length_cleared n xs l = length_laid 0 (replicate n 0) xs (rw length-replicate (omega arith))

-- the lengths say nothing of the numbers
pub long_any : (c : Cols) (ns : List ℕ) → Long c → Long (with_numbers ns c)
long_any c ns long = record {
  owner = long.owner;
  kind = long.kind;
  form = long.form;
  time = long.time;
  address = long.address;
  hash = long.hash;
  accounts = long.accounts;
}

long_cleared : (n a : ℕ) (c x : Cols) → x ≡ cleared_c n a c → n ≤ 1024 → a ≤ 256 → Long c → Long x
unfolding cleared_c
long_cleared n a c x e l m long =
    subst Long (sym e)
    (record {
      owner = length_cleared n c.owner (omega (arith, long.owner)) ∙ long.owner;
      kind = length_cleared n c.kind (omega (arith, long.kind)) ∙ long.kind;
      form = length_cleared n c.form (omega (arith, long.form)) ∙ long.form;
      time = length_cleared n c.time (omega (arith, long.time)) ∙ long.time;
      address = length_cleared (32 * n) c.address (omega (arith, long.address)) ∙ long.address;
      hash = length_cleared (32 * n) c.hash (omega (arith, long.hash)) ∙ long.hash;
      accounts = length_cleared (32 * a) c.accounts (omega (arith, long.accounts)) ∙ long.accounts;
    })

-- ---- what a half may hold

-- no more than what is held now, and no more than what was held at begin while a transaction is open
module _ (c : Cols) (good : Good c) where
  pub held_few : (h : Extent) → h ≡ held_of c.numbers → (h.messages ≤ 1024) × (h.places ≤ 256)
  held_few h e = (
    omega (arith, ap (λ (x : Extent). x.messages) e, good.now.messages, good.M·high),
    omega (arith, ap (λ (x : Extent). x.places) e, good.now.places, good.A·high),
  )

  pub kept_few : (b : Extent) → b ≡ kept_of c.numbers → (k : Code) → k ≡ end_code (number c 8) → number_of k ≡ 0 → (b.messages ≤ 1024) × (b.places ≤ 256)
  kept_few b e k m d =
      let kept = good.then (omega (arith, eqb-false (number c 8) 0 (ends (number c 8) m d), good.opened)) in (
        omega (arith, ap (λ (x : Extent). x.messages) e, kept.messages, good.M·high),
        omega (arith, ap (λ (x : Extent). x.places) e, kept.places, good.A·high),
      )

  pub long_again : (h : Extent) → h ≡ held_of c.numbers → (x : Cols) → x ≡ cleared_c h.messages h.places (with_numbers [] c) → Long x
  long_again h e x f = long_cleared h.messages h.places (with_numbers [] c) x f (held_few h e).0 (held_few h e).1 (long_any c [] good.lengths)

  pub down : (h : Extent) → h ≡ held_of c.numbers → Halves 0 1024 0 256 h.messages h.places
  down h e = record { messages = (held_few h e).0; accounts = (held_few h e).1; rows = inl (refl, refl); places = inl (refl, refl) }

  pub up : (b : Extent) → b ≡ kept_of c.numbers → (k : Code) → k ≡ end_code (number c 8) → number_of k ≡ 0 → Halves 1024 0 256 0 b.messages b.places
  up b e k m d = record { messages = (kept_few b e k m d).0; accounts = (kept_few b e k m d).1; rows = inr (refl, refl); places = inr (refl, refl) }

  -- what was copied back can be indexed
  pub rebuildable : (h b : Extent) (x y : Cols) → h ≡ held_of c.numbers → b ≡ kept_of c.numbers
      → (k : Code) → k ≡ end_code (number c 8) → number_of k ≡ 0
      → x ≡ cleared_c h.messages h.places (with_numbers [] c) → y ≡ copied_c 1024 0 256 0 b.messages b.places x
      → (32 * number c 10 ≤ length y.accounts) × (number c 10 ≤ 256)
  unfolding copied_c
  rebuildable h b x y e l k m d f g =
      let few = (kept_few b l k m d).1 in
      let long = (long_again h e x f).accounts in
      let same = ap (λ (w : Cols). length w.accounts) g ∙ length_copied (32 * 256) (32 * 0) (32 * b.places) x.accounts (omega arith) (omega arith) in
      let places = ap (λ (w : Extent). w.places) l in
      (omega arith, omega arith)

-- ---- the calls' answers

pub begin_refused : (c : Cols) (k : Code) → k ≡ begin_code (number c 8) → (number_of k ≡ 0 → ⊥) → left k c ≡ begin_c c
unfolding begin_c
begin_refused c k e d =
    let f = begun_already (number c 8) e d in
    let code : k ≡ Err InTransaction = rw f at e in
    rw f (ap (λ (x : Code). left x c) code)

pub begin_done : (c x : Cols) (k : Code) (h : Extent) (ns : List ℕ) → k ≡ begin_code (number c 8) → number_of k ≡ 0 → h ≡ held_of c.numbers
    → x ≡ copied_c 0 1024 0 256 h.messages h.places (with_numbers [] c) → ns ≡ set (copied 2 9 6 c.numbers) 8 1
    → left k (with_numbers ns x) ≡ begin_c c
unfolding begin_c begun_c copied_c
begin_done c x k h ns e d l f g =
    let t = begins (number c 8) e d in
    let code : k ≡ Done = rw t at e in
    let whole = f ∙ ap (λ (y : Extent). copied_c 0 1024 0 256 y.messages y.places (with_numbers [] c)) l in
    rw t (λ i. left (code i) (with_numbers (g i) (whole i)))

pub rollback_refused : (c : Cols) (k : Code) → k ≡ end_code (number c 8) → (number_of k ≡ 0 → ⊥) → left k c ≡ rollback_c c
unfolding rollback_c
rollback_refused c k e d =
    let t = none_to_end (number c 8) e d in
    let code : k ≡ Err NoTransaction = rw t at e in
    rw t (ap (λ (x : Code). left x c) code)

pub rollback_done : (c x y : Cols) (k : Code) (h b : Extent) (ns : List ℕ) → k ≡ end_code (number c 8) → number_of k ≡ 0
    → h ≡ held_of c.numbers → b ≡ kept_of c.numbers → x ≡ cleared_c h.messages h.places (with_numbers [] c)
    → y ≡ copied_c 1024 0 256 0 b.messages b.places x
    → ns ≡ indexed_by (number c 10) y.accounts (set (copied 9 2 6 c.numbers) 8 0) → left k (with_numbers ns y) ≡ rollback_c c
unfolding rollback_c rolled_c indexed_c copied_c cleared_c
rollback_done c x y k h b ns e d l m f g n =
    let z = ends (number c 8) e d in
    let code : k ≡ Done = rw z at e in
    let fresh = f ∙ ap (λ (w : Extent). cleared_c w.messages w.places (with_numbers [] c)) l in
    let whole = g ∙ (λ i. copied_c 1024 0 256 0 (m i).messages (m i).places (fresh i)) in
    rw z
    ((λ i. left (code i) (with_numbers (n i) y))
    ∙ (λ i. left Done (with_numbers (indexed_by (number c 10) (whole i).accounts (set (copied 9 2 6 c.numbers) 8 0)) (whole i))))

-- what a commit leaves of the numbers, said of the columns
pub commit_columns : (c : Cols) (r : Code) (ns : List ℕ) → Commits r c.numbers ns → left r (with_numbers ns c) ≡ commit_c c
unfolding commit_c committed_c
commit_columns c r ns k =
    (λ i. left (k.code i) (with_numbers (k.numbers i) c)) ∙ by_bool (eqb (number c 8) 0) (λ t. rw t) (λ f. rw f)
