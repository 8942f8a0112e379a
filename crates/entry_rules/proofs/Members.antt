-- The group's accounts as members: each is the number of its account, below 1,280, and no two are the same; a member has the home of its
-- row, and nobody else has a home. Assumes nothing.
use mathlib.Core.Path.{◌≡◌, refl, sym, ap, ◌∙◌}
use mathlib.Core.Bool.{Bool, true, false, cond, not}
use mathlib.Core.Logic.{⊎_elim}
use mathlib.Core.List.{List, []}
use Prim.Native.Nat.{ℕ, zero, suc, ◌+◌, ◌-◌, ◌<◌, ◌≤◌}
use native.Mathlib.Omega.{arith}
use lib.Dec.{eqb, ltb}
use lib.ListN.{length, get_or, take}
use borrow.Author.Tests.{eq-eqb, ne_eqb, eqb-true, eqb-false, lt-ltb, le-ltb, ltb-true, ltb-false}
use Rattle.numbers.proofs.Bytes.{by_bool}
use Rattle.rules.specs.Queues.{is_in}
use Rattle.rules.specs.Demand.{Once}
use Rattle.message.specs.Real.{Real}
use Rattle.columns.specs.Lists.{tab_i}
use Rattle.columns.specs.Rows.{row_at, rows_of, index_of}
use Rattle.columns.proofs.Rows.{length_rows, get_d_rows}
use Rattle.moves.specs.Moves.{nowhere}
use Rattle.meaning.specs.Meaning.{Numbers}
use Rattle.entry.specs.Entry.{party_of, numbered_c, housed_c}
use Rattle.entry_rules.specs.Naming.{num_of, acc_of, Named}
use Rattle.entry_rules.proofs.Naming.{apart, seat, found, num_order, num_group, named_group, small_group}
use Rattle.entry_rules.proofs.Tabs.{search, in_tab, out_of_tab, laid_long, front_cell, front_take}
use Rattle.entry_rules.proofs.Houses.{homes_long, home_kept, home_given}

module _ (order : List ℕ) (places : ℕ) (group : List ℕ) (n : ℕ) (ls : List (List ℕ)) (few : places ≤ 256) (some : n ≤ 1024)
    (once : Once Real (rows_of n group)) where
  abbrev os : List (List ℕ)
  os = rows_of places order

  abbrev gs : List (List ℕ)
  gs = rows_of n group

  few' : length os ≤ 256
  few' = omega (arith, length_rows places order)

  some' : length gs ≤ 1024
  some' = omega (arith, length_rows n group)

  -- a party is the number of its account
  pub party_num : (g : ℕ) → g < n → party_of order places group g ≡ num_of os gs ls (row_at group g)
  party_num g l =
      let x = row_at group g in
      let e : get_or gs g [] ≡ x = get_d_rows n g group [] l in
      let here : index_of x gs ≡ g = ap (λ (y : List ℕ). index_of y gs) (sym e) ∙ seat gs once g (omega (arith, length_rows n group)) in
      let long = length_rows places order in
      by_bool (ltb (index_of x os) places)
      (λ t. let h = ltb-true (index_of x os) places t in rw t (sym (num_order os gs ls few' some' x (omega arith))))
      (λ f. let h = ltb-false (index_of x os) places f in
      rw f (ap (λ (k : ℕ). 256 + k) (sym here)
      ∙ sym (num_group os gs ls few' some' x (le-ltb (index_of x os) (length os) (omega arith)) (omega (arith, length_rows n group)))))

  pub named_row : (g : ℕ) → g < n → Named os gs ls (row_at group g)
  named_row g l =
      let e : get_or gs g [] ≡ row_at group g = get_d_rows n g group [] l in
      rw e at (named_group os gs ls few' some' g (omega (arith, length_rows n group)))

  pub party_small : (g : ℕ) → g < n → party_of order places group g < 1280
  party_small g l =
      let e : get_or gs g [] ≡ row_at group g = get_d_rows n g group [] l in
      let h = small_group os gs ls few' some' g (omega (arith, length_rows n group)) in
      omega (arith, party_num g l, ap (num_of os gs ls) e)

  -- the account of a party
  pub party_acc : (g : ℕ) → g < n → acc_of os gs ls (party_of order places group g) ≡ row_at group g
  party_acc g l = ap (acc_of os gs ls) (party_num g l) ∙ named_row g l

  pub party_once : (i j : ℕ) → i < n → j < n → party_of order places group i ≡ party_of order places group j → i ≡ j
  party_once i j a b e =
      let long = length_rows n group in
      apart gs once i j (omega arith) (omega arith)
      (get_d_rows n i group [] a ∙ sym (party_acc i a) ∙ ap (acc_of os gs ls) e ∙ party_acc j b ∙ sym (get_d_rows n j group [] b))

  -- ---- the columns
  module _ (member₀ : List ℕ) (long : length member₀ ≡ 1280) where
    abbrev member : List ℕ
    member = numbered_c order places group n member₀

    pub member_long : length member ≡ 1280
    unfolding numbered_c
    member_long = laid_long (party_of order places group) 0 n member₀ (omega arith) ∙ long

    pub member_cell : (g : ℕ) → g < n → get_or member g 0 ≡ party_of order places group g
    unfolding numbered_c
    member_cell g l = front_cell (party_of order places group) n member₀ (omega arith) g l

    pub member_take : take n member ≡ tab_i n 0 (party_of order places group)
    unfolding numbered_c
    member_take = front_take (party_of order places group) n member₀ (omega arith)

    pub member_small : (g : ℕ) → g < n → get_or member g 0 < 1280
    member_small g l = omega (arith, member_cell g l, party_small g l)

    pub member_once : (i j : ℕ) → i < n → j < n → get_or member i 0 ≡ get_or member j 0 → i ≡ j
    member_once i j a b e = party_once i j a b (sym (member_cell i a) ∙ e ∙ member_cell j b)

    module _ (homes home₀ : List ℕ) (homes-size : length home₀ ≡ 1280) (none : (p : ℕ) → p < 1280 → get_or home₀ p 0 ≡ nowhere)
        (slots : ℕ) (low : slots ≤ 64) (lodge : (g : ℕ) → g < n → get_or homes g 0 < slots) where
      abbrev home : List ℕ
      home = housed_c homes member n 0 home₀

      pub home_long : length home ≡ 1280
      home_long = homes_long homes member n 0 home₀ ∙ homes-size

      pub home_of : (g : ℕ) → g < n → get_or home (party_of order places group g) 0 ≡ get_or homes g 0
      home_of g l =
          ap (λ (p : ℕ). get_or home p 0) (sym (member_cell g l))
          ∙ home_given homes member n 0 home₀
          (λ i j a b c d e. member_once i j (omega arith) (omega arith) e)
          (λ i a b. let z = member_small i (omega arith) in omega arith) g (omega arith) (omega arith)

      nobody : (p : ℕ) → p < 1280 → ((j : ℕ) → 0 ≤ j → j < 0 + n → party_of order places group j ≡ p → ⊥) → get_or home p 0 ≡ nowhere
      nobody p l h =
          home_kept homes member p n 0 home₀ (λ j a b e. h j a b (sym (member_cell j (omega arith)) ∙ e)) ∙ none p l

      pub home_housed : (ext : ℕ → Bool) (time : ℕ → ℕ) (p : ℕ) → p < 1280
          → is_in (Numbers ext time) p (take n member) ≡ not (eqb (get_or home p 0) nowhere)
      home_housed ext time p l =
          ap (is_in (Numbers ext time) p) member_take
          ∙ ⊎_elim
          (λ w. let j = w.0 in
          let z : j < n = omega (arith, w.2) in
          let e : get_or home p 0 ≡ get_or homes j 0 = ap (λ (q : ℕ). get_or home q 0) (sym w.3) ∙ home_of j z in
          in_tab ext time (party_of order places group) p n 0 j w.1 w.2 w.3
          ∙ sym (ap not (ne_eqb (get_or home p 0) nowhere (λ q. omega (arith, lodge j z, e, q)))))
          (λ h. out_of_tab ext time (party_of order places group) p n 0 h ∙ sym (ap not (eq-eqb (get_or home p 0) nowhere (nobody p l h))))
          (search (party_of order places group) p n 0)

      pub home_lodged : (p : ℕ) → p < 1280 → slots ≤ get_or home p 0 → get_or home p 0 ≡ nowhere
      home_lodged p l h =
          ⊎_elim
          (λ w. let j = w.0 in
          let z : j < n = omega (arith, w.2) in
          let e : get_or home p 0 ≡ get_or homes j 0 = ap (λ (q : ℕ). get_or home q 0) (sym w.3) ∙ home_of j z in
          absurd (omega (arith, lodge j z, e, h)))
          (λ g. nobody p l g)
          (search (party_of order places group) p n 0)
