-- What the cells of an index are: each head is the last place with its hash, each link the last one before its place with the same hash.
-- `Chained` says so of the names entered so far; entering one more keeps it, since a link is written once and a head holds the place before.
-- Assumes nothing.
use mathlib.Core.Path.{◌≡◌, sym, ap, ◌∙◌}
use mathlib.Core.List.{List, [], ◌∷◌, ◌++◌, append-nil}
use Prim.Native.Nat.{ℕ, ◌+◌, ◌≤◌, ◌<◌}
use native.Mathlib.Nat.{not-suc-le-zero}
use native.Mathlib.Omega.{arith}
use lib.Dec.{eqb, ltb}
use lib.ListN.{length, get_or, set, length-set, length-append, length-replicate, get_or-replicate, get_or-append}
use lib.Seq.{get_or-set_same, get_or-set_other, get_or-append_seam, append_snoc}
use borrow.Author.Tests.{eqb-true, eqb-false, ltb-true, ltb-false}
use Rattle.numbers.proofs.Bytes.{by_bool}
use Rattle.index.specs.Names.{hash_of, linked_c, enter_c, entered, no_names, index_of_names}

-- the hash of the name at place p
abbrev pub hash_at : List (List ℕ) → ℕ → ℕ
hash_at names p = hash_of (get_or names p [])

-- k is 1 + the last place below q whose name has this hash, or 0
pub record Last (names : List (List ℕ)) (hash q k : ℕ) : Type 0 where
  pub within : k ≤ q
  pub same : (p : ℕ) → k ≡ p + 1 → hash_at names p ≡ hash
  pub none : (p : ℕ) → k ≤ p → p < q → hash_at names p ≡ hash → ⊥

-- the cells are the index of these names
pub record Chained (names : List (List ℕ)) (cells : List ℕ) : Type 0 where
  pub many : length cells ≡ 512
  pub heads : (hash : ℕ) → hash < 256 → Last names hash (length names) (get_or cells (256 + hash) 0)
  pub links : (p : ℕ) → p < length names → hash_at names p < 256 → Last names (hash_at names p) p (get_or cells p 0)

zero_cell : (i : ℕ) → i < 512 → get_or no_names i 0 ≡ 0
unfolding no_names
zero_cell i l = get_or-replicate 512 i 0 0 l

pub chained_none : Chained [] no_names
unfolding no_names
chained_none = record {
  many = length-replicate {A = ℕ} 512 0;
  heads = λ hash l.
      let z = zero_cell (256 + hash) (omega arith) in
      record {
        within = omega arith;
        same = λ p e. absurd (not-suc-le-zero {n = p} (omega arith));
        none = λ p a b. absurd (not-suc-le-zero b);
      };
  links = λ p l b. absurd (not-suc-le-zero l);
}

-- ---- one name more
module _ (names : List (List ℕ)) (y : List ℕ) where
  old_name : (p : ℕ) → p < length names → hash_at (names ++ (y ∷ [])) p ≡ hash_at names p
  old_name p l = ap hash_of (get_or-append names (y ∷ []) [] p l)

  new_name : hash_at (names ++ (y ∷ [])) (length names) ≡ hash_of y
  new_name = ap hash_of (get_or-append_seam names y [] [])

  length_more : length (names ++ (y ∷ [])) ≡ length names + 1
  length_more = length-append names (y ∷ [])

  -- places below the new one are as they were
  keep_last : (hash q k : ℕ) → q ≤ length names → Last names hash q k → Last (names ++ (y ∷ [])) hash q k
  keep_last hash q k l v = record {
    within = v.within;
    same = λ p e. old_name p (omega (arith, v.within)) ∙ v.same p e;
    none = λ p a b e. v.none p a b (sym (old_name p (omega arith)) ∙ e);
  }

  module _ (cells : List ℕ) (v : Chained names cells) (room : length names < 256) where
    -- the cells with the link alone
    abbrev linked : List ℕ
    linked = set cells (length names) (get_or cells (256 + hash_of y) 0)

    link_cell : (p : ℕ) → p < length names → get_or (enter_c y (length names) cells) p 0 ≡ get_or cells p 0
    unfolding linked_c
    link_cell p l =
        get_or-set_other linked (256 + hash_of y) p (length names + 1) 0 (λ e. absurd (omega arith))
        ∙ get_or-set_other cells (length names) p (get_or cells (256 + hash_of y) 0) 0 (λ e. absurd (omega arith))

    new_link : get_or (enter_c y (length names) cells) (length names) 0 ≡ get_or cells (256 + hash_of y) 0
    unfolding linked_c
    new_link =
        get_or-set_other linked (256 + hash_of y) (length names) (length names + 1) 0 (λ e. absurd (omega arith))
        ∙ get_or-set_same cells (length names) (get_or cells (256 + hash_of y) 0) 0 (omega (arith, v.many))

    new_head : hash_of y < 256 → get_or (enter_c y (length names) cells) (256 + hash_of y) 0 ≡ length names + 1
    unfolding linked_c
    new_head l =
        let long = length-set cells (length names) (get_or cells (256 + hash_of y) 0) in
        get_or-set_same linked (256 + hash_of y) (length names + 1) 0 (omega (arith, v.many))

    old_head : (hash : ℕ) → (hash ≡ hash_of y → ⊥) → get_or (enter_c y (length names) cells) (256 + hash) 0 ≡ get_or cells (256 + hash) 0
    unfolding linked_c
    old_head hash n =
        get_or-set_other linked (256 + hash_of y) (256 + hash) (length names + 1) 0 (λ e. n (omega arith))
        ∙ get_or-set_other cells (length names) (256 + hash) (get_or cells (256 + hash_of y) 0) 0 (λ e. absurd (omega arith))

    -- the new name is the last one with its hash
    head_of : (hash : ℕ) → hash < 256 → Last (names ++ (y ∷ [])) hash (length names + 1) (get_or (enter_c y (length names) cells) (256 + hash) 0)
    head_of hash l =
        by_bool (eqb hash (hash_of y))
        (λ b. let e = eqb-true hash (hash_of y) b in
        rw (e, new_head (rw e at l))
        record {
          within = omega arith;
          same = λ p s. let z : p ≡ length names = omega arith in rw z new_name;
          none = λ p a c. absurd (omega arith);
        })
        (λ b. let n = eqb-false hash (hash_of y) b in
        let w = v.heads hash l in
        rw (old_head hash n)
        record {
          within = omega (arith, w.within);
          same = λ p s. old_name p (omega (arith, w.within)) ∙ w.same p s;
          none = λ p a c e.
              by_bool (ltb p (length names))
              (λ t. let u = ltb-true p (length names) t in w.none p a u (sym (old_name p u) ∙ e))
              (λ f. let u = ltb-false p (length names) f in
              let z : p ≡ length names = omega arith in
              n (sym e ∙ ap (hash_at (names ++ (y ∷ []))) z ∙ new_name));
        })

    link_of : (p : ℕ) → p < length names + 1 → hash_at (names ++ (y ∷ [])) p < 256
        → Last (names ++ (y ∷ [])) (hash_at (names ++ (y ∷ [])) p) p (get_or (enter_c y (length names) cells) p 0)
    link_of p l b =
        by_bool (ltb p (length names))
        (λ t. let u = ltb-true p (length names) t in
        rw (link_cell p u, old_name p u) (keep_last _ p _ (omega arith) (v.links p u (rw (old_name p u) at b))))
        (λ f. let u = ltb-false p (length names) f in
        let z : p ≡ length names = omega arith in
        rw (z, new_link, new_name) (keep_last _ (length names) _ (omega arith) (v.heads (hash_of y) (rw (z, new_name) at b))))

    pub chained_more : Chained (names ++ (y ∷ [])) (enter_c y (length names) cells)
    unfolding linked_c
    chained_more = record {
      many = length-set linked (256 + hash_of y) (length names + 1) ∙ length-set cells (length names) (get_or cells (256 + hash_of y) 0) ∙ v.many;
      heads = λ hash l. rw length_more (head_of hash l);
      links = λ p l b. link_of p (rw length_more at l) b;
    }

-- ---- all names

chained_all : (names rest : List (List ℕ)) (cells : List ℕ) → Chained names cells → length names + length rest ≤ 256
    → Chained (names ++ rest) (entered (length names) rest cells)
unfolding entered
chained_all names [] cells v room = rw append-nil v
chained_all names (y ∷ rest) cells v room =
    let one = chained_more names y cells v (omega arith) in
    let all = chained_all (names ++ (y ∷ [])) rest (enter_c y (length names) cells) one (omega (arith, length_more names y)) in
    rw (append_snoc, length_more names y) at all

pub chained : (names : List (List ℕ)) → length names ≤ 256 → Chained names (index_of_names names)
unfolding index_of_names
chained names room = chained_all [] names no_names chained_none (omega arith)

pub length_index : (names : List (List ℕ)) → length names ≤ 256 → length (index_of_names names) ≡ 512
length_index names room = (chained names room).many

-- ---- one name more, as cells

entered_more : (place : ℕ) (names : List (List ℕ)) (y cells : List ℕ) (last : ℕ) → last ≡ place + length names
    → entered place (names ++ (y ∷ [])) cells ≡ enter_c y last (entered place names cells)
unfolding entered
entered_more place [] y cells last e = let z : last ≡ place = omega arith in rw z
entered_more place (x ∷ names) y cells last e = entered_more (place + 1) names y (enter_c x place cells) last (omega arith)

pub index_more : (names : List (List ℕ)) (y : List ℕ) → index_of_names (names ++ (y ∷ [])) ≡ enter_c y (length names) (index_of_names names)
unfolding index_of_names
index_more names y = entered_more 0 names y no_names (length names) (omega arith)
