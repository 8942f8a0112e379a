-- `buckets::listed` meets its contract: the entries of a bucket are what stands before its first mark (proofs/Entries.antt). Assumes nothing.
use Rattle.std.proofs.Common.{rules, tests, arith, ◌≡◌, ◌∙◌, ap, ℕ, ◌+◌, ◌-◌, ◌*◌, not, ltb, take, drop, Option}
use Rattle.std.proofs.lemmas.Iterator.{YieldsList-from_slice}
use Rattle.std.proofs.lemmas.Iterator.Search.{position_from_yields_List}
use Rattle.std.specs.Prelude.{position}
use Rattle.std.specs.Option.{unwrap_or}
use Rattle.buckets.specs.Cells.{mark, bucket_of, cells_of}
use Rattle.buckets.proofs.Cells.{length_cells}
use Rattle.buckets.proofs.Entries.{first_mark}
use Rattle.buckets.proofs.listed.Goals as goal

pub returns : goal.returns
unfolding bucket_of cells_of
returns c =
    let now = c.args.buckets.now in
    let k = c.args.c in
    let e : c.position.result ≡ position (λ (x : ℕ). not (ltb x mark)) (take (64 * k + 64 - 64 * k) (drop (64 * k) now)) = position_from_yields_List (λ (x : ℕ). not (ltb x mark)) _ _ c.position.result c.position.ensures.ran (YieldsList-from_slice _ c.iter.ensures.rest) (λ x b q h. search (rules, tests)) in
    let long : 64 * k + 64 - 64 * k ≡ 64 = omega arith in
    c.unwrap_or.ensures ∙ ap (λ (o : Option ℕ). unwrap_or o 64) (rw long at e) ∙ first_mark (cells_of now k) (length_cells now k c.told-buckets c.requires)
