-- The worked cases P1 to P11 of document 01, as one table. A case is its steps: commands, the numbers that a command must answer, and looks
-- at what stands after it. `right` runs a case by the rules and compares. Assumes nothing.
use Rattle.std.specs.Prelude.{Bool, true, false, cond, ◌&&◌, List, [], ◌∷◌, ℕ, ◌-◌, ◌^◌, eqb, length, get_or}
use Rattle.std.proofs.Math.Option.{Option, none, some}
use Rattle.rules.specs.World.{Filter, Filter.off, Filter.below, at_least0}
use Rattle.rules.specs.Queues.{all_msgs}
use Rattle.rules.specs.Fill.{numbers}
use Rattle.rules.specs.Scenario.{W, Command, buffer, group, add, row, keys, fill, isfilled, Mark, Desk, start, target, raised, does, same_line}

pub data Step : Type 0 where
  -- a command; a command with the numbers that it must answer (of a fill: code, collected, operations, dropped)
  runs : Command → Step
  gives : Command → List ℕ → Step
  -- group 0's last number raised to n, as fills on an empty buffer would
  raise : ℕ → Step
  -- messages held by the buffer; its minimum, which is absent or present; the skipped set; the key list, two numbers a row
  holds : ℕ → Step
  least : Option ℕ → Step
  skipped : List ℕ → Step
  keyed : List ℕ → Step
  -- of group 0 the last slot number, 0 if none, the numbers of the slots, a bucket
  last : ℕ → Step
  slots : List ℕ → Step
  bucket : ℕ → List ℕ → Step

unfoldable pub same_option : Option ℕ → Option ℕ → Bool
same_option none none = true
same_option none (some n) = false
same_option (some m) none = false
same_option (some m) (some n) = eqb m n

unfoldable pub rows_of : List Mark → List ℕ
rows_of [] = []
rows_of (k ∷ ks) = k.lt ∷ k.hash ∷ rows_of ks

unfoldable pub sees : Step → Desk → Bool
sees (runs c) d = true
sees (gives c ns) d = same_line d.said ns
sees (raise n) d = true
sees (holds n) d = eqb (length (all_msgs W d.store.now.order)) n
sees (least m) d = same_option d.store.now.least m
sees (skipped ns) d = same_line d.skipped ns
sees (keyed ns) d = same_line (rows_of d.keys) ns
sees (last n) d = eqb (at_least0 (target d 0).now.last) n
sees (slots ns) d = same_line (numbers W (target d 0).now.slots) ns
sees (bucket c ns) d = same_line (get_or (target d 0).now.index c []) ns

unfoldable pub after : Step → Desk → Desk
after (runs c) d = does c d
after (gives c ns) d = does c d
after (raise n) d = raised 0 n d
after (holds n) d = d
after (least m) d = d
after (skipped ns) d = d
after (keyed ns) d = d
after (last n) d = d
after (slots ns) d = d
after (bucket c ns) d = d

unfoldable pub right : List Step → Desk → Bool
right [] d = true
right (s ∷ ss) d =
    let e = after s d in
    let go = right ss e in
    cond (sees s e) go false

unfoldable pub all_right : List (List Step) → Bool
all_right [] = true
all_right (c ∷ cs) = right c start && all_right cs

-- a case begins with a buffer and a group 0 of ample room, and a key list
unfoldable pub case : List Step → List Step
case ss = runs (buffer 64 64) ∷ runs (group 0 64) ∷ runs (keys 64) ∷ ss

-- "Internals I, account number in brackets"
unfoldable pub I : ℕ → Step
I a = runs (add 0 false false a 0 1)

unfoldable pub E : (account time : ℕ) → Step
E a t = runs (add 1 false false a t 1)

-- "Fill (slots, height)", with what it answers
unfoldable pub F : (slots height : ℕ) → Filter → (code collected ops dropped : ℕ) → Step
F k h f c n o d = gives (fill 0 k h f) (c ∷ n ∷ o ∷ d ∷ [])

unfoldable pub table : List (List Step)
table =
    -- P1 empty buffer, fill (1,1): 0 operations, last number 1. P2 then add I[7], fill (1,1): slot 2, 4 operations
    case (F 1 1 off 0 0 0 0 ∷ last 1 ∷ slots [] ∷ [])
    ∷ case (F 1 1 off 0 0 0 0 ∷ I 7 ∷ F 1 1 off 0 1 4 0 ∷ slots (2 ∷ []) ∷ [])
    -- P3 I[7], fill (1,0): 2 operations, message stays, last number 1
    ∷ case (I 7 ∷ F 1 0 off 0 0 2 0 ∷ holds 1 ∷ last 1 ∷ slots [] ∷ [])
    -- P4 I[7], fill (1,2), I[7], fill (1,2): 4 and 4 operations, buckets 1 and 2 both list slot 1, is filled (1,2) says no
    ∷ case (I 7 ∷ F 1 2 off 0 1 4 0 ∷ I 7 ∷ F 1 2 off 0 1 4 0 ∷ bucket 1 (1 ∷ []) ∷ bucket 2 (1 ∷ []) ∷ gives (isfilled 0 1 2) (0 ∷ []) ∷ [])
    -- P5 I[7] I[9], fill (2,2), the same adds, fill (2,2): 8 operations, bucket 1 lists only slot 1
    ∷ case (I 7 ∷ I 9 ∷ F 2 2 off 0 2 8 0 ∷ I 7 ∷ I 9 ∷ F 2 2 off 0 2 8 0 ∷ bucket 1 (1 ∷ []) ∷ bucket 2 (1 ∷ 2 ∷ []) ∷ [])
    -- P6 external of time 100, threshold 100: collected. P7 of time 99: dropped
    ∷ case (E 7 100 ∷ F 1 1 (below 100) 0 1 4 0 ∷ [])
    ∷ case (E 7 99 ∷ F 1 1 (below 100) 0 0 5 1 ∷ [])
    -- P8 row 7, no skip, cost 2^64 − 1: I[7], fill (1,1) reports 2^64 − 1
    ∷ case (runs (row 7 false (2 ^ 64 - 1)) ∷ I 7 ∷ F 1 1 off 0 1 (2 ^ 64 - 1) 0 ∷ [])
    -- P9 row 7, skip, cost 5: I[7], fill (1,1) gives 6; again gives 2
    ∷ case (runs (row 7 true 5) ∷ I 7 ∷ F 1 1 off 0 0 6 0 ∷ F 1 1 off 0 0 2 0 ∷ [])
    -- P10 queue external 90, I, external 90, threshold 100, fill (1,1): collects 1, drops 1, keeps 1, 5 operations
    ∷ case (E 7 90 ∷ I 7 ∷ E 7 90 ∷ F 1 1 (below 100) 0 1 5 1 ∷ holds 1 ∷ [])
    -- P11 I[7], fill (1,1), two I[7], fill (1,3), then fill (1,2): code 13; fill (1,1): code 0
    ∷ case (I 7 ∷ F 1 1 off 0 1 4 0 ∷ I 7 ∷ I 7 ∷ F 1 3 off 0 2 5 0 ∷ F 1 2 off 13 0 0 0 ∷ F 1 1 off 0 0 0 0 ∷ [])
    ∷ []

-- Where 000 and 01 part, answered as 000 does: a slot met already full, its own account passed over, takes no other. By 01's sentence the
-- first would report 102 operations, the second would collect 0 in 2 (docs/DIFFERENCES.md).
unfoldable pub parting : List (List Step)
parting =
    case (I 7 ∷ F 1 1 off 0 1 4 0 ∷ I 7 ∷ F 1 2 off 0 1 4 0 ∷ runs (row 7 true 100) ∷ I 9 ∷ F 1 2 off 0 0 101 0 ∷ [])
    ∷ case (I 7 ∷ I 8 ∷ F 2 1 off 0 2 8 0 ∷ I 7 ∷ F 2 2 off 0 1 4 0 ∷ runs (row 7 true 0) ∷ I 9 ∷ F 2 2 off 0 1 4 0 ∷ [])
    ∷ []
