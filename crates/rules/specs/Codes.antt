-- Worked cases of the codes 1 to 15 and of transactions, in the form of `Cases`: each code where it is met first, beside the neighbour that is
-- accepted, and the order in which two that fit are given. Assumes nothing.
use Rattle.std.specs.Prelude.{true, false, List, [], ◌∷◌, ℕ, ◌-◌, ◌^◌}
use Rattle.std.proofs.Math.Option.{none, some}
use Rattle.rules.specs.World.{Filter.off}
use Rattle.rules.specs.Scenario.{Command, buffer, group, add, remove, begin, commit, rollback, row, keys, fill, join, isfilled, full, times}
use Rattle.rules.specs.Cases.{Step, runs, gives, raise, holds, least, skipped, keyed, last, slots, bucket, case, I, E, F}

-- a command that answers one number
unfoldable pub is : Command → ℕ → Step
is c n = gives c (n ∷ [])

unfoldable pub set_ups : List (List Step)
set_ups =
    -- 1, and the fresh one of size 1
    (is (buffer 1 1) 0 ∷ is (buffer 1024 256) 0 ∷ is (buffer 0 1) 1 ∷ is (buffer 1025 1) 1 ∷ is (buffer 9 0) 1 ∷ is (buffer 9 257) 1 ∷ I 7 ∷ holds 1 ∷ is (add 0 false false 7 0 1) 4 ∷ [])
    ∷ (is (group 0 1) 0 ∷ is (group 0 64) 0 ∷ is (group 0 0) 1 ∷ is (group 0 65) 1 ∷ F 2 1 off 9 0 0 0 ∷ F 1 1 off 0 0 0 0 ∷ [])
    ∷ []

unfoldable pub adds : List (List Step)
adds =
    -- 2 before 3; 3 for every kind from 2 on
    (is (add 2 true false 7 0 1) 2 ∷ is (add 2 false false 7 0 1) 3 ∷ is (add 255 false false 7 0 1) 3 ∷ is (add 1 false false 7 0 1) 0 ∷ [])
    -- 4 before 5; "room freed by a fill or removal serves later adds"
    ∷ (runs (buffer 2 1) ∷ I 7 ∷ is (add 0 false false 9 0 1) 5 ∷ I 7 ∷ is (add 0 false false 9 0 1) 4 ∷ is (add 0 false false 7 0 1) 4 ∷ is (remove (7 ∷ [])) 0 ∷ is (add 0 false false 9 0 1) 0 ∷ [])
    -- of another form the account is 0
    ∷ (runs (buffer 2 1) ∷ I 0 ∷ is (add 0 false true 9 0 1) 0 ∷ [])
    -- 8; a name without a queue, and one given twice
    ∷ case (E 7 5 ∷ is (remove (7 ∷ [])) 8 ∷ holds 1 ∷ I 8 ∷ is (remove (9 ∷ 8 ∷ 8 ∷ [])) 0 ∷ holds 1 ∷ [])
    -- full by count, and never by slots
    ∷ case (gives (full 0) (1 ∷ 0 ∷ []) ∷ gives (full 1) (0 ∷ 0 ∷ []) ∷ I 7 ∷ gives (full 1) (1 ∷ 0 ∷ []) ∷ [])
    ∷ []

unfoldable pub transactions : List (List Step)
transactions =
    -- 6, 7
    (is commit 6 ∷ is rollback 6 ∷ is begin 0 ∷ is begin 7 ∷ is commit 0 ∷ is begin 0 ∷ is rollback 0 ∷ is rollback 6 ∷ [])
    -- an account drained inside a transaction comes back on rollback, and room freed by the fill serves an add before it
    ∷ case (I 7 ∷ is begin 0 ∷ F 1 2 off 0 1 4 0 ∷ is rollback 0 ∷ holds 1 ∷ [])
    ∷ (runs (buffer 2 2) ∷ runs (group 0 4) ∷ runs (keys 9) ∷ I 7 ∷ I 7 ∷ is begin 0 ∷ F 1 2 off 0 2 5 0 ∷ holds 0 ∷ is (add 0 false false 7 0 1) 0 ∷ is rollback 0 ∷ holds 2 ∷ [])
    -- the minimum: absent, set, lowered, not raised; lowered inside a transaction and rolled back; cleared by a fill that drains the buffer
    ∷ case (least none ∷ E 7 90 ∷ E 8 50 ∷ E 9 70 ∷ least (some 50) ∷ is begin 0 ∷ E 7 10 ∷ least (some 10) ∷ is rollback 0 ∷ least (some 50) ∷ holds 3 ∷ [])
    ∷ case (E 7 (2 ^ 64 - 1) ∷ least (some (2 ^ 64 - 1)) ∷ is begin 0 ∷ F 1 1 off 0 1 4 0 ∷ least none ∷ is rollback 0 ∷ least (some (2 ^ 64 - 1)) ∷ [])
    ∷ []

unfoldable pub fills : List (List Step)
fills =
    -- 9 twice, 10; the lowest that fits
    (runs (buffer 2 2) ∷ runs (group 0 4) ∷ runs (keys 0) ∷ I 7 ∷ F 5 1 off 9 0 0 0 ∷ F 1 17 off 9 0 0 0 ∷ F 1 16 off 10 0 0 0 ∷ runs (keys 1) ∷ F 1 16 off 0 1 4 0 ∷ [])
    -- the waiting line is served from its front: 9 joins slot 1, and 6 slot 2
    ∷ case (I 7 ∷ I 8 ∷ I 9 ∷ I 6 ∷ F 2 2 off 0 4 16 0 ∷ bucket 2 (1 ∷ 2 ∷ []) ∷ [])
    -- a skip verdict joins the set once; collected internals are written over the first rows of the key list
    ∷ case (runs (row 7 true 0) ∷ I 7 ∷ F 1 1 off 0 0 1 0 ∷ F 1 1 off 0 0 2 0 ∷ skipped (7 ∷ []) ∷ [])
    ∷ case (runs (keys 2) ∷ I 7 ∷ E 8 5 ∷ F 2 1 off 0 2 8 0 ∷ keyed (0 ∷ 1 ∷ 0 ∷ 0 ∷ []) ∷ [])
    -- 11 by rows
    ∷ case (runs (times 256 (row 7 true 0)) ∷ F 1 1 off 0 0 0 0 ∷ runs (row 7 false 0) ∷ F 1 1 off 11 0 0 0 ∷ [])
    -- the last number is not the number of slots
    ∷ case (F 1 1 off 0 0 0 0 ∷ last 1 ∷ slots [] ∷ is (isfilled 0 1 1) 0 ∷ I 7 ∷ F 1 1 off 0 1 4 0 ∷ last 2 ∷ is (isfilled 0 1 1) 1 ∷ is (isfilled 0 2 1) 0 ∷ [])
    -- 12: the last number goes on to 65,535 and no further
    ∷ case (raise 65534 ∷ F 2 1 off 12 0 0 0 ∷ F 1 1 off 0 0 0 0 ∷ last 65535 ∷ F 1 1 off 12 0 0 0 ∷ F 0 1 off 0 0 0 0 ∷ [])
    ∷ []

-- groups 0 and 1 of rooms l and r, each with one slot, of accounts a and b
unfoldable pub pair : (l r a b : ℕ) → List Step → List Step
pair l r a b ss =
    runs (buffer 2 2) ∷ runs (keys 9) ∷ runs (group 0 l) ∷ runs (group 1 r) ∷ I a ∷ runs (fill 0 1 1 off) ∷ I b ∷ runs (fill 1 1 1 off) ∷ ss

unfoldable pub joinings : List (List Step)
joinings =
    -- 14 before 15; a join that is accepted numbers on from the left's last and leaves the right fresh
    pair 1 1 7 7 (is (join 0 1) 14 ∷ [])
    ∷ pair 2 1 7 7 (is (join 0 1) 15 ∷ [])
    ∷ pair 2 1 7 8 (is (join 0 1) 0 ∷ slots (1 ∷ 2 ∷ []) ∷ bucket 1 (1 ∷ 2 ∷ []) ∷ last 2 ∷ is (join 0 1) 0 ∷ slots (1 ∷ 2 ∷ []) ∷ [])
    -- onto a group without slots and without a last number: from 0
    ∷ pair 1 1 7 8 (runs (group 0 1) ∷ is (join 0 1) 0 ∷ slots (0 ∷ []) ∷ last 0 ∷ [])
    -- 12 after 15
    ∷ case (runs (group 1 1) ∷ raise 65533 ∷ is (join 0 1) 0 ∷ runs (fill 0 1 1 off) ∷ is (join 0 1) 12 ∷ [])
    ∷ []
