-- What is seen of slots in lent columns of a group. `ns` are the sixteen numbers. Assumes nothing.
use Rattle.std.specs.Prelude.{cond, List, ℕ, Option, None, Some, ltb, get_or}
use Rattle.buckets.specs.Cells.{mark, bucket_of}
use Rattle.numbers.specs.declared.SlotId.{SlotId}
use Rattle.group_reads.specs.declared.SeenSlot.{SeenSlot}
use Rattle.group_reads.specs.Shown.{id_of}

abbrev pub slot_found : (number ints exts ns : List ℕ) → ℕ → Option SeenSlot
slot_found number ints exts ns s =
    cond (ltb s (get_or ns 1 0)) (Some (record { id = id_of (get_or number s 0); ints = get_or ints s 0; exts = get_or exts s 0 })) None

-- what bucket c lists at place k, the mark past either end; and a slot number that is not the mark
abbrev pub entry_in : (cells : List ℕ) (c k : ℕ) → ℕ
entry_in cells c k = cond (ltb c 17) (cond (ltb k 64) (get_or (bucket_of cells c) k mark) mark) mark

abbrev pub id_found : ℕ → Option SlotId
id_found e = cond (ltb e mark) (Some (id_of e)) None
