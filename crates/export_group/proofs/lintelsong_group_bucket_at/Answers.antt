-- `lintelsong_group_bucket_at` meets its contract: the number found in the buckets is that of the index. Assumes nothing.
use mathlib.Core.Path.{refl, subst}
use Rattle.group_seen.proofs.Looks.{bucket_seen}
use Rattle.group_parts.specs.Told.{ToldId}
use Rattle.export_group.specs.Held.{table_of}
use Rattle.export_group.proofs.lintelsong_group_bucket_at.Goals as goal

pub returns : goal.returns
returns c = (subst (ToldId c.bucket_at.result c.bucket_at.new.out) (bucket_seen (table_of c.args.g.now) c.requires c.args.count c.args.k) c.bucket_at.ensures, refl)
