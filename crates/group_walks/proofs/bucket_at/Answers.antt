-- `group_walks::bucket_at` meets its contract: an entry below the mark is a slot number; a bucket or a place past the end has none (crate group_seen, Looks). Assumes nothing.
use mathlib.Core.Path.{◌∙◌}
use Rattle.group_seen.proofs.Looks.{bucket_seen}
use Rattle.groups.specs.Groups.{table_of}
use Rattle.group_walks.proofs.bucket_at.Goals as goal

pub returns : goal.returns
returns c = c.bucket_at.ensures ∙ bucket_seen (table_of c.args.group) c.requires c.args.count c.args.k
