-- `settling::renumber` meets its contract: the counts before and after are those of the slots (proofs/Ends.antt). Assumes nothing.
use Rattle.settling.proofs.Ends.{countable, may_follow, renumbered}
use Rattle.settling.proofs.renumber.Goals as goal

pub counts_of-olds-requires : goal.counts_of-olds-requires
counts_of-olds-requires c =
    let p = c.requires in
    countable _ _ p.low2

pub counts_of-news-requires : goal.counts_of-news-requires
counts_of-news-requires c =
    let p = c.requires in
    countable _ _ p.low

pub reindex-made-requires : goal.reindex-made-requires
reindex-made-requires c =
    may_follow c.requires _ _
    c.counts_of-olds.ensures c.counts_of-news.ensures

pub returns : goal.returns
returns c =
    renumbered c.requires _ _
    c.counts_of-olds.ensures
    c.counts_of-news.ensures _ c.reindex-made.ensures
