-- What the loop of `list_new` keeps. See Answers.antt.
use Rattle.buckets.proofs.Listing.{Listing}
use Rattle.indexing.proofs.list_new.Given as goal

abbrev pub invariant-loop-i : goal.invariant-loop-i
invariant-loop-i l = Listing l.initial.made l.numbers l.counts l.n l.made l.i
