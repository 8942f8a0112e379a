-- What the loop of `list_below` keeps. See Answers.antt.
use Prim.Native.Nat.{◌*◌}
use Rattle.entry.proofs.Listing.{Listing}
use Rattle.entry.proofs.list_below.Given as goal

abbrev pub invariant-loop-x : goal.invariant-loop-x
invariant-loop-x l = Listing l.buckets (64 * l.height) l.initial.listed l.listed l.x-index l.count
