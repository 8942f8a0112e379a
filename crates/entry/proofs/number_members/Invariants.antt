-- What the loop of `number_members` keeps. See Answers.antt.
use Rattle.entry.specs.Entry.{party_of}
use Rattle.entry.proofs.Tables.{Tabling}
use Rattle.entry.proofs.number_members.Given as goal

abbrev pub invariant-loop-g : goal.invariant-loop-g
invariant-loop-g l = Tabling (party_of l.order l.places l.group) 0 l.n l.initial.member l.member l.g
