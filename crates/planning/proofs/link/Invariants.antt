-- What the loop of `link` keeps. See Answers.antt.
use Rattle.planning.proofs.Linking.{Linking}
use Rattle.planning.proofs.link.Given as goal

abbrev pub invariant-loop-i : goal.invariant-loop-i
invariant-loop-i l = Linking l.owner l.n l.initial.plan l.plan l.i
