-- An answer of the columns as an answer of the rules: the code by its number, and what the columns mean. Assumes nothing.
use Rattle.rules.specs.Calls.{Store, Answer}
use Rattle.message.specs.Answers.{number as number_of}
use Rattle.message.specs.Real.{Real}
use Rattle.queues.specs.Meant.{meant}
use Rattle.queues.specs.Append.{Left}

abbrev pub answer_of : Left → Answer (Store Real)
answer_of l = record { code = number_of l.code; after = meant l.cols }
