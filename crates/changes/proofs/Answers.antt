-- What a call gives, from the three that prove it: the core leaves the columns of the column model, that model does what the rule says of what
-- the columns mean, and it leaves them well formed. Assumes nothing.
use mathlib.Core.Path.{◌≡◌, sym, ap, subst, ◌∙◌}
use Rattle.rules.specs.Calls as calls
use Rattle.rules.specs.Calls.{Store}
use Rattle.message.specs.Answers.{Code}
use Rattle.message.specs.Real.{Real}
use Rattle.queues.specs.Good.{Good}
use Rattle.queues.specs.Append.{Left, left}
use Rattle.buffer_rules.specs.Ruled.{answer_of}
use Rattle.buffers.specs.declared.buffer.Buffer.{Buffer}
use Rattle.buffers.specs.Buffers.{cols_of, Gives}

pub gives : {rule : calls.Answer (Store Real)} {model : Left} (code : Code) (b : Buffer)
    → left code (cols_of b) ≡ model → answer_of model ≡ rule → Good model.cols → Gives rule model code b
gives code b e r g = record {
  good = subst (λ (l : Left). Good l.cols) (sym e) g;
  ruled = ap answer_of e ∙ r;
  exactly = e;
}
