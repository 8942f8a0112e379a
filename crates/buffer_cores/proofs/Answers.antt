-- What a call on lent columns gives, with its code as a number, from what is proved of its code; and a set-up, from what crate buffers proves of
-- one by value. Assumes nothing.
use mathlib.Core.Path.{◌≡◌, sym, ap, subst, ◌∙◌}
use Prim.Native.Nat.{ℕ}
use Rattle.rules.specs.Calls as calls
use Rattle.rules.specs.Calls.{Store, set_up_buffer}
use Rattle.message.specs.Answers.{Code, number as number_of}
use Rattle.message.specs.Real.{Real}
use Rattle.queues.specs.Cols.{Cols}
use Rattle.queues.specs.Meant.{meant}
use Rattle.queues.specs.Good.{Good}
use Rattle.queues.specs.Append.{Left, left}
use Rattle.buffer_rules.specs.Ruled.{answer_of}
use Rattle.sizes.specs.declared.Size.{Size}
use Rattle.sizes.specs.Sizes.{size_for}
use Rattle.buffers.specs.declared.buffer.Buffer.{Buffer}
use Rattle.buffers.specs.Buffers.{fresh_c, set_up_c}
use Rattle.buffers.proofs.Fresh as fresh
use Rattle.buffer_cores.specs.Told.{coded, coded_of, Gives}

module _ {rule : calls.Answer (Store Real)} {model : Left} (code : Code) (r : ℕ) (c : Cols) (n : r ≡ number_of code) where
  numbered : Good c → answer_of (left code c) ≡ rule → left code c ≡ model → Gives rule model r c
  numbered g d e = record {
    good = g;
    ruled = ap (λ (k : ℕ). record { code = k; after = meant c }) n ∙ d;
    exactly = ap (λ (k : ℕ). coded k c) n ∙ ap coded_of e;
  }

  pub gives : left code c ≡ model → answer_of model ≡ rule → Good model.cols → Gives rule model r c
  gives e d g = numbered (subst (λ (l : Left). Good l.cols) (sym e) g) (ap answer_of e ∙ d) e

-- ---- set-up

-- the buffer by value of these columns
abbrev held : Cols → Buffer
held c = record {
  owner = c.owner;
  kind = c.kind;
  form = c.form;
  time = c.time;
  address = c.address;
  hash = c.hash;
  accounts = c.accounts;
  numbers = c.numbers;
}

pub set_up_lem : (m a : ℕ) {z : Size} {c : Cols} {r : ℕ} → z ≡ size_for m a → c ≡ fresh_c z.messages z.accounts → r ≡ number_of z.code
    → Gives (set_up_buffer Real m a) (set_up_c m a) r c
set_up_lem m a {z} {c} {r} e f n = let g = fresh.set_up_lem m a (held c) e f in numbered z.code r c n g.good g.ruled g.exactly
