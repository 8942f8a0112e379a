-- What the public contracts of a buffer cite: its columns, when it is well formed, and what a call gives. Assumes nothing.
use Rattle.std.specs.Prelude.{◌≡◌, cond, ◌&&◌, ◌∷◌, ℕ, replicate, Err}
use Rattle.rules.specs.Calls as calls
use Rattle.rules.specs.Calls.{Store}
use Rattle.message.specs.Answers.{Code, Done}
use Rattle.message.specs.declared.Refusal.TheVariants.{SetUp}
use Rattle.message.specs.Real.{Real}
use Rattle.queues.specs.Cols.{Cols, cols}
use Rattle.queues.specs.Meant.{meant}
use Rattle.queues.specs.Good.{Good}
use Rattle.queues.specs.Append.{Left, left}
use Rattle.buffer_rules.specs.Ruled.{answer_of}
use Rattle.buffers.specs.declared.buffer.Buffer.{Buffer}

abbrev pub cols_of : Buffer → Cols
cols_of b = cols b.owner b.kind b.form b.time b.address b.hash b.accounts b.numbers

-- well formed, which every call leaves; of the closed buffer (crate lintelsong) "a contract may rely on that alone"
abbrev pub GoodBuffer : Buffer → Type 0
GoodBuffer b = Good (cols_of b)

-- what a call gives: a well formed buffer, the rule's code and meaning, and exactly these columns
pub record Gives (rule : calls.Answer (Store Real)) (model : Left) (code : Code) (b : Buffer) : Type 0 where
  pub good : GoodBuffer b
  pub ruled : answer_of (left code (cols_of b)) ≡ rule
  pub exactly : left code (cols_of b) ≡ model

-- ---- set-up

-- a buffer that holds nothing
unfoldable pub fresh_c : (m a : ℕ) → Cols
fresh_c m a =
    cols (replicate 2048 0) (replicate 2048 0) (replicate 2048 0) (replicate 2048 0) (replicate 65536 0) (replicate 65536 0) (replicate 16384 0)
    (m ∷ a ∷ replicate 526 0)

-- "M messages (1 to 1,024) and A accounts (1 to 256)"; "a refused set-up gives a fresh one of size 1"
unfoldable pub set_up_c : (m a : ℕ) → Left
set_up_c m a = cond (calls.within 1 1024 m && calls.within 1 256 a) (left Done (fresh_c m a)) (left (Err SetUp) (fresh_c 1 1))
