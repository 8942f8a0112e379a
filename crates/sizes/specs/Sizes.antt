-- The size that a set-up gives. Assumes nothing.
use Rattle.std.specs.Prelude.{cond, ◌&&◌, ℕ, Err}
use Rattle.rules.specs.Calls.{within}
use Rattle.message.specs.Answers.{Done}
use Rattle.message.specs.declared.Refusal.TheVariants.{SetUp}
use Rattle.sizes.specs.declared.Size.{Size}
use Rattle.sizes.specs.declared.Slots.{Slots}

-- "M messages (1 to 1,024) and A accounts (1 to 256)"; "a refused set-up gives a fresh one of size 1"
abbrev pub size_for : (m a : ℕ) → Size
size_for m a =
    cond (within 1 1024 m && within 1 256 a) (record { code = Done; messages = m; accounts = a })
    (record { code = Err SetUp; messages = 1; accounts = 1 })

-- "S slots (1 to 64)"; "a refused set-up gives a fresh one of size 1"
abbrev pub slots_for : (s : ℕ) → Slots
slots_for s = cond (within 1 64 s) (record { code = Done; slots = s }) (record { code = Err SetUp; slots = 1 })
