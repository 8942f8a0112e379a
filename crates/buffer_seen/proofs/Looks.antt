-- What is seen in well formed columns of a buffer is what the rules see in what they mean (crate buffer_rules, LookRule); and such columns hold
-- what the walk asks for. Assumes nothing.
use mathlib.Core.Path.{◌≡◌, sym, ap}
use mathlib.Core.List.{List}
use Prim.Native.Nat.{ℕ, ◌≤◌}
use native.Mathlib.Omega.{arith}
use lib.ListN.{length}
use Rattle.rules.specs.Queues.{queued, account_at, message_at}
use Rattle.message.specs.Real.{Real}
use Rattle.message.specs.Seen.{seen_account, seen_message}
use Rattle.queues.specs.Cols.{Cols, live, number}
use Rattle.queues.specs.Meant.{meant}
use Rattle.queues.specs.Good.{Good}
use Rattle.buffer_rules.proofs.LookRule.{queued_told, account_told, message_told}
use Rattle.buffer_seen.specs.Lent.{queued_in, account_found, message_found}

pub account_seen : (c : Cols) (p : ℕ) → account_found c.accounts c.numbers p ≡ seen_account (account_at Real p (meant c).now)
account_seen c p = ap seen_account (sym (account_told (live c) p))

module _ (c : Cols) (g : Good c) where
  pub queued_seen : (x : List ℕ) → queued_in c.owner c.accounts c.numbers x ≡ queued Real x (meant c).now
  queued_seen x = queued_told (live c) x g.now.placed

  pub message_seen : (p k : ℕ)
      → message_found c.owner c.kind c.form c.time c.address c.hash c.numbers p k ≡ seen_message (message_at Real p k (meant c).now)
  message_seen p k = ap seen_message (sym (message_told (live c) g.now.placed p k))

  -- ---- what the walk asks for
  pub accounts_in_lem : number c 3 ≤ 256
  accounts_in_lem = omega (arith, g.now.places, g.A·high)

  pub owners_in : number c 2 ≤ length c.owner
  owners_in = omega (arith, g.now.messages, g.M·high, g.lengths.owner)

  pub messages_in : number c 2 ≤ 1024
  messages_in = omega (arith, g.now.messages, g.M·high)
