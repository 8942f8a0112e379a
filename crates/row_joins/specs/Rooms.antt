-- The room that the rows of a join are laid to, and numbers that fit once raised. Assumes nothing.
use Rattle.std.specs.Prelude.{◌≡◌, List, ℕ, ◌+◌, ◌≤◌, ◌<◌, length, get_or}

pub record AccountRoom (held n slots : ℕ) (home2 : List ℕ) (accounts homes accounts2 : ℕ) : Type 0 where
  pub room : held + n ≤ 1024
  pub low : (i : ℕ) → i < n → get_or home2 i 0 + slots < 256
  pub account : accounts ≡ 32768
  pub home : homes ≡ 1024
  pub account2 : accounts2 ≡ 32768
  pub long2 : length home2 ≡ 1024

pub record MessageRoom (held n accounts : ℕ) (owner2 : List ℕ) (owners kinds forms times kinds2 forms2 times2 : ℕ) : Type 0 where
  pub room : held + n ≤ 1024
  pub low : (i : ℕ) → i < n → get_or owner2 i 0 + accounts < 65536
  pub owner : owners ≡ 1024
  pub kind : kinds ≡ 1024
  pub form : forms ≡ 1024
  pub time : times ≡ 1024
  pub long2 : length owner2 ≡ 1024
  pub kind2 : kinds2 ≡ 1024
  pub form2 : forms2 ≡ 1024
  pub time2 : times2 ≡ 1024

pub record RecordRoom (held n addresses hashes addresses2 hashes2 : ℕ) : Type 0 where
  pub room : held + n ≤ 1024
  pub address : addresses ≡ 32768
  pub hash : hashes ≡ 32768
  pub address2 : addresses2 ≡ 32768
  pub hash2 : hashes2 ≡ 32768
