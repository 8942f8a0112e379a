-- When a tray and a shelf are well formed, and what room the key list has. Assumes nothing.
use Rattle.std.specs.Prelude.{◌≡◌, List, ℕ, ◌≤◌, length}
use Rattle.lintelsong.specs.Closed.{GoodGroup, GoodSet}
use Rattle.desk.specs.declared.shelf.Shelf.{Shelf}
use Rattle.desk.specs.declared.tray.Tray.{Tray}

pub record GoodTray (t : Tray) : Type 0 where
  pub set : GoodSet t.skipped
  pub few : t.rows ≤ 300
  pub short : t.keys ≤ 2048

pub record GoodShelf (s : Shelf) : Type 0 where
  pub first : GoodGroup s.first
  pub second : GoodGroup s.second
  pub third : GoodGroup s.third
  pub fourth : GoodGroup s.fourth

-- the two columns of the key list have room for its rows
pub record KeyRoom (lts hashes : List ℕ) : Type 0 where
  pub lts_long : length lts ≡ 2048
  pub hashes_long : length hashes ≡ 65536
