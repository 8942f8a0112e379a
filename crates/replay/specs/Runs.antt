-- What a run works on. Assumes nothing.
use Rattle.std.specs.Prelude.{List, ℕ}
use Rattle.lintelsong.specs.declared.Buffer.{Buffer}
use Rattle.lintelsong.specs.Closed.{GoodBuffer}
use Rattle.desk.specs.declared.shelf.Shelf.{Shelf}
use Rattle.desk.specs.declared.tray.Tray.{Tray}
use Rattle.desk.specs.Desks.{GoodShelf, GoodTray, KeyRoom}

-- all that a run works on is well formed
pub record Ready (b : Buffer) (s : Shelf) (t : Tray) (lts hashes : List ℕ) : Type 0 where
  pub buffer : GoodBuffer b
  pub shelf : GoodShelf s
  pub tray : GoodTray t
  pub keys : KeyRoom lts hashes
