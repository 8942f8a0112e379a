-- What stands on a shelf, and what an order leaves of it. Assumes nothing.
use Rattle.std.specs.Prelude.{◌≡◌, ℕ, zero, suc, ◌+◌, ◌-◌, cond, ltb}
use Rattle.message.specs.Answers.{Code, number as number_of}
use Rattle.lintelsong.specs.Closed.{SetsUp, Joins}
use Rattle.lintelsong.specs.declared.Group.{Group}
use Rattle.lintelsong.specs.declared.Skipped.{Skipped}
use Rattle.scenario.specs.declared.commands.ShelfOrder.{ShelfOrder}
use Rattle.scenario.specs.declared.commands.ShelfOrder.TheVariants.{SetUp, Join}
use Rattle.scenario.specs.declared.replies.Reply.{Reply}
use Rattle.scenario.specs.declared.replies.Reply.TheVariants.{Code as Said}
use Rattle.desk.specs.declared.shelf.Shelf.{Shelf}
use Rattle.desk.specs.declared.tray.Tray.{Tray}

-- the group at a place; every place behind the third reads as the fourth
unfoldable pub held_at : ℕ → Shelf → Group
held_at zero s = s.first
held_at (suc zero) s = s.second
held_at (suc (suc zero)) s = s.third
held_at (suc (suc (suc n))) s = s.fourth

-- the shelf with another group at a place: nothing else of it changes
unfoldable pub with_at : ℕ → Group → Shelf → Shelf
with_at zero g s = record { made = s.made; first = g; second = s.second; third = s.third; fourth = s.fourth }
with_at (suc zero) g s = record { made = s.made; first = s.first; second = g; third = s.third; fourth = s.fourth }
with_at (suc (suc zero)) g s = record { made = s.made; first = s.first; second = s.second; third = g; fourth = s.fourth }
with_at (suc (suc (suc n))) g s = record { made = s.made; first = s.first; second = s.second; third = s.third; fourth = g }

-- how many groups are set up, once the one at a place is
abbrev pub made_up_to : ℕ → ℕ → ℕ
made_up_to place made = cond (ltb place made) made (cond (ltb place 3) (place + 1) 4)

-- the shelf whose group at a place is set up
abbrev pub raised : ℕ → Shelf → Shelf
raised place s = record { made = made_up_to place s.made; first = s.first; second = s.second; third = s.third; fourth = s.fourth }

-- what joins leave of two groups, one join and so many more
unfoldable pub JoinsOn : ℕ → (l r : Group) → Code → (l' r' : Group) → Type 0
JoinsOn zero l r code l' r' = Joins l r code l' r'
JoinsOn (suc n) l r code l' r' = (before : Code) × (a : Group) × (b : Group) × JoinsOn n l r before a b × Joins a b code l' r'

-- an order changes the groups that it names and no other, and answers the last code; a set-up is done once, a join so many times
abbrev pub Obeyed : ShelfOrder → ℕ → Shelf → Shelf → Reply → Type 0
Obeyed (SetUp place slots) times s s' reply = (code : Code) × (g : Group) × SetsUp slots code g × (s' ≡ raised place (with_at place g s)) × (reply ≡ Said (number_of code))
Obeyed (Join left right) times s s' reply = (code : Code) × (l : Group) × (r : Group)
    × JoinsOn (times - 1) (held_at left s) (held_at right s) code l r × (s' ≡ with_at right r (with_at left l s)) × (reply ≡ Said (number_of code))

-- a fill changes the group that it names and no other
abbrev pub FillsAt : ℕ → Shelf → Shelf → Type 0
FillsAt place s s' = (g : Group) × (s' ≡ with_at place g s)

-- the tray with another skipped set
abbrev pub with_set : Skipped → Tray → Tray
with_set set t = record { loud = t.loud; skipped = set; rows = t.rows; names = t.names; verdicts = t.verdicts; costs = t.costs; cost = t.cost; keys = t.keys }

-- a fill leaves of the tray all but the skipped set
abbrev pub Laid : Tray → Tray → Type 0
Laid t t' = (set : Skipped) × (t' ≡ with_set set t)
