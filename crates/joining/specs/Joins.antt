-- What the contract of a join by value cites: that of the join on lent columns, said of both groups' columns. Assumes nothing.
use Rattle.message.specs.Answers.{Code}
use Rattle.groups.specs.declared.group.Group.{Group}
use Rattle.groups.specs.Groups.{table_of}
use Rattle.merging.specs.Merges.{Merges}

-- both groups well formed, the rule's code and meaning, and exactly these columns
abbrev pub Joins : (l r : Group) → Code → (l' r' : Group) → Type 0
Joins l r code l' r' = Merges (table_of l) (table_of r) code (table_of l') (table_of r')
