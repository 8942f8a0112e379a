-- Accounts as numbers: those of the order by their place, those of the group that have no place from 256 on by their row, and any other
-- that is spoken of from 1,280 on. The last have a number in proofs only. Assumes nothing.
use Rattle.std.specs.Prelude.{◌≡◌, cond, List, [], ℕ, ◌+◌, ◌-◌, ltb, length, get_or}
use Rattle.columns.specs.Rows.{index_of}

-- the accounts of the order, of the group, and the others
module _ (os gs ls : List (List ℕ)) where
  unfoldable pub num_of : List ℕ → ℕ
  num_of x =
      cond (ltb (index_of x os) (length os)) (index_of x os)
      (cond (ltb (index_of x gs) (length gs)) (256 + index_of x gs) (1280 + index_of x ls))

  unfoldable pub acc_of : ℕ → List ℕ
  acc_of p = cond (ltb p 256) (get_or os p []) (cond (ltb p 1280) (get_or gs (p - 256) []) (get_or ls (p - 1280) []))

  -- a number that is the number of its account
  abbrev pub IsNumber : ℕ → Type 0
  IsNumber p = num_of (acc_of p) ≡ p

  -- an account that its number gives back
  abbrev pub Named : List ℕ → Type 0
  Named x = acc_of (num_of x) ≡ x
