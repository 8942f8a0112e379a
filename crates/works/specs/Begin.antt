-- What a fill works on at its entry, as one expression over what the buffer, the group, the skipped set and the skip rows hold.
-- Assumes nothing.
use Rattle.std.specs.Prelude.{◌≡◌, List, ℕ, ◌*◌, ◌≤◌, ◌<◌, length, get_or, take, replicate}
use Rattle.rules.specs.World.{joined}
use Rattle.columns.specs.Laid.{laid_at}
use Rattle.message.specs.declared.Filter.{Filter}
use Rattle.buckets.specs.Cells.{index, GoodBuckets}
use Rattle.entry.specs.Entry.{Sayings, Spoken, numbered_c, housed_c, order_marks, order_costs, group_marks, group_costs, classes_c, owners_c, link_c}
use Rattle.works.specs.declared.Work.{Work}
use Rattle.works.specs.declared.Homes.{Homes}
use Rattle.works.specs.declared.Judged.{Judged}
use Rattle.works.specs.declared.Rows.{Rows}

-- the accounts: `places` of the buffer's order; `members` of the group, with their homes
pub record Accounts : Type 0 where
  pub order : List ℕ
  pub places : ℕ
  pub group : List ℕ
  pub homes : List ℕ
  pub members : ℕ

abbrev pub accounts : (order : List ℕ) (places : ℕ) (group homes : List ℕ) (members : ℕ) → Accounts
accounts order places group homes members = record { order = order; places = places; group = group; homes = homes; members = members }

-- the buffer's rows: n of them
pub record Held : Type 0 where
  pub owner : List ℕ
  pub kind : List ℕ
  pub time : List ℕ
  pub n : ℕ

abbrev pub held : (owner kind time : List ℕ) (n : ℕ) → Held
held owner kind time n = record { owner = owner; kind = kind; time = time; n = n }

-- the group's slots
pub record Slots : Type 0 where
  pub ints : List ℕ
  pub exts : List ℕ
  pub number : List ℕ
  pub buckets : List ℕ

abbrev pub slots : (ints exts number buckets : List ℕ) → Slots
slots ints exts number buckets = record { ints = ints; exts = exts; number = number; buckets = buckets }

-- ---- what the columns need: a well formed buffer, group and set have it

pub record FitAccounts (a : Accounts) : Type 0 where
  pub order_long : length a.order ≡ 16384
  pub places_fit : a.places ≤ 256
  pub group_long : length a.group ≡ 32768
  pub homes_long : length a.homes ≡ 1024
  pub members_fit : a.members ≤ 1024

pub record FitRows (h : Held) : Type 0 where
  pub owner_long : length h.owner ≡ 2048
  pub kind_long : length h.kind ≡ 2048
  pub time_long : length h.time ≡ 2048
  pub n_fits : h.n ≤ 1024
  pub owned : (i : ℕ) → i < h.n → get_or h.owner i 0 < 256

pub record Fit (a : Accounts) (h : Held) (b : Slots) (s : Sayings) (height : ℕ) : Type 0 where
  pub accounts_fit : FitAccounts a
  pub rows_fit : FitRows h
  pub buckets_good : GoodBuckets b.buckets
  pub spoken : Spoken s
  pub height_fits : height ≤ 16

-- ---- the columns

-- the parties of the group's accounts
abbrev pub member_w : Accounts → List ℕ
member_w a = numbered_c a.order a.places a.group a.members (replicate 1280 0)

-- their homes; the others have none
abbrev pub home_w : Accounts → List ℕ
home_w a = housed_c a.homes (member_w a) a.members 0 (replicate 1280 255)

abbrev pub homes_w : Accounts → Homes
homes_w a = record { member = member_w a; home = home_w a }

-- what is said of the order's accounts, and of those that only the group has
abbrev pub mark_by : Sayings → (order : List ℕ) (places : ℕ) (group : List ℕ) (members : ℕ) (member : List ℕ) → List ℕ
mark_by s order places group members member = group_marks s group member members (order_marks s order places (replicate 1280 0))

abbrev pub cost_by : Sayings → (order : List ℕ) (places : ℕ) (group : List ℕ) (members : ℕ) (member : List ℕ) → List ℕ
cost_by s order places group members member = group_costs s group member members (order_costs s order places (replicate 1280 s.cost))

abbrev pub judged_by : Sayings → (order : List ℕ) (places : ℕ) (group : List ℕ) (members : ℕ) (member : List ℕ) → Judged
judged_by s order places group members member = record {
  mark = mark_by s order places group members member;
  cost = cost_by s order places group members member;
}

abbrev pub rows_w : Filter → Held → Rows
rows_w f h = record {
  owner = owners_c h.owner h.n (replicate 1024 0);
  plan = link_c h.owner h.n (classes_c f h.kind h.time h.n (replicate 2304 1024));
}

-- the slots that the buckets below the height list
abbrev pub below : Slots → (height : ℕ) → List ℕ
below b height = joined (take height (index b.buckets))

-- the columns put together
unfoldable pub works_w : Homes → Judged → Rows → Slots → (height : ℕ) → Work
works_w h j r b height = record {
  owner = r.owner;
  plan = r.plan;
  taken = replicate 1024 0;
  home = h.home;
  member = h.member;
  ints = b.ints;
  exts = b.exts;
  mark = j.mark;
  cost = j.cost;
  joined = replicate 1280 0;
  number = b.number;
  listed = laid_at 0 (below b height) (replicate 1024 0);
  count = length (below b height);
}

-- all of it, from what is lent
unfoldable pub begin_w : Accounts → Held → Slots → Sayings → Filter → (height : ℕ) → Work
begin_w a h b s f height =
    works_w (homes_w a) (judged_by s a.order a.places a.group a.members (member_w a)) (rows_w f h) b height
