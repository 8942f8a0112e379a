-- The columns of a fill, made one by one, are the value that the contract names. Assumes nothing.
use mathlib.Core.Path.{◌≡◌, refl, ap, ◌∙◌}
use mathlib.Core.List.{List}
use Prim.Native.Nat.{ℕ}
use lib.ListN.{replicate}
use Rattle.columns.specs.Laid.{laid_at}
use Rattle.message.specs.declared.Filter.{Filter}
use Rattle.entry.specs.Entry.{Sayings, Judges, Lists, housed_c, order_marks, order_costs, group_marks, group_costs, classes_c, owners_c, link_c}
use Rattle.works.specs.declared.Work.{Work}
use Rattle.works.specs.declared.Homes.{Homes}
use Rattle.works.specs.declared.Judged.{Judged}
use Rattle.works.specs.declared.Rows.{Rows}
use Rattle.works.specs.Begin.{Accounts, Held, Slots, member_w, homes_w, judged_by, rows_w, below, works_w, begin_w}

abbrev homes : (member home : List ℕ) → Homes
homes m h = record { member = m; home = h }

abbrev judged : (mark cost : List ℕ) → Judged
judged m c = record { mark = m; cost = c }

abbrev rows : (owner plan : List ℕ) → Rows
rows o c = record { owner = o; plan = c }

abbrev works : Homes → Judged → Rows → Slots → (listed : List ℕ) (count : ℕ) → Work
works h j r b listed count = record {
  owner = r.owner;
  plan = r.plan;
  taken = replicate 1024 0;
  home = h.home;
  member = h.member;
  ints = b.ints;
  exts = b.exts;
  mark = j.mark;
  cost = j.cost;
  joined = replicate 1280 0;
  number = b.number;
  listed = listed;
  count = count;
}

pub homes_are : (a : Accounts) (m h : List ℕ) → m ≡ member_w a → h ≡ housed_c a.homes m a.members 0 (replicate 1280 255) → homes m h ≡ homes_w a
homes_are a m h e f =
    ap (λ (x : List ℕ). homes x h) e
    ∙ ap (λ (x : List ℕ). homes (member_w a) x) (f ∙ ap (λ (x : List ℕ). housed_c a.homes x a.members 0 (replicate 1280 255)) e)

module _ (s : Sayings) (order : List ℕ) (places : ℕ) (group : List ℕ) (members : ℕ) (member : List ℕ) where
  pub judged_are : {m c : List ℕ} → Judges (order_marks s order places (replicate 1280 0)) (order_costs s order places (replicate 1280 s.cost)) m c
      → (m' c' : List ℕ) → Judges (group_marks s group member members m) (group_costs s group member members c) m' c'
      → judged m' c' ≡ judged_by s order places group members member
  judged_are e m' c' f =
      ap (λ (x : List ℕ). judged x c') (f.mark_is ∙ ap (group_marks s group member members) e.mark_is)
      ∙ ap (λ (x : List ℕ). judged (judged_by s order places group members member).mark x)
      (f.cost_is ∙ ap (group_costs s group member members) e.cost_is)

pub rows_are : (f : Filter) (h : Held) (o c q : List ℕ) → o ≡ owners_c h.owner h.n (replicate 1024 0)
    → c ≡ classes_c f h.kind h.time h.n (replicate 2304 1024) → q ≡ link_c h.owner h.n c → rows o q ≡ rows_w f h
rows_are f h o c q d e g =
    ap (λ (x : List ℕ). rows x q) d
    ∙ ap (λ (x : List ℕ). rows (rows_w f h).owner x) (g ∙ ap (λ (x : List ℕ). link_c h.owner h.n x) e)

pub works_are : (h : Homes) (j : Judged) (r : Rows) (b : Slots) (height : ℕ) (listed : List ℕ) (count : ℕ)
    → Lists (below b height) (replicate 1024 0) listed count → works h j r b listed count ≡ works_w h j r b height
unfolding works_w
works_are h j r b height listed count l =
    ap (λ (x : List ℕ). works h j r b x count) l.cells
    ∙ ap (λ (x : ℕ). works h j r b (laid_at 0 (below b height) (replicate 1024 0)) x) l.count_is

module _ (a : Accounts) (h : Held) (b : Slots) (s : Sayings) (f : Filter) (height : ℕ) where
  abbrev said : (member : List ℕ) → Judged
  said member = judged_by s a.order a.places a.group a.members member

  whole : works_w (homes_w a) (said (member_w a)) (rows_w f h) b height ≡ begin_w a h b s f height
  unfolding begin_w
  whole = refl

  pub begun : (hs : Homes) (js : Judged) (rs : Rows) (w : Work) → hs ≡ homes_w a → js ≡ said hs.member → rs ≡ rows_w f h
      → w ≡ works_w hs js rs b height → w ≡ begin_w a h b s f height
  begun hs js rs w d e g m =
      m
      ∙ ap (λ (x : Homes). works_w x js rs b height) d
      ∙ ap (λ (x : Judged). works_w (homes_w a) x rs b height) (e ∙ ap (λ (x : Homes). said x.member) d)
      ∙ ap (λ (x : Rows). works_w (homes_w a) (said (member_w a)) x b height) g
      ∙ whole
