-- What the entry makes (`EntryFacts`) and what a run keeps (`Traced`) are the facts that the theorems on the settled columns ask for.
-- Assumes nothing.
use mathlib.Core.Path.{◌≡◌, refl, sym, ap, ◌∙◌, subst}
use mathlib.Core.Bool.{Bool}
use mathlib.Core.Logic.{◌⊎◌, inl, inr, ⊎_elim}
use mathlib.Core.List.{List}
use Prim.Native.Nat.{ℕ, ◌+◌, ◌<◌, ◌≤◌}
use native.Mathlib.Omega.{arith}
use lib.ListN.{length, get_or}
use Rattle.columns.specs.Rows.{row_at}
use Rattle.message.specs.Real.{Real}
use Rattle.queues.specs.Cols.{Cols, number}
use Rattle.slots.specs.Table.{Table, count}
use Rattle.moves.specs.declared.Fixed.{Fixed}
use Rattle.moves.specs.Moves.{nowhere}
use Rattle.meaning.specs.Meaning.{Numbers, Columns, Setting}
use Rattle.meaning.specs.Walks.{Good}
use Rattle.renaming.specs.Renaming.{Renaming}
use Rattle.settle_rules.specs.Facts.{EntryFacts, Traced, BufferFacts, KeyFacts, GroupFacts}

module _ {ext : ℕ → Bool} {time : ℕ → ℕ} {f : Renaming (Numbers ext time) Real} {fx : Fixed} {c : Cols} {t : Table} {b : Setting} {m₀ m : Columns} {cost : List ℕ}
    (e : EntryFacts ext time f fx c t b m₀) (h : Traced fx m₀ m) (g : Good fx cost m) where
  few : number c 2 ≤ 1024
  few = omega (arith, e.good.now.messages, e.good.M·high)

  pub buffer_facts : BufferFacts ext time f fx c m.store.owner
  buffer_facts = record {
    good = e.good;
    rows = e.rows;
    places = e.places;
    long = g.store.owner_long;
    owners = λ i l. ⊎_elim (λ x. inl (omega (arith, e.places))) (λ x. inr (omega arith)) (h.store.owners i (omega (arith, e.rows)));
    acc = e.acc;
    msg = e.msg;
  }

  taken_few : m.store.tally.taken ≤ length m.store.taken
  taken_few = omega (arith, g.store.takes, g.store.rows_fit, g.store.taken_long)

  there : (k : ℕ) → k < m.store.tally.taken → get_or m.store.taken k 0 < number c 2
  there k l = omega (arith, h.store.rows k l, e.rows)

  pub key_facts : KeyFacts ext time f c m.store.tally.taken m.store.taken
  key_facts = record {
    named = taken_few;
    there = there;
    hash_long = omega (arith, few, e.good.lengths.hash);
    external = e.external;
    msg = e.msg;
    key = e.key;
  }

  -- a member at entry is in its place, with its home
  member_old : (i : ℕ) → i < count t 2 → get_or m.store.member i 0 ≡ get_or m₀.store.member i 0
  member_old i l = h.store.old i (omega (arith, e.accounts))

  home_old : (i : ℕ) → i < count t 2 → get_or m.store.home (get_or m.store.member i 0) 0 ≡ get_or t.home i 0
  home_old i l =
      ap (λ (p : ℕ). get_or m.store.home p 0) (member_old i l)
      ∙ h.store.stays (get_or m₀.store.member i 0) (e.parties i l) (λ z. omega (arith, e.homes i l, e.group.housed i l, e.group.slots, e.group.S·high))
      ∙ e.homes i l

  pub group_facts : count t 3 + m.store.tally.taken ≤ 1024 → m.store.tally.accounts ≤ 1024 → GroupFacts ext time f c t b m
  group_facts room seats = record {
    long = e.good.lengths;
    good = e.group;
    few = few;
    taken_long = taken_few;
    there = there;
    from = h.store.from;
    party = h.store.party;
    room = room;
    member_long = g.store.member_long;
    more = omega (arith, h.store.more, e.accounts);
    seats = seats;
    old_acc = λ i l. ap f.acc (member_old i l) ∙ e.member i l;
    new_place_lem = λ i a l. omega (arith, new i a l, e.good.now.places, e.good.A·high);
    new_acc = λ i a l. e.acc (get_or m.store.member i 0) (new i a l);
    old_home = home_old;
    old_msg = e.old_msg;
    new_msg = e.msg;
    entry = e.entry;
  }
    where
      new : (i : ℕ) → count t 2 ≤ i → i < m.store.tally.accounts → get_or m.store.member i 0 < number c 3
      new i a l = omega (arith, h.store.new i (omega (arith, e.accounts)) l, e.places)
