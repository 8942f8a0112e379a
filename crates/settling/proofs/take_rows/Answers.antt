-- `settling::take_rows` meets its contract: one copy after the other. Assumes nothing.
use Rattle.settling.proofs.Ends.{seats_long, took}
use Rattle.settling.proofs.take_rows.Goals as goal

pub collect_owners-requires : goal.collect_owners-requires
collect_owners-requires c =
    let p = c.requires.owners in
    record {
      few = p.few;
      rows_long = p.rows_long;
      owners_long = p.owners_long;
      seats_long = seats_long c.args.members c.args.member.now _ c.seat_members.ensures;
      there = p.there;
      from = p.from;
      party = p.party;
      room_long = p.room_long;
      fits = p.fits;
    }

pub returns : goal.returns
returns c =
    took _ c.seat_members.ensures
    c.collect_owners.ensures c.collect_fields.ensures
    c.collect_bodies.ensures
