use Rattle.std.proofs.Common.{◌≡◌, refl, arith}
use Rattle.round_prop.specs.Noting.{load_of}
use Rattle.round_prop.specs.Room.{HaveSameItems}
use Rattle.round_prop.specs.declared.table.Table.{Table}
use Rattle.round_prop.proofs.Alike.{sized_like, flagged_like}
use Rattle.round_prop.proofs.Loads.{load_same, load-most}
use Rattle.round_prop.proofs.room.make_room.Goals as goal

-- there is room for a fresh clause more
pub returns-clause-more : goal.returns-clause-more
returns-clause-more c = λ variables roomy.
    let before = c.args.table.now in
    let after : Table = record {
      rows = c.reserve-3.new.self;
      links = record { heads = before.links.heads; nodes = c.reserve-4.new.self };
      noted = record { notes = c.reserve-6.new.self; flags = c.reserve-5.new.self };
    } in
    let same : HaveSameItems before after = record {
      rows = c.in_ok-reserve-3.ensures.items;
      heads = refl;
      nodes = c.in_ok-reserve-4.ensures.items;
      notes = c.in_ok-reserve-6.ensures.items;
      flags = c.in_ok-reserve-5.ensures.items;
    } in
    let load : load_of after.noted.notes.items after.noted.flags.items ≡ load_of before.noted.notes.items before.noted.flags.items =
    load_same before.noted.notes.items after.noted.notes.items before.noted.flags.items after.noted.flags.items same.notes same.flags in
    let most = load-most before.noted.notes.items before.noted.flags.items in
    record {
      sized = sized_like before after same roomy.sized;
      flagged = flagged_like before after same roomy.flagged;
      wide = roomy.wide;
      few = omega (arith, roomy.few, c.in_ok-reserve-4.ensures.len);
      rows_room = omega (arith, c.in_ok-reserve-3.ensures.ok, c.in_ok-reserve-3.ensures.len);
      nodes_room = omega (arith, c.in_ok-reserve-4.ensures.ok, c.in_ok-reserve-4.ensures.len);
      flags_room = omega (arith, c.in_ok-reserve-5.ensures.ok, c.in_ok-reserve-5.ensures.len);
      notes_room = omega (arith, load, most, roomy.sized.flags, c.in_ok-reserve-6.ensures.ok, c.in_ok-reserve-6.ensures.len, c.in_ok-reserve-3.ensures.len, c.len-2.ensures);
      notes_anew = omega (arith, c.in_ok-reserve-6.ensures.ok, c.in_ok-reserve-3.ensures.len, c.in_ok-reserve-2.ensures.len, c.len-2.ensures);
      shorts_room = omega (arith, c.in_ok-reserve-2.ensures.ok, c.in_ok-reserve-2.ensures.len);
    }
