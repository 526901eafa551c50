use Rattle.lab_model.proofs.Common.{rules, ◌≡◌, Some, ap, sym, ◌∙◌, live_at, option_flatten, numbered}
use Rattle.std.proofs.Common.{option_copied}
use Rattle.lab_effect.proofs.Untold.{change_numbered-append}
use Rattle.lab_effect.proofs.map_effect.map_by.Given.{Over}
use Rattle.lab_effect.proofs.map_effect.map_by.Goals.{In-Some, In-Some-live}
use Rattle.lab_effect.proofs.map_effect.map_by.Goals as goal

-- the bio of the number lives
lives : (g : Over) (c : In-Some g)
    → option_flatten (numbered c.args.traffic.now.bios c.args.mapped.number)
    ≡ Some c.in-Some.bio.now
lives g c = sym c.get.ensures ∙ ap option_copied c.in-Some.is

-- the device has a live table
live : (g : Over) (c : In-Some-live g) → live_at c.args.traffic.now.devices c.args.mapped.device
    ≡ Some c.in-Some-live.table.now
live g c = sym c.live.ensures ∙ ap option_copied c.in-Some-live.is

-- the bio's sectors are the table's
pub pieces_of-requires : goal.pieces_of-requires
pieces_of-requires g c = search rules

-- the pieces fit their lines, and each has its part
pub send_pieces-failed-requires-clause-ready : goal.send_pieces-failed-requires-clause-ready
send_pieces-failed-requires-clause-ready g c =
    let at = goal.at.send_pieces-failed-requires-clause-ready g c in
    record {
      bio = c.in-Some.bio.now;
      table = c.in-Some-live.table.now;
      lives = rw c.reserve.ensures.bios (lives g at.In-Some);
      live = rw c.reserve.ensures.devices (live g at.In-Some-live);
      kind_is = ap (λ b. b.kind) (sym c.bio.view_is);
      fit = rw c.deref-2.ensures.value c.in_ok-pieces.ensures.of_lines;
      parts_are = rw (c.deref-2.ensures.value, ← c.deref.ensures.value) c.in_ok-parts.ensures;
    }

-- the bios have room for as many children as there are pieces
pub send_pieces-failed-requires-clause-room : goal.send_pieces-failed-requires-clause-room
send_pieces-failed-requires-clause-room g c = search rules

-- the children of the pieces stand behind all bios, and then the bio is in flight
pub returns-clause-bios : goal.returns-clause-bios
returns-clause-bios g c = search (rules, lives, live, change_numbered-append)

-- the live table has judged them
pub returns-clause-devices : goal.returns-clause-devices
returns-clause-devices g c =
    let at = goal.at.returns-clause-devices g c in
    let by = live g at.In-Some-live in
    let cut = c.deref-2.ensures.value ∙ c.in_ok-pieces.ensures.cut in
    rw (lives g at.In-Some, by, c.set_stage.ensures.devices, ← c.bio.view_is)
    (rw (c.reserve.ensures.devices, by, cut) at c.send_pieces-failed.ensures.devices)
