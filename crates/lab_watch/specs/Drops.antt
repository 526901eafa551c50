-- Which sectors of a write or a trim the lines of tables dropped (this project's own).
use Rattle.std.specs.Prelude.{ℕ, ◌+◌, ◌&&◌, List, Option, Some, None, fold, length}
use Rattle.std.specs.Prelude.{if◌then◌else◌}
use Rattle.lab_sector.specs.declared.request.Kind.{Kind}
use Rattle.lab_target.specs.Meaning.{Meaning}
use Rattle.lab_model.specs.declared.event.Event.{Event}
use Rattle.lab_model.specs.declared.event.Event.TheVariants.{Map}
use Rattle.lab_model.specs.Bios.{Bio}
use Rattle.lab_model.specs.ControlEffect.{is_change}
use Rattle.lab_model.specs.State.{State, bio_of}
use Rattle.lab_next.specs.declared.origin.Root.{Root}
use Rattle.lab_next.specs.declared.own.Own.{Own}
use Rattle.lab_next.specs.Origins.{root_of}
use Rattle.lab_next.specs.Own.{own_parts}
use Rattle.lab_watch.specs.Grids.{Grid, spread, writer_from}
use Rattle.lab_watch.specs.Heard.{heard}
use Rattle.lab_watch.specs.Known.{Known}
use Rattle.lab_watch.specs.Settled.{settled}

-- a line answered a part of a bio with this root itself: it dropped the part, where it hands others
-- on
abbrev pub with_drop : Root → Grid → Own → Grid
with_drop root drops own = if own.hands_on
    then spread drops root.number (root.writer.sector + own.first) own.count
    (writer_from root.writer own.first)
    else drops

-- lines answered these parts of a bio themselves, if it has a root
abbrev pub with_each : Known → Option Root → List Own → Known
with_each known None own = known
with_each known (Some root) own =
    record known { drops = fold (with_drop root) known.drops own }

-- the same of a write or a trim, where drops are kept; of another bio nothing is dropped
abbrev pub with_drops : Known → Kind → Option Root → List Own → Known
with_drops known kind root own =
    if known.kept.drops && is_change kind then with_each known root own else known

-- the lines of its device's table have judged the bio of a number, if it lives
abbrev pub mapped_by : {S : Type 0} → Meaning S → ℕ → State S → ℕ → Known → Option Bio → Known
mapped_by m made s number known None = known
mapped_by m made s number known (Some bio) =
    with_drops known bio.kind (root_of s number) (own_parts m s made number)

-- what is known in the state after an event, before which so many bios were made: where lines
-- judged a bio, what they dropped of it is known too
abbrev pub mapped : {S : Type 0} → Meaning S → ℕ → State S → Event → Known → Known
mapped m made s (Map number) known = mapped_by m made s number known (bio_of s number)
mapped m made s _ known = known

-- what is known after an event that leads from one state to the next
abbrev pub known_next : {S : Type 0} → Meaning S → State S → State S → Known → Event → Known
known_next m s next known event =
    mapped m (length s.bios) next event (settled s event (heard s event known))
