-- What is watched where a changed byte reaches a disk or an answer (this project's own).
use Rattle.std.specs.Prelude.{ℕ, suc, zero, ◌+◌, ◌/◌, List, [], ◌∷◌, Option, Some, None, not}
use Rattle.std.specs.Prelude.{Bool, false, if◌then◌else◌, slice_get}
use Rattle.lab_sector.specs.declared.device.DevNo.{DevNo}
use Rattle.lab_sector.specs.declared.device.DevNo.TheVariants.{Ram}
use Rattle.lab_sector.specs.declared.request.Kind.{Kind}
use Rattle.lab_sector.specs.declared.request.Kind.TheVariants.{Write}
use Rattle.lab_target.specs.declared.verdict.Mark.{Mark}
use Rattle.lab_target.specs.declared.verdict.Marks.{Marks}
use Rattle.lab_target.specs.Meaning.{Meaning}
use Rattle.lab_model.specs.Bios.{Bio}
use Rattle.lab_model.specs.declared.event.Event.{Event}
use Rattle.lab_model.specs.declared.event.Event.TheVariants.{Serve, Finish}
use Rattle.lab_model.specs.declared.parent.Parent.{Parent}
use Rattle.lab_model.specs.declared.parent.Parent.TheVariants.{FromBio, FromLog}
use Rattle.lab_model.specs.declared.piece.Piece.{Piece}
use Rattle.lab_model.specs.LogEffect.{fill_of}
use Rattle.lab_model.specs.Owner.{parent_of}
use Rattle.lab_model.specs.Sectors.{Sectors}
use Rattle.lab_model.specs.State.{State, bio_of}
use Rattle.lab_next.specs.Bios.{answer_marks, place_in}
use Rattle.lab_next.specs.declared.origin.Root.{Root}
use Rattle.lab_next.specs.Origins.{root_of}
use Rattle.lab_watch.specs.Grids.{set, writer_from}
use Rattle.lab_watch.specs.Heard.{heard}
use Rattle.lab_findings.specs.declared.culprit.Culprit.{Culprit}
use Rattle.lab_findings.specs.Changes.{is_changed}
use Rattle.lab_findings.specs.Culprits.{Culprits, with_culprit}
use Rattle.lab_findings.specs.Lines.{culprit_on}
use Rattle.lab_findings.specs.Watched.{Watched}

-- a line did something to a sector, if one did
abbrev pub blamed : Culprits → ℕ → ℕ → Option Culprit → Culprits
blamed culprits number sector None = culprits
blamed culprits number sector (Some culprit) = with_culprit culprits number sector culprit

-- whether a bio's sector at a place is there, and has this byte alone
abbrev pub has_right : ℕ → ℕ → Option Bio → Bool
has_right byte place None = false
has_right byte place (Some bio) = is_right (slice_get bio.sectors place) where
  is_right : Option (List ℕ) → Bool
  is_right None = false
  is_right (Some sector) = not (is_changed byte sector)

-- a line changes the byte of an answer at its mark, if there is one
abbrev pub blamed_mark : Culprits → Root → Option Culprit → Option Mark → Culprits
blamed_mark culprits root culprit None = culprits
blamed_mark culprits root culprit (Some mark) =
    blamed culprits root.number (root.writer.sector + mark.place / 512) culprit

-- at both marks, the fixed one first
abbrev pub blamed_marks : Watched → Option Root → Option Culprit → Marks → Watched
blamed_marks watched None culprit marks = watched
blamed_marks watched (Some root) culprit marks = record watched {
  culprits = blamed_mark (blamed_mark watched.culprits root culprit marks.fixed) root culprit
      marks.random;
}

module _ {S : Type 0} (m : Meaning S) (s : State S) where
  -- the line of a bio's device that has a piece of it
  abbrev pub line_with : Piece → Option Bio → Option Culprit
  line_with piece None = None
  line_with piece (Some bio) = culprit_on m s bio.device piece.line

  -- which line changed a sector of a write on its way down, by the lowest bio above in which the sector
  -- still has the byte that was written: so many bios up at most
  abbrev pub changer_within : ℕ → ℕ → ℕ → Option Parent → Option Culprit
  changer_within steps byte place None = None
  changer_within steps byte place (Some (FromLog log line action)) = None
  changer_within zero byte place (Some (FromBio above piece)) = None
  changer_within (suc steps) byte place (Some (FromBio above piece)) =
      if has_right byte (place + place_in piece (bio_of s above)) (bio_of s above)
      then line_with piece (bio_of s above)
      else changer_within steps byte (place + place_in piece (bio_of s above)) (parent_of s above)

  -- which line changed the sector at a place of the bio of a number
  abbrev pub changer_of : ℕ → ℕ → ℕ → Option Culprit
  changer_of number byte place = changer_within number byte place (parent_of s number)

  -- a sector of a write reaches a disk with another byte
  abbrev pub spoiled_at : Watched → ℕ → Root → ℕ → ℕ → Watched
  spoiled_at watched number root byte place = record watched {
    spoiled = set watched.spoiled root.number (root.writer.sector + place)
        (Some (writer_from root.writer place));
    culprits = blamed watched.culprits root.number (root.writer.sector + place)
        (changer_of number byte place);
  }

  -- so do those of these sectors of the bio of a number, from a place on, in which it stands
  abbrev pub spoiled_by : Watched → ℕ → Root → ℕ → ℕ → Sectors → Watched
  spoiled_by watched number root byte place [] = watched
  spoiled_by watched number root byte place (sector ∷ sectors) = spoiled_by
      (if is_changed byte sector then spoiled_at watched number root byte place else watched)
      number root byte (place + 1) sectors

  -- a disk serves a write by a bio with this root
  abbrev pub spoiled_if : Watched → ℕ → Sectors → Option Root → Watched
  spoiled_if watched number sectors None = watched
  spoiled_if watched number sectors (Some root) = spoiled_by watched number root
      (fill_of root.writer.origin.log root.writer.origin.line) 0 sectors

  -- a bio is served at this device, by its kind
  abbrev pub spoiled_on : Watched → ℕ → Bio → DevNo → Kind → Watched
  spoiled_on watched number bio (Ram disk) Write =
      spoiled_if watched number bio.sectors (root_of s number)
  spoiled_on watched number bio device kind = watched

  -- the bio of a number is served, if it lives
  abbrev pub spoiled : Watched → ℕ → Option Bio → Watched
  spoiled watched number None = watched
  spoiled watched number (Some bio) = spoiled_on watched number bio bio.device bio.kind

  -- a bio with this parent is answered: what its marks change is laid to the line that made it
  abbrev pub marked_by : Watched → ℕ → Marks → Parent → Watched
  marked_by watched number marks (FromLog log line action) = watched
  marked_by watched number marks (FromBio above piece) =
      blamed_marks watched (root_of s number) (line_with piece (bio_of s above)) marks

  -- the bio of a number is answered, if it lives
  abbrev pub marked : Watched → ℕ → Option Bio → Watched
  marked watched number None = watched
  marked watched number (Some bio) = marked_by watched number (answer_marks bio) bio.parent

  -- which lines changed bytes, where an event comes in this state
  abbrev pub changes_heard : Event → Watched → Watched
  changes_heard (Serve number) watched = marked
      (spoiled watched number (bio_of s number)) number (bio_of s number)
  changes_heard (Finish number) watched = marked watched number (bio_of s number)
  changes_heard event watched = watched

  -- once a disk has served the event's bio, in the state in which the event comes
  abbrev pub watch_heard : Event → Watched → Watched
  watch_heard event watched = if watched.sought.corrupt
      then changes_heard event (record watched { writers = heard s event watched.writers })
      else record watched { writers = heard s event watched.writers }
