-- Which sectors of a bio a line of its device's table answered itself (this project's own).
use Rattle.std.specs.Prelude.{ℕ, suc, zero, ◌+◌, ◌-◌, ◌==◌, ◌&&◌, Bool, false, not, nat_lt}
use Rattle.std.specs.Prelude.{List, [], ◌∷◌, length, map, slice_get, Option, Some, None}
use Rattle.std.specs.Prelude.{if◌then◌else◌}
use Rattle.std.specs.Option.{is_some}
use Rattle.lab_sector.specs.declared.device.DevNo.{DevNo}
use Rattle.lab_sector.specs.declared.device.DevNo.TheVariants.{Ram, Dm}
use Rattle.lab_sector.specs.declared.request.Kind.{Kind}
use Rattle.lab_target.specs.Meaning.{Meaning}
use Rattle.lab_model.specs.declared.parent.Parent.{Parent}
use Rattle.lab_model.specs.declared.parent.Parent.TheVariants.{FromLog, FromBio}
use Rattle.lab_model.specs.declared.piece.Piece.{Piece}
use Rattle.lab_model.specs.declared.table_line.TableLine.{TableLine}
use Rattle.lab_model.specs.Bios.{Bio, stage_failed}
use Rattle.lab_model.specs.ControlEffect.{is_flush}
use Rattle.lab_model.specs.MapEffect.{fits_table}
use Rattle.lab_model.specs.Pieces.{pieces}
use Rattle.lab_model.specs.Slots.{live_at}
use Rattle.lab_model.specs.State.{State, bio_of}
use Rattle.lab_model.specs.Tables.{Table}
use Rattle.lab_next.specs.Bios.{sectors_in}
use Rattle.lab_next.specs.declared.own.Own.{Own}

-- the sectors of so many bios, from the place on
abbrev pub made_sectors : {S : Type 0} → State S → ℕ → ℕ → ℕ
made_sectors s place zero = 0
made_sectors s place (suc more) =
    sectors_in (bio_of s (place + 1)) + made_sectors s (place + 1) more

-- whether no bio was made for some sector of a bio, though none of its pieces has failed: it is no
-- flush, and the bios made after the first so many have fewer sectors
abbrev pub is_wanting : {S : Type 0} → State S → ℕ → Bio → Bool
is_wanting s made bio = not (stage_failed bio.stage) && not (is_flush bio.kind)
    && nat_lt (made_sectors s made (length s.bios - made)) bio.span.len

-- whether two pieces are equal
abbrev pub same_piece : Piece → Piece → Bool
same_piece piece other = (piece.line == other.line)
    && (piece.span.first == other.span.first) && (piece.span.len == other.span.len)

-- whether a parent is the bio of a number, for this piece
abbrev pub is_piece : ℕ → Piece → Parent → Bool
is_piece number piece (FromLog log line action) = false
is_piece number piece (FromBio above other) = (above == number) && same_piece piece other

-- whether a bio, if it lives, was made for this piece of the bio of a number
abbrev pub is_bio_for : ℕ → Piece → Option Bio → Bool
is_bio_for number piece None = false
is_bio_for number piece (Some bio) = is_piece number piece bio.parent

-- whether the bio at a place, counted from 0, was made for this piece of the bio of a number
abbrev pub is_made_for : {S : Type 0} → State S → ℕ → Piece → ℕ → Bool
is_made_for s number piece place = is_bio_for number piece (bio_of s (place + 1))

-- those of these pieces of the bio of a number for which no bio was made, where the next of the
-- bios made for one has this place
abbrev pub unmade : {S : Type 0} → State S → ℕ → ℕ → List Piece → List Piece
unmade s number place [] = []
unmade s number place (piece ∷ more) =
    if is_made_for s number piece place then unmade s number (place + 1) more
    else piece ∷ unmade s number place more

-- whether a line has a reference for bios of a kind
abbrev pub handed_on : {S : Type 0} → Meaning S → Kind → Option (TableLine S) → Bool
handed_on m kind None = false
handed_on m kind (Some line) = is_some ((m.shape line.target).reference kind)

-- a piece of a bio as its line's own
abbrev pub own_of : {S : Type 0} → Meaning S → Bio → Table S → Piece → Own
own_of m bio table piece = record {
  line = piece.line;
  first = piece.span.first - bio.span.first;
  count = piece.span.len;
  hands_on = handed_on m bio.kind (slice_get table piece.line);
}

-- which sectors of a bio the lines of a table answered themselves, where its sectors are the
-- table's
abbrev pub parts_on : {S : Type 0} → Meaning S → State S → ℕ → ℕ → Bio → Table S → List Own
parts_on m s made number bio table = if fits_table table bio.kind bio.span
    then map (own_of m bio table) (unmade s number made (pieces m table bio.kind bio.span))
    else []

-- those of a bio, where its device has a live table
abbrev pub parts_at : {S : Type 0} → Meaning S → State S → ℕ → ℕ → Bio → Option (Table S)
    → List Own
parts_at m s made number bio None = []
parts_at m s made number bio (Some table) = parts_on m s made number bio table

-- the live table of a mapped device, if there is one
abbrev pub table_of : {S : Type 0} → State S → DevNo → Option (Table S)
table_of s (Ram disk) = None
table_of s (Dm device) = live_at s.devices device

-- those of a bio, where no bio was made for some sector of it
abbrev pub parts_by : {S : Type 0} → Meaning S → State S → ℕ → ℕ → Bio → List Own
parts_by m s made number bio = if is_wanting s made bio
    then parts_at m s made number bio (table_of s bio.device)
    else []

-- those of a bio, if it lives
abbrev pub living_parts : {S : Type 0} → Meaning S → State S → ℕ → ℕ → Option Bio → List Own
living_parts m s made number None = []
living_parts m s made number (Some bio) = parts_by m s made number bio

-- which sectors of the bio of a number the lines of its device's table answered themselves, in the
-- state after they judged it, where so many bios had been made before: its pieces for which no bio
-- was made, in order
abbrev pub own_parts : {S : Type 0} → Meaning S → State S → ℕ → ℕ → List Own
own_parts m s made number = living_parts m s made number (bio_of s number)
