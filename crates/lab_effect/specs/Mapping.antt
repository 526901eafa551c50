-- What a mapped device meets when it judges a bio (dmsetup(8); the words are this project's own).
use Rattle.std.specs.Prelude.{◌≡◌, ℕ, ◌+◌, ◌≤◌, List, [], ◌∷◌, ◌++◌, Option, Some, All, IfSome, map, option_map}
use Rattle.std.specs.Prelude.{slice_get}
use Rattle.std.specs.List.{list_any}
use Rattle.lab_sector.specs.declared.request.Kind.{Kind}
use Rattle.lab_target.specs.Laws.{IsPiece}
use Rattle.lab_model.specs.Slots.{live_at}
use Rattle.lab_model.specs.declared.piece.Piece.{Piece}
use Rattle.lab_model.specs.declared.table_line.TableLine.{TableLine}
use Rattle.lab_model.specs.Bios.{Bio}
use Rattle.lab_model.specs.Lists.{change_numbered, numbered}
use Rattle.lab_target.specs.Types.{no_marks}
use Rattle.lab_model.specs.MapEffect.{Judgement, child_sectors, children, fails, sent_off}
use Rattle.lab_model.specs.Sectors.{Sectors}
use Rattle.lab_model.specs.Tables.{Table, placed}
use Rattle.lab_state.specs.Traffic.{TrafficRow}
use Rattle.std.specs.Option.{option_flatten}

-- a piece is of a line of the table: as that line counts its sectors, it may be judged, and it ends
-- within the line
pub record FitsLine {S : Type 0} (kind : Kind) (table : Table S) (piece : Piece) : Type 0 where
  pub line : TableLine S
  pub there : slice_get table piece.line ≡ Some line
  pub asked : IsPiece kind (placed kind line piece.span)
  pub inside : (placed kind line piece.span).first + (placed kind line piece.span).len ≤ line.len

-- the part of what a bio writes for one of its pieces, before it is marked; none for one that
-- writes nothing
abbrev pub part_of : Bio → Piece → Sectors
part_of bio piece = child_sectors bio piece no_marks bio.kind

-- the parts, in order, are what a bio writes for its pieces; it writes nothing for those behind the
-- last part
abbrev pub AreParts : Bio → List Sectors → List Piece → Type 0
AreParts bio parts [] = Unit {0}
AreParts bio [] (piece ∷ more) = (part_of bio piece ≡ []) × AreParts bio [] more
AreParts bio (part ∷ parts) (piece ∷ more) = (part ≡ part_of bio piece) × AreParts bio parts more

-- a part is the first of some, and the others are left; an empty one, where there is none
abbrev pub TakesPart : List Sectors → Sectors → List Sectors → Type 0
TakesPart [] part left = (part ≡ []) × (left ≡ [])
TakesPart (first ∷ others) part left = (part ≡ first) × (left ≡ others)

-- what was made ready for the bio of a number, of this kind, before its pieces are judged by its
-- device's live table: each fits its line, and these are the parts of what it writes
pub record IsReady {S : Type 0} (kind : Kind) (number device : ℕ) (pieces : List Piece)
    (parts : List Sectors) (traffic : TrafficRow S) : Type 0 where
  pub bio : Bio
  pub table : Table S
  pub lives : option_flatten (numbered traffic.bios number) ≡ Some bio
  pub live : live_at traffic.devices device ≡ Some table
  pub kind_is : bio.kind ≡ kind
  pub fit : All (FitsLine kind table) pieces
  pub parts_are : AreParts bio parts pieces

-- the bios after the pieces of one are judged: it is in flight, and its children stand after all
abbrev pub bios_sent : List (Option Bio) → ℕ → ℕ → ℕ → Bio → List Judgement → List (Option Bio)
bios_sent bios now device number bio judged =
    change_numbered bios number (option_map (sent_off (list_any (λ j. fails j.verdict) judged)))
    ++ map (λ child. Some child) (children now device number bio judged)

-- what is said of the living bio of a number and of a device's live table, where both are there
abbrev pub IfMaps : {S : Type 0} → TrafficRow S → ℕ → ℕ → (Bio → Table S → Type 0) → Type 0
IfMaps traffic number device P = IfSome (option_flatten (numbered traffic.bios number))
    (λ bio. IfSome (live_at traffic.devices device) (P bio))
