-- A bio at a mapped device: it is cut, and each piece is judged in order by its line (the
-- kernel's device-mapper).
use Rattle.std.specs.Prelude.{ℕ, ◌+◌, ◌*◌, ◌-◌, Bool, true, false, nat_lt, List, [], ◌++◌, Option, Some, None, fold, map, slice_get, if◌then◌else◌, option_map, nat_le}
use Rattle.std.specs.List.{filter_map, list_all, list_any, scan}
use Rattle.lab_sector.specs.declared.device.DevNo.TheVariants.{Ram, Dm}
use Rattle.lab_sector.specs.declared.request.Kind.{Kind}
use Rattle.lab_sector.specs.declared.request.Kind.TheVariants.{Read, Write}
use Rattle.lab_sector.specs.declared.span.Span.{Span}
use Rattle.lab_target.specs.declared.verdict.Mark.{Mark}
use Rattle.lab_target.specs.declared.verdict.Marks.{Marks}
use Rattle.lab_target.specs.declared.verdict.Verdict.{Verdict}
use Rattle.lab_target.specs.declared.verdict.Verdict.TheVariants.{Pass, Fail}
use Rattle.lab_target.specs.Meaning.{Meaning}
use Rattle.lab_model.specs.declared.piece.Piece.{Piece}
use Rattle.lab_model.specs.declared.table_line.TableLine.{TableLine}
use Rattle.lab_model.specs.After.{After, Next, NoDevice, PastEnd, unless, where_there, on_live}
use Rattle.lab_model.specs.Bios.{Bio, Stage, Entering, Held, InFlight}
use Rattle.lab_model.specs.declared.parent.Parent.TheVariants.{FromBio}
use Rattle.lab_model.specs.Lists.{change}
use Rattle.lab_model.specs.LogEffect.{stands}
use Rattle.lab_model.specs.Pieces.{pieces}
use Rattle.lab_model.specs.Sectors.{Sectors, filled, part, marked}
use Rattle.lab_model.specs.State.{State, Slot, bio_of, with_bio}
use Rattle.lab_model.specs.Tables.{Table, placed, size_of, with_target, end_of}

-- a piece, its sectors as its line counts them, and what the line does with it
pub record Judgement : Type 0 where
  pub piece : Piece
  pub span : Span
  pub verdict : Verdict

-- a piece judged by its line; a line that isn't there, which no piece has, fails it
abbrev pub judgement_by : {S : Type 0} → Meaning S → Kind → ℕ → Piece → Option (TableLine S)
    → Judgement
judgement_by m kind now piece None = record { piece = piece; span = piece.span; verdict = Fail }
judgement_by m kind now piece (Some line) = record {
  piece = piece;
  span = placed kind line piece.span;
  verdict = m.verdict line.target kind (placed kind line piece.span) now;
}

-- a piece judged by its line of a table
abbrev pub judgement : {S : Type 0} → Meaning S → Kind → ℕ → Table S → Piece → Judgement
judgement m kind now table piece = judgement_by m kind now piece (slice_get table piece.line)

-- the table after its line has judged a piece
abbrev pub table_judged : {S : Type 0} → Meaning S → Kind → ℕ → Table S → Piece → Table S
table_judged m kind now table piece = change table piece.line
    (λ line. with_target (λ t. m.judged t kind (placed kind line piece.span) now) line)

-- the judgements of pieces in order, each by the table that the one before leaves
abbrev pub judgements : {S : Type 0} → Meaning S → Kind → ℕ → Table S → List Piece → List Judgement
judgements m kind now table pieces =
    scan (table_judged m kind now) (judgement m kind now) table pieces

-- the table after all pieces are judged
abbrev pub all_judged : {S : Type 0} → Meaning S → Kind → ℕ → Table S → List Piece → Table S
all_judged m kind now table pieces = fold (table_judged m kind now) table pieces

-- a mark counted from the first byte of the piece that it is in
abbrev pub mark_in : Span → Mark → Mark
mark_in span mark = record mark { place = mark.place - 512 * span.first }

-- both marks, counted from the first byte of the piece
abbrev pub marks_in : Span → Marks → Marks
marks_in span marks = record {
  fixed = option_map (mark_in span) marks.fixed;
  random = option_map (mark_in span) marks.random;
}

-- what a child writes: its part of what the bio writes, with a write's marks in it
abbrev pub child_sectors : Bio → Piece → Marks → Kind → Sectors
child_sectors bio piece marks Write =
    marked marks (part bio.sectors
    (record { first = piece.span.first - bio.span.first; len = piece.span.len }))
child_sectors bio piece marks _ = []

-- a child is held where the hold is above 0, until its moment, by the device that cut it
abbrev pub child_stage : ℕ → ℕ → ℕ → Stage
child_stage now device hold = if nat_lt 0 hold then Held (now + hold) device else Entering

-- the child of a piece that passes
abbrev pub child_of : ℕ → ℕ → ℕ → Bio → Judgement → Verdict → Option Bio
child_of now device number bio j (Pass below span hold marks) = Some (record {
  kind = bio.kind;
  device = below;
  span = span;
  parent = FromBio number j.piece;
  marks = marks_in j.span marks;
  sectors = child_sectors bio j.piece (marks_in j.span marks) bio.kind;
  stage = child_stage now device hold;
})
child_of now device number bio j verdict = None

-- the children of a bio, in the order of their pieces
abbrev pub children : ℕ → ℕ → ℕ → Bio → List Judgement → List Bio
children now device number bio judged =
    filter_map (λ j. child_of now device number bio j j.verdict) judged

-- whether a piece fails
abbrev pub fails : Verdict → Bool
fails Fail = true
fails _ = false

-- whether the device of a pass is there
abbrev pub goes_somewhere : {S : Type 0} → State S → Verdict → Bool
goes_somewhere s (Pass below span hold marks) = stands s below
goes_somewhere s verdict = true

-- room for the answer to a read: zero bytes, which pieces read as zeroes stay
abbrev pub answer_room : Kind → ℕ → Sectors
answer_room Read count = filled count 0
answer_room _ count = []

-- the bio in flight
abbrev pub sent_off : Bool → Bio → Bio
sent_off failed bio = record bio { stage = InFlight failed (answer_room bio.kind bio.span.len) }

-- a device with another live table
abbrev pub with_live : {L : Type 0} → L → Slot L → Slot L
with_live table slot = record slot { live = Some table }

-- the state after a bio's pieces are judged
abbrev pub sent : {S : Type 0} → State S → ℕ → ℕ → Bio → Table S → List Judgement → State S
sent s device number bio table judged = record s {
  bios = (with_bio s number (sent_off (list_any (λ j. fails j.verdict) judged))).bios
      ++ map (λ child. Some child) (children s.clock device number bio judged);
  devices = change s.devices device (option_map (with_live table));
}

-- the bio's sectors are the table's
abbrev pub fits_table : {S : Type 0} → Table S → Kind → Span → Bool
fits_table table kind span = nat_le (end_of kind span) (size_of table)

-- a bio is judged by a live table
abbrev pub judged_by : {S : Type 0} → Meaning S → State S → ℕ → ℕ → Bio → Table S → After S
judged_by m s device number bio table =
    let cut = pieces m table bio.kind bio.span in
    let judged = judgements m bio.kind s.clock table cut in
    unless PastEnd (fits_table table bio.kind bio.span)
    (unless NoDevice (list_all (λ j. goes_somewhere s j.verdict) judged)
    (Next (sent s device number bio (all_judged m bio.kind s.clock table cut) judged)))

-- the mapped device judges the bio of this number
abbrev pub map_bio : {S : Type 0} → Meaning S → State S → ℕ → After S
map_bio m s number = where_there s (bio_of s number) (λ bio. elim bio.device [
  | Ram disk ↦ Next s
  | Dm device ↦ on_live s device (judged_by m s device number bio)
])
