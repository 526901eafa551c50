-- A write that is made carries the bytes that are known of it: a log's its fill, and a piece's its
-- part of the one above.
use Rattle.lab_model.proofs.Common.{◌≡◌, ◌≢◌, ◌∙◌, ◌+◌, ◌-◌, ◌<◌, ℕ, Bio, List, Sectors, Some}
use Rattle.lab_model.proofs.Common.{State, Write, ap, arith, bio_of, filled, length-replicate}
use Rattle.lab_model.proofs.Common.{length-take, marked, no_marks, part, replicate, rules}
use Rattle.lab_model.proofs.Common.{slice_get, slice_get_within, Span, subst, sym}
use Rattle.lab_model.specs.LogEffect.{fill_of}
use Rattle.lab_model.specs.declared.parent.Parent.{Parent}
use Rattle.lab_model.specs.declared.parent.Parent.TheVariants.{FromBio, FromLog}
use Rattle.lab_model.specs.declared.piece.Piece.{Piece}
use Rattle.lab_next.specs.Bios.{place_in}
use Rattle.lab_next.specs.declared.writer.Writer.{Writer}
use Rattle.lab_image.specs.Images.{Image, begun_by}
use Rattle.lab_image.specs.Stores.{both_marked, passed}
use Rattle.law_bytes_carried.proofs.Served.{part-place}
use Rattle.law_writers.proofs.Altering.{both-has, both-other}
use Rattle.law_writers.proofs.Carrying.{Carried, Carries, Stood, carried-on}
use Rattle.law_writers.proofs.Carrying.{filled-has, filled-other, passed-has, passed-other}
use Rattle.law_writers.proofs.Leavings.{replicate-one}
use Rattle.law_writers.specs.RowsTell.{fills}
use Rattle.lab_image.specs.Stores as stores

-- a write for a piece of another writes its part of that one, with its changed bytes
pub record IsPart {S : Type 0} (s : State S) (number : ℕ) (bio : Bio) (above : ℕ) (piece : Piece)
    : Type 0 where
  pub up : Bio
  pub lives : bio_of s above ≡ Some up
  pub earlier : above < number
  pub writes : up.kind ≡ Write
  pub long : bio.span.len ≡ piece.span.len
  pub sectors : bio.sectors ≡ marked bio.marks (part up.sectors
      (record { first = piece.span.first - up.span.first; len = piece.span.len }))

-- a write that is made: a log's has the fill of its line, and no byte of it is changed
abbrev pub MadeBy : {S : Type 0} → State S → ℕ → Bio → Parent → Type 0
MadeBy s number bio (FromLog log line action) =
    (bio.sectors ≡ filled bio.span.len (fill_of log line)) × (bio.marks ≡ no_marks)
MadeBy s number bio (FromBio above piece) = IsPart s number bio above piece

-- a sector of so many of one byte
filled-sector : (count byte i : ℕ) (bytes : List ℕ) → slice_get (filled count byte) i ≡ Some bytes
    → (i < count) × (bytes ≡ replicate 512 byte)
filled-sector count byte i bytes at =
    let less : i < count = search (rules, slice_get_within, length-replicate) in
    (less, replicate-one count (replicate 512 byte) bytes i at)

-- a sector of a part is one of so many
part-less : (sectors : Sectors) (span : Span) (i : ℕ) (bytes : List ℕ)
    → slice_get (part sectors span) i ≡ Some bytes → i < span.len
part-less sectors span i bytes at = search (rules, slice_get_within, length-take)

module _ {S : Type 0} (s : State S) (number : ℕ) (bio : Bio) (image : Image) where
  -- a log's write carries the fill of its line
  log-has : (log line : ℕ) → bio.sectors ≡ filled bio.span.len (fill_of log line)
      → Carries fills (stores.with_write image.bios number bio.span.len
      (record { origin = record { log = log; line = line }; sector = 0 })) number bio.sectors
  log-has log line is i bytes at =
      let writer : Writer = record { origin = record { log = log; line = line }; sector = 0 } in
      let held = filled-sector bio.span.len (fill_of log line) i bytes
      (ap (λ own. slice_get own i) (sym is) ∙ at) in
      subst (Carried fills (stores.with_write image.bios number bio.span.len writer) number i)
      (sym held.1) (filled-has image.bios number fills bio.span.len writer i held.0)

  -- a piece's write carries its part of the one above, with its changed bytes
  part-has : (above : ℕ) (piece : Piece) (is : IsPart s number bio above piece)
      → Carries fills image.bios above is.up.sectors
      → Carries fills (both_marked number bio.marks
      (begun_by s image.bios number bio.span.len (FromBio above piece))) number bio.sectors
  part-has above piece is carries =
      let from : ℕ = piece.span.first - is.up.span.first in
      let span : Span = record { first = from; len = piece.span.len } in
      let start : place_in piece (bio_of s above) ≡ from = ap (place_in piece) is.lives in
      let apart : above ≢ number = λ same. omega (arith, same, is.earlier) in
      let store = passed image.bios above from number bio.span.len in
      let has : Carries fills store number (part is.up.sectors span) = λ i bytes at.
      let less = part-less is.up.sectors span i bytes at in
      carried-on (passed-has image.bios number above from bio.span.len i apart
      (omega (arith, less, is.long)))
      (carries (from + i) bytes (sym (part-place is.up.sectors span i less) ∙ at)) in
      subst (λ place. Carries fills (both_marked number bio.marks
      (passed image.bios above place number bio.span.len)) number bio.sectors) (sym start)
      (subst (Carries fills (both_marked number bio.marks store) number) (sym is.sectors)
      (both-has fills number store (part is.up.sectors span) has bio.marks))

  -- so a write that is made carries what is known of it, whoever made it
  pub made-has : (parent : Parent) → MadeBy s number bio parent
      → ((n : ℕ) (up : Bio) → n < number → bio_of s n ≡ Some up → up.kind ≡ Write
      → Carries fills image.bios n up.sectors)
      → Carries fills (both_marked number bio.marks
      (begun_by s image.bios number bio.span.len parent)) number bio.sectors
  made-has (FromLog log line action) made lower =
      subst (λ marks. Carries fills (both_marked number marks (begun_by s image.bios number
      bio.span.len (FromLog log line action))) number bio.sectors) (sym made.1)
      (log-has log line made.0)
  made-has (FromBio above piece) made lower =
      part-has above piece made (lower above made.up made.earlier made.lives made.writes)

  -- and what is known of others stays
  pub made-other : (parent : Parent) → MadeBy s number bio parent → (other i : ℕ) → other ≢ number
      → Stood image.bios other i (both_marked number bio.marks
      (begun_by s image.bios number bio.span.len parent)) other i
  made-other parent made other i apart =
      let last = both-other (begun_by s image.bios number bio.span.len parent) number bio.marks
      other i apart in
      let first = before parent made in
      record { writers = last.writers ∙ first.writers; changes = last.changes ∙ first.changes }
    where
      before : (parent : Parent) → MadeBy s number bio parent
          → Stood image.bios other i (begun_by s image.bios number bio.span.len parent) other i
      before (FromLog log line action) made =
          filled-other image.bios number bio.span.len _ other i apart
      before (FromBio above piece) made = passed-other image.bios number above _ bio.span.len
          other i (λ same. omega (arith, same, made.earlier)) apart
