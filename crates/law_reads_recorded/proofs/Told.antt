-- Spans, marks and records by sector; and what a bio in flight has recorded after one of its pieces
-- was answered.
use Rattle.lab_model.proofs.Common.{rules, ◌+◌, ◌-◌, ◌<◌, ap, arith, eq-eqb, inl, false, inr}
use Rattle.lab_model.proofs.Common.{length, List, ltb-true, ne_eqb, None, ℕ, Option, refl}
use Rattle.lab_model.proofs.Common.{slice_get, Some, subst, sym, true, unwrap_or, true≢false, ◌∙◌}
use Rattle.lab_model.proofs.Common.{◌≡◌, ◌≢◌, ◌≤◌, ◌⊎◌, and_parts, Bio, cases_Bool, Failed, Gave}
use Rattle.lab_model.proofs.Common.{put, marked, Marks, nat_tests, None-not-Some, Span}
use Rattle.lab_model.proofs.Common.{replicate, Sectors, slice_get-within, Told}
use Rattle.std.proofs.Common.{eqb-true, leb-true}
use Rattle.law_never_wrong.proofs.NumberedEntries.{slice_get-change, slice_get-change_other}
use Rattle.law_never_wrong.proofs.ChildFits.{length-marked}
use Rattle.law_bytes_carried.proofs.Words.{length-put, LiesUnder, Piece}
use Rattle.law_bytes_carried.proofs.Served.{put-outside, put-there}
use Rattle.law_reads_recorded.specs.Recorded.{span_has, Records, sector_marked, with_record}
use Rattle.law_reads_recorded.specs.ReadsRecorded.{IsBuffer}

-- a sector of a span is from its first on
pub has-from : (span : Span) (sector : ℕ) → span_has span sector ≡ true → span.first ≤ sector
has-from span sector is = leb-true span.first sector (and_parts _ _ is).0

-- and before its end
pub has-to : (span : Span) (sector : ℕ) → span_has span sector ≡ true → sector < span.first
    + span.len
has-to span sector is = ltb-true sector (span.first + span.len) (and_parts _ _ is).1

-- such a sector is one of the span
pub in-has : (span : Span) (sector : ℕ) → span.first ≤ sector → sector < span.first + span.len
    → span_has span sector ≡ true
in-has span sector from to = search rules

-- another is in front of the span or behind it
pub not-has : (span : Span) (sector : ℕ) → span_has span sector ≡ false
    → (sector < span.first) ⊎ (span.first + span.len ≤ sector)
not-has span sector is = grind (arith, nat_tests)

-- the record that a bio has been given
pub own-record : (records : Records) (number : ℕ) (own : ℕ → Option (List ℕ)) (sector : ℕ)
    → with_record records number own number sector ≡ own sector
own-record records number own sector = rw (eq-eqb number number refl) refl

-- other bios keep theirs
pub other-record : (records : Records) (number : ℕ) (own : ℕ → Option (List ℕ)) (other sector : ℕ)
    → other ≢ number → with_record records number own other sector ≡ records other sector
other-record records number own other sector apart = rw (ne_eqb other number apart) refl

-- and after both
pub marked-place : (marks : Marks) (sectors : Sectors) (i : ℕ) (bytes : List ℕ) → slice_get sectors
    i ≡ Some bytes → slice_get (marked marks sectors) i ≡ Some (sector_marked marks i bytes)
marked-place marks sectors i bytes there =
    search (rules, eqb-true, slice_get-change, slice_get-change_other, true≢false, eq-eqb)

-- what a bio in flight records of a piece that gave these sectors
pub record Gives (records after : Records) (bio : Bio) (parent : ℕ) (piece : Piece)
    (sectors : Sectors) : Type 0 where
  pub size : length sectors ≡ bio.span.len
  pub inside : (i : ℕ) (bytes : List ℕ) → slice_get sectors i ≡ Some bytes
      → span_has piece.span (piece.span.first + i) ≡ true
      → after parent (piece.span.first + i) ≡ Some (sector_marked bio.marks i bytes)
  pub outside : (sector : ℕ) → span_has piece.span sector ≡ false
      → after parent sector ≡ records parent sector

-- what it records of a piece by what that tells: nothing of one that failed
abbrev pub TellsUp : Records → Records → Bio → ℕ → Piece → Told → Type 0
TellsUp records after bio parent piece Failed =
    (sector : ℕ) → after parent sector ≡ records parent sector
TellsUp records after bio parent piece (Gave sectors) = Gives records after bio parent piece sectors

module _ (records after : Records) (bio old : Bio) (parent : ℕ) (piece : Piece) (sectors : Sectors)
    (lies : LiesUnder bio.span piece.span old.span)
    (gives : Gives records after bio parent piece sectors)
    (buffer : Sectors) (is : IsBuffer records parent old buffer) where
  -- where the piece begins in the bio above
  abbrev first : ℕ
  first = piece.span.first - old.span.first

  -- what comes into the buffer
  abbrev given : Sectors
  given = marked bio.marks sectors

  -- it fills the piece
  given-len : length given ≡ piece.span.len
  given-len = length-marked bio.marks sectors ∙ gives.size ∙ lies.long

  -- it is inside the buffer
  fits : first + length given ≤ length buffer
  fits = omega (arith, lies.from, lies.within, given-len, is.size)

  -- what is recorded of a sector, as the buffer has it
  abbrev Has : ℕ → Type 0
  Has place = slice_get (put buffer first given) place
      ≡ Some (unwrap_or (after parent (old.span.first + place)) (replicate 512 0))

  -- inside the piece
  has-inside : (place i : ℕ) → place ≡ first + i → old.span.first + place ≡ piece.span.first + i
      → i < length given → span_has piece.span (piece.span.first + i) ≡ true → Has place
  has-inside place i at sector less covers =
      let found = slice_get-within sectors i
      (omega (arith, less, length-marked bio.marks sectors)) in
      ap (slice_get (put buffer first given)) at ∙ put-there buffer first given i
      (omega (arith, fits)) less ∙ marked-place bio.marks sectors i found.0 found.1
      ∙ ap (λ o. Some (unwrap_or o (replicate 512 0))) (sym (gives.inside i found.0 found.1 covers))
      ∙ ap (λ n. Some (unwrap_or (after parent n) (replicate 512 0))) (sym sector)

  -- outside it
  has-outside : (place : ℕ) → place < old.span.len → span_has piece.span (old.span.first + place)
      ≡ false
      → slice_get (put buffer first given) place ≡ slice_get buffer place → Has place
  has-outside place less apart same = search rules

  -- each sector
  has-each : (place : ℕ) → place < old.span.len → Has place
  has-each place less = elim (cases_Bool (span_has piece.span (old.span.first + place))) [
    | inl covers ↦
        let from = has-from piece.span (old.span.first + place) covers in
        let i = (old.span.first + place) - piece.span.first in
        let sector : old.span.first + place ≡ piece.span.first + i = omega (arith, from) in
        search (rules, has-inside, has-to, given-len)
    | inr apart ↦ has-outside place less apart (put-outside buffer first given place
        (omega (arith, fits)) (search (rules, not-has, given-len)))
  ]

  -- so the buffer with what was given in it has what is recorded then
  pub buffer-told : IsBuffer after parent old (put buffer first given)
  buffer-told = record { size = length-put buffer first given fits ∙ is.size; each = has-each }

  -- a sector of the piece is recorded
  pub piece-recorded : (sector : ℕ) → span_has piece.span sector ≡ true → after parent sector ≢ None
  piece-recorded sector covers none =
      let from = has-from piece.span sector covers in
      let i = sector - piece.span.first in
      let at : sector ≡ piece.span.first + i = omega (arith, from) in
      let found = slice_get-within sectors i
      (omega (arith, from, has-to piece.span sector covers, gives.size, lies.long)) in
      let there = gives.inside i found.0 found.1
      (subst (λ n. span_has piece.span n ≡ true) at covers) in
      None-not-Some (sym none ∙ ap (after parent) at ∙ there)
