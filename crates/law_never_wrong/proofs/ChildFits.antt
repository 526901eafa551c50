-- The children of a bio that a table has judged stand where they go. Pieces that a table judges one
-- after another: each answer is one that the piece's line, as it was before the first, may give,
-- since no judgement changes a shape.
use Rattle.lab_model.proofs.Common.{rules, ◌≡◌, ℕ, ◌+◌, ◌≤◌, List, length, arith, common_steps}
use Rattle.lab_model.proofs.Common.{DevNo, Kind, Write, Span, Marks, Pass, Bio, Judgement}
use Rattle.lab_model.specs.declared.parent.Parent.TheVariants.{FromBio}
use Rattle.lab_model.proofs.Common.{children, marks_in, Sectors, marked, part}
use Rattle.lab_model.proofs.Common.{Some-holds, In, filter_map-member, length-change, child_sectors}
use Rattle.lab_model.proofs.Common.{◌<◌, inl, inr, Bool, true, [], ◌∷◌, Some, slice_get}
use Rattle.lab_model.proofs.Common.{ap, ◌∙◌, subst, AllByRecursion, list_all, Allowed, Lawful}
use Rattle.lab_model.proofs.Common.{Meaning, judgement_by, judgements, table_judged, HasNoGap}
use Rattle.lab_model.proofs.Common.{Table, image, placed, with_target, None-not-Some}
use Rattle.lab_model.specs.MapEffect.{child_stage}
use Rattle.lab_model.specs.declared.piece.Piece.{Piece}
use Rattle.lab_model.specs.declared.table_line.TableLine.{TableLine}
use Rattle.law_never_wrong.proofs.PieceLemmas.{LiesIn, PieceOf, lies-is_piece}
use Rattle.std.proofs.Common.{subst₂}
use Rattle.law_slots.proofs.WalkImages.{all_judged-image}
use Rattle.law_never_wrong.proofs.FitsKept.{line-kept, placed-same}

-- so do both
pub length-marked : (marks : Marks) (sectors : Sectors)
    → length (marked marks sectors) ≡ length sectors
length-marked marks sectors = search (rules, length-change)

-- a part that is inside has its span's number of sectors
length-part : (sectors : Sectors) (span : Span) → span.first + span.len ≤ length sectors
    → length (part sectors span) ≡ span.len
length-part sectors span inside = grind (arith, common_steps)

-- what a child writes are as many sectors as its piece has
pub child_sectors-fill : {S : Type 0} (bio : Bio) (piece : Piece) (marks : Marks)
    (line : TableLine S) (kind : Kind) → kind ≡ Write → LiesIn kind line bio.span piece.span
    → length bio.sectors ≡ bio.span.len
    → length (child_sectors bio piece marks kind) ≡ piece.span.len
child_sectors-fill bio piece marks line Write is lies fill =
    search (rules, length-marked, length-part)
child_sectors-fill bio piece marks line kind is lies fill = cc

-- the child of a piece that passes
abbrev pub passed : ℕ → ℕ → ℕ → Bio → Judgement → DevNo → Span → ℕ → Marks → Bio
passed now device number bio j below span hold marks = record {
  kind = bio.kind;
  device = below;
  span = span;
  parent = FromBio number j.piece;
  marks = marks_in j.span marks;
  sectors = child_sectors bio j.piece (marks_in j.span marks) bio.kind;
  stage = child_stage now device hold;
}

-- what holds of the children of all pieces that pass holds of all children
pub children-passed : (P : Bio → Type 0) (now device number : ℕ) (bio : Bio)
    (judged : List Judgement)
    → ((j : Judgement) (below : DevNo) (span : Span) (hold : ℕ) (marks : Marks) → In j judged
    → j.verdict ≡ Pass below span hold marks
    → P (passed now device number bio j below span hold marks))
    → (child : Bio) → In child (children now device number bio judged) → P child
children-passed P now device number bio judged holds child among =
    search (rules, filter_map-member, Some-holds)

-- a piece of a bio of a kind, and an answer that its line of a table may give
pub record JudgedBy {S : Type 0} (m : Meaning S) (table : Table S) (kind : Kind) (whole : Span)
    (j : Judgement) : Type 0 where
  pub line : TableLine S
  pub is_line : slice_get table j.piece.line ≡ Some line
  pub lies : LiesIn kind line whole j.piece.span
  pub allowed : Allowed (m.shape line.target) kind (placed kind line j.piece.span) j.verdict

-- what a test says of each item, it says of all
pub all-pass : {X : Type 0} (test : X → Bool) (xs : List X)
    → ((x : X) → In x xs → test x ≡ true) → list_all test xs ≡ true
all-pass test [] each = search rules
all-pass test (x ∷ xs) each = search (rules, all-pass test xs (λ y at. each y (inr at)))

-- each line of a table without gaps has a sector
pub line-long : {S : Type 0} (table : Table S) (start number : ℕ) (line : TableLine S)
    → HasNoGap start table → slice_get table number ≡ Some line → 0 < line.len
line-long [] start number line gap at = absurd (None-not-Some at)
line-long (first ∷ table) start number line gap at = search (rules, line-long table, Some-holds)

-- a table whose image has no gap has none
pub no_gap-image : {S : Type 0} (m : Meaning S) (start : ℕ) (table : Table S)
    → HasNoGap start (image m table) → HasNoGap start table
no_gap-image m start [] gap = tt
no_gap-image m start (l ∷ table) gap = (gap.0, gap.1, no_gap-image m (start + l.len) table gap.2)

module _ {S : Type 0} (m : Meaning S) (lawful : Lawful m) (kind : Kind) (whole : Span)
    (now : ℕ) (before : Table S) where
  -- a line judges a piece as one with its shape may
  judgement-allowed : (piece : Piece) (of : PieceOf before kind whole piece) (own : TableLine S)
      → with_target m.shape own ≡ with_target m.shape of.line
      → JudgedBy m before kind whole (judgement_by m kind now piece (Some own))
  judgement-allowed piece of own alike =
      let there : placed kind own piece.span ≡ placed kind of.line piece.span =
      placed-same kind own of.line piece.span (ap (λ image. image.start) alike) in
      let may = lies-is_piece kind of.line whole piece.span of.lies in
      let allowed = subst₂ (λ shape span. Allowed shape kind span
      (m.verdict own.target kind (placed kind own piece.span) now))
      (ap (λ image. image.target) alike) there
      (lawful.verdicts own.target kind (placed kind own piece.span) now (rw there may)) in
      search rules

  -- each judgement of pieces by a table that has kept its image
  pub judgements-allowed : (table : Table S) → image m table ≡ image m before → (ps : List Piece)
      → AllByRecursion (PieceOf before kind whole) ps → (j : Judgement)
      → In j (judgements m kind now table ps) → JudgedBy m before kind whole j
  judgements-allowed table same [] of j at = absurd at
  judgements-allowed table same (piece ∷ ps) of j (inl first) =
      let kept = line-kept m before table same piece.line of.0.line of.0.is_line in
      subst (JudgedBy m before kind whole) first
      (rw kept.1 (judgement-allowed piece of.0 kept.0 kept.2))
  judgements-allowed table same (piece ∷ ps) of j (inr later) =
      judgements-allowed (table_judged m kind now table piece)
      (all_judged-image m lawful kind now table (piece ∷ []) ∙ same) ps of.1 j later
