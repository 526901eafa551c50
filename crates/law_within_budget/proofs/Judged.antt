-- A bio at a mapped device that is judged by a version: what its children come to, and what it
-- gives up.
use Rattle.lab_model.proofs.Common.{rules, ◌≡◌, ℕ, zero, suc, ◌+◌, ◌<◌, ◌≤◌, nat_lt, true, List, [], if◌then◌else◌}
use Rattle.lab_model.proofs.Common.{◌∷◌, Option, Some, None, map, option_map, slice_get, refl, sym}
use Rattle.lab_model.proofs.Common.{ap, ◌∙◌, slice_get-map, Dm, Kind, Flush, Span, IsPiece, Lawful}
use Rattle.lab_model.proofs.Common.{Allowed, Verdict, Pass, Shape, beyond, piece_by}
use Rattle.lab_model.proofs.Common.{table_cost, version_of, fits_table}
use Rattle.lab_model.proofs.Common.{table_cost-total, option_map-holds, Judgement, Meaning, Bio}
use Rattle.lab_model.proofs.Common.{cost, child_of, children, judgement_by, judgements}
use Rattle.lab_model.proofs.Common.{table_judged, pieces, bio_potential, Scenario, State, Table}
use Rattle.lab_model.proofs.Common.{image, placed, with_target, of_entry, total, empty_piece}
use Rattle.lab_model.proofs.Common.{total-append, total-filter_map, total-there}
use Rattle.lab_model.proofs.Common.{total-numbered-entry, sector_pieces}
use Rattle.lab_model.specs.declared.piece.Piece.{Piece}
use Rattle.lab_model.specs.declared.table_line.TableLine.{TableLine}
use Rattle.lab_model.proofs.ShapeLemmas.{fits-alike, piece_at-alike, pieces-alike}
use Rattle.law_slots.proofs.AllOf.{AllOf}
use Rattle.law_slots.proofs.ByBio.{Judges}
use Rattle.law_slots.proofs.WalkImages.{table_judged-image}
use Rattle.law_within_budget.specs.PotentialFalls.{TablesAreVersions}
use Rattle.law_within_budget.proofs.Weight.{weight}

-- each piece may be judged
abbrev MayBeJudged : Kind → List Piece → Type 0
MayBeJudged kind = AllOf (λ piece. IsPiece kind piece.span)

-- each piece has a sector
abbrev HaveSectors : List Piece → Type 0
HaveSectors = AllOf (λ piece. 0 < piece.span.len)

module _ {S : Type 0} (m : Meaning S) (table : Table S) where
  -- so all pieces of a read, a write or a trim have one
  have-all : (first count : ℕ) → HaveSectors (sector_pieces m table first count)
  have-all first zero = search rules
  have-all first (suc count) = search (rules, have-all (first + 1) count)

  -- a flush's pieces are empty
  empty-may : (lines : List ℕ) → MayBeJudged Flush (map empty_piece lines)
  empty-may [] = tt
  empty-may (line ∷ lines) = (refl, empty-may lines)

  -- all pieces of a bio may be judged
  pieces-may : (kind : Kind) (span : Span) → MayBeJudged kind (pieces m table kind span)
  pieces-may Flush span = empty-may _
  pieces-may kind span = have-all span.first span.len

-- a relation of numbers that sums keep, as "at most" and "as much as" are
pub record Compares (R : ℕ → ℕ → Type 0) : Type 0 where
  pub same : (a : ℕ) → R a a
  pub sums : (a b c d : ℕ) → R a b → R c d → R (a + c) (b + d)

-- at most
pub at-most : Compares (λ a b. a ≤ b)
at-most = search rules

-- as much as
pub as-much : Compares (λ a b. a ≡ b)
as-much = search rules

-- the children of a bio that is judged by a table of a version's image, weighed line by line
module _ {S : Type 0} {R : ℕ → ℕ → Type 0} (m : Meaning S) (lawful : Lawful m)
    (compares : Compares R) (now device number : ℕ) (bio : Bio) (w : Bio → ℕ) (version : Table S)
    (costs : Piece → Option (TableLine S) → ℕ) (none : (piece : Piece) → costs piece None ≡ 0)
    (alike : (table : Table S) → image m table ≡ image m version → (piece : Piece)
    → costs piece (slice_get table piece.line) ≡ costs piece (slice_get version piece.line))
    (each : (piece : Piece) (old line : TableLine S) → slice_get version piece.line ≡ Some old
    → m.shape line.target ≡ m.shape old.target → IsPiece bio.kind (placed bio.kind line piece.span)
    → let j = judgement_by m bio.kind now piece (Some line) in
    R (of_entry w (child_of now device number bio j j.verdict)) (costs piece (Some line))) where
  -- what the child of a judgement weighs
  abbrev child_weight : Judgement → ℕ
  child_weight j = of_entry w (child_of now device number bio j j.verdict)

  -- the child of a piece, by its line and that of the version
  judged-by : (piece : Piece) (line old : Option (TableLine S))
      → slice_get version piece.line ≡ old
      → option_map (with_target m.shape) line ≡ option_map (with_target m.shape) old
      → IsPiece bio.kind piece.span
      → R (child_weight (judgement_by m bio.kind now piece line)) (costs piece line)
  judged-by piece line old at same may = search rules

  -- the children of all pieces
  judged-all : (table : Table S) → image m table ≡ image m version → (ps : List Piece)
      → MayBeJudged bio.kind ps → R (total child_weight (judgements m bio.kind now table ps))
      (total (λ piece. costs piece (slice_get version piece.line)) ps)
  judged-all table same [] may = compares.same 0
  judged-all table same (piece ∷ ps) may =
      let seen = with_target m.shape in
      compares.sums _ _ _ _ (rw (← alike table same piece) (judged-by piece
      (slice_get table piece.line) (slice_get version piece.line) refl
      (sym (slice_get-map seen table piece.line) ∙ ap (λ lines. slice_get lines piece.line) same
      ∙ slice_get-map seen version piece.line) may.0))
      (judged-all (table_judged m bio.kind now table piece)
      (table_judged-image m lawful bio.kind now table piece ∙ same) ps may.1)

  -- and of the bio
  pub children-all : (table : Table S) → image m table ≡ image m version
      → R (total w (children now device number bio
      (judgements m bio.kind now table (pieces m table bio.kind bio.span))))
      (total (λ piece. costs piece (slice_get version piece.line))
      (pieces m version bio.kind bio.span))
  children-all table same =
      rw (
        total-filter_map w (λ j. child_of now device number bio j j.verdict)
            (judgements m bio.kind now table (pieces m table bio.kind bio.span)),
        ← pieces-alike m table version same bio.kind bio.span,
      ) (judged-all table same _ (pieces-may m table bio.kind bio.span))

-- the version of its device by which a bio is judged
pub record ByVersion {S : Type 0} (m : Meaning S) (c : Scenario S) {s : State S} {number : ℕ}
    {next : State S} (is : Judges m s number next) : Type 0 where
  pub place : ℕ
  pub table : Table S
  pub known : version_of c is.device place ≡ Some table
  pub alike : image m is.table ≡ image m table
  pub fits : fits_table table is.bio.kind is.bio.span ≡ true

-- the children of a judged bio
abbrev pub born : {S : Type 0} (m : Meaning S) (s : State S) (number : ℕ) (next : State S)
    → Judges m s number next → List Bio
born m s number next is = children s.clock is.device number is.bio
    (judgements m is.bio.kind s.clock is.table (pieces m is.table is.bio.kind is.bio.span))

-- what the child of a verdict is worth, behind the reference of a line of this shape
abbrev pub taken : {S : Type 0} → Meaning S → Scenario S → Shape S → Kind → Span → Verdict → ℕ
taken m c shape kind span (Pass below there hold marks) =
    beyond (cost m c) kind (if nat_lt 0 hold then 1 else 0) span (shape.reference kind)
taken m c shape kind span _ = 0

module _ {S : Type 0} (m : Meaning S) (c : Scenario S) where
  -- the child of an allowed verdict is worth that: its cost, and one more where it is held
  child-worth : (now device number : ℕ) (b : Bio) (j : Judgement) (shape : Shape S) (span : Span)
      (v : Verdict) → Allowed shape b.kind span v → of_entry (bio_potential m c)
      (child_of now device number b j v) ≡ taken m c shape b.kind span v
  child-worth now device number b j shape span v allowed = search rules

  module _ (s : State S) (number : ℕ) (next : State S) (is : Judges m s number next) where
    -- a live table is a version's
    pub by-version : TablesAreVersions m c s → ByVersion m c is
    by-version are =
        let which = are is.device is.slot is.table is.there is.live in
        search (rules, option_map-holds (image m), fits-alike)

    -- where each line's child compares with what its piece costs, so do all with the version's cost
    pub children-worth : {R : ℕ → ℕ → Type 0} → Lawful m → Compares R → (by : ByVersion m c is)
        → ((place : ℕ) (old line : TableLine S) (span : Span)
        → let shape = m.shape line.target in
        let v = m.verdict line.target is.bio.kind span s.clock in
        slice_get by.table place ≡ Some old → shape ≡ m.shape old.target
        → IsPiece is.bio.kind span → Allowed shape is.bio.kind span v
        → R (taken m c shape is.bio.kind span v) (beyond (cost m c) is.bio.kind
        (if shape.may_hold is.bio.kind then 1 else 0) span (shape.reference is.bio.kind)))
        → R (total (bio_potential m c) (born m s number next is))
        (table_cost m (cost m c) is.bio.kind is.bio.span by.table)
    children-worth lawful compares by each =
        let kind = is.bio.kind in
        rw (table_cost-total m (cost m c) kind by.table is.bio.span)
        (children-all m lawful compares s.clock is.device number is.bio (bio_potential m c) by.table
        (piece_by m (cost m c) kind) (λ piece. refl)
        (λ table same. piece_at-alike m (cost m c) kind table by.table same)
        (λ piece old line at same may.
        let span = placed kind line piece.span in
        let allowed = lawful.verdicts line.target kind span s.clock may in
        rw (child-worth s.clock is.device number is.bio
        (judgement_by m kind s.clock piece (Some line)) (m.shape line.target) span _ allowed)
        (each piece.line old line span at same may allowed)) is.table by.alike)

    -- the bio gives up its cost, and takes its children's worth and one
    pub judges-weight : weight m c next + cost m c (Dm is.device) is.bio.kind is.bio.span
        ≡ weight m c s + total (bio_potential m c) (born m s number next is) + 1
    judges-weight = search (rules, total-there, total-append, total-numbered-entry)
