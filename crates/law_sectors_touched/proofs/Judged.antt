-- A bio that a live table judges: where it stands, what its pieces are, how each is judged, and the
-- state that this leads to. All laws of a Map are laws of such a bio.
use Rattle.lab_model.proofs.Common.{rules, ◌+◌, [], ap, drop, inl, inr, List, None, Option, refl}
use Rattle.lab_model.proofs.Common.{slice_get, sym, Some, subst, true, ℕ, ◌∙◌, ◌∷◌, ◌≡◌, ◌≢◌}
use Rattle.lab_model.proofs.Common.{all_judged, AllByRecursion, Allowed, Bio, children, effect, In}
use Rattle.lab_model.proofs.Common.{devices_image, fails, Flush, HasNoGap, image, is_enabled, Kind}
use Rattle.lab_model.proofs.Common.{Judgement, judgement_by, judgements, Lawful, list_any, Meaning}
use Rattle.lab_model.proofs.Common.{Next, pieces, placed, Scenario, sent_off, Span, State, Table}
use Rattle.lab_model.proofs.Common.{table_judged, with_target}
use Rattle.lab_model.specs.MapEffect.{sent as state_sent}
use Rattle.law_slots.proofs.WalkImages.{all_judged-image}
use Rattle.law_slots.proofs.ByBio.{Judges, map-does}
use Rattle.law_never_wrong.proofs.FitsKept.{placed-same}
use Rattle.law_never_wrong.proofs.ChildFits.{no_gap-image}
use Rattle.law_never_wrong.proofs.LineFits.{FineFrom-tables, live-stands}
use Rattle.law_never_wrong.proofs.PieceLemmas.{pieces-lie}
use Rattle.law_sectors_touched.proofs.Tiles.{sector_pieces-tiles, piece_span, Tiles}
use Rattle.law_sectors_touched.proofs.Words.{Fits, line-kept, Map, Piece, PieceOf, Ranked}
use Rattle.law_sectors_touched.proofs.Words.{TableLine, TablesAreVersions, Then-at}

-- what holds of a state that a run of a fine scenario comes to
pub record Sound {S : Type 0} (m : Meaning S) (c : Scenario S) (s : State S) : Type 0 where
  -- the targets keep to their laws
  pub lawful : Lawful m
  -- no device stands below itself
  pub ranked : Ranked m c
  -- each live table is one of the scenario's
  pub versions : TablesAreVersions m c s
  -- bios, logs and disks fit each other and the script
  pub fits : Fits m c s

-- a living bio that a live table judges
pub record Judged {S : Type 0} (m : Meaning S) (s : State S) (number : ℕ) : Type 0 where
  -- the targets keep to their laws
  pub lawful : Lawful m
  -- the bio lives, and enters a mapped device that stands, whose live table judges it
  pub next : State S
  pub by : Judges m s number next
  pub open by use {bio, lives, enters, device, on, slot, there as stands, table, live}
  -- the table has no gap, and each piece lies in one of its lines
  pub gap : HasNoGap 0 by.table
  pub lie : AllByRecursion (PieceOf by.table by.bio.kind by.bio.span)
      (pieces m by.table by.bio.kind by.bio.span)

-- how a piece is judged: by a target with the shape of its line's, at the sectors that its line
-- counts
pub record JudgedAs {S : Type 0} (m : Meaning S) (table : Table S) (kind : Kind) (whole : Span)
    (now : ℕ) (k : Judgement) : Type 0 where
  pub of : PieceOf table kind whole k.piece
  pub target : S
  pub shape : m.shape target ≡ m.shape of.line.target
  pub verdict : k.verdict ≡ m.verdict target kind (placed kind of.line k.piece.span) now

module _ {S : Type 0} (m : Meaning S) (lawful : Lawful m) (kind : Kind) (whole : Span)
    (now : ℕ) (table : Table S) where
  -- a line that has kept its image judges a piece so
  judgement-as : (piece : Piece) (of : PieceOf table kind whole piece) (own : TableLine S)
      → with_target m.shape own ≡ with_target m.shape of.line
      → JudgedAs m table kind whole now (judgement_by m kind now piece (Some own))
  judgement-as piece of own alike = record {
    of = of;
    target = own.target;
    shape = ap (λ image. image.target) alike;
    verdict = ap (λ span. m.verdict own.target kind span now)
        (placed-same kind own of.line piece.span (ap (λ image. image.start) alike));
  }

  -- so each of some pieces is judged by a table that has kept its image
  judgements-as : (later : Table S) → image m later ≡ image m table → (ps : List Piece)
      → AllByRecursion (PieceOf table kind whole) ps → (k : Judgement)
      → In k (judgements m kind now later ps) → JudgedAs m table kind whole now k
  judgements-as later same [] of k among = absurd among
  judgements-as later same (piece ∷ ps) of k (inl first) =
      let kept = line-kept m table later same piece.line of.0.line of.0.is_line in
      subst (JudgedAs m table kind whole now) first
      (rw kept.1 (judgement-as piece of.0 kept.0 kept.2))
  judgements-as later same (piece ∷ ps) of k (inr more) = judgements-as (table_judged m kind now
      later piece) (all_judged-image m lawful kind now later (piece ∷ []) ∙ same) ps of.1 k more

-- the span of a judgement's piece
abbrev pub judged_span : Judgement → Span
judged_span k = k.piece.span

-- judged pieces follow each other as the pieces do
judgements-tiles : {S : Type 0} (m : Meaning S) (kind : Kind) (now : ℕ) (table : Table S)
    (first end : ℕ) (ps : List Piece) → Tiles piece_span first end ps
    → Tiles judged_span first end (judgements m kind now table ps)
judgements-tiles m kind now table first end [] tiles = tiles
judgements-tiles {S} m kind now table first end (piece ∷ ps) tiles =
    rw (of_line (slice_get table piece.line), judged_span) (
      tiles.0,
      judgements-tiles m kind now
          (table_judged m kind now table piece) (first + piece.span.len) end ps tiles.1,
    )
  where
    of_line : (found : Option (TableLine S)) → (judgement_by m kind now piece found).piece ≡ piece
    of_line None = refl
    of_line (Some line) = refl

module _ {S : Type 0} {m : Meaning S} {s : State S} {number : ℕ} (j : Judged m s number) where
  -- the pieces of the bio
  abbrev pub cut : List Piece
  cut = pieces m j.table j.bio.kind j.bio.span

  -- their judgements
  abbrev pub judged : List Judgement
  judged = judgements m j.bio.kind s.clock j.table cut

  -- the bio's children
  abbrev pub born : List Bio
  born = children s.clock j.device number j.bio judged

  -- the bio in flight
  abbrev pub off : Bio → Bio
  off = sent_off (list_any (λ k. fails k.verdict) judged)

  -- the state after all
  abbrev pub sent : State S
  sent = state_sent s j.device number j.bio (all_judged m j.bio.kind s.clock j.table cut) judged

  -- how a piece is judged
  abbrev pub IsJudged : Judgement → Type 0
  IsJudged k = JudgedAs m j.table j.bio.kind j.bio.span s.clock k

  -- each is
  pub is-judged : (k : Judgement) → In k judged → IsJudged k
  is-judged = judgements-as m j.lawful j.bio.kind j.bio.span s.clock j.table j.table refl cut j.lie

  -- the judged pieces of a bio that isn't a flush follow each other
  pub judged-tiles : j.bio.kind ≢ Flush
      → Tiles judged_span j.bio.span.first (j.bio.span.first + j.bio.span.len) judged
  judged-tiles sized = search (rules, judgements-tiles, sector_pieces-tiles)

  -- each verdict is one that the piece's line may give
  pub allowed : (k : Judgement) → (by : IsJudged k) → Allowed (m.shape by.of.line.target)
      j.bio.kind (placed j.bio.kind by.of.line k.piece.span) k.verdict
  allowed k by = search rules

-- what holds of the state that each such bio leads to holds after a Map
pub map-gives : {S : Type 0} {m : Meaning S} (lawful : Lawful m) {c : Scenario S} {s : State S}
    (fits : Fits m c s) (number : ℕ) (P : State S → Type 0)
    → ((j : Judged m s number) → P (sent j)) → is_enabled c s (Map number) ≡ true
    → (next : State S) → effect m c s (Map number) ≡ Next next → P next
map-gives {m = m} lawful {c} {s} fits number P each may next leads =
    let by = Then-at (Judges m s number) _ next (map-does c s number m may) leads in
    let tables = FineFrom-tables m c fits.phase (devices_image m s.devices) (drop s.done c.micros)
    fits.script in
    let gap = no_gap-image m 0 by.table
    (live-stands m c s tables fits.disks by.device by.slot by.table by.there by.live).no_gap in
    subst P (sym by.is) (each (record {
      lawful = lawful;
      next = next;
      by = by;
      gap = gap;
      lie = pieces-lie m by.table gap by.bio.kind by.bio.span by.fits;
    }))
