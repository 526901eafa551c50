-- Each event that may come finds what it names, in each state that fits. Each piece of a bio names
-- a line of the table that judges it, in each state that fits. The facts hold after each run of a
-- fine scenario, and so of an accepted one.
use Rattle.lab_model.proofs.Common.{rules, ◌≡◌, ℕ, true, Option, Some, slice_get, refl, sym, subst}
use Rattle.lab_model.proofs.Common.{true≢false, DevNo, Ram, Dm, Meaning, Bio, Stage, Held}
use Rattle.lab_model.specs.declared.parent.Parent.{Parent}
use Rattle.lab_model.proofs.Common.{bio_finishes, bio_maps, bio_releases, bio_serves, control_may}
use Rattle.lab_model.proofs.Common.{moments, is_enabled, Scenario, State, bio_of, bio_may-gives}
use Rattle.lab_model.proofs.Common.{List, [], ◌∷◌, ap, ◌∙◌, AllByRecursion, Kind, Span, Lawful}
use Rattle.lab_model.proofs.Common.{fits_table, table_judged, Table, image, Some-holds}
use Rattle.lab_model.specs.declared.event.Event.TheVariants.{Line, Map, Serve, Release, Finish}
use Rattle.lab_model.specs.declared.event.Event.TheVariants.{Control, Clock}
use Rattle.lab_model.specs.declared.micro.Micro.{Micro}
use Rattle.law_never_wrong.specs.Fits.{Fits, FitsDevice, FitsStage, HeldBy, FitsMapped}
use Rattle.law_never_wrong.proofs.ChildFits.{no_gap-image}
use Rattle.law_never_wrong.proofs.LineFits.{FineFrom-tables, live-stands}
use Rattle.law_slots.proofs.ByLine.{line-comes}
use Rattle.lab_model.proofs.LeastAhead.{least-there}
use Rattle.law_needs_met.specs.NoDefault.{FindsEvents, FinishFinds, LineFinds, MapFinds}
use Rattle.law_needs_met.specs.NoDefault.{ReleaseFinds, ServeFinds, EachNamesLine, FindsLines}
use Rattle.law_needs_met.specs.NoDefault.{NamesLine, PieceWithin, AcceptedFindsAll, EventsFind}
use Rattle.law_needs_met.specs.NoDefault.{ParentsFly, PiecesNameLines}
use Rattle.lab_model.specs.declared.piece.Piece.{Piece}
use Rattle.lab_model.specs.declared.table_line.TableLine.{TableLine}
use Rattle.law_slots.proofs.WalkImages.{all_judged-image}
use Rattle.law_never_wrong.proofs.FitsKept.{line-kept}
use Rattle.law_never_wrong.proofs.PieceLemmas.{LiesIn, PieceOf, pieces-lie}
use Rattle.lab_rulebook.proofs.AcceptedScripts.{accepted-is-fine}
use Rattle.lab_rulebook.specs.Walked.{scenario_of}
use Rattle.law_never_wrong.proofs.Events.{all-runs-fit}
use Rattle.law_needs_met.proofs.Parents.{parents-wait}

module _ {S : Type 0} (m : Meaning S) (c : Scenario S) (s : State S) (fits : Fits m c s) where
  -- a log that may take a line has one
  line-finds : (number : ℕ) → is_enabled c s (Line number) ≡ true → LineFinds c s number
  line-finds number may =
      let takes = line-comes c s number may in
      search rules

  -- a living bio that may be judged finds its device and table
  map-finds : (number : ℕ) (bio : Bio) → bio_of s number ≡ Some bio → (device : DevNo)
      (stage : Stage) → bio.device ≡ device → bio_maps s device stage ≡ true → MapFinds s number
  map-finds number bio lives (Ram disk) stage at may = absurd (true≢false (sym may))
  map-finds number bio lives (Dm device) stage at may =
      let fit = fits.bios number bio lives in
      let by = subst (λ d. FitsDevice s d bio.kind bio.span) at fit.device in
      let stand = live-stands m c s (FineFrom-tables m c fits.phase _ _ fits.script) fits.disks
      device by.slot by.table by.stands by.is_live in
      record {
        bio = bio;
        device = device;
        slot = by.slot;
        table = by.table;
        lives = lives;
        at_device = at;
        stands = by.stands;
        is_live = by.is_live;
        no_gap = no_gap-image m 0 by.table stand.no_gap;
        inside = by.inside;
        fills = fit.fills;
      }

  -- one that may be served finds its disk
  serve-finds : (number : ℕ) (bio : Bio) → bio_of s number ≡ Some bio → (device : DevNo)
      (stage : Stage) → bio.device ≡ device → bio_serves device stage ≡ true
      → ServeFinds s number
  serve-finds number bio lives (Dm device) stage at may = absurd (true≢false (sym may))
  serve-finds number bio lives (Ram disk) stage at may =
      let fit = fits.bios number bio lives in
      let served = subst (λ d. FitsDevice s d bio.kind bio.span) at fit.device in
      record {
        bio = bio;
        disk = disk;
        sectors = served.sectors;
        lives = lives;
        at_disk = at;
        stands = served.stands;
        inside = served.inside;
        fills = fit.fills;
      }

  -- a held bio finds its holder
  held-finds : (number : ℕ) (bio : Bio) → bio_of s number ≡ Some bio → (due holder : ℕ)
      → bio.stage ≡ Held due holder → (parent : Parent) → HeldBy m s number bio parent holder
      → ReleaseFinds s number
  held-finds number bio lives due holder held parent by = search rules

  -- one that may go on is held
  release-finds : (number : ℕ) (bio : Bio) → bio_of s number ≡ Some bio → (stage : Stage)
      → bio.stage ≡ stage → bio_releases s stage ≡ true → ReleaseFinds s number
  release-finds number bio lives (Held due holder) is may =
      held-finds number bio lives due holder is bio.parent
      (subst (FitsStage m s number bio) is (fits.bios number bio lives).stage)
  release-finds number bio lives stage is may = absurd (true≢false (sym may))

  -- one that may be finished is in flight
  finish-finds : (number : ℕ) (bio : Bio) → bio_of s number ≡ Some bio → (stage : Stage)
      → bio.stage ≡ stage → bio_finishes s number stage ≡ true → FinishFinds s number
  finish-finds number bio lives stage is may = search rules

  -- the script's event finds its step
  control-finds : (o : Option Micro) → slice_get c.micros s.done ≡ o → control_may c s o ≡ true
      → (micro : Micro) × (slice_get c.micros s.done ≡ Some micro)
  control-finds o is may = search rules

  -- so each event does
  pub event-finds : FindsEvents c s
  event-finds (Line log) may = line-finds log may
  event-finds (Map number) may =
      let it = bio_may-gives (bio_of s number) (λ bio. bio_maps s bio.device bio.stage) may in
      map-finds number it.0 it.1 it.0.device it.0.stage refl it.2
  event-finds (Serve number) may =
      let it = bio_may-gives (bio_of s number) (λ bio. bio_serves bio.device bio.stage) may in
      serve-finds number it.0 it.1 it.0.device it.0.stage refl it.2
  event-finds (Release number) may =
      let it = bio_may-gives (bio_of s number) (λ bio. bio_releases s bio.stage) may in
      release-finds number it.0 it.1 it.0.stage refl it.2
  event-finds (Finish number) may =
      let it = bio_may-gives (bio_of s number) (λ bio. bio_finishes s number bio.stage) may in
      finish-finds number it.0 it.1 it.0.stage refl it.2
  event-finds Control may = control-finds (slice_get c.micros s.done) refl may
  event-finds Clock may = least-there s.clock (moments s) may

-- so it is for a piece of any kind
within-alike : {S : Type 0} (kind : Kind) (line kept : TableLine S) (whole piece : Span)
    → kept.start ≡ line.start → kept.len ≡ line.len → LiesIn kind line whole piece
    → PieceWithin kind kept whole piece
within-alike kind line kept whole piece start len lies = search rules

module _ {S : Type 0} (m : Meaning S) (lawful : Lawful m) (kind : Kind) (whole : Span) (now : ℕ)
    (before : Table S) where
  -- a piece of a table names a line of each table of the same image
  names-line : (table : Table S) → image m table ≡ image m before → (piece : Piece)
      → PieceOf before kind whole piece → NamesLine table kind whole piece
  names-line table same piece of =
      let kept = line-kept m before table same piece.line of.line of.is_line in
      record {
        line = kept.0;
        is_line = kept.1;
        within = within-alike kind of.line kept.0 whole piece.span
            (ap (λ image. image.start) kept.2) (ap (λ image. image.len) kept.2) of.lies;
      }

  -- so each of some pieces does, since no judgement changes a table's image
  each-names-line : (table : Table S) → image m table ≡ image m before → (ps : List Piece)
      → AllByRecursion (PieceOf before kind whole) ps → EachNamesLine m kind whole now table ps
  each-names-line table same [] of = tt
  each-names-line table same (piece ∷ ps) of = (
    names-line table same piece of.0,
    each-names-line (table_judged m kind now table piece)
        (all_judged-image m lawful kind now table (piece ∷ []) ∙ same) ps of.1,
  )

module _ {S : Type 0} (m : Meaning S) (lawful : Lawful m) (c : Scenario S) (s : State S)
    (fits : Fits m c s) where
  -- the pieces of a living bio on the live table of its device do
  pub lines-found : FindsLines m s
  lines-found number bio device slot table lives at stands live =
      let mapped : FitsMapped s device bio.kind bio.span =
      subst (λ d. FitsDevice s d bio.kind bio.span) at (fits.bios number bio lives).device in
      let one_slot = Some-holds (sym stands ∙ mapped.stands) in
      let one_table : mapped.table ≡ table =
      Some-holds (sym mapped.is_live ∙ (sym (ap (λ slot. slot.live) one_slot) ∙ live)) in
      let inside : fits_table table bio.kind bio.span ≡ true =
      subst (λ t. fits_table t bio.kind bio.span ≡ true) one_table mapped.inside in
      let stand = live-stands m c s (FineFrom-tables m c fits.phase _ _ fits.script) fits.disks
      device slot table stands live in
      each-names-line m lawful bio.kind bio.span s.clock table table refl _
      (pieces-lie m table (no_gap-image m 0 table stand.no_gap) bio.kind bio.span inside)

module _ {S : Type 0} (m : Meaning S) (lawful : Lawful m) where
  -- events find what they name
  pub all-events-find : EventsFind m
  all-events-find c fine events s run = search (rules, event-finds, all-runs-fit)

  -- answers find whom they go to
  pub all-parents-fly : ParentsFly m
  all-parents-fly c fine events s run = search (rules, parents-wait, all-runs-fit)

  -- pieces find their lines
  pub all-pieces-name-lines : PiecesNameLines m
  all-pieces-name-lines c fine events s run = search (rules, lines-found, all-runs-fit)

  -- what is accepted is fine
  pub accepted-finds-all : AcceptedFindsAll m
  accepted-finds-all parts read accepted events s run =
      let c = scenario_of m parts in
      let fine = accepted-is-fine m parts read accepted.rules in (
        all-events-find c fine events s run,
        all-parents-fly c fine events s run,
        all-pieces-name-lines c fine events s run,
      )
