-- A bio that enters a mapped device is judged there, and the state after that fits: the bio is in
-- flight, its children stand where they go, and all else is as it was.
use Rattle.lab_model.proofs.Common.{arith, ◌≡◌, ℕ, ◌+◌, ◌<◌, ◌⊎◌, inl, inr, Bool, true, List, Some, Ram}
use Rattle.lab_model.proofs.Common.{drop, length, nat_lt, if◌then◌else◌, refl, sym, ap, ◌∙◌}
use Rattle.lab_model.proofs.Common.{true≢false, rules, list_any, nat_tests, DevNo, Dm}
use Rattle.lab_model.proofs.Common.{Lawful, Meaning, Bio, Stage, Entering, Held, effect, bio_maps}
use Rattle.lab_model.proofs.Common.{is_enabled, slot_runs, Judgement, children, fails, sent_off}
use Rattle.lab_model.proofs.Common.{pieces, Scenario, State, bio_of, image, devices_image}
use Rattle.lab_model.proofs.Common.{DevicesStand, TableStands, bio_may-gives, Some-holds, In, Span}
use Rattle.lab_model.proofs.Common.{slot_at, Devices, Marks, Pass, PassAllowed, Ref, Table, Verdict}
use Rattle.lab_model.proofs.Common.{all_judged, joined-Some, marks_in, with_live, with_target}
use Rattle.lab_model.proofs.Common.{judgements, placed, list_all, runs, Write}
use Rattle.lab_model.specs.declared.piece.Piece.{Piece}
use Rattle.lab_model.specs.declared.event.Event.TheVariants.{Map}
use Rattle.lab_model.specs.After.{Next, on_live}
use Rattle.lab_model.specs.MapEffect.{goes_somewhere, judged_by}
use Rattle.law_slots.proofs.ByBio.{Judges, judged_next}
use Rattle.law_slots.proofs.WalkRuns.{each-keeps-place}
use Rattle.law_slots.proofs.WalkImages.{all_judged-image}
use Rattle.law_never_wrong.proofs.ChildFits.{passed, children-passed, child_sectors-fill, JudgedBy}
use Rattle.law_never_wrong.proofs.ChildFits.{judgements-allowed, no_gap-image, line-long, all-pass}
use Rattle.law_never_wrong.specs.Fits.{Fits, FitsBio, FitsDevice, FitsStage, FromPiece}
use Rattle.law_never_wrong.specs.NeverWrong.{Goes}
use Rattle.law_never_wrong.proofs.Carry.{Leaves, ParentsFly, stays-kept, carry-device, carry-parent}
use Rattle.law_never_wrong.proofs.NumberedEntries.{entries-cases, entry-other, entry-changed}
use Rattle.law_never_wrong.proofs.NumberedEntries.{entry-within, slice_get-change}
use Rattle.law_never_wrong.proofs.Survives.{Came, Stands, came-same, flies-apart, living-in-phase}
use Rattle.law_never_wrong.proofs.Survives.{parents-fly, went-fits, went-leaves, child-rests}
use Rattle.law_never_wrong.proofs.LineFits.{FineFrom-tables, live-stands, reaches-fits}
use Rattle.law_never_wrong.proofs.LineFits.{reaches-table, fits-stands}
use Rattle.law_never_wrong.proofs.PieceLemmas.{pieces-lie, placed-ends}
use Rattle.law_never_wrong.proofs.FitsKept.{image-of-device, image-of-line, line-kept, placed-same}

module _ {S : Type 0} (m : Meaning S) (lawful : Lawful m) (c : Scenario S) (s : State S)
    (fits : Fits m c s) (number : ℕ) {next : State S} (by : Judges m s number next) where
  -- the devices as the walk has them
  abbrev seen : Devices S
  seen = devices_image m s.devices

  -- the bio's pieces
  abbrev cut : List Piece
  cut = pieces m by.table by.bio.kind by.bio.span

  -- their judgements
  abbrev judged : List Judgement
  judged = judgements m by.bio.kind s.clock by.table cut

  -- the table after them
  abbrev table_after : Table S
  table_after = all_judged m by.bio.kind s.clock by.table cut

  -- the bio, in flight
  abbrev off : Bio → Bio
  off = sent_off (list_any (λ j. fails j.verdict) judged)

  -- the state after them
  abbrev after : State S
  after = judged_next m s number by.bio by.device by.table

  -- the devices' images stay
  same : devices_image m after.devices ≡ seen
  same = rw by.is at ((each-keeps-place m lawful c s).judges number next by refl).0

  -- the tables of the walk stand
  tables : DevicesStand c seen
  tables = FineFrom-tables m c fits.phase seen (drop s.done c.micros) fits.script

  -- so does the device's live table
  stand : TableStands c seen (image m by.table)
  stand = live-stands m c s tables fits.disks by.device by.slot by.table by.there by.live

  module _ (j : Judgement) (among : In j judged) where
    -- a judgement is one that the table's line may give
    of : JudgedBy m by.table by.bio.kind by.bio.span j
    of = judgements-allowed m lawful by.bio.kind by.bio.span s.clock by.table by.table refl cut
        (pieces-lie m by.table (no_gap-image m 0 by.table stand.no_gap) by.bio.kind by.bio.span
        by.fits) j among

    module _ (below : DevNo) (span : Span) (hold : ℕ) (marks : Marks)
        (is : j.verdict ≡ Pass below span hold marks) where
      -- the line may let its piece pass so
      allowed : PassAllowed (m.shape of.line.target) by.bio.kind
          (placed by.bio.kind of.line j.piece.span) below span hold marks
      allowed = search rules

      -- what passes fits where it goes
      pass-fits : FitsDevice s below by.bio.kind span
      pass-fits =
          let end = allowed.refers.0 + of.line.len in
          let ref : Ref = record { dev = below; first = allowed.refers.0 } in
          let long = line-long by.table 0 j.piece.line of.line
          (no_gap-image m 0 by.table stand.no_gap) of.is_line in
          let reaches = stand.inside j.piece.line (with_target m.shape of.line) by.bio.kind ref
          (image-of-line m by.table j.piece.line of.line of.is_line) allowed.refers.1 in
          let lies = placed-ends by.bio.kind of.line by.bio.span j.piece.span of.lies in
          rw allowed.refers.2 (reaches-fits m c s fits.disks by.bio.kind _ end
          (grind arith) below reaches
          (reaches-table c seen below end (omega (arith, long)) reaches))

  -- so each answer's device is there
  verdict-goes : (j : Judgement) → In j judged → (verdict : Verdict) → j.verdict ≡ verdict
      → goes_somewhere s verdict ≡ true
  verdict-goes j at (Pass _ _ _ _) is = search (rules, fits-stands m c s fits.disks, pass-fits j at)
  verdict-goes j among verdict is = refl

  -- and all go on
  judged-go : list_all (λ j. goes_somewhere s j.verdict) judged ≡ true
  judged-go = search (rules, all-pass, verdict-goes)

  -- the parents of bios fly on
  parents : ParentsFly s after
  parents = search (rules, parents-fly, entry-other, flies-apart)

  -- this is what the judgements leave
  leaves : Leaves m s after
  leaves = went-leaves m c s fits after same fits.disks parents

  -- a device where something fits has it still
  device-fits : (device : DevNo) (span : Span) → FitsDevice s device by.bio.kind span
      → FitsDevice after device by.bio.kind span
  device-fits device span = carry-device m c s after leaves (λ number. true) device by.bio.kind span
      (λ number at. stays-kept _ _ true (ap (λ devices. slot_at devices number) same))

  -- the judged bio stands, in flight
  off-fits : FitsBio m c after number (off by.bio)
  off-fits =
      let before = fits.bios number by.bio by.lives in
      search (rules, device-fits, carry-parent, leaves)

  -- the child of a piece that passes
  module _ (n : ℕ) (far : length s.bios < n) (j : Judgement) (below : DevNo) (span : Span)
      (hold : ℕ) (marks : Marks) (among : In j judged)
      (is : j.verdict ≡ Pass below span hold marks) where
    -- the child
    abbrev child : Bio
    child = passed s.clock by.device number by.bio j below span hold marks

    -- it goes to where the line refers to
    child-from : FromPiece m after n child number j.piece by.device
    child-from =
        let bio = by.bio in
        let of = of j among in
        let refers = (allowed j among below span hold marks is).refers in
        let line = line-kept m by.table table_after (all_judged-image m lawful bio.kind s.clock
        by.table cut) j.piece.line of.line of.is_line in
        record {
          above = off bio;
          failed = _;
          answered = _;
          slot = with_live table_after by.slot;
          table = table_after;
          line = line.0;
          ref = record { dev = below; first = refers.0 };
          earlier = omega (arith, far, entry-within s.bios number bio by.lives);
          lives = entry-changed s.bios number (sent_off _) _ bio by.lives;
          flies = refl;
          at_device = by.on;
          same_kind = refl;
          stands = search (rules, slice_get-change, joined-Some);
          is_live = refl;
          is_line = line.1;
          refers = ap (λ image. image.target.reference bio.kind) line.2 ∙ refers.1;
          goes_to = refl;
          shifts = search (rules, placed-same);
        }

    -- it is held by the judging device, if it is held
    child-stage : (held : Bool) (due : ℕ)
        → FitsStage m after n child (if held then Held due by.device else Entering)
    child-stage held due = search (rules, child-from)

    -- so it stands
    child-stands : Stands m c after n child
    child-stands =
        let device = device-fits below span (pass-fits j among below span hold marks is) in
        let stage = child-stage (nat_lt 0 hold) (s.clock + hold) in
        let fills = λ (writes : by.bio.kind ≡ Write). child_sectors-fill by.bio j.piece
        (marks_in j.span marks) (of j among).line by.bio.kind writes (of j among).lies
        ((fits.bios number by.bio by.lives).fills writes)
        ∙ sym (ap (λ there. there.len) child-from.shifts
        ∙ (grind arith)) in
        search (rules, child-from, fills, child-rests)

  -- so the next state fits: the device that judges runs, so no suspended one has the bio
  judges-fit : Fits m c after
  judges-fit = went-fits m c s fits after same fits.disks parents refl refl
      (living-in-phase c s after fits.phase number by.bio fits.in_phase by.lives) refl fits.files
      (entries-cases (λ n b. Came s.bios n b ⊎ Stands m c after n b) s.bios
      number off (children s.clock by.device number by.bio judged)
      (λ found there. rw (Some-holds (sym there ∙ by.lives)) (inr (record {
        fits = off-fits;
        rests = λ device slot stands mode.
            let seen = rw same at stands in
            let running = image-of-device m s by.device by.slot by.there in
            rw by.on (grind (arith, nat_tests, seen, running));
      }))) (λ n other apart there. inl (came-same s.bios n other there))
      (λ n child behind among. inr (children-passed (Stands m c after n) s.clock by.device number
      by.bio judged (child-stands n behind) child among)))

-- a Map goes on to a state that fits
pub map-keeps-Fits : {S : Type 0} (m : Meaning S) → Lawful m → (c : Scenario S) (s : State S)
    → Fits m c s → (number : ℕ) → is_enabled c s (Map number) ≡ true
    → Goes (effect m c s (Map number)) (Fits m c)
map-keeps-Fits {S} m lawful c s fits number may =
    let found = bio_may-gives (bio_of s number) (λ bio. bio_maps s bio.device bio.stage) may in
    rw found.1 (by_place found.0 found.1 found.0.device found.0.stage refl refl found.2
    (fits.bios number found.0 found.1).device)
  where
    by_place : (bio : Bio) → bio_of s number ≡ Some bio → (device : DevNo) (stage : Stage)
        → bio.device ≡ device → bio.stage ≡ stage → bio_maps s device stage ≡ true
        → FitsDevice s device bio.kind bio.span → Goes (elim device [
          | Ram disk ↦ Next s
          | Dm device ↦ on_live s device (judged_by m s device number bio)
        ]) (Fits m c)
    by_place bio lives (Dm device) Entering on enters test fit =
        let running : runs fit.slot.mode ≡ true = sym (ap slot_runs fit.stands) ∙ test in
        let by : Judges m s number (judged_next m s number bio device fit.table) = search rules in
        rw (fit.stands, fit.is_live, fit.inside) (rw (judged-go m lawful c s fits number by)
        (judges-fit m lawful c s fits number by))
    by_place bio lives device stage on enters test fit = absurd (true≢false (sym test))
