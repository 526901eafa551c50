-- So what is known agrees with the bytes along each run of a fine scenario in which no byte is
-- changed on the way; and disks, and the answers to reads, have them.
use Rattle.lab_model.proofs.Common.{rules, ◌==◌, [], ap, Bool, false, List, map, refl, Some, subst}
use Rattle.lab_model.proofs.Common.{sym, true, ℕ, ◌∙◌, ◌∷◌, ◌≡◌, Bio, empty_disk, Fine, IsRun}
use Rattle.lab_model.proofs.Common.{Lawful, Leads, Meaning, Next, None-not-Some, opening}
use Rattle.lab_model.proofs.Common.{replicate, Scenario, Sectors, slice_get, Some-holds, State}
use Rattle.lab_model.specs.declared.plan.DiskPlan.{DiskPlan}
use Rattle.std.specs.FinMap.{get-empty}
use Rattle.lab_next.specs.declared.writer.Writer.{Writer}
use Rattle.lab_watch.specs.Drops.{known_next}
use Rattle.lab_watch.specs.Grids.{place_cmp}
use Rattle.lab_watch.specs.Known as start
use Rattle.lab_watch.specs.Known.{Known}
use Rattle.lab_watch.specs.declared.kept.Kept.{Kept}
use Rattle.law_never_wrong.specs.NeverWrong.{Goes}
use Rattle.law_never_wrong.proofs.Events.{events-fit}
use Rattle.law_never_wrong.proofs.Runs.{opening-Fits}
use Rattle.law_bytes_carried.proofs.Words.{Event, Fits, sectors_in}
use Rattle.law_reads_recorded.specs.Recorded.{Records, nothing_recorded, recorded_from, recording}
use Rattle.law_reads_recorded.specs.Recorded.{records_of}
use Rattle.law_writers.specs.Followed.{known_after, known_from, known_of}
use Rattle.law_writers.specs.Unmarked.{IsPlainRun, PlainFrom}
use Rattle.law_writers.specs.WritersTell.{DisksTell}
use Rattle.law_writers.specs.Wrote.{WroteBytes}
use Rattle.law_writers.proofs.Agreement.{Agrees, event-agrees}
use Rattle.law_writers.proofs.Leavings.{replicate-one}
use Rattle.law_writers.proofs.Readings.{Reading}

-- a disk has zero bytes before the first event
pub opening-zero : (number : ℕ) (disks : List DiskPlan) (sectors : Sectors) (place : ℕ)
    (bytes : List ℕ) → sectors_in number (map empty_disk disks) ≡ Some sectors
    → slice_get sectors place ≡ Some bytes → bytes ≡ replicate 512 0
opening-zero number [] sectors place bytes stands at = absurd (None-not-Some stands)
opening-zero number (d ∷ disks) sectors place bytes stands at = by_test (d.number == number) refl
    (λ there. opening-zero number disks sectors place bytes there at)
  where
    by_test : (test : Bool) → (d.number == number) ≡ test
        → (sectors_in number (map empty_disk disks) ≡ Some sectors → bytes ≡ replicate 512 0)
        → bytes ≡ replicate 512 0
    by_test true same rest = replicate-one d.size (replicate 512 0) bytes place
        (ap (λ own. slice_get own place) (Some-holds (rw same at stands)) ∙ at)
    by_test false same rest = rest (rw same at stands)

module _ {S : Type 0} (m : Meaning S) (lawful : Lawful m) (c : Scenario S) where
  -- no bio reads anything before the first event
  none-reads : (first place n i : ℕ) (bio : Bio) → Reading (opening c) first place n i bio → ⊥
  none-reads first place n i bio r = search rules

  -- what is known agrees before the first event
  opening-agrees : Fine m c → (kept : Kept) → kept.reads ≡ true
      → Agrees m c (opening c) nothing_recorded (start.nothing_known kept)
  opening-agrees fine kept keeps = record {
    fits = opening-Fits m c fine;
    kept = search rules;
    sound = λ n bio lives. absurd (None-not-Some ((search rules) ∙ lives));
    written = λ number place sectors bytes stands at.
        subst (λ w. WroteBytes c w bytes) (sym (get-empty {X = Writer} place_cmp (number, place)))
        (opening-zero number c.disks sectors place bytes stands at);
    told = record {
      each = search (rules, none-reads);
      unmade = λ number place far. get-empty {X = Writer} place_cmp (number, place);
    };
    keeps = keeps;
  }

  -- so it agrees after events, one after another
  leads-agree : (events : List Event) (s end : State S) (records : Records) (known : Known)
      → Agrees m c s records known → PlainFrom m c (Next s) events → Leads m c s events end
      → Agrees m c end (recorded_from m c (Next s) records events)
      (known_from m c (Next s) known events)
  leads-agree [] s end records known a plain leads =
      subst (λ at. Agrees m c at records known) (sym leads) a
  leads-agree (event ∷ events) s end records known a plain leads =
      let next_fits : Fits m c leads.1 = subst (λ a. Goes a (Fits m c)) leads.2
      (events-fit m lawful c s a.fits event leads.0) in
      let later = event-agrees m lawful c s leads.1 next_fits records known a event leads.0 leads.2
      plain.0 in
      let rest = subst (λ at. PlainFrom m c at events) leads.2 plain.1 in
      subst (λ at. Agrees m c end
      (recorded_from m c at (recording m s records event) events)
      (known_from m c at (known_after m s known event at) events)) (sym leads.2)
      (leads-agree events leads.1 end (recording m s records event)
      (known_next m s leads.1 known event) later rest leads.3)

  -- and after a run
  pub run-agrees : Fine m c → (events : List Event) (s : State S) → IsRun m c events s
      → IsPlainRun m c events → (kept : Kept) → kept.reads ≡ true
      → Agrees m c s (records_of m c events) (known_of m c kept events)
  run-agrees fine events s run plain kept keeps = search (rules, leads-agree, opening-agrees)

-- the bytes of disks are those of the writers that are known
pub disks-tell : {S : Type 0} (m : Meaning S) → Lawful m → DisksTell m
disks-tell m lawful c fine events s run plain kept keeps =
    (run-agrees m lawful c fine events s run plain kept keeps).written
