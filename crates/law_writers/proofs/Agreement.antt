-- What is known agrees with the bytes, and with each event it goes on to.
use Rattle.lab_model.proofs.Common.{rules, ap, arith, length, refl, true, ℕ, ◌∙◌, ◌≡◌, effect, inl}
use Rattle.lab_model.proofs.Common.{inr, is_enabled, Lawful, Meaning, Next, Scenario, State}
use Rattle.lab_watch.specs.Drops.{known_next}
use Rattle.lab_watch.specs.Known.{Known}
use Rattle.law_bytes_carried.proofs.Words.{Finishing, Serving, answered-leaves, Clock, Control}
use Rattle.law_bytes_carried.proofs.Words.{entry-within, Event, Finish, finishing-of, Fits}
use Rattle.law_bytes_carried.proofs.Words.{IsAnswered, Judged, judged, Leaves, Line, line-leaves}
use Rattle.law_bytes_carried.proofs.Words.{Map, map-gives, moved, Release, release-leaves, sent}
use Rattle.law_bytes_carried.proofs.Words.{Serve, serving-of, told-each}
use Rattle.law_reads_recorded.specs.Recorded.{recording, Records, with_record, zeroes_in}
use Rattle.law_reads_recorded.proofs.Kept.{AllKept}
use Rattle.law_reads_recorded.proofs.Runs.{event-kept}
use Rattle.law_writers.specs.Unmarked.{EventPlain}
use Rattle.law_writers.specs.WritersTell.{DisksAreWritten}
use Rattle.law_writers.proofs.Births.{map-sound}
use Rattle.law_writers.proofs.Disks.{answered-disks, same-written, serve-written}
use Rattle.law_writers.proofs.Hearing.{followed, heard-kept, mapped-same, SameButDrops}
use Rattle.law_writers.proofs.Hearing.{settled-disks, settled-kept}
use Rattle.law_writers.proofs.Judging.{judged-told}
use Rattle.law_writers.proofs.Lasting.{told-on}
use Rattle.law_writers.proofs.Quiet.{event-stays, quiet-changes, same-leaves}
use Rattle.law_writers.proofs.Readings.{AllTold}
use Rattle.law_writers.proofs.Roots.{from-of}
use Rattle.law_writers.proofs.Sources.{AllSound, left-sound, line-sound}
use Rattle.law_writers.proofs.Telling.{finish-changes, serve-changes}

-- what holds wherever a run stands: bios are sound, disks have the bytes of those who are known as
-- their writers, and reads record the bytes of those who are known as theirs
pub record Agrees {S : Type 0} (m : Meaning S) (c : Scenario S) (s : State S) (records : Records)
    (known : Known) : Type 0 where
  pub fits : Fits m c s
  pub kept : AllKept s.bios records
  pub sound : AllSound c s
  pub written : DisksAreWritten c s known.disks
  pub told : AllTold c s records known.reads
  pub keeps : known.kept.reads ≡ true

-- where the same is known but for what lines dropped, it agrees too
agrees-alike : {S : Type 0} {m : Meaning S} {c : Scenario S} {s : State S} {records : Records}
    {known later : Known} → Agrees m c s records known → SameButDrops known later
    → Agrees m c s records later
agrees-alike {c = c} {s} {records} a same = search (rules, same-written)

-- where a table judges a bio it agrees on
judged-agrees : {S : Type 0} {m : Meaning S} {c : Scenario S} {s : State S} {records : Records}
    {known : Known} → Agrees m c s records known → {at : ℕ} (j : Judged m s at)
    → EventPlain m s (Map at) → Fits m c (sent j)
    → AllKept (sent j).bios (recording m s records (Map at))
    → Agrees m c (sent j) (recording m s records (Map at)) known
judged-agrees {m = m} {c} {s} {records} {known} a {at} j plain fits kept =
    let same : recording m s records (Map at) ≡ with_record records at (zeroes_in (judged j)) =
    rw (j.lives, j.on, j.stands, j.live) refl in
    record {
      fits = fits;
      kept = kept;
      sound = map-sound j plain fits a.sound;
      written = same-written c s (sent j) refl refl a.written;
      told = search (rules, judged-told);
      keeps = a.keeps;
    }

module _ {S : Type 0} (m : Meaning S) (lawful : Lawful m) (c : Scenario S) (s next : State S)
    (next_fits : Fits m c next) (records : Records) (known : Known)
    (a : Agrees m c s records known) where
  -- where no bio comes, all stay sound
  stay-sound : {at : ℕ} → Leaves s at next → length next.bios ≡ length s.bios → AllSound c next
  stay-sound leaves count = left-sound m c s next next_fits a.sound leaves
      (λ n bio lives. omega (arith, count, entry-within next.bios n bio lives))

  -- after an event it agrees on, with what that leaves
  abbrev After : Event → Type 0
  After event = Agrees m c next (recording m s records event) (followed s known event)

  -- what is kept is kept on
  keeps-on : (event : Event) → (followed s known event).kept.reads ≡ true
  keeps-on event = ap (λ k. k.reads) (settled-kept s event _ ∙ heard-kept s event known) ∙ a.keeps

  -- a bio that is answered leaves all others sound
  answer-sound : {at : ℕ} → IsAnswered s at next → AllSound c next
  answer-sound by = left-sound m c s next next_fits a.sound (answered-leaves by) (λ n bio lives.
      elim (told-each by n bio lives).1 [
        | inl was ↦ entry-within s.bios n bio was.0
        | inr told ↦ entry-within s.bios n told.old told.stood
      ])

  -- where an event neither judges nor answers it agrees on
  quiet-agrees : Leaves s 0 next → next.disks ≡ s.disks → AllSound c next
      → AllKept next.bios records → Agrees m c next records known
  quiet-agrees leaves disks sound kept = search (rules, same-written, told-on, quiet-changes)

  -- so it does where no bio changes
  same-agrees : (next.disks ≡ s.disks) × (next.bios ≡ s.bios) → AllKept next.bios records
      → Agrees m c next records known
  same-agrees same kept =
      let leaves = (same-leaves s next same.1).leaves in
      quiet-agrees leaves same.0 (stay-sound leaves (ap length same.1)) kept

  -- where a disk serves a bio
  serve-agrees : {at : ℕ} → IsAnswered s at next → Serving s at next
      → AllKept next.bios (recording m s records (Serve at)) → After (Serve at)
  serve-agrees {at} by v kept =
      let from = from-of a.fits a.sound at v.bio v.lives in
      record {
        fits = next_fits;
        kept = kept;
        sound = answer-sound by;
        written = search (rules, same-written, settled-disks, serve-written);
        told = told-on a.fits next_fits (answered-leaves by) a.kept a.told (serve-changes
            a.fits a.sound records known a.keeps a.told a.written v from);
        keeps = keeps-on (Serve at);
      }

  -- and where one is finished
  finish-agrees : {at : ℕ} → IsAnswered s at next → Finishing s at next
      → AllKept next.bios (recording m s records (Finish at)) → After (Finish at)
  finish-agrees {at} by f kept = record {
    fits = next_fits;
    kept = kept;
    sound = answer-sound by;
    written = search (rules, same-written, answered-disks, settled-disks);
    told = search (rules, told-on, answered-leaves, finish-changes);
    keeps = keeps-on (Finish at);
  }

  -- with each event it goes on, where what is recorded is kept
  kept-agrees : (event : Event) → is_enabled c s event ≡ true → effect m c s event ≡ Next next
      → EventPlain m s event → AllKept next.bios (recording m s records event) → After event
  kept-agrees (Line log) may leads plain kept =
      let leaves = (line-leaves m c s next log may leads).leaves in
      quiet-agrees leaves (event-stays m c s (Line log) next may leads)
      (line-sound m c s next next_fits a.sound log may leads leaves) kept
  kept-agrees (Map at) may leads plain kept = map-gives lawful a.fits at (λ t. Fits m c t
      → AllKept t.bios (recording m s records (Map at))
      → Agrees m c t (recording m s records (Map at)) known)
      (λ j fits on. judged-agrees a j plain fits on) may next leads next_fits kept
  kept-agrees (Serve at) may leads plain kept =
      serve-agrees (moved m c s (Serve at) next may leads)
      (serving-of m c s next at may leads) kept
  kept-agrees (Release at) may leads plain kept =
      let leaves = (release-leaves m c s next at may leads).leaves in
      let stays = event-stays m c s (Release at) next may leads in
      quiet-agrees leaves stays.disks (stay-sound leaves stays.count) kept
  kept-agrees (Finish at) may leads plain kept = finish-agrees
      (moved m c s (Finish at) next may leads) (finishing-of m c s next at may leads) kept
  kept-agrees Control may leads plain kept =
      same-agrees (event-stays m c s Control next may leads) kept
  kept-agrees Clock may leads plain kept =
      same-agrees (event-stays m c s Clock next may leads) kept

  -- and it is kept; what lines have dropped has no part in it
  pub event-agrees : (event : Event) → is_enabled c s event ≡ true → effect m c s event ≡ Next next
      → EventPlain m s event
      → Agrees m c next (recording m s records event) (known_next m s next known event)
  event-agrees event may leads plain = agrees-alike
      (search (rules, kept-agrees, event-kept))
      (mapped-same m (length s.bios) next event (followed s known event))
