-- The invariant of reads. A place of a log's read has at most one living bio that carries it and
-- isn't in flight. While one does, nobody is known as the place's writer. Once a bio in flight has
-- recorded bytes for the place none does, and the bytes are those of the writer that is known.
use Rattle.lab_model.proofs.Common.{◌+◌, ◌<◌, ◌≡◌, ◌≢◌, ◌≤◌, false, length, List, Some, ℕ, Bio}
use Rattle.lab_model.proofs.Common.{bio_of, None, Read, Scenario, State}
use Rattle.lab_watch.specs.Grids.{Grid, writer_at}
use Rattle.law_bytes_carried.proofs.Words.{entry-within, is_flying, IsLogs}
use Rattle.law_bytes_carried.proofs.Seats.{Seat}
use Rattle.law_reads_recorded.specs.Recorded.{Records}
use Rattle.law_writers.specs.Wrote.{WroteBytes}

-- a place of a living read that stands for a place of a log's read
pub record Reading {S : Type 0} (s : State S) (first place number i : ℕ) (bio : Bio) : Type 0 where
  pub seat : Seat s first place number i bio
  pub reads : bio.kind ≡ Read
  pub top : Bio
  pub begins : bio_of s first ≡ Some top
  pub is_logs : IsLogs top.parent

-- so the log's read is numbered
pub reading-first : {S : Type 0} {s : State S} {first place number i : ℕ} {bio : Bio}
    → Reading s first place number i bio → first ≤ length s.bios
reading-first {s = s} {first = first} r = entry-within s.bios first r.top r.begins

-- no bio carries a place but those in flight
abbrev pub NoneRests : {S : Type 0} → State S → ℕ → ℕ → Type 0
NoneRests s first place = (n i : ℕ) (bio : Bio) → Reading s first place n i bio
    → is_flying bio.stage ≢ false

-- what is known of a place
pub record PlaceTold {S : Type 0} (c : Scenario S) (s : State S) (records : Records) (reads : Grid)
    (first place : ℕ) : Type 0 where
  pub only : (n k i l : ℕ) (a b : Bio) → Reading s first place n i a → is_flying a.stage ≡ false
      → Reading s first place k l b → is_flying b.stage ≡ false → n ≡ k
  pub rests : (n i : ℕ) (bio : Bio) → Reading s first place n i bio → is_flying bio.stage ≡ false
      → writer_at reads first place ≡ None
  pub gone : (n i : ℕ) (bio : Bio) (bytes : List ℕ) → Reading s first place n i bio
      → records n (bio.span.first + i) ≡ Some bytes → NoneRests s first place
  pub has : (n i : ℕ) (bio : Bio) (bytes : List ℕ) → Reading s first place n i bio
      → records n (bio.span.first + i) ≡ Some bytes
      → WroteBytes c (writer_at reads first place) bytes

-- of all places, and nobody is known as a writer of a read that isn't made yet
pub record AllTold {S : Type 0} (c : Scenario S) (s : State S) (records : Records) (reads : Grid)
    : Type 0 where
  pub each : (first place : ℕ) → PlaceTold c s records reads first place
  pub unmade : (number place : ℕ) → length s.bios < number → writer_at reads number place ≡ None
