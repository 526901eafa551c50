-- What is known after an event, by what the event does.
use Rattle.lab_model.proofs.Common.{Meaning, rules, ◌≡◌, ◌≢◌, Bio, bio_of, Flush, Ram, Read, refl}
use Rattle.lab_model.proofs.Common.{Some, State, Trim, true, Write, ℕ}
use Rattle.lab_next.specs.Answering.{number_answered}
use Rattle.lab_next.specs.Origins.{root_of}
use Rattle.lab_next.specs.declared.origin.Root.{Root}
use Rattle.lab_watch.specs.Grids.{spread, with_writers_from, writer_at, writers_in}
use Rattle.lab_watch.specs.Drops.{mapped}
use Rattle.lab_watch.specs.Heard.{heard}
use Rattle.lab_watch.specs.Known.{Known}
use Rattle.lab_watch.specs.Settled.{settled}
use Rattle.law_bytes_carried.proofs.Words.{Event, Serve}
use Rattle.law_writers.proofs.GridLemmas.{cleared-at}

-- a bio with a root that enters a disk
pub record AtDisk {S : Type 0} (s : State S) (at : ℕ) (bio : Bio) (disk : ℕ) (root : Root) : Type 0
  where
    pub lives : bio_of s at ≡ Some bio
    pub on : bio.device ≡ Ram disk
    pub found : root_of s at ≡ Some root

module _ {S : Type 0} {s : State S} {at : ℕ} {bio : Bio} {disk : ℕ} {root : Root}
    (d : AtDisk s at bio disk root) (known : Known) (keeps : known.kept.reads ≡ true) where
  -- a read has what the disk has
  pub read-reads : bio.kind ≡ Read → (heard s (Serve at) known).reads
      ≡ with_writers_from known.reads root.number root.writer.sector
      (writers_in known.disks disk bio.span.first bio.span.len)
  read-reads is = rw (d.lives, d.on, d.found, is, keeps) refl

  -- and changes no disk
  pub read-disks : bio.kind ≡ Read → (heard s (Serve at) known).disks ≡ known.disks
  read-disks is = rw (d.lives, d.on, d.found, is, keeps) refl

  -- a write has its sectors on the disk
  pub write-disks : bio.kind ≡ Write → (heard s (Serve at) known).disks
      ≡ spread known.disks disk bio.span.first bio.span.len root.writer
  write-disks is = rw (d.lives, d.on, d.found, is, keeps) refl

  -- so has a trim
  pub trim-disks : bio.kind ≡ Trim → (heard s (Serve at) known).disks
      ≡ spread known.disks disk bio.span.first bio.span.len root.writer
  trim-disks is = rw (d.lives, d.on, d.found, is, keeps) refl

  -- a flush changes no disk
  pub flush-disks : bio.kind ≡ Flush → (heard s (Serve at) known).disks ≡ known.disks
  flush-disks is = rw (d.lives, d.on, d.found, is, keeps) refl

-- what is kept stays, whatever is heard
pub heard-kept : {S : Type 0} (s : State S) (event : Event) (known : Known)
    → (heard s event known).kept ≡ known.kept
heard-kept s event known = search rules

-- and whatever is settled
pub settled-kept : {S : Type 0} (s : State S) (event : Event) (known : Known)
    → (settled s event known).kept ≡ known.kept
settled-kept s event known = search rules

-- no disk changes where an answer is settled
pub settled-disks : {S : Type 0} (s : State S) (event : Event) (known : Known)
    → (settled s event known).disks ≡ known.disks
settled-disks s event known = search rules

-- nor does what is known of another read than the one that is answered
pub settled-reads : {S : Type 0} (s : State S) (event : Event) (known : Known) (first place : ℕ)
    → first ≢ number_answered event
    → writer_at (settled s event known).reads first place ≡ writer_at known.reads first place
settled-reads s event known first place apart = search (rules, cleared-at)

-- what is known once an event's answer is settled
abbrev pub followed : {S : Type 0} → State S → Known → Event → Known
followed s known event = settled s event (heard s event known)

-- what lines drop changes nothing of disks, nor of reads, nor what is kept
pub record SameButDrops (known later : Known) : Type 0 where
  pub kept : later.kept ≡ known.kept
  pub disks : later.disks ≡ known.disks
  pub reads : later.reads ≡ known.reads

-- so where lines have judged a bio only what they dropped is known anew
pub mapped-same : {S : Type 0} (m : Meaning S) (made : ℕ) (s : State S) (event : Event)
    (known : Known) → SameButDrops known (mapped m made s event known)
mapped-same m made s event known = search rules
