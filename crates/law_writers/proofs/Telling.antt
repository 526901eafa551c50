-- What a bio tells where it is answered, and what is recorded then. A served read tells the disk's
-- bytes: those of the writers that are known of its places. A finished one tells what it has
-- recorded.
use Rattle.law_writers.proofs.GridLemmas.{put-at}
use Rattle.lab_model.proofs.Common.{rules, ◌+◌, ◌-◌, ◌<◌, ◌≡◌, ◌≢◌, ◌∙◌, ◌⊎◌, ap, Bool, false, inl}
use Rattle.lab_model.proofs.Common.{inr, List, refl, slice_get, Some, subst, sym, true, ℕ, Bio}
use Rattle.lab_model.proofs.Common.{Meaning, no_marks, Read, Scenario, Some-holds, State}
use Rattle.lab_model.specs.declared.parent.Parent.{Parent}
use Rattle.lab_model.specs.declared.parent.Parent.TheVariants.{FromBio}
use Rattle.lab_watch.specs.Grids.{Grid, writer_at}
use Rattle.lab_watch.specs.Heard.{heard}
use Rattle.lab_watch.specs.Known.{Known}
use Rattle.lab_watch.specs.Settled.{settled}
use Rattle.law_bytes_carried.proofs.Words.{Finish, Finishing, Fits, is_flying, Piece, Serve}
use Rattle.law_bytes_carried.proofs.Words.{Serving}
use Rattle.law_reads_recorded.specs.Recorded.{span_has, read_from, recording, Records, told_up}
use Rattle.law_writers.specs.WritersTell.{DisksAreWritten}
use Rattle.law_writers.specs.Wrote.{WroteBytes}
use Rattle.law_writers.proofs.Disks.{at-disk}
use Rattle.law_writers.proofs.GridLemmas.{inside-or, put-in}
use Rattle.law_writers.proofs.Hearing.{AtDisk, read-reads, settled-reads}
use Rattle.law_writers.proofs.Lasting.{Changes, TellsIt}
use Rattle.law_writers.proofs.Readings.{AllTold, Reading}
use Rattle.law_writers.proofs.Roots.{IsFrom, root-is}
use Rattle.law_writers.proofs.Sources.{AllSound}

-- what a bio of no marks says of a sector of the piece that it was made for
pub record SaysOf (own : Records) (at : ℕ) (bio : Bio) (parent : Parent) (n sector : ℕ)
    (bytes : List ℕ) : Type 0 where
  pub piece : Piece
  pub is_parent : parent ≡ FromBio n piece
  pub covers : span_has piece.span sector ≡ true
  pub says : own at (bio.span.first + (sector - piece.span.first)) ≡ Some bytes

-- so what is recorded after it has told was recorded, or it says so
told_up-says : (own : Records) (at : ℕ) (bio : Bio) → bio.marks ≡ no_marks → (parent : Parent)
    (n sector : ℕ) (bytes : List ℕ) → told_up own at bio parent n sector ≡ Some bytes
    → (own n sector ≡ Some bytes) ⊎ SaysOf own at bio parent n sector bytes
told_up-says own at bio none parent n sector bytes is = search rules

module _ {S : Type 0} (m : Meaning S) {c : Scenario S} {s : State S}
    (all : AllSound c s) (records : Records) (known : Known)
    (told : AllTold c s records known.reads) where
  -- what is known of other places stays where a finished bio is settled
  finish-keeps : (at : ℕ) (first place : ℕ) → first ≢ at
      → writer_at (settled s (Finish at) (heard s (Finish at) known)).reads first place
      ≡ writer_at known.reads first place
  finish-keeps at first place apart = settled-reads s (Finish at) known first place apart

  -- what a bio that is finished changes
  pub finish-changes : {at : ℕ} {next : State S} (f : Finishing s at next) → Changes c s at records
      (recording m s records (Finish at)) known.reads
      (settled s (Finish at) (heard s (Finish at) known)).reads
  finish-changes {at} f = record {
    own = records at;
    keeps = λ first place apart none. finish-keeps at first place apart;
    says = λ n sector bytes apart is. by_failed f.failed refl n sector bytes is;
    tells = λ first place i bio bytes apart r is. subst (λ w. WroteBytes c w bytes)
        (sym (finish-keeps at first place apart))
        ((told.each first place).has at i bio bytes r is);
    goes = λ first place i bio bytes r is n k other apart.
        (told.each first place).gone at i bio bytes r is n k other;
  }
    where
      by_failed : (failed : Bool) → f.failed ≡ failed → (n sector : ℕ) (bytes : List ℕ)
          → recording m s records (Finish at) n sector ≡ Some bytes
          → (records n sector ≡ Some bytes) ⊎ TellsIt s at (records at) n sector bytes
      by_failed true failed n sector bytes is = inl (rw (f.lives, f.is, failed) at is)
      by_failed false failed n sector bytes is = elim (told_up-says records at f.bio
          (all at f.bio f.lives).marks f.bio.parent n sector bytes
          (rw (f.lives, f.is, failed) at is)) [
            | inl had ↦ inl had
            | inr says ↦ search rules
          ]

module _ {S : Type 0} {m : Meaning S} {c : Scenario S} {s next : State S} (fits : Fits m c s)
    (all : AllSound c s) (records : Records) (known : Known) (keeps : known.kept.reads ≡ true)
    (told : AllTold c s records known.reads) (written : DisksAreWritten c s known.disks) {at : ℕ}
    (v : Serving s at next) (from : IsFrom s at v.bio) where
  -- what is known after it
  abbrev later : Grid
  later = (settled s (Serve at) (heard s (Serve at) known)).reads

  -- what is recorded of the bio itself
  abbrev served : Records
  served = read_from s records at v.bio v.bio.kind

  -- the bio at its disk
  abbrev at_disk : AtDisk s at v.bio v.disk from.root
  at_disk = at-disk fits all v from known keeps written

  -- it isn't in flight
  rested : is_flying v.bio.stage ≡ false
  rested = ap is_flying v.enters

  module _ (reads : v.bio.kind ≡ Read) where
    -- what is known of a place that it doesn't read stays
    read-keeps : (first place : ℕ) → first ≢ at
        → ((i : ℕ) (bio : Bio) → Reading s first place at i bio → is_flying bio.stage ≢ false)
        → writer_at later first place ≡ writer_at known.reads first place
    read-keeps first place apart none =
        settled-reads s (Serve at) (heard s (Serve at) known) first place apart
        ∙ ap (λ g. writer_at g first place) (read-reads at_disk known keeps reads)
        ∙ elim (inside-or from.root.number from.root.writer.sector v.bio.span.len first place) [
          | inl inside ↦ absurd (none (place - from.root.writer.sector) v.bio
              (search (rules)) rested)
          | inr outside ↦ search (rules, put-at)
        ]

    -- a sector that it records is the disk's
    disk-has : (i : ℕ) (bytes : List ℕ) → i < v.bio.span.len
        → served at (v.bio.span.first + i) ≡ Some bytes
        → slice_get v.sectors (v.bio.span.first + i) ≡ Some bytes
    disk-has i bytes less is = search rules

    -- what is known of a place that it reads is what is known of the disk
    disk-known : (first place i : ℕ) → Reading s first place at i v.bio
        → writer_at (heard s (Serve at) known).reads first place
        ≡ writer_at known.disks v.disk (v.bio.span.first + i)
    disk-known first place i r =
        let top =
        root-is fits all at v.bio v.lives first r.top r.begins r.is_logs r.seat.comes from in
        search (rules, read-reads, put-in)

    -- the disk has the bytes of those who are known as the writers of the places that it reads
    pub disk-tells : (first place i : ℕ) (bytes : List ℕ) → Reading s first place at i v.bio
        → served at (v.bio.span.first + i) ≡ Some bytes
        → WroteBytes c (writer_at (heard s (Serve at) known).reads first place) bytes
    disk-tells first place i bytes r is = subst (λ w. WroteBytes c w bytes)
        (sym (disk-known first place i r)) (search (rules, disk-has))

    -- so what it tells is what is known
    read-tells : (first place i : ℕ) (bytes : List ℕ) → first ≢ at
        → Reading s first place at i v.bio → served at (v.bio.span.first + i) ≡ Some bytes
        → WroteBytes c (writer_at later first place) bytes
    read-tells first place i bytes apart r is = search (rules, settled-reads, disk-tells)

  -- what is known of a place stays where the bio doesn't read it
  serve-keeps : (first place : ℕ) → first ≢ at
      → ((i : ℕ) (bio : Bio) → Reading s first place at i bio → is_flying bio.stage ≢ false)
      → writer_at later first place ≡ writer_at known.reads first place
  serve-keeps first place apart none = search (rules, read-keeps)

  -- what a bio that is served changes
  pub serve-changes : Changes c s at records (recording m s records (Serve at)) known.reads later
  serve-changes = record {
    own = served at;
    keeps = serve-keeps;
    says = search rules;
    tells = λ first place i bio bytes apart r is.
        let one : bio ≡ v.bio = Some-holds (sym r.seat.lives ∙ v.lives) in
        read-tells (ap (λ b. b.kind) (sym one) ∙ r.reads) first place i bytes apart
        (subst (λ b. Reading s first place at i b) one r)
        (ap (λ b. served at (b.span.first + i)) (sym one) ∙ is);
    goes = λ first place i bio bytes r is n k other apart there quiet. apart
        ((told.each first place).only n at k i other bio there quiet r
        (ap (λ b. is_flying b.stage) (Some-holds (sym r.seat.lives ∙ v.lives)) ∙ rested));
  }
