-- Each disk keeps to what is known of its writers, with each event: a write or a trim that it
-- serves has its bytes where it is known, and nothing else changes a disk.
use Rattle.lab_model.proofs.Common.{rules, ap, arith, length, List, map, nat_tests, refl}
use Rattle.lab_model.proofs.Common.{slice_get, Some, subst, sym, ℕ, ◌+◌, ◌<◌, ◌∷◌, ◌≡◌, ◌≢◌, ◌≤◌}
use Rattle.lab_model.proofs.Common.{[], answered, Bio, disk_of, Disk, filled, Flush, Kind, Meaning}
use Rattle.lab_model.proofs.Common.{put, Read, replicate, Scenario, Sectors, State, Told, Trim}
use Rattle.lab_model.proofs.Common.{true, with_disk, with_sectors, Write}
use Rattle.lab_model.specs.Tables.{end_of}
use Rattle.lab_next.specs.declared.writer.Writer.{Writer}
use Rattle.lab_watch.specs.Grids.{writer_from, Grid, spread, writer_at}
use Rattle.lab_watch.specs.Heard.{heard}
use Rattle.lab_watch.specs.Known.{Known}
use Rattle.law_bytes_carried.proofs.Words.{Fits, length-filled, same-disk, sectors_in, Serve}
use Rattle.law_bytes_carried.proofs.Words.{Serving}
use Rattle.law_bytes_carried.proofs.Served.{put-outside, put-there}
use Rattle.law_writers.specs.WritersTell.{DisksAreWritten}
use Rattle.law_writers.specs.Wrote.{Left, WroteBytes}
use Rattle.law_writers.proofs.GridLemmas.{spread-at}
use Rattle.law_writers.proofs.Hearing.{AtDisk, flush-disks, read-disks, trim-disks, write-disks}
use Rattle.law_writers.proofs.Leavings.{replicate-one, trim-leaves, write-leaves}
use Rattle.law_writers.proofs.Roots.{IsFrom}
use Rattle.law_writers.proofs.Sources.{AllSound}

-- another disk than the one that is written stays
pub other-disk : (disks : List Disk) (number disk : ℕ) (changed : Sectors) → number ≢ disk
    → sectors_in number (map (with_sectors disk changed) disks) ≡ sectors_in number disks
other-disk [] number disk changed apart = refl
other-disk (d ∷ disks) number disk changed apart = grind (arith, nat_tests, other-disk disks)

-- no answer changes a disk
pub answered-disks : {S : Type 0} (s : State S) (number : ℕ) (bio : Bio) (told : Told)
    → (answered s number bio told).disks ≡ s.disks
answered-disks s number bio told = search rules

-- the disks once one has served a bio
abbrev pub disks_after : ℕ → Sectors → Bio → Kind → List Disk → List Disk
disks_after disk sectors bio Read disks = disks
disks_after disk sectors bio Write disks =
    map (with_sectors disk (put sectors bio.span.first bio.sectors)) disks
disks_after disk sectors bio Trim disks =
    map (with_sectors disk (put sectors bio.span.first (filled bio.span.len 0))) disks
disks_after disk sectors bio Flush disks = disks

-- what is written where nothing changes is written on
pub same-written : {S : Type 0} (c : Scenario S) (s next : State S) {grid later : Grid}
    → next.disks ≡ s.disks → later ≡ grid → DisksAreWritten c s grid
    → DisksAreWritten c next later
same-written c s next disks grids written disk place sectors bytes stands at = search rules

module _ {S : Type 0} {c : Scenario S} (s next : State S) (grid later : Grid)
    (written : DisksAreWritten c s grid) (disk first count : ℕ) (sectors others : Sectors)
    (stands : disk_of s disk ≡ Some sectors) (inside : first + count ≤ length sectors)
    (long : length others ≡ count) (writer : Writer)
    (leaves : (i : ℕ) (bytes : List ℕ) → i < count → slice_get others i ≡ Some bytes
    → Left c (writer_from writer i) bytes)
    (disks : next.disks ≡ (with_disk s disk (put sectors first others)).disks)
    (grids : later ≡ spread grid disk first count writer) where
  -- a place inside has what is put there
  inside-written : (place : ℕ) (bytes : List ℕ) → first ≤ place → place < first + count
      → slice_get (put sectors first others) place ≡ Some bytes
      → WroteBytes c (writer_at later disk place) bytes
  inside-written place bytes from to had = search (rules, spread-at, put-there)

  -- where others are put on a disk, by a writer that leaves them, all places are written
  pub put-written : DisksAreWritten c next later
  put-written other place all bytes there at =
      search (rules, same-disk, inside-written, spread-at, put-outside, other-disk)

module _ {S : Type 0} {m : Meaning S} {c : Scenario S} {s next : State S} (fits : Fits m c s)
    (all : AllSound c s) {at : ℕ} (v : Serving s at next) (from : IsFrom s at v.bio)
    (known : Known) (keeps : known.kept.reads ≡ true) (written : DisksAreWritten c s known.disks)
  where
    -- the bio at its disk
    abbrev pub at-disk : AtDisk s at v.bio v.disk from.root
    at-disk = record { lives = v.lives; on = v.on; found = from.is }

    -- the disks after that
    after-disks : {kind : Kind} → v.bio.kind ≡ kind → {disks : List Disk}
        → disks_after v.disk v.sectors v.bio kind s.disks ≡ disks → next.disks ≡ disks
    after-disks is same = search rules

    -- its sectors are the disk's
    ends : {kind : Kind} → v.bio.kind ≡ kind
        → end_of kind v.bio.span ≡ v.bio.span.first + v.bio.span.len
        → v.bio.span.first + v.bio.span.len ≤ length v.sectors
    ends is same = omega (arith, v.inside, ap (λ kind. end_of kind v.bio.span) is, same)

    -- by its kind the disks are written once it is served
    by_kind : (kind : Kind) → v.bio.kind ≡ kind
        → DisksAreWritten c next (heard s (Serve at) known).disks
    by_kind Read is =
        same-written c s next (after-disks is refl) (read-disks at-disk known keeps is) written
    by_kind Flush is =
        same-written c s next (after-disks is refl) (flush-disks at-disk known keeps is) written
    by_kind Write is = put-written s next known.disks _ written v.disk v.bio.span.first
        v.bio.span.len v.sectors v.bio.sectors v.stands (ends is refl)
        ((fits.bios at v.bio v.lives).fills is)
        from.root.writer (write-leaves all from is) (after-disks is refl)
        (write-disks at-disk known keeps is)
    by_kind Trim is = put-written s next known.disks _ written v.disk v.bio.span.first
        v.bio.span.len v.sectors (filled v.bio.span.len 0) v.stands (ends is refl)
        (length-filled v.bio.span.len 0)
        from.root.writer (λ i bytes less at. subst (Left c (writer_from from.root.writer i))
        (sym (replicate-one v.bio.span.len (replicate 512 0) bytes i at))
        (trim-leaves all from is i less))
        (after-disks is refl) (trim-disks at-disk known keeps is)

    -- so they are
    pub serve-written : DisksAreWritten c next (heard s (Serve at) known).disks
    serve-written = by_kind v.bio.kind refl
