-- Each disk has the bytes that are known to stand there, as it serves writes and trims.
use Rattle.lab_model.proofs.Common.{◌≡◌, ◌∙◌, ◌+◌, ◌-◌, ◌<◌, ◌≤◌, ◌⊎◌, ℕ, Disk, Flush}
use Rattle.lab_model.proofs.Common.{Kind, List, Meaning, Read, Sectors, Some, Some-holds}
use Rattle.lab_model.proofs.Common.{State, Trim, Write, ap, ap₂, arith, cases_eq, disk_of}
use Rattle.lab_model.proofs.Common.{filled, inl, inr, length, put, refl, replicate, rules}
use Rattle.lab_model.proofs.Common.{slice_get, subst, sym, with_disk, Scenario}
use Rattle.lab_model.specs.Tables.{end_of}
use Rattle.lab_image.specs.Changes.{marks_at}
use Rattle.lab_image.specs.Given.{sector_bytes, standing, zeroes}
use Rattle.lab_image.specs.Images.{Image, image_heard}
use Rattle.lab_image.specs.Stores.{Store, erased, stored}
use Rattle.law_bytes_carried.proofs.Served.{put-outside, put-there}
use Rattle.law_bytes_carried.proofs.Words.{Fits, Serve, Serving, length-filled, same-disk}
use Rattle.law_bytes_carried.proofs.Words.{sectors_in}
use Rattle.law_writers.specs.RowsTell.{fills}
use Rattle.law_writers.proofs.Carrying.{Carried, Carries, Stood, erased-none, erased-other}
use Rattle.law_writers.proofs.Carrying.{stored-has, stored-other, carried-on}
use Rattle.law_writers.proofs.Disks.{disks_after, other-disk}
use Rattle.law_writers.proofs.GridLemmas.{IsOutside, inside-or}
use Rattle.law_writers.proofs.Leavings.{replicate-one}

-- each sector of each disk has the bytes that are known to stand there
abbrev pub DisksHave : {S : Type 0} → State S → Store → Type 0
DisksHave s store = (disk place : ℕ) (sectors : Sectors) (bytes : List ℕ)
    → disk_of s disk ≡ Some sectors → slice_get sectors place ≡ Some bytes
    → bytes ≡ standing fills store disk place

-- the bytes of a sector that a write carries are those that stand there
carried-stands : {store : Store} {disk place : ℕ} {bytes : List ℕ}
    → Carried fills store disk place bytes → bytes ≡ standing fills store disk place
carried-stands {store} {disk} {place} c =
    c.has ∙ ap (λ writer. sector_bytes fills (marks_at store.changes (disk, place)) writer zeroes)
    (sym c.found)

-- where the same stands at a place the bytes are the same
stood-stands : {store later : Store} {disk place : ℕ} → Stood store disk place later disk place
    → standing fills store disk place ≡ standing fills later disk place
stood-stands stood = ap₂ (λ marks writer. sector_bytes fills marks writer zeroes)
    (sym stood.changes)
    (sym stood.writers)

-- where neither changes the disks have them on
pub same-have : {S : Type 0} (s next : State S) {store later : Store} → next.disks ≡ s.disks
    → later ≡ store → DisksHave s store → DisksHave next later
same-have s next disks stores had disk place sectors bytes stands at =
    had disk place sectors bytes (ap (sectors_in disk) (sym disks) ∙ stands) at
    ∙ ap (λ store. standing fills store disk place) (sym stores)

module _ {S : Type 0} (s next : State S) (store later : Store) (had : DisksHave s store)
    (disk first count : ℕ) (sectors others : Sectors) (stands : disk_of s disk ≡ Some sectors)
    (inside : first + count ≤ length sectors) (long : length others ≡ count)
    (own : (i : ℕ) (bytes : List ℕ) → i < count → slice_get others i ≡ Some bytes
    → bytes ≡ standing fills later disk (first + i))
    (rest : (other place : ℕ) → IsOutside disk first count other place
    → Stood store other place later other place)
    (disks : next.disks ≡ (with_disk s disk (put sectors first others)).disks) where
  -- a sector of the disk that is served
  served-has : (place : ℕ) (bytes : List ℕ)
      → slice_get (put sectors first others) place ≡ Some bytes
      → bytes ≡ standing fills later disk place
  served-has place bytes at = elim (inside-or disk first count disk place) [
    | inl among ↦
        let i = place - first in
        let there : first + i ≡ place = omega (arith, among.1) in
        let found : slice_get others i ≡ Some bytes =
        sym (put-there sectors first others i (omega (arith, inside))
        (omega (arith, long, among.2, among.1)))
        ∙ ap (slice_get (put sectors first others)) there ∙ at in
        own i bytes (omega (arith, among.1, among.2)) found ∙ ap (standing fills later disk) there
    | inr out ↦
        let there = put-outside sectors first others place (omega (arith, inside))
        (outside place out) in
        had disk place sectors bytes stands (sym there ∙ at)
        ∙ stood-stands (rest disk place out)
  ]
    where
      outside : (place : ℕ) → IsOutside disk first count disk place
          → (place < first) ⊎ (first + length others ≤ place)
      outside place (inl apart) = absurd (apart refl)
      outside place (inr (inl less)) = inl less
      outside place (inr (inr over)) = inr (omega (arith, over, long))

  -- where others are put on a disk, and known to stand there, all disks have what is known
  put-have : DisksHave next later
  put-have other place all bytes there at = elim (cases_eq other disk) [
    | inl same ↦
        let put_there : sectors_in disk next.disks ≡ Some (put sectors first others) =
        ap (sectors_in disk) disks
        ∙ same-disk disk (put sectors first others) sectors s.disks stands
        in
        let one : all ≡ put sectors first others =
        Some-holds (sym there ∙ ap (λ n. sectors_in n next.disks) same ∙ put_there) in
        served-has place bytes (ap (λ own. slice_get own place) (sym one) ∙ at)
        ∙ ap (λ n. standing fills later n place) (sym same)
    | inr apart ↦
        let stays : sectors_in other next.disks ≡ sectors_in other s.disks =
        ap (sectors_in other) disks
        ∙ other-disk s.disks other disk (put sectors first others) apart in
        had other place all bytes (sym stays ∙ there) at
        ∙ stood-stands (rest other place (inl apart))
  ]

module _ {S : Type 0} {m : Meaning S} {c : Scenario S} {s next : State S} (fits : Fits m c s)
    {at : ℕ} (v : Serving s at next) (image : Image) (had : DisksHave s image.disks)
    (carries : v.bio.kind ≡ Write → Carries fills image.bios at v.bio.sectors) where
  -- the disks after that
  disks-then : {kind : Kind} → v.bio.kind ≡ kind → {disks : List Disk}
      → disks_after v.disk v.sectors v.bio kind s.disks ≡ disks → next.disks ≡ disks
  disks-then is same = search rules

  -- the bio's sectors are the disk's
  ends-inside : {kind : Kind} → v.bio.kind ≡ kind
      → end_of kind v.bio.span ≡ v.bio.span.first + v.bio.span.len
      → v.bio.span.first + v.bio.span.len ≤ length v.sectors
  ends-inside is same =
      omega (arith, v.inside, ap (λ kind. end_of kind v.bio.span) is, same)

  -- by its kind the disks have what is known once it is served
  by_kind : (kind : Kind) → v.bio.kind ≡ kind
      → DisksHave next (image_heard s (Serve at) image).disks
  by_kind Read is = same-have s next (disks-then is refl) (rw (v.lives, v.on, is) refl) had
  by_kind Flush is = same-have s next (disks-then is refl) (rw (v.lives, v.on, is) refl) had
  by_kind Write is =
      let first = v.bio.span.first in
      let count = v.bio.span.len in
      let later = stored image.bios at image.disks v.disk first count in
      let heard_is : (image_heard s (Serve at) image).disks ≡ later = rw (v.lives, v.on, is) refl in
      subst (DisksHave next) (sym heard_is)
      (put-have s next image.disks later had v.disk first count v.sectors v.bio.sectors v.stands
      (ends-inside is refl) ((fits.bios at v.bio v.lives).fills is)
      (λ i bytes less found. carried-stands (carried-on
      (stored-has image.disks v.disk image.bios at first count i less) (carries is i bytes found)))
      (stored-other image.disks v.disk image.bios at first count) (disks-then is refl))
  by_kind Trim is =
      let first = v.bio.span.first in
      let count = v.bio.span.len in
      let later = erased image.disks v.disk first count in
      let heard_is : (image_heard s (Serve at) image).disks ≡ later = rw (v.lives, v.on, is) refl in
      subst (DisksHave next) (sym heard_is)
      (put-have s next image.disks later had v.disk first count v.sectors (filled count 0) v.stands
      (ends-inside is refl) (length-filled count 0)
      (λ i bytes less found. replicate-one count (replicate 512 0) bytes i found
      ∙ ap (λ writer. sector_bytes fills (marks_at later.changes (v.disk, first + i)) writer zeroes)
      (sym (erased-none image.disks v.disk first count (first + i) (omega arith)
      (omega (arith, less)))))
      (erased-other image.disks v.disk first count) (disks-then is refl))

  -- so they do
  pub serve-have : DisksHave next (image_heard s (Serve at) image).disks
  serve-have = by_kind v.bio.kind refl
