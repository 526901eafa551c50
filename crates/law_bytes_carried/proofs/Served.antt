-- Sectors by their place: of a part, of what is put among others, and of sectors of one byte. What
-- a disk does for a bio: what it gives, and which bytes it has at the bio's sectors after that.
use Rattle.lab_model.proofs.Common.{rules, ◌++◌, ◌+◌, ◌-◌, ◌<◌, [], ap, arith, drop, inl, inr}
use Rattle.lab_model.proofs.Common.{length, List, suc, refl, slice_get, Some, take, zero, ℕ, ◌∙◌}
use Rattle.lab_model.proofs.Common.{◌∷◌, ◌≡◌, ◌≤◌, ◌⊎◌, filled, length-take-le, part, put}
use Rattle.lab_model.proofs.Common.{replicate, Sectors, Span, slice_get-front}
use Rattle.lab_model.proofs.Common.{length-drop, length-take, sym, ◌≢◌}
use Rattle.lab_model.proofs.Common.{answered, Bio, disk_of, Flush}
use Rattle.lab_model.proofs.Common.{Gave, Kind, Meaning, Read, Scenario, served}
use Rattle.lab_model.proofs.Common.{slice_get-within, State, Told, told_to, Trim, with_disk}
use Rattle.lab_model.proofs.Common.{without_bio, Write}
use Rattle.law_bytes_carried.proofs.Words.{slice_get-back, Fits, length-filled, same-disk}
use Rattle.law_bytes_carried.proofs.Words.{sectors_in, Serving}
use Rattle.lab_model.specs.Tables.{end_of}
use Rattle.law_answered_once.proofs.BioMoves.{told_to-bios, told_to-logs}
use Rattle.law_bytes_carried.specs.Carried.{bytes_at}

module _ {X : Type 0} where
  -- what is taken from the front stands where it stood
  slice_get-take : (xs : List X) (len i : ℕ) → i < len → slice_get (take len xs) i ≡ slice_get xs i
  slice_get-take xs zero i less = absurd (omega (arith, less))
  slice_get-take (x ∷ xs) (suc len) (suc i) less = slice_get-take xs len i (omega (arith, less))
  slice_get-take _ (suc len) _ less = refl

  -- what is left behind the front stood so much further on
  slice_get-drop : (xs : List X) (from i : ℕ) → slice_get (drop from xs) i ≡ slice_get xs (from + i)
  slice_get-drop xs zero i = search rules
  slice_get-drop [] (suc from) i = search rules
  slice_get-drop (x ∷ xs) (suc from) i = search (rules, slice_get-drop xs from i)

-- so with a part
pub part-place : (sectors : Sectors) (span : Span) (i : ℕ) → i < span.len
    → slice_get (part sectors span) i ≡ slice_get sectors (span.first + i)
part-place sectors span i less = search (rules, slice_get-take, slice_get-drop)

-- what is put among sectors stands there
pub put-there : (sectors : Sectors) (first : ℕ) (others : Sectors) (i : ℕ) → first ≤ length sectors
    → i < length others → slice_get (put sectors first others) (first + i) ≡ slice_get others i
put-there sectors first others i up less =
    search (rules, length-take-le, slice_get-back, slice_get-front)

-- what is in front of it or behind it stays
pub put-outside : (sectors : Sectors) (first : ℕ) (others : Sectors) (i : ℕ)
    → first ≤ length sectors → (i < first) ⊎ (first + length others ≤ i)
    → slice_get (put sectors first others) i ≡ slice_get sectors i
put-outside sectors first others i up (inl less) =
    search (rules, slice_get-front, length-take-le, slice_get-take)
put-outside sectors first others i up (inr over) =
    let k = i - (first + length others) in
    let there : i ≡ length (take first sectors) + (length others + k) =
    omega (arith, length-take-le first sectors up, over) in
    let back : (first + length others) + k ≡ i = omega (arith, over) in
    ap (slice_get (put sectors first others)) there ∙ slice_get-back (take first sectors)
    (others ++ drop (first + length others) sectors) (length others + k)
    ∙ slice_get-back others (drop (first + length others) sectors) k
    ∙ slice_get-drop sectors (first + length others) k ∙ ap (slice_get sectors) back

-- each of so many copies of an item is that item
pub replicate-place : {X : Type 0} (count : ℕ) (x : X) (i : ℕ) → i < count
    → slice_get (replicate count x) i ≡ Some x
replicate-place zero x i less = absurd (omega arith)
replicate-place (suc count) x i less = search (rules, replicate-place count x)

-- the bytes that a disk has at a place of a bio
abbrev pub bytes_for : {S : Type 0} → State S → ℕ → Bio → ℕ → List ℕ
bytes_for s disk bio i = bytes_at s (record { disk = disk; sector = bio.span.first + i })

-- a read that a disk has served: it is answered with what the disk has at its sectors
pub record ReadServed {S : Type 0} (s : State S) (at : ℕ) (bio : Bio) (disk : ℕ) (next : State S)
    : Type 0 where
  pub sectors : Sectors
  pub stands : disk_of s disk ≡ Some sectors
  pub inside : bio.span.first + bio.span.len ≤ length sectors
  pub is : next ≡ answered s at bio (Gave (part sectors bio.span))

-- the bytes that an operation of a kind moves: those that a read gives, a write's own, or zeroes
abbrev pub moved_of : Kind → Sectors → Bio → Sectors
moved_of Read given bio = given
moved_of Write given bio = bio.sectors
moved_of Trim given bio = filled bio.span.len 0
moved_of Flush given bio = []

-- a bio that a disk has served: it is answered by what the disk gives, and the disk has the bytes
-- that it moves at its sectors after that
pub record IsServed {S : Type 0} (s : State S) (at : ℕ) (bio : Bio) (disk : ℕ) (next : State S)
    : Type 0 where
  pub given : Sectors
  pub bios : next.bios ≡ (told_to (without_bio s at) bio (Gave given) bio.parent).bios
  pub logs : next.logs ≡ (told_to (without_bio s at) bio (Gave given) bio.parent).logs
  pub read : bio.kind ≡ Read → ReadServed s at bio disk next
  pub size : bio.kind ≡ Read → length given ≡ bio.span.len
  pub moves : bio.kind ≢ Flush → (i : ℕ) → i < bio.span.len
      → slice_get (moved_of bio.kind given bio) i ≡ Some (bytes_for next disk bio i)

module _ {S : Type 0} (s : State S) (at : ℕ) (bio : Bio)
    (fills : bio.kind ≡ Write → length bio.sectors ≡ bio.span.len) (disk : ℕ)
    (sectors : Sectors) (stands : disk_of s disk ≡ Some sectors) where
  -- what a disk has at the places of a bio after it is answered is there
  after-answer : (t : State S) (told : Told) (held others : Sectors) → disk_of t disk ≡ Some held
      → ((i : ℕ) → i < bio.span.len
      → slice_get others i ≡ slice_get held (bio.span.first + i)) → length others ≡ bio.span.len
      → (i : ℕ) → i < bio.span.len → slice_get others i
      ≡ Some (bytes_for (told_to (without_bio t at) bio told bio.parent) disk bio i)
  after-answer t told held others has same long i less =
      let found = slice_get-within others i (omega (arith, long, less)) in
      let stood : disk_of (told_to (without_bio t at) bio told bio.parent) disk ≡ Some held =
      ap (sectors_in disk) (search rules) ∙ has in
      search rules

  module _ (inside : bio.span.first + bio.span.len ≤ length sectors) where
    -- a read
    read-served : bio.kind ≡ Read
        → IsServed s at bio disk (answered s at bio (Gave (part sectors bio.span)))
    read-served is = search (rules, length-take, length-drop, after-answer, part-place)

    -- what isn't a read is served by what it puts there
    put-served : (others : Sectors) → bio.kind ≢ Read → moved_of bio.kind [] bio ≡ others
        → length others ≡ bio.span.len → IsServed s at bio disk
        (answered (with_disk s disk (put sectors bio.span.first others)) at bio (Gave []))
    put-served others apart own long =
        let held = put sectors bio.span.first others in
        record {
          given = [];
          bios = told_to-bios (without_bio s at) (with_disk s disk held).disks bio (Gave [])
              bio.parent;
          logs = told_to-logs (without_bio s at) (with_disk s disk held).disks bio (Gave [])
              bio.parent;
          read = λ reads. absurd (apart reads);
          size = λ reads. absurd (apart reads);
          moves = λ sized i less. ap (λ x. slice_get x i) own ∙ after-answer (with_disk s disk held)
              (Gave []) held others (same-disk disk held sectors s.disks stands)
              (λ k below. sym (put-there sectors bio.span.first others k (omega (arith, inside))
              (omega (arith, long, below)))) long i less;
        }

  -- by its kind
  served-is : (kind : Kind) → bio.kind ≡ kind → end_of kind bio.span ≤ length sectors
      → IsServed s at bio disk (served s at bio disk sectors kind)
  served-is Read is inside = read-served inside is
  served-is Write is inside = search (rules, put-served)
  served-is Trim is inside = put-served inside (filled bio.span.len 0) (λ reads. cc (is, reads))
      (ap (λ k. moved_of k [] bio) is) (length-filled bio.span.len 0)
  served-is Flush is inside = search rules

-- what a disk serves is served so
pub serving-is : {S : Type 0} {m : Meaning S} {c : Scenario S} {s next : State S} → Fits m c s
    → {at : ℕ} (v : Serving s at next) → IsServed s at v.bio v.disk next
serving-is {s = s} fits {at = at} v = rw v.next_is (served-is s at v.bio
    (fits.bios at v.bio v.lives).fills v.disk v.sectors v.stands v.bio.kind refl v.inside)
