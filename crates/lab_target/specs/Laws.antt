-- What every target keeps to (this project's own; cut, shift and corruption as the kernel's
-- targets do them).
use Rattle.std.specs.Prelude.{◌≡◌, ◌≢◌, ℕ, ◌+◌, ◌*◌, ◌<◌, ◌≤◌, ◌==◌, ◌&&◌, ◌||◌, Bool, nat_le, List, [], length, Option, Some, Ok, Err, true, IfSome}
use Rattle.std.specs.List.{list_all}
use Rattle.lab_sector.specs.declared.device.DevNo.{DevNo}
use Rattle.lab_sector.specs.declared.request.Kind.{Kind}
use Rattle.lab_sector.specs.declared.request.Kind.TheVariants.{Read, Flush}
use Rattle.lab_sector.specs.declared.span.Span.{Span}
pub use Rattle.lab_sector.specs.Span.{greatest_sector}
use Rattle.lab_text.specs.Words.{words_of}
use Rattle.lab_target.specs.declared.fault.TargetFault.TheVariants.{Device, NoMemory, Unknown}
use Rattle.lab_target.specs.declared.verdict.Held.{Held}
use Rattle.lab_target.specs.declared.verdict.Mark.{Mark}
use Rattle.lab_target.specs.declared.verdict.Marks.{Marks}
use Rattle.lab_target.specs.declared.verdict.Verdict.{Verdict}
use Rattle.lab_target.specs.declared.verdict.Verdict.TheVariants.{Pass, Done, Zeroes, Fail}
use Rattle.lab_target.specs.Meaning.{Shape, Draft, Meaning}
use Rattle.lab_target.specs.Reading.{resolved, FindsPrinted}

-- the greatest hold, an hour in microseconds
abbrev pub longest_hold : ℕ
longest_hold = 3600000000

-- the sectors that stand for a piece behind a reference
abbrev pub shifted : ℕ → Span → Span
shifted first piece = record { first = first + piece.first; len = piece.len }

-- a run of places from `at` on is cut after so many: they are in one block, and the next, if
-- it is asked for, isn't
pub record CutsAt (block : ℕ → ℕ) (place left count : ℕ) : Type 0 where
  pub some : 0 < count
  pub within : count ≤ left
  pub together : (i : ℕ) → i < count → block (place + i) ≡ block place
  pub apart : count < left → block (place + count) ≢ block place

-- what may be judged: a flush's empty piece, or some places of the line
abbrev pub IsPiece : Kind → Span → Type 0
IsPiece Flush piece = piece ≡ record { first = 0; len = 0 }
IsPiece _ piece = 0 < piece.len

-- the marked byte is in the piece
abbrev pub MarksInside : Span → Mark → Type 0
MarksInside piece mark =
    (512 * piece.first ≤ mark.place) × (mark.place < 512 * (piece.first + piece.len))

-- a pass goes where the line's reference for the kind stands
pub record PassAllowed {S : Type 0} (shape : Shape S) (kind : Kind) (piece : Span)
    (device : DevNo) (span : Span) (hold : ℕ) (marks : Marks) : Type 0 where
  pub refers : (first : ℕ) × (shape.reference kind ≡ Some
      (record { dev = device; first = first })) × (span ≡ shifted first piece)
  pub holds : 0 < hold → shape.may_hold kind ≡ true
  pub fixed : IfSome marks.fixed (MarksInside piece)
  pub random : IfSome marks.random (MarksInside piece)

-- a line of this shape may answer a piece so
abbrev pub Allowed : {S : Type 0} → Shape S → Kind → Span → Verdict → Type 0
Allowed shape kind piece (Pass device span hold marks) =
    PassAllowed shape kind piece device span hold marks
Allowed shape kind piece Done = kind ≢ Read
Allowed shape kind piece Zeroes = kind ≡ Read
Allowed shape kind piece Fail = Unit {0}

-- a mark that is a byte
abbrev pub IsByte : Mark → Type 0
IsByte mark = mark.value < 256

-- what a pass of a sound target keeps to: holds of an hour at most, and marks that are bytes
abbrev pub Bounded : Verdict → Type 0
Bounded (Pass device span hold marks) =
    (hold ≤ longest_hold) × IfSome marks.fixed IsByte × IfSome marks.random IsByte
Bounded _ = Unit {0}

-- a byte that stands in a line of text: a tab or 0x20 to 0x7E
abbrev pub is_plain : ℕ → Bool
is_plain byte = byte == 9 || (nat_le 32 byte && nat_le byte 126)

-- the laws of a type of target
pub record Lawful {S : Type 0} (m : Meaning S) : Type 0 where
  -- nothing that happens to a target changes its shape
  pub started : (t : S) (now : ℕ) → m.shape (m.started t now) ≡ m.shape t
  pub judged : (t : S) (kind : Kind) (piece : Span) (now : ℕ) → m.shape
      (m.judged t kind piece now) ≡ m.shape t
  pub messaged : (t : S) (words : List (List ℕ)) → m.shape (m.messaged t words) ≡ m.shape t
  pub opening : (t : S) → m.shape (m.shape t).opening ≡ m.shape t
  -- blocks go up with the places
  pub rises : (t : S) (place further : ℕ) → place ≤ further → (m.shape t).block place ≤
      (m.shape t).block further
  -- a target of one shape with a sound one is sound
  pub sound : (t other : S) → m.shape other ≡ m.shape t → m.is_sound t ≡ true
      → m.is_sound other ≡ true
  -- a sound target refers to sectors that a table may name, holds for an hour at most, and
  -- marks bytes
  pub near : (t : S) → m.is_sound t ≡ true → (kind : Kind) → IfSome ((m.shape t).reference kind)
      (λ r. r.first ≤ greatest_sector)
  pub bounded : (t : S) → m.is_sound t ≡ true → (kind : Kind) (piece : Span) (now : ℕ) → Bounded
      (m.verdict t kind piece now)
  -- verdicts
  pub verdicts : (t : S) (kind : Kind) (piece : Span) (now : ℕ) → IsPiece kind piece
      → Allowed (m.shape t) kind piece (m.verdict t kind piece now)
  -- words: none are of no type, and devices are looked up after all else
  pub none : (len : ℕ) → m.parsed [] len ≡ Err Unknown
  pub not_device : (words : List (List ℕ)) (len : ℕ) → m.parsed words len ≢ Err Device
  pub not_memory : (words : List (List ℕ)) (len : ℕ) → m.parsed words len ≢ Err NoMemory
  -- texts are one line each
  pub plain_printed : (t : S) → list_all is_plain (m.shape t).printed ≡ true
  pub plain_reply : (t : S) (words : List (List ℕ)) → list_all is_plain (m.reply t words) ≡ true
  pub plain_status : (t : S) (now : ℕ) (held : Held) → list_all is_plain
      (m.status t now held) ≡ true
  -- what is read is sound, and in its opening state
  pub made_sound : (words : List (List ℕ)) (len : ℕ) (draft : Draft S)
      → m.parsed words len ≡ Ok draft
      → (devices : List DevNo) → m.is_sound (draft.made devices) ≡ true
  pub opened : (words : List (List ℕ)) (len : ℕ) (draft : Draft S) → m.parsed words len ≡ Ok draft
      → (devices : List DevNo) → (m.shape (draft.made devices)).opening ≡ draft.made devices
  -- what is printed reads back
  pub printed : (words : List (List ℕ)) (len : ℕ) (draft : Draft S) → m.parsed words len ≡ Ok draft
      → (devices : List DevNo) → length devices ≡ length draft.devices
      → (found : List ℕ → Option DevNo) → FindsPrinted found devices
      → resolved found (m.parsed (words_of (m.shape (draft.made devices)).printed) len) ≡ Ok
      (draft.made devices)
