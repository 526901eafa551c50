-- What each living bio has recorded, and where the piece lies that it was made for: so what it
-- gives has its place at the bio that it is a piece of.
use Rattle.lab_model.proofs.Common.{rules, ◌≡◌, ℕ, ◌+◌, ◌≤◌, Some, length, Kind, Read, Span}
use Rattle.lab_model.proofs.Common.{Meaning, Bio, Stage, InFlight}
use Rattle.lab_model.specs.declared.parent.Parent.{Parent}
use Rattle.lab_model.specs.declared.parent.Parent.TheVariants.{FromLog, FromBio}
use Rattle.lab_model.proofs.Common.{Scenario, State, bio_of}
use Rattle.lab_model.specs.Given.{HasPlace, given_len}
use Rattle.law_never_wrong.specs.Fits.{Fits}

-- a bio in flight has recorded as many sectors as it gives
abbrev pub HasRecorded : Kind → Span → Stage → Type 0
HasRecorded kind span (InFlight failed answered) = length answered ≡ given_len kind span
HasRecorded kind span _ = Unit {0}

-- some sectors lie among others
pub record LiesAmong (whole piece : Span) : Type 0 where
  pub from : whole.first ≤ piece.first
  pub within : piece.first + piece.len ≤ whole.first + whole.len

-- the piece of a read lies in the bio that it is a piece of
abbrev pub LiesInParent : {S : Type 0} → State S → Kind → Parent → Type 0
LiesInParent s kind (FromLog log line action) = Unit {0}
LiesInParent s kind (FromBio number piece) = (above : Bio) → bio_of s number ≡ Some above
    → kind ≡ Read → LiesAmong above.span piece.span

-- a living bio stands so
pub record IsRecorded {S : Type 0} (s : State S) (bio : Bio) : Type 0 where
  pub flown : HasRecorded bio.kind bio.span bio.stage
  pub piece : LiesInParent s bio.kind bio.parent

-- all living bios stand so
abbrev pub Recorded : {S : Type 0} → State S → Type 0
Recorded s = (number : ℕ) (bio : Bio) → bio_of s number ≡ Some bio → IsRecorded s bio

module _ {S : Type 0} (m : Meaning S) (c : Scenario S) (s : State S) (fits : Fits m c s)
    (recorded : Recorded s) where
  -- so what a living bio gives has its place
  pub given-place : (number : ℕ) (bio : Bio) → bio_of s number ≡ Some bio → (count : ℕ)
      → count ≡ given_len bio.kind bio.span → HasPlace s.bios count bio.parent
  given-place number bio lives count gives =
      search (rules, (fits.bios number bio lives).parent, (recorded number bio lives).piece)
