-- After an event each living bio is one that lived before, of the same kind, sectors and parent, or
-- a new one; so all have recorded what they give. A bio that is answered is gone, and the one that
-- it is a piece of has recorded as many sectors as before.
use Rattle.lab_model.proofs.Common.{rules, ◌≡◌, ◌⊎◌, inl, inr, ℕ, ◌<◌, List, Option, Some, length}
use Rattle.lab_model.proofs.Common.{subst, option_map, Kind, Meaning, Bio, InFlight, arith}
use Rattle.lab_model.proofs.Common.{Stage, change_numbered, Scenario, common_steps}
use Rattle.lab_model.specs.declared.parent.Parent.{Parent}
use Rattle.lab_model.specs.declared.parent.Parent.TheVariants.{FromLog, FromBio}
use Rattle.lab_model.proofs.Common.{State, bio_of, length-drop, length-take, Bool, None}
use Rattle.lab_model.proofs.Common.{if◌then◌else◌, leb-true, Failed, Gave, Told}
use Rattle.lab_model.proofs.Common.{recorded_at, told_to, without_bio, Sectors}
use Rattle.law_never_wrong.specs.Fits.{Fits, FitsParent}
use Rattle.law_never_wrong.proofs.NumberedEntries.{entry_at, inside-cases, removed-cases}
use Rattle.law_never_wrong.proofs.NumberedEntries.{entry-within}
use Rattle.law_needs_met.proofs.Recorded.{HasRecorded, IsRecorded, LiesAmong, LiesInParent}
use Rattle.law_needs_met.proofs.Recorded.{Recorded, given-place}
use Rattle.lab_model.specs.declared.piece.Piece.{Piece}
use Rattle.lab_model.specs.Answers.{HasPlaceIn}
use Rattle.law_never_wrong.proofs.ChildFits.{length-marked}
use Rattle.lab_model.specs.Given.{HasPlace, given_len}
use Rattle.law_slots.proofs.ByBio.{Answers}

-- a bio that lived before
pub record LivedBefore {S : Type 0} (s : State S) (number : ℕ) (bio : Bio) : Type 0 where
  pub old : Bio
  pub stood : bio_of s number ≡ Some old
  pub kind : bio.kind ≡ old.kind
  pub span : bio.span ≡ old.span
  pub parent : bio.parent ≡ old.parent
  pub flown : HasRecorded bio.kind bio.span bio.stage

-- a bio that is new, numbered behind all that were
pub record IsNew {S : Type 0} (s next : State S) (number : ℕ) (bio : Bio) : Type 0 where
  pub behind : length s.bios < number
  pub is : IsRecorded next bio

-- each living bio is one of these
abbrev pub AllLivedOrNew : {S : Type 0} → State S → State S → Type 0
AllLivedOrNew s next = (number : ℕ) (bio : Bio) → bio_of next number ≡ Some bio
    → LivedBefore s number bio ⊎ IsNew s next number bio

-- a bio that lives on as it was
pub itself-followed : {S : Type 0} (s : State S) → Recorded s → (number : ℕ) (bio : Bio)
    → bio_of s number ≡ Some bio → LivedBefore s number bio
itself-followed s recorded number bio lives = search rules

-- where the stage of one bio changes, each that lives lived before
pub staged-followed : {S : Type 0} (s : State S) → Recorded s → (entries : List (Option Bio))
    → ((number : ℕ) (bio : Bio) → entry_at entries number ≡ Some bio → bio_of s number ≡ Some bio)
    → (stage : Bio → Stage) (at : ℕ)
    → ((old : Bio) → bio_of s at ≡ Some old → HasRecorded old.kind old.span (stage old))
    → (number : ℕ) (bio : Bio)
    → entry_at (change_numbered entries at
    (option_map (λ (b : Bio). record b { stage = stage b }))) number
    ≡ Some bio → LivedBefore s number bio
staged-followed s recorded entries stood stage at flown number bio lives =
    elim (inside-cases (λ b. record b { stage = stage b }) entries at number bio lives) [
      | inl became ↦ search (rules, HasRecorded)
      | inr kept ↦ itself-followed s recorded number bio (stood number bio kept.1)
    ]

module _ {S : Type 0} (m : Meaning S) (c : Scenario S) (s next : State S) (fits : Fits m c s)
    (recorded : Recorded s) (follows : AllLivedOrNew s next) where
  -- the piece of one that lived lies as before: the bio above lived too, with the same sectors
  old-piece : (number : ℕ) (old : Bio) → bio_of s number ≡ Some old → (kind : Kind)
      → kind ≡ old.kind → (parent : Parent) → old.parent ≡ parent
      → LiesInParent next kind parent
  old-piece number old stood kind same (FromLog log line action) is = tt
  old-piece number old stood kind same (FromBio parent piece) is = λ above lives reads.
      let stands : FitsParent m c s number old (FromBio parent piece) =
      subst (FitsParent m c s number old) is (fits.bios number old stood).parent in
      let lay : LiesInParent s old.kind (FromBio parent piece) =
      subst (LiesInParent s old.kind) is (recorded number old stood).piece in
      elim (follows parent above lives) [
        | inl before ↦ search (rules, LiesAmong)
        | inr new ↦ search (rules, entry-within)
      ]

  -- so each living bio has recorded what it gives
  pub follows-recorded : Recorded next
  follows-recorded number bio lives = search (rules, follows number bio lives, old-piece)

-- what a bio tells has its place at one above it
abbrev TellsIn : Piece → Told → Bio → Stage → Type 0
TellsIn piece Failed above stage = Unit {0}
TellsIn piece (Gave sectors) above stage = HasPlaceIn piece (length sectors) above stage

-- the bio above has recorded as much as before
recorded-flown : (child : Bio) (piece : Piece) (told : Told) (above : Bio) (stage : Stage)
    → HasRecorded above.kind above.span stage → TellsIn piece told above stage
    → HasRecorded above.kind above.span (recorded_at child piece told above stage)
recorded-flown child piece (Gave sectors) above (InFlight failed answered) has tells =
    grind (arith, common_steps, length-marked child.marks sectors)
recorded-flown child piece told above stage has tells = search rules

-- a bio tells as many sectors as it gives
abbrev Gives : Bio → Told → Type 0
Gives bio Failed = Unit {0}
Gives bio (Gave sectors) = length sectors ≡ given_len bio.kind bio.span

module _ {S : Type 0} (m : Meaning S) (c : Scenario S) (s : State S) (fits : Fits m c s)
    (all : Recorded s) (at : ℕ) (next : State S) (is : Answers s at next) where
  -- what the bio tells has its place at the one above
  tells-in : (told : Told) → Gives is.bio told → (parent : ℕ) (piece : Piece)
      → is.bio.parent ≡ FromBio parent piece → (above : Bio) → bio_of s parent ≡ Some above
      → TellsIn piece told above above.stage
  tells-in Failed gives parent piece from above stood = tt
  tells-in (Gave sectors) gives parent piece from above stood =
      let place : HasPlace s.bios (length sectors) (FromBio parent piece) =
      subst (HasPlace s.bios (length sectors)) from
      (given-place m c s fits all at is.bio is.lives (length sectors) gives) in
      search rules

  -- whoever is told, each that lives then lived before
  told-follows : (told : Told) → Gives is.bio told → (parent : Parent) → is.bio.parent ≡ parent
      → (number : ℕ) (y : Bio)
      → bio_of (told_to (without_bio (record s { disks = is.disks }) at) is.bio told parent) number
      ≡ Some y → LivedBefore s number y
  told-follows told gives (FromLog log line action) from number y lives =
      itself-followed s all number y (removed-cases s.bios at number y lives).1
  told-follows told gives (FromBio parent piece) from number y lives =
      staged-followed s all (change_numbered s.bios at (λ entry. None))
      (λ n b there. (removed-cases s.bios at n b there).1)
      (λ above. recorded_at is.bio piece told above above.stage) parent
      (search (rules, recorded-flown, tells-in))
      number y lives

  -- what a bio in flight tells
  landed-gives : (failed : Bool) (sectors : Sectors)
      → length sectors ≡ given_len is.bio.kind is.bio.span
      → Gives is.bio (if failed then Failed else Gave sectors)
  landed-gives failed sectors has = search rules

  -- a bio that is answered
  pub answers-follows : AllLivedOrNew s next
  answers-follows number y lives =
      search (rules, told-follows, leb-true, length-take, length-drop, landed-gives)
