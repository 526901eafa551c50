-- What holds of bios and of what they have recorded wherever a run stands, and how it is carried
-- over to a bio that goes on as it was; so events that answer nothing keep it.
use Rattle.lab_model.proofs.Common.{rules, ◌<◌, ap, arith, Bool, false, inl, inr, length, List}
use Rattle.lab_model.proofs.Common.{None, refl, Option, Some, sym, true, ℕ, ◌∙◌, ◌≡◌, ◌≢◌}
use Rattle.lab_model.proofs.Common.{◌⊎◌, Bio, bio_of, cases_Bool, effect, InFlight}
use Rattle.lab_model.specs.declared.parent.Parent.TheVariants.{FromBio}
use Rattle.lab_model.proofs.Common.{is_enabled, Meaning, Next, None-not-Some, Read, Scenario, State}
use Rattle.lab_model.proofs.Common.{Sectors, nat_tests}
use Rattle.law_sectors_touched.proofs.KeptBios.{IsNew, Kept as KeptBio}
use Rattle.law_bytes_carried.proofs.Words.{Control, entry_at, is_flying, IsLogs, Leaves, LeavesAll}
use Rattle.law_bytes_carried.proofs.Words.{LiesUnder, moved, Piece}
use Rattle.law_reads_recorded.specs.ReadsRecorded.{IsBuffer}
use Rattle.law_reads_recorded.specs.Recorded.{span_has, Records}

-- a living bio of a piece owes a sector
pub record Owed (bios : List (Option Bio)) (number sector : ℕ) : Type 0 where
  pub child : ℕ
  pub bio : Bio
  pub piece : Piece
  pub lives : entry_at bios child ≡ Some bio
  pub is_piece : bio.parent ≡ FromBio number piece
  pub covers : span_has piece.span sector ≡ true

-- a piece's bio stands under one in flight of its kind, and a read's piece lies in that
pub record Under (bios : List (Option Bio)) (bio : Bio) (parent : ℕ) (piece : Piece) : Type 0 where
  pub above : Bio
  pub lives : entry_at bios parent ≡ Some above
  pub flies : is_flying above.stage ≡ true
  pub kind : above.kind ≡ bio.kind
  pub within : bio.kind ≡ Read → LiesUnder bio.span piece.span above.span

-- a living bio and what it has recorded
pub record Kept (bios : List (Option Bio)) (records : Records) (number : ℕ) (bio : Bio) : Type 0
  where
    pub rests : is_flying bio.stage ≡ false → (sector : ℕ) → records number sector ≡ None
    pub held : bio.kind ≡ Read → (failed : Bool) (buffer : Sectors)
        → bio.stage ≡ InFlight failed buffer → IsBuffer records number bio buffer
    pub owed : bio.kind ≡ Read → (buffer : Sectors) → bio.stage ≡ InFlight false buffer
        → (sector : ℕ) → span_has bio.span sector ≡ true → records number sector ≡ None
        → Owed bios number sector
    pub lies : (parent : ℕ) (piece : Piece) → bio.parent ≡ FromBio parent piece
        → Under bios bio parent piece

-- all living bios, and nothing is recorded of one that isn't made yet
pub record AllKept (bios : List (Option Bio)) (records : Records) : Type 0 where
  pub unmade : (number : ℕ) → length bios < number → (sector : ℕ) → records number sector ≡ None
  pub each : (number : ℕ) (bio : Bio) → entry_at bios number ≡ Some bio
      → Kept bios records number bio

-- a bio lives on
pub record LivesOn (later : List (Option Bio)) (number : ℕ) (old : Bio) : Type 0 where
  pub bio : Bio
  pub lives : entry_at later number ≡ Some bio
  pub same : bio ≡ record old { stage = bio.stage }
  pub flies : is_flying old.stage ≡ true → is_flying bio.stage ≡ true

-- where an event leaves all bios but one, each other lives on
pub leaves-on : {S : Type 0} {s : State S} {at : ℕ} {next : State S} (leaves : Leaves s at next)
    (number : ℕ) (bio : Bio) → entry_at s.bios number ≡ Some bio → number ≢ at
    → LivesOn next.bios number bio
leaves-on leaves number bio lives apart = search (rules, leaves.remains number bio lives apart)

-- a buffer that has what is recorded has it where the same is recorded
pub buffer-alike : (records after : Records) (number : ℕ) (old bio : Bio) (buffer : Sectors)
    → bio.span ≡ old.span → ((sector : ℕ) → after number sector ≡ records number sector)
    → IsBuffer records number old buffer → IsBuffer after number bio buffer
buffer-alike records after number old bio buffer same kept is = search rules

-- what a living bio owes is owed where it lives on
pub owed-lasts : {bios later : List (Option Bio)} {number sector : ℕ}
    (owed : Owed bios number sector) → LivesOn later owed.child owed.bio → Owed later number sector
owed-lasts owed on = search rules

-- the piece of a bio lies under what it was made for
abbrev pub LiesIn : List (Option Bio) → Bio → Type 0
LiesIn later bio = (parent : ℕ) (piece : Piece) → bio.parent ≡ FromBio parent piece
    → Under later bio parent piece

-- a bio that isn't in flight is kept where nothing is recorded of it
pub rest-kept : {later : List (Option Bio)} {after : Records} {number : ℕ} {bio : Bio}
    → is_flying bio.stage ≡ false → ((sector : ℕ) → after number sector ≡ None)
    → LiesIn later bio → Kept later after number bio
rest-kept rests nothing lies = search rules

-- one in flight is kept where its buffer has what is recorded, and the rest is owed if it is sound
pub flown-kept : {later : List (Option Bio)} {after : Records} {number : ℕ} {bio : Bio}
    {failed : Bool} {buffer : Sectors} → bio.stage ≡ InFlight failed buffer
    → (bio.kind ≡ Read → IsBuffer after number bio buffer)
    → (bio.kind ≡ Read → failed ≡ false → (sector : ℕ) → span_has bio.span sector ≡ true
    → after number sector ≡ None → Owed later number sector)
    → LiesIn later bio → Kept later after number bio
flown-kept {after = after} {number = number} {bio = bio} stage holds rest lies = search rules

-- the bios that one was made for a piece of live on
abbrev pub AboveOn : List (Option Bio) → List (Option Bio) → Bio → Type 0
AboveOn bios later bio = (parent : ℕ) (piece : Piece) (above : Bio) → bio.parent
    ≡ FromBio parent piece → entry_at bios parent ≡ Some above → LivesOn later parent above

-- the bios that were made for pieces of one live on
abbrev pub BelowOn : List (Option Bio) → List (Option Bio) → ℕ → Type 0
BelowOn bios later number = (child : ℕ) (bio : Bio) (piece : Piece) → entry_at bios child ≡ Some bio
    → bio.parent ≡ FromBio number piece → LivesOn later child bio

-- the piece of a bio lies where it did
pub lies-on : {bios later : List (Option Bio)} {records : Records} {number : ℕ} {old bio : Bio}
    → Kept bios records number old → bio ≡ record old { stage = bio.stage }
    → AboveOn bios later old → LiesIn later bio
lies-on {old = old} {bio = bio} kept same above parent piece is =
    let of = ap (λ b. b.parent) (sym same) ∙ is in
    let under = kept.lies parent piece of in
    let on = above parent piece under.above of under.lives in
    search rules

-- a bio of which the same is recorded is kept, where those above it and below it live on
pub kept-on : {bios later : List (Option Bio)} {records : Records} (after : Records) (number : ℕ)
    {bio : Bio} → Kept bios records number bio
    → ((sector : ℕ) → after number sector ≡ records number sector) → BelowOn bios later number
    → AboveOn bios later bio → Kept later after number bio
kept-on {records = records} after number {bio} kept same below above = record {
  rests = λ rests sector. same sector ∙ kept.rests rests sector;
  held = λ reads failed buffer is. buffer-alike records after number bio bio buffer refl same
      (kept.held reads failed buffer is);
  owed = λ reads buffer is sector covers none.
      let owed = kept.owed reads buffer is sector covers (sym (same sector) ∙ none) in
      owed-lasts owed (below owed.child owed.bio owed.piece owed.lives owed.is_piece);
  lies = lies-on kept refl above;
}

module _ {S : Type 0} (s next : State S) (records : Records) (all : AllKept s.bios records) where
  -- with a step of the script no bio changes
  pub control-kept : (m : Meaning S) (c : Scenario S) → is_enabled c s Control ≡ true
      → effect m c s Control ≡ Next next → AllKept next.bios records
  control-kept m c may leads = grind (arith, nat_tests, moved)

  module _ (left : LeavesAll s next) where
    -- where an event leaves all bios, each lives on
    left-on : (number : ℕ) (bio : Bio) → entry_at s.bios number ≡ Some bio
        → LivesOn next.bios number bio
    left-on number bio lives = leaves-on left.leaves number bio lives
        (λ is. None-not-Some (ap (bio_of s) (sym is) ∙ lives))

    -- so each is kept, and nothing is recorded of a new one
    left-each : (number : ℕ) (bio : Bio) → entry_at next.bios number ≡ Some bio
        → KeptBio s number bio ⊎ IsNew s number bio → Kept next.bios records number bio
    left-each number bio lives (inl kept) =
        let above = λ (parent : ℕ) (piece : Piece) (a : Bio) (is : kept.old.parent
        ≡ FromBio parent piece) (there : entry_at s.bios parent ≡ Some a). left-on parent a there in
        elim (cases_Bool (is_flying bio.stage)) [
          | inl flies ↦ kept-on records number
              (all.each number bio (left.same number bio lives flies)) (λ sector. refl)
              (λ child b piece there is. left-on child b there)
              (λ parent piece a is there. left-on parent a there)
          | inr rests ↦
              let old = all.each number kept.old kept.stood in
              rest-kept rests (old.rests (sym kept.flies ∙ rests)) (lies-on old kept.same above)
        ]
    left-each number bio lives (inr new) = search (rules, rest-kept, is_flying, IsLogs)

    -- so all are
    pub left-kept : AllKept next.bios records
    left-kept = search (rules, left-each)
