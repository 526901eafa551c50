-- Where a bio is answered, all is kept: the one that it was made for a piece of records what it
-- tells, and no other bio's records change but its own.
use Rattle.lab_model.proofs.Common.{rules, ap, arith, Bool, false, inl, inr, refl, Some, subst, sym}
use Rattle.lab_model.proofs.Common.{true, ℕ, true≢false, ◌∙◌, ◌≡◌, ◌≢◌, Bio, bio_of, cases_Bool}
use Rattle.lab_model.proofs.Common.{Failed, Gave, InFlight, Read, recorded_at, Sectors}
use Rattle.lab_model.specs.declared.parent.Parent.TheVariants.{FromBio}
use Rattle.lab_model.proofs.Common.{Some-holds, State, Told, told_to, without_bio}
use Rattle.lab_model.specs.Answers.{recorded as told_bio}
use Rattle.law_bytes_carried.proofs.Words.{answered-leaves, entry-within, is_flying, IsAnswered}
use Rattle.law_bytes_carried.proofs.Words.{IsTold, Leaves, Piece, told-each}
use Rattle.law_bytes_carried.proofs.Loads.{flying-is}
use Rattle.law_reads_recorded.specs.Recorded.{span_has, Records}
use Rattle.law_reads_recorded.proofs.Kept.{AllKept, buffer-alike, flown-kept, Kept, Owed, kept-on}
use Rattle.law_reads_recorded.proofs.Kept.{leaves-on, lies-on, owed-lasts, Under}
use Rattle.law_reads_recorded.proofs.Told.{buffer-told, Gives, piece-recorded, TellsUp}

-- a bio that may be answered where all is kept: no bio was made for a piece of it
pub record Answering {S : Type 0} (s : State S) (records : Records) (at : ℕ) : Type 0 where
  pub all : AllKept s.bios records
  pub bio : Bio
  pub lives : bio_of s at ≡ Some bio
  pub childless : (n : ℕ) (child : Bio) (piece : Piece) → bio_of s n ≡ Some child
      → child.parent ≢ FromBio at piece

module _ {S : Type 0} {s : State S} {records : Records} {at : ℕ} (g : Answering s records at)
    (after : Records) (told : Told) (others : (n sector : ℕ) → n ≢ at
    → ((piece : Piece) → g.bio.parent ≢ FromBio n piece) → after n sector ≡ records n sector)
    (tells : (parent : ℕ) (piece : Piece) → g.bio.parent ≡ FromBio parent piece
    → g.bio.kind ≡ Read → TellsUp records after g.bio parent piece told) where
  -- the state without the bio
  abbrev next : State S
  next = told_to (without_bio s at) g.bio told g.bio.parent

  -- what the answer is
  abbrev by : IsAnswered s at next
  by = record { bio = g.bio; lives = g.lives; told = told; bios = refl; logs = refl }

  -- the others are left
  leaves : Leaves s at next
  leaves = answered-leaves by

  -- one that isn't told is kept
  other-kept : (n : ℕ) (y : Bio) → n ≢ at → ((piece : Piece) → g.bio.parent ≢ FromBio n piece)
      → bio_of s n ≡ Some y → Kept next.bios after n y
  other-kept n y off apart stood = kept-on after n (g.all.each n y stood) (search (rules, others))
      (search (rules, leaves-on, leaves)) (search (rules, leaves-on, leaves))

  -- how it stands under one that it was made for a piece of
  under : (n : ℕ) (piece : Piece) → g.bio.parent ≡ FromBio n piece → Under s.bios g.bio n piece
  under n piece is = (g.all.each at g.bio g.lives).lies n piece is

  module _ (n : ℕ) (y : Bio) (is : IsTold s g.bio told n y) where
    -- the bio above with what it has recorded
    abbrev tell : Bio
    tell = told_bio g.bio is.piece told is.old

    -- before that it was kept
    abbrev kept : Kept s.bios records n is.old
    kept = g.all.each n is.old is.stood

    -- it is the one that the bio stands under
    same-above : (under n is.piece is.is_parent).above ≡ is.old
    same-above = Some-holds (sym (under n is.piece is.is_parent).lives ∙ is.stood)

    -- it is a read where the bio is
    reads-too : is.old.kind ≡ Read → g.bio.kind ≡ Read
    reads-too reads = sym (under n is.piece is.is_parent).kind ∙ ap (λ b. b.kind) same-above ∙ reads

    -- its stage before
    was : (failed : Bool) × (buffer : Sectors) × (is.old.stage ≡ InFlight failed buffer)
    was = search (rules, flying-is, is_flying, same-above, under)

    -- it stands where it stood
    stands-on : (p : ℕ) (q : Piece) → is.old.parent ≡ FromBio p q → Under next.bios tell p q
    stands-on = lies-on kept refl (search (rules, leaves-on, leaves, is.stood))

    -- what is owed to it is owed on, but for the piece
    owed-on : (sector : ℕ) → span_has is.piece.span sector ≡ false → Owed s.bios n sector
        → Owed next.bios n sector
    owed-on sector apart owed = owed-lasts owed (search (rules, leaves-on, leaves))

    -- it is kept by what it is told
    kept-by : (t : Told) → told ≡ t → Kept next.bios after n tell
    kept-by Failed same =
        let stage : tell.stage ≡ InFlight true was.1 = search rules in
        flown-kept stage (λ reads. buffer-alike records after n is.old tell was.1 refl
        (subst (TellsUp records after g.bio n is.piece) same
        (tells n is.piece is.is_parent (reads-too reads))) (kept.held reads was.0 was.1 was.2))
        (λ reads sound. absurd (true≢false sound)) stands-on
    kept-by (Gave sectors) same =
        let stage = ap (λ t. recorded_at g.bio is.piece t is.old is.old.stage) same
        ∙ ap (recorded_at g.bio is.piece (Gave sectors) is.old) was.2 in
        let gives : is.old.kind ≡ Read → Gives records after g.bio n is.piece sectors =
        λ reads. subst (TellsUp records after g.bio n is.piece) same
        (tells n is.piece is.is_parent (reads-too reads)) in
        flown-kept stage (λ reads. buffer-alike after after n is.old tell _ refl (λ sector. refl)
        (buffer-told records after g.bio is.old n is.piece sectors
        (search (rules, same-above, under, reads-too reads))
        (gives reads) was.1 (kept.held reads was.0 was.1 was.2)))
        (λ reads sound sector covers nothing. elim (cases_Bool (span_has is.piece.span sector)) [
          | inl own ↦ absurd (piece-recorded records after g.bio is.old n is.piece sectors
              (search (rules, same-above, under, reads-too reads)) (gives reads) was.1
              (kept.held reads was.0 was.1 was.2) sector own nothing)
          | inr apart ↦ owed-on sector apart (kept.owed reads was.1
              (was.2 ∙ ap (λ f. InFlight f was.1) sound) sector covers
              (sym ((gives reads).outside sector apart) ∙ nothing))
        ]) stands-on

  -- so all are
  pub told-kept : AllKept next.bios after
  told-kept = record {
    unmade = λ n far sector.
        let count = leaves.count in
        others n sector (search (rules, entry-within)) (λ q of.
        let above = under n q of in
        absurd (omega (arith, far, count, entry-within s.bios n above.above above.lives)))
        ∙ g.all.unmade n (omega (arith, far, count)) sector;
    each = λ n y there.
        let is = told-each by n y there in
        elim is.1 [
          | inl was ↦ other-kept n y is.0 was.1 was.0
          | inr told_so ↦ subst (Kept next.bios after n) (sym told_so.is)
              (kept-by n y told_so told refl)
        ];
  }
