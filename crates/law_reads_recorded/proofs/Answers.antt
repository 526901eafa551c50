-- Where a bio is answered with what is recorded of it, all is kept; and a read in flight that has
-- not failed has recorded all, once no bio owes it anything, and is answered with that where it is
-- finished.
use Rattle.lab_model.proofs.Common.{rules, ◌+◌, ◌<◌, ap, arith, Bool, false, if◌then◌else◌, List, ℕ}
use Rattle.lab_model.proofs.Common.{None, Option, refl, slice_get, Some, subst, sym, true}
use Rattle.lab_model.proofs.Common.{◌∙◌, ◌≡◌, ◌≢◌, answered, Bio, effect, Failed}
use Rattle.lab_model.proofs.Common.{Gave, InFlight, Meaning, Next, Read, Scenario}
use Rattle.lab_model.specs.declared.parent.Parent.TheVariants.{FromBio}
use Rattle.lab_model.specs.declared.parent.Parent.{Parent}
use Rattle.lab_model.proofs.Common.{Sectors, slice_get_within, State, told_to}
use Rattle.lab_model.proofs.Common.{without_bio}
use Rattle.law_bytes_carried.proofs.Words.{Finish, Finishing, Piece}
use Rattle.law_reads_recorded.specs.ReadsRecorded.{AnswersSo, IsAllOf, IsBuffer}
use Rattle.law_reads_recorded.specs.Recorded.{recording, Records, told_up}
use Rattle.law_reads_recorded.proofs.Answered.{Answering, told-kept}
use Rattle.law_reads_recorded.proofs.Kept.{AllKept}
use Rattle.law_reads_recorded.proofs.Told.{Gives, in-has}

-- a bio that tells nothing of another leaves its records
pub told_up-other : (records : Records) (at : ℕ) (bio : Bio) (parent : Parent) (n sector : ℕ)
    → ((piece : Piece) → parent ≢ FromBio n piece)
    → told_up records at bio parent n sector ≡ records n sector
told_up-other records at bio parent n sector apart = search rules

-- a bio all of whose sectors are recorded tells them
told_up-gives : (records own : Records) (at : ℕ) (bio : Bio) (parent : ℕ) (piece : Piece)
    (sectors : Sectors) → ((sector : ℕ) → own parent sector ≡ records parent sector)
    → IsAllOf own at bio sectors
    → Gives records (told_up own at bio (FromBio parent piece)) bio parent piece sectors
told_up-gives records own at bio parent piece sectors same all = search rules

module _ {S : Type 0} {s : State S} {records : Records} {at : ℕ} (g : Answering s records at) where
  -- it wasn't made for a piece of itself
  not-own : (piece : Piece) → g.bio.parent ≢ FromBio at piece
  not-own piece is = g.childless at g.bio piece g.lives is

  -- where it has told what is recorded of it
  pub gave-kept : (own : Records) (sectors : Sectors) → ((n sector : ℕ) → n ≢ at
      → own n sector ≡ records n sector) → (g.bio.kind ≡ Read → IsAllOf own at g.bio sectors)
      → AllKept (told_to (without_bio s at) g.bio (Gave sectors) g.bio.parent).bios
      (told_up own at g.bio g.bio.parent)
  gave-kept own sectors same has_all = told-kept g (told_up own at g.bio g.bio.parent)
      (Gave sectors)
      (search (rules, told_up-other)) (search (rules, Gives, told_up-gives, not-own))

  -- what is recorded of itself stays
  pub all-stays : (own : Records) (sectors : Sectors) → IsAllOf own at g.bio sectors
      → IsAllOf (told_up own at g.bio g.bio.parent) at g.bio sectors
  all-stays own sectors is = search rules

  -- a read that hasn't failed has recorded all
  pub all-recorded : g.bio.kind ≡ Read → (buffer : Sectors) → g.bio.stage ≡ InFlight false buffer
      → IsAllOf records at g.bio buffer
  all-recorded reads buffer is = record {
    size = held.size;
    each = λ place bytes there. by_record place bytes there (omega
        (arith, slice_get_within buffer place bytes there, held.size))
        (records at (g.bio.span.first + place)) refl;
  }
    where
      held : IsBuffer records at g.bio buffer
      held = (g.all.each at g.bio g.lives).held reads false buffer is

      by_record : (place : ℕ) (bytes : List ℕ) → slice_get buffer place ≡ Some bytes
          → place < g.bio.span.len → (o : Option (List ℕ))
          → records at (g.bio.span.first + place) ≡ o
          → records at (g.bio.span.first + place) ≡ Some bytes
      by_record place bytes there less None nothing =
          let owed = (g.all.each at g.bio g.lives).owed reads buffer is (g.bio.span.first + place)
          (in-has g.bio.span (g.bio.span.first + place) (omega arith) (omega (arith, less)))
          nothing in
          absurd (g.childless owed.child owed.bio owed.piece owed.lives owed.is_piece)
      by_record place bytes there less (Some own) has_own =
          has_own ∙ sym (search (rules, held.each)) ∙ there

module _ {S : Type 0} (m : Meaning S) {s next : State S} (records : Records)
    (all : AllKept s.bios records) {at : ℕ} (f : Finishing s at next) where
  -- it may be answered
  abbrev answering : Answering s records at
  answering = record { all = all; bio = f.bio; lives = f.lives; childless = f.childless }

  -- a read that hasn't failed has recorded all
  all-of : f.failed ≡ false → f.bio.kind ≡ Read → IsAllOf records at f.bio f.sectors
  all-of sound reads = all-recorded answering reads f.sectors
      (f.is ∙ ap (λ failed. InFlight failed f.sectors) sound)

  -- the records after that
  finish-records : (failed : Bool) → f.failed ≡ failed → recording m s records (Finish at)
      ≡ (if failed then records else told_up records at f.bio f.bio.parent)
  finish-records failed is = rw (f.lives, f.is, is) refl

  -- all is kept, by whether it has failed
  kept-by : (failed : Bool) → f.failed ≡ failed → AllKept (answered s at f.bio
      (if failed then Failed else Gave f.sectors)).bios (recording m s records (Finish at))
  kept-by true is = subst (λ r. AllKept (answered s at f.bio Failed).bios r)
      (sym (finish-records true is)) (told-kept answering records Failed
      (λ n sector apart not_above. refl) (λ parent piece of reads sector. refl))
  kept-by false is = subst (λ r. AllKept (answered s at f.bio (Gave f.sectors)).bios r)
      (sym (finish-records false is))
      (gave-kept answering records f.sectors (λ n sector apart. refl) (all-of is))

  -- so all is kept
  pub finish-kept : AllKept next.bios (recording m s records (Finish at))
  finish-kept = search (rules, kept-by)

  -- and a read is answered with what is recorded
  pub finish-answers : (c : Scenario S) → effect m c s (Finish at) ≡ Next next → f.bio.kind ≡ Read
      → AnswersSo s at f.bio (effect m c s (Finish at)) (recording m s records (Finish at))
  finish-answers c leads reads = search (rules, finish-records, all-stays, all-of)
