-- Where a disk serves a bio, all is kept, and a read is answered with the disk's bytes.
use Rattle.lab_model.proofs.Common.{rules, ap, eq-eqb}
use Rattle.lab_model.proofs.Common.{ℕ, length-drop, length-take, subst, sym}
use Rattle.lab_model.proofs.Common.{true≢false, ◌∙◌, ◌≡◌, ◌≢◌, ◌⊎◌, Bio, effect}
use Rattle.lab_model.proofs.Common.{Gave, Kind, Meaning, Next, part, Read, Scenario, Sectors}
use Rattle.lab_model.proofs.Common.{slice_get_within, Some-holds, State}
use Rattle.law_bytes_carried.proofs.Words.{Fits, is_flying, Serve, Serving}
use Rattle.law_bytes_carried.proofs.Served.{part-place, ReadServed, serving-is}
use Rattle.law_reads_recorded.specs.ReadsRecorded.{AnswersSo, IsAllOf}
use Rattle.law_reads_recorded.specs.Recorded.{after_serve, disk_at, disk_bytes, read_from, Records}
use Rattle.law_reads_recorded.specs.Recorded.{recording, told_up, with_record}
use Rattle.law_reads_recorded.proofs.Answered.{Answering, told-kept}
use Rattle.law_reads_recorded.proofs.Answers.{all-stays, gave-kept, told_up-other}
use Rattle.law_reads_recorded.proofs.Kept.{AllKept}
use Rattle.law_reads_recorded.proofs.Told.{in-has, other-record}

-- a kind is a read, or another
read-or-not : (kind : Kind) → (kind ≡ Read) ⊎ (kind ≢ Read)
read-or-not kind = search rules

-- what isn't a read records nothing at a disk
nothing-read : {S : Type 0} (s : State S) (records : Records) (at : ℕ) (bio : Bio) (kind : Kind)
    → kind ≢ Read → read_from s records at bio kind ≡ records
nothing-read s records at bio kind apart = search rules

module _ {S : Type 0} (m : Meaning S) {s next : State S} (records : Records)
    (all : AllKept s.bios records) {at : ℕ} (v : Serving s at next) where
  -- it may be answered: no bio was made for a piece of one that isn't in flight
  abbrev answering : Answering s records at
  answering = record {
    all = all;
    bio = v.bio;
    lives = v.lives;
    childless = λ n child piece child_lives is.
        let under = (all.each n child child_lives).lies at piece is in
        let one : under.above ≡ v.bio = Some-holds (sym under.lives ∙ v.lives) in
        true≢false
        (sym under.flies ∙ ap (λ b. is_flying b.stage) one ∙ ap is_flying v.enters);
  }

  -- the records after that
  serve-records : recording m s records (Serve at)
      ≡ told_up (read_from s records at v.bio v.bio.kind) at v.bio v.bio.parent
  serve-records = ap (after_serve s records at) v.lives

  module _ {c : Scenario S} (fits : Fits m c s) (reads : v.bio.kind ≡ Read) where
    -- what the disk gives
    given : ReadServed s at v.bio v.disk next
    given = (serving-is fits v).read reads

    -- the part of the disk that it asks for
    abbrev sectors : Sectors
    sectors = part given.sectors v.bio.span

    -- with the disk's bytes
    abbrev own : Records
    own = with_record records at (disk_bytes (disk_at s v.bio.device) v.bio.span)

    -- they are all that it asks for
    disk-all : IsAllOf own at v.bio sectors
    disk-all =
        search (rules, length-take, length-drop, slice_get_within, eq-eqb, in-has, part-place)

    -- all is kept
    read-kept : AllKept next.bios (recording m s records (Serve at))
    read-kept = subst (λ r. AllKept next.bios r) (sym (search rules))
        (subst (λ n. AllKept n.bios (told_up own at v.bio v.bio.parent)) (sym given.is)
        (gave-kept answering own sectors (search (rules, other-record)) (λ reads. disk-all)))

    -- and it is answered with them
    pub read-answers : effect m c s (Serve at) ≡ Next next
        → AnswersSo s at v.bio (effect m c s (Serve at)) (recording m s records (Serve at))
    read-answers leads = record {
      sectors = sectors;
      is = search rules;
      all = λ sound. subst (λ r. IsAllOf r at v.bio sectors) (sym (search rules))
          (all-stays answering own sectors disk-all);
    }

  -- what isn't a read records nothing
  other-kept : {c : Scenario S} → Fits m c s → v.bio.kind ≢ Read
      → AllKept next.bios (recording m s records (Serve at))
  other-kept fits apart =
      let served = serving-is fits v in
      let after = told_up records at v.bio v.bio.parent in
      let same : recording m s records (Serve at) ≡ after =
      search (rules, serve-records, nothing-read) in
      subst (λ r. AllKept next.bios r) (sym same) (subst (λ b. AllKept b after) (sym served.bios)
      (told-kept answering after (Gave served.given) (search (rules, told_up-other))
      (λ parent piece of reads. absurd (apart reads))))

  -- by its kind
  pub serve-kept : {c : Scenario S} → Fits m c s
      → AllKept next.bios (recording m s records (Serve at))
  serve-kept fits = search (rules, read-or-not, read-kept fits, other-kept fits)
