-- A read of a log that is answered without a failure gives its log, sector by sector, the bytes of
-- the writers that are told of it.
use Rattle.lab_model.proofs.Common.{rules, ◌+◌, ◌<◌, ap, arith, Bool, false, if◌then◌else◌, length}
use Rattle.lab_model.proofs.Common.{List, None, None-not-Some, Option, refl, slice_get}
use Rattle.lab_model.proofs.Common.{slice_get_within, Some, suc, sym, true, zero, ℕ, ◌∙◌, ◌≡◌}
use Rattle.lab_model.proofs.Common.{After, Bio, bio_of, effect, Gave, is_enabled, Kind, Lawful}
use Rattle.lab_model.proofs.Common.{Meaning, Next, outcome_of, Read, Scenario, State}
use Rattle.lab_model.specs.Bios.{stage_failed}
use Rattle.lab_model.specs.declared.parent.Parent.{Parent}
use Rattle.lab_next.specs.Answering.{kind_answered, number_answered, own_kind}
use Rattle.lab_next.specs.declared.writer.Writer.{Writer}
use Rattle.lab_watch.specs.Grids.{Grid, writer_at, writers_in}
use Rattle.lab_watch.specs.Heard.{heard}
use Rattle.lab_watch.specs.Known.{Known}
use Rattle.lab_watch.specs.Settled.{told}
use Rattle.law_never_wrong.proofs.Events.{all-never-wrong}
use Rattle.law_bytes_carried.proofs.Words.{Event, Finish, Finishing, finishing-of, IsLogs, Serve}
use Rattle.law_bytes_carried.proofs.Words.{Serving, serving-of}
use Rattle.law_reads_recorded.specs.ReadsRecorded.{AnswersSo}
use Rattle.law_reads_recorded.specs.Recorded.{after_serve, read_from, recording, Records}
use Rattle.law_reads_recorded.specs.Recorded.{records_of, told_up}
use Rattle.law_reads_recorded.proofs.Answers.{finish-answers}
use Rattle.law_reads_recorded.proofs.Serves.{read-answers}
use Rattle.law_writers.specs.Followed.{known_of}
use Rattle.law_writers.specs.WritersTell.{AnswersTell, AnswersWritten}
use Rattle.law_writers.specs.Wrote.{WroteBytes}
use Rattle.law_writers.proofs.Agreement.{Agrees}
use Rattle.law_writers.proofs.Readings.{Reading}
use Rattle.law_writers.proofs.Roots.{from-of}
use Rattle.law_writers.proofs.Runs.{run-agrees}
use Rattle.law_writers.proofs.Telling.{disk-tells}

-- the writers of a part are as many as are asked for
length-part : (grid : Grid) (number first count : ℕ)
    → length (writers_in grid number first count) ≡ count
length-part grid number first zero = refl
length-part grid number first (suc more) = ap suc (length-part grid number (first + 1) more)

-- each is the writer that is known there
part-at : (grid : Grid) (number first count place : ℕ) (writer : Option Writer)
    → slice_get (writers_in grid number first count) place ≡ Some writer
    → writer_at grid number (first + place) ≡ writer
part-at grid number first zero place writer at = search rules
part-at grid number first (suc more) zero writer at = search rules
part-at grid number first (suc more) (suc place) writer at =
    search (rules, part-at grid number (first + 1) more place writer at)

-- a read of a log
pub record OwnRead (kind : Kind) (parent : Parent) : Type 0 where
  pub reads : kind ≡ Read
  pub logs : IsLogs parent

-- that is what is answered where a read of a log is
own-read : (kind : Kind) (parent : Parent) → own_kind kind parent ≡ Some Read → OwnRead kind parent
own-read kind holds is = search rules

-- what a log's bio tells is recorded of no other
told_up-own : (records : Records) (at : ℕ) (bio : Bio) (parent : Parent) → IsLogs parent
    → told_up records at bio parent ≡ records
told_up-own records at bio holds logs = search rules

module _ {S : Type 0} (m : Meaning S) (c : Scenario S) (s : State S) {at : ℕ} {bio : Bio}
    (lives : bio_of s at ≡ Some bio) (own : OwnRead bio.kind bio.parent) where
  -- a log's read reads its own places
  own-place : (place : ℕ) → place < bio.span.len → Reading s at place at place bio
  own-place place less = search rules

  -- it is answered with what is recorded of it: with the bytes of the writers that are told, where
  -- what is recorded has the bytes of the writers that are known
  answer-written : (after : After S) (records : Records) (reads : Grid)
      (writers : List (Option Writer))
      → AnswersSo s at bio after records → stage_failed bio.stage ≡ false
      → writers ≡ writers_in reads at 0 bio.span.len
      → ((place : ℕ) (bytes : List ℕ) → place < bio.span.len
      → records at (bio.span.first + place) ≡ Some bytes
      → WroteBytes c (writer_at reads at place) bytes)
      → AnswersWritten c s at writers after
  answer-written after records reads writers answers sound are has =
      let all = answers.all sound in
      record {
        bio = bio;
        lives = lives;
        sectors = answers.sectors;
        is = search rules;
        tells = ap (λ kind. outcome_of kind (Gave answers.sectors)) own.reads;
        size = all.size ∙ sym (ap length are ∙ length-part reads at 0 bio.span.len);
        each = λ place bytes writer gives is.
            let less : place < bio.span.len = omega
            (arith, slice_get_within answers.sectors place bytes gives, all.size) in
            search (rules, part-at);
      }

-- where a read is answered without a failure, it has none
sound-read : (failed : Bool) (kind : Option Kind) → (if failed then None else kind) ≡ Some Read
    → (failed ≡ false) × (kind ≡ Some Read)
sound-read true kind is = absurd (None-not-Some is)
sound-read false kind is = (refl, is)

module _ {S : Type 0} (m : Meaning S) (c : Scenario S) (s next : State S) (records : Records)
    (known : Known) (a : Agrees m c s records known) {at : ℕ} where
  -- a read that a disk serves
  serve-tells : (v : Serving s at next) → effect m c s (Serve at) ≡ Next next
      → kind_answered s (Serve at) ≡ Some Read → AnswersWritten c s at
      (told s (Serve at) (heard s (Serve at) known)) (effect m c s (Serve at))
  serve-tells v leads is =
      let own = own-read v.bio.kind v.bio.parent (rw v.lives at is) in
      let from = from-of a.fits a.sound at v.bio v.lives in
      let same : recording m s records (Serve at) ≡ read_from s records at v.bio v.bio.kind =
      ap (after_serve s records at) v.lives ∙ told_up-own _ at v.bio v.bio.parent own.logs in
      answer-written m c s v.lives own (effect m c s (Serve at)) (recording m s records (Serve at))
      (heard s (Serve at) known).reads (told s (Serve at) (heard s (Serve at) known))
      (read-answers m records a.kept v a.fits own.reads leads) (ap stage_failed v.enters)
      (search (rules, v.lives))
      (λ place bytes less at_place.
      disk-tells a.fits a.sound records known a.keeps a.told a.written v from own.reads at place
      place bytes (own-place m c s v.lives own place less)
      (ap (λ r. r at (v.bio.span.first + place)) (sym same) ∙ at_place))

  -- where a log's bio is finished nothing is recorded anew
  finish-same : (f : Finishing s at next) → IsLogs f.bio.parent → (failed : Bool)
      → f.failed ≡ failed → recording m s records (Finish at) ≡ records
  finish-same f logs true failed = rw (f.lives, f.is, failed) refl
  finish-same f logs false failed =
      rw (f.lives, f.is, failed) (told_up-own records at f.bio f.bio.parent logs)

  -- a read that is finished
  finish-tells : (f : Finishing s at next) → effect m c s (Finish at) ≡ Next next
      → kind_answered s (Finish at) ≡ Some Read → AnswersWritten c s at
      (told s (Finish at) (heard s (Finish at) known)) (effect m c s (Finish at))
  finish-tells f leads is =
      let sound = sound-read (stage_failed f.bio.stage) (own_kind f.bio.kind f.bio.parent)
      (rw f.lives at is) in
      let own = own-read f.bio.kind f.bio.parent sound.1 in
      let same = finish-same f own.logs f.failed refl in
      answer-written m c s f.lives own (effect m c s (Finish at))
      (recording m s records (Finish at)) known.reads (told s (Finish at) known)
      (finish-answers m records a.kept f c leads own.reads) sound.0
      (search (rules, f.lives))
      (λ place bytes less at_place. (a.told.each at place).has at place f.bio bytes
      (own-place m c s f.lives own place less)
      (ap (λ r. r at (f.bio.span.first + place)) (sym same) ∙ at_place))

-- so is each that an event answers
event-tells : {S : Type 0} (m : Meaning S) (c : Scenario S) (s next : State S) (records : Records)
    (known : Known) → Agrees m c s records known → (event : Event) → is_enabled c s event ≡ true
    → effect m c s event ≡ Next next → kind_answered s event ≡ Some Read
    → AnswersWritten c s (number_answered event) (told s event (heard s event known))
    (effect m c s event)
event-tells m c s next records known a (Serve at) may leads is =
    serve-tells m c s next records known a (serving-of m c s next at may leads) leads is
event-tells m c s next records known a (Finish at) may leads is =
    finish-tells m c s next records known a (finishing-of m c s next at may leads) leads is
event-tells m c s next records known a _ may leads is = absurd (None-not-Some is)

-- the bytes of answers to reads are those of the writers that are told
pub answers-tell : {S : Type 0} (m : Meaning S) → Lawful m → AnswersTell m
answers-tell m lawful c fine events s run plain kept keeps event may is =
    let goes = all-never-wrong m lawful c fine events s run event may in
    event-tells m c s goes.0 (records_of m c events) (known_of m c kept events)
    (run-agrees m lawful c fine events s run plain kept keeps) event may goes.1 is
