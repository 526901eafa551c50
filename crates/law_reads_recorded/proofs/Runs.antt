-- Each event keeps all; so all is kept along each run of a fine scenario, and the laws hold.
use Rattle.lab_model.proofs.Common.{rules, ◌++◌, ◌==◌, [], ap, List, Some, subst, sym, true, ℕ, ◌∙◌}
use Rattle.lab_model.proofs.Common.{◌∷◌, ◌≡◌, Bio, bio_of, effect, Fine, is_enabled, IsRun, Lawful}
use Rattle.lab_model.proofs.Common.{Leads, Meaning, Next, opening, Read, Scenario, State}
use Rattle.law_never_wrong.specs.NeverWrong.{Goes}
use Rattle.law_never_wrong.proofs.Events.{all-never-wrong, events-fit}
use Rattle.law_never_wrong.proofs.Runs.{opening-Fits}
use Rattle.law_bytes_carried.proofs.Words.{all-runs-fit, Clock, clock-leaves, Control, Event}
use Rattle.law_bytes_carried.proofs.Words.{Finish, finishing-of, Fits, is_answer_to, Line}
use Rattle.law_bytes_carried.proofs.Words.{line-leaves, Map, map-gives, Release, Serve}
use Rattle.law_bytes_carried.proofs.Words.{release-leaves, serving-of}
use Rattle.law_reads_recorded.specs.ReadsRecorded.{AnswersAreRecords, AnswersSo, BuffersAreRecords}
use Rattle.law_reads_recorded.specs.ReadsRecorded.{NothingBefore, RestIsOwed}
use Rattle.law_reads_recorded.specs.Recorded.{nothing_recorded, records_of, recorded_from}
use Rattle.law_reads_recorded.specs.Recorded.{recording, Records}
use Rattle.law_reads_recorded.proofs.Answers.{finish-answers, finish-kept}
use Rattle.law_reads_recorded.proofs.Kept.{AllKept, control-kept, left-kept}
use Rattle.law_reads_recorded.proofs.Mapped.{map-kept}
use Rattle.law_reads_recorded.proofs.Serves.{read-answers, serve-kept}

module _ {S : Type 0} (m : Meaning S) (lawful : Lawful m) (c : Scenario S) (s next : State S)
    (fits : Fits m c s) (records : Records) (all : AllKept s.bios records) where
  -- each event keeps all
  pub event-kept : (event : Event) → is_enabled c s event ≡ true → effect m c s event ≡ Next next
      → AllKept next.bios (recording m s records event)
  event-kept (Line log) may leads = search (rules, left-kept, line-leaves)
  event-kept (Map at) may leads = map-gives lawful fits at (λ t. AllKept t.bios
      (recording m s records (Map at))) (λ j. map-kept j records all) may next leads
  event-kept (Serve at) may leads =
      serve-kept m records all (serving-of m c s next at may leads) fits
  event-kept (Release at) may leads =
      left-kept s next records all (release-leaves m c s next at may leads)
  event-kept (Finish at) may leads =
      finish-kept m records all (finishing-of m c s next at may leads)
  event-kept Control may leads = control-kept s next records all m c may leads
  event-kept Clock may leads = left-kept s next records all (clock-leaves m c s next may leads)

-- with one event more, that event's records come last
recorded-last : {S : Type 0} (m : Meaning S) (c : Scenario S) (events : List Event)
    (s end : State S) (records : Records) (event : Event) → Leads m c s events end
    → recorded_from m c (Next s) records (events ++ event ∷ [])
    ≡ recording m end (recorded_from m c (Next s) records events) event
recorded-last m c [] s end records event leads = ap (λ at. recording m at records event) (sym leads)
recorded-last m c (first ∷ events) s end records event leads =
    let later = recording m s records first in
    search (rules, recorded-last m c events leads.1 end later event leads.3)

module _ {S : Type 0} (m : Meaning S) (lawful : Lawful m) (c : Scenario S) where
  -- events keep all, one after another
  leads-kept : (events : List Event) (s end : State S) (records : Records) → Fits m c s
      → AllKept s.bios records → Leads m c s events end
      → AllKept end.bios (recorded_from m c (Next s) records events)
  leads-kept [] s end records fits all leads = subst (λ at. AllKept at.bios records) (sym leads) all
  leads-kept (event ∷ events) s end records fits all leads =
      let next_fits : Fits m c leads.1 = subst (λ a. Goes a (Fits m c)) leads.2
      (events-fit m lawful c s fits event leads.0) in
      let next_all = event-kept m lawful c s leads.1 fits records all event leads.0 leads.2 in
      subst (λ a. AllKept end.bios (recorded_from m c a (recording m s records event) events))
      (sym leads.2)
      (leads-kept events leads.1 end (recording m s records event) next_fits next_all leads.3)

  module _ (fine : Fine m c) (events : List Event) (s : State S) (run : IsRun m c events s) where
    -- so does a run
    pub run-kept : AllKept s.bios (records_of m c events)
    run-kept = leads-kept events (opening c) s nothing_recorded (opening-Fits m c fine)
        (search rules) run

    -- how a read is answered by an event
    abbrev AnsweredBy : Event → ℕ → Bio → Type 0
    AnsweredBy event number bio = AnswersSo s number bio (effect m c s event)
        (recording m s (records_of m c events) event)

    -- a read that an event answers is the one that the event names
    by-name : (event : Event) (at number : ℕ) (named bio : Bio) → (at == number) ≡ true
        → bio_of s at ≡ Some named → bio_of s number ≡ Some bio → bio.kind ≡ Read
        → (named.kind ≡ Read → AnsweredBy event at named) → AnsweredBy event number bio
    by-name event at number named bio answers stands lives reads so = search rules

    -- so a read is answered where an event comes
    event-answers : (event : Event) → is_enabled c s event ≡ true → (next : State S)
        → effect m c s event ≡ Next next → (number : ℕ) (bio : Bio)
        → is_answer_to number event ≡ true → bio_of s number ≡ Some bio → bio.kind ≡ Read
        → AnsweredBy event number bio
    event-answers (Serve at) may next leads number bio answers lives reads =
        let v = serving-of m c s next at may leads in
        search (rules, by-name, Serve, read-answers, run-kept, all-runs-fit)
    event-answers (Finish at) may next leads number bio answers lives reads =
        let f = finishing-of m c s next at may leads in
        search (rules, by-name, finish-answers, run-kept)
    event-answers _ may next leads number bio answers lives reads = cc

module _ {S : Type 0} (m : Meaning S) (lawful : Lawful m) where
  -- before a bio is in flight nothing is recorded of it
  pub nothing-before : NothingBefore m
  nothing-before c fine events s run =
      let all = run-kept m lawful c fine events s run in
      record {
        entering = λ number bio lives rests sector. (all.each number bio lives).rests
            ((search rules) ∙ rests) sector;
        unmade = all.unmade;
      }

  -- buffers have what is recorded
  pub buffers-are-records : BuffersAreRecords m
  buffers-are-records c fine events s run number bio lives reads failed buffer is =
      ((run-kept m lawful c fine events s run).each number bio lives).held reads failed buffer is

  -- the rest is owed
  pub rest-is-owed : RestIsOwed m
  rest-is-owed c fine events s run n bio lives reads buffer is at covers none =
      let kept = (run-kept m lawful c fine events s run).each n bio lives in
      search (rules, kept.owed reads buffer is at covers none)

  -- and answers are records
  pub answers-are-records : AnswersAreRecords m
  answers-are-records c fine events s run event may number bio answers lives reads =
      let goes = all-never-wrong m lawful c fine events s run event may in
      search (
        rules,
        recorded-last m c events
            (opening c) s nothing_recorded event run,
        event-answers,
      )
