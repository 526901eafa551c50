-- What an operation has moved: its log is told that it succeeded, a read with the bytes that its
-- places were served with.
use Rattle.lab_model.proofs.Common.{rules, ◌++◌, ◌+◌, ◌<◌, [], ap, arith, false, inl, inr, length}
use Rattle.lab_model.proofs.Common.{List, None, ℕ, slice_get, Some, subst, sym, ◌∙◌, ◌∷◌, ◌≡◌, Bio}
use Rattle.lab_model.proofs.Common.{bio_of, cases_Bool, Gave, None-not-Some, numbered}
use Rattle.lab_model.specs.declared.parent.Parent.TheVariants.{FromLog}
use Rattle.lab_model.proofs.Common.{outcome_of, Read, Sectors, Some-holds, State, Told, told_to}
use Rattle.lab_model.proofs.Common.{with_answer, without_bio}
use Rattle.law_answered_once.proofs.OrderLaw.{first-Moves}
use Rattle.law_never_wrong.proofs.NumberedEntries.{numbered-change}
use Rattle.law_bytes_carried.proofs.Words.{Action, Answer, answers_in, answers_of, Event, moved}
use Rattle.law_bytes_carried.proofs.Words.{FitsParent, is_answer_to, slice_get-back}
use Rattle.law_bytes_carried.proofs.LogAnswers.{event-lasts, event-lives, event-stays, Lasts}
use Rattle.law_bytes_carried.proofs.LogAnswers.{log-stands, run-alone}
use Rattle.law_bytes_carried.proofs.Fates.{Ahead, answer-ends, answering-of, Coming, EndsAt, Fate}
use Rattle.law_bytes_carried.proofs.Fates.{first-comes, forth, goes-on, rest-ahead}
use Rattle.law_bytes_carried.proofs.Loads.{Going, going-sound, kind-of}
use Rattle.law_bytes_carried.proofs.Places.{itself-descends}
use Rattle.law_bytes_carried.proofs.Seats.{Course}
use Rattle.law_bytes_carried.proofs.Steps.{Answering}

-- along events none of which is the script's all answers last
events-last : {S : Type 0} {o : Course S} (log : ℕ) (events : List Event) {s end : State S}
    → Ahead o s events end → Lasts (answers_of s log) (answers_of end log)
events-last log [] a = λ i answer is. ap (λ t. slice_get (answers_of t log) i) a.leads ∙ is
events-last {o = o} log (event ∷ events) {s} {end} a = λ i answer is.
    events-last log events (rest-ahead a) i answer (event-lasts o.c s a.leads.1 log event
    (first-comes a).quiet (first-Moves o.m o.c s event events end a.leads) i answer is)

-- an operation of a log lives
pub record Loaded {S : Type 0} (o : Course S) (log : ℕ) (s : State S) : Type 0 where
  pub line : ℕ
  pub action : Action
  pub own : o.op.parent ≡ FromLog log line action
  pub going : Going o s
  pub bio : Bio
  pub lives : bio_of s o.first ≡ Some bio
  pub span : bio.span ≡ o.op.span
  pub parent : bio.parent ≡ o.op.parent

-- the fates of all places
abbrev pub Fates : {S : Type 0} → Course S → State S → Type 0
Fates o s = (p : ℕ) → p < o.op.span.len → Fate o s p

-- what the operation gives, is told, and was served with
pub record Outcome {S : Type 0} (o : Course S) (log : ℕ) (s : State S) (events : List Event)
    (end : State S) (fates : Fates o s) : Type 0 where
  pub given : Sectors
  pub size : o.op.kind ≡ Read → length given ≡ o.op.span.len
  pub answer : Answer
  pub answers : slice_get (answers_of end log) (length (answers_of s log)) ≡ Some answer
  pub is_own : o.op.parent ≡ FromLog log answer.line answer.action
  pub tells : answer.outcome ≡ outcome_of o.op.kind (Gave given)
  pub each : (p : ℕ) (less : p < o.op.span.len) → EndsAt o s events given p (fates p less)

module _ {S : Type 0} {o : Course S} {log : ℕ} {s : State S} (loaded : Loaded o log s) where
  -- the answer of what it is told
  abbrev answer_of : Bio → Told → Answer
  answer_of bio told =
      record { line = loaded.line; action = loaded.action; outcome = outcome_of bio.kind told }

  -- a log that is told of it has an answer more
  told-answer : (next : State S) (bio : Bio) (told : Told) → loaded.bio ≡ bio
      → next.logs ≡ (told_to (without_bio s o.first) bio told bio.parent).logs
      → slice_get (answers_of next log) (length (answers_of s log)) ≡ Some (answer_of bio told)
  told-answer next bio told one logs =
      let fits = (going-sound loaded.going).fits in
      let is : bio.parent ≡ FromLog log loaded.line loaded.action =
      ap (λ b. b.parent) (sym one) ∙ loaded.parent ∙ loaded.own in
      let from : FitsParent o.m o.c s o.first bio (FromLog log loaded.line loaded.action) =
      subst (FitsParent o.m o.c s o.first bio) is (fits.bios o.first bio
      (loaded.lives ∙ ap (λ b. Some b) one)).parent in
      let stood = log-stands o.m o.c s fits log from.plan from.is_log in
      let answer = answer_of bio told in
      let more : answers_of next log ≡ stood.0.answers ++ answer ∷ [] = ap (λ logs. answers_in
      (numbered logs log)) (logs ∙ ap (λ parent. (told_to (without_bio s o.first) bio told
      parent).logs) is) ∙ ap answers_in (numbered-change s.logs log
      (with_answer loaded.line loaded.action (outcome_of bio.kind told)) stood.0 stood.1) in
      let before : answers_of s log ≡ stood.0.answers = ap answers_in stood.1 in
      let last : length stood.0.answers ≡ length stood.0.answers + 0 = omega arith in
      ap (λ answers. slice_get answers (length (answers_of s log))) more ∙ ap (λ answers. slice_get
      (stood.0.answers ++ answer ∷ []) (length answers)) before ∙ ap
      (slice_get (stood.0.answers ++ answer ∷ [])) last
      ∙ slice_get-back stood.0.answers (answer ∷ []) 0

  -- where the operation is answered
  answer-outcome : {event : Event} {events : List Event} {next end : State S}
      → Coming o s event next → Answering o s next o.first event → Ahead o next events end
      → (fates : Fates o s) → Outcome o log s (event ∷ events) end fates
  answer-outcome {event} {events} {next} on answers a fates =
      let itself = itself-descends s o.first in
      let t = answers.tells in
      let one : loaded.bio ≡ t.bio = Some-holds (sym loaded.lives ∙ t.lives) in
      let span = ap (λ b. b.span) (sym one) ∙ loaded.span in
      record {
        given = t.given;
        size = λ reads. t.size itself reads ∙ ap (λ l. l.len) span;
        answer = answer_of t.bio (Gave t.given);
        answers = events-last log events a (length (answers_of s log)) _
            (told-answer next t.bio (Gave t.given) one (t.by.logs ∙ ap (λ told.
            (told_to (without_bio s o.first) t.bio told t.bio.parent).logs) (t.gave itself)));
        is_own = loaded.own;
        tells = ap (λ k. outcome_of k (Gave t.given))
            (kind-of loaded.going o.first t.bio t.lives itself);
        each = λ p less. answer-ends loaded.going on answers span a p less (fates p less);
      }

  module _ {event : Event} {next : State S} (on : Coming o s event next)
      (apart : is_answer_to o.first event ≡ false) where
    -- an event that doesn't answer it leaves it loaded
    loaded-on : Loaded o log next
    loaded-on = search (rules, event-lives, going-sound, goes-on)

    -- the fates go on
    on-fates : Fates o s → Fates o next
    on-fates fates p less = (forth loaded.going on p less (fates p less)).later

    -- and the outcome is that of the others
    others-outcome : {events : List Event} {end : State S} (fates : Fates o s)
        → Outcome o log next events end (on-fates fates)
        → Outcome o log s (event ∷ events) end fates
    unfolding on-fates
    others-outcome {events} {end} fates rest =
        let moves = moved o.m o.c s event next on.may on.leads in
        let g = loaded.going in
        let alone = run-alone o.m o.c g.past s g.run (going-sound g).fits log o.first loaded.bio
        loaded.line loaded.action loaded.lives (loaded.parent ∙ loaded.own) in
        let same : answers_of next log ≡ answers_of s log =
        event-stays o.c s next log o.first event on.quiet apart moves alone in
        record {
          given = rest.given;
          size = rest.size;
          answer = rest.answer;
          answers = ap (λ answers. slice_get (answers_of end log) (length answers)) (sym same)
              ∙ rest.answers;
          is_own = rest.is_own;
          tells = rest.tells;
          each = λ p less. (forth loaded.going on p less (fates p less)).back rest.given events
              (rest.each p less);
        }

-- so events until it is answered have such an outcome
pub events-outcome : {S : Type 0} {o : Course S} {log : ℕ} (events : List Event) {s end : State S}
    (loaded : Loaded o log s) → Ahead o s events end → bio_of end o.first ≡ None
    → (fates : Fates o s) → Outcome o log s events end fates
events-outcome {o = o} [] {s} loaded a gone fates = search (rules, None-not-Some)
events-outcome {o = o} (event ∷ events) loaded a gone fates =
    let on = first-comes a in
    elim (cases_Bool (is_answer_to o.first event)) [
      | inl answers ↦ answer-outcome loaded on (answering-of loaded.going on answers)
          (rest-ahead a) fates
      | inr apart ↦ others-outcome loaded on apart fates (events-outcome events
          (loaded-on loaded on apart) (rest-ahead a) gone (on-fates loaded on apart fates))
    ]
