-- What is told of an accepted scenario is one output. A job on a bundle's bytes has one output.
use Rattle.lab_model.proofs.Common.{rules, ◌≡◌, ◌⊎◌, ◌∙◌, ◌+◌, ◌++◌, ℕ, inl, inr, Bool, List, []}
use Rattle.lab_model.proofs.Common.{Option, Some, Result, Ok, Err, ap, refl, sym, subst, none-some}
use Rattle.lab_model.proofs.Common.{same_Some, codes, decimal, Meaning, Scenario, State, opening, report, true, false}
use Rattle.lab_model.proofs.Common.{Line, Lawful, first_of}
use Rattle.std.specs.Option.{option_and_then}
use Rattle.lab_model.specs.declared.event.Event.{Event}
use Rattle.lab_core.specs.Words.{seeded}
use Rattle.lab_core.proofs.Seeded.{Rests, chosen-once}
use Rattle.dmlab_run.specs.Findings.{sought_by}
use Rattle.dmlab_run.specs.Histories.{histories_of}
use Rattle.dmlab_run.specs.Lines.{Output, done_with, refused_for, refused_with}
use Rattle.dmlab_run.specs.Output.{Answers, Audits, IsFirst, Judges, RefusesRun, Simulates, TellsJob}
use Rattle.dmlab_run.specs.Output.{TellsRunBy}
use Rattle.dmlab_run.specs.Output.{bundle_fault, history_for}
use Rattle.law_one_output.proofs.Runs.{complete-never-early, leads-one, place-one, stops-never-runs}
use Rattle.lab_rulebook.specs.PartsOf.{HasTexts, Texts}
use Rattle.lab_rulebook.specs.IsAccepted.{Verified}
use Rattle.lab_refusal.specs.Faults.{bundle_told}
use Rattle.lab_model.specs.Rules.{FaultSeen}
use Rattle.lab_verify.specs.Verdict.{IsScenario}
use Rattle.dmlab_words.specs.Findings.{is_seeking}
use Rattle.dmlab_words.specs.declared.asked.Asked.{Asked}
use Rattle.dmlab_words.specs.declared.job.Job.{Job}
use Rattle.dmlab_words.specs.declared.job.Job.TheVariants.{Audit, Check, Sim}
use Rattle.law_one_output.specs.Exact.{OutputIsOne}
use Rattle.law_one_output.proofs.AnswersTold.{scenario-well}
use Rattle.law_one_output.proofs.FoundOne.{found-one}
use Rattle.law_one_output.proofs.FaultsOne.{first-fault-one, readable-never-faulty}
use Rattle.law_one_output.proofs.FaultsOne.{scenario-never-faulty, scenario-one}

-- an answer is one: what it holds of twice is one output
abbrev pub IsOne : (Output → Type 0) → Type 0
IsOne Answers = (a b : Output) → Answers a → Answers b → a ≡ b

-- a refusal's line is one, and so is what a job that is done tells
pub fixed-one : (all : Output) → IsOne (λ told. told ≡ all)
fixed-one all a b first second = first ∙ sym second

-- of two answers that exclude one another
pub either-one : {P Q : Output → Type 0} → IsOne P → IsOne Q → ((a b : Output) → P a → Q b → ⊥)
    → IsOne (λ told. P told ⊎ Q told)
either-one one more never a b holds given = search rules

-- an answer about something that is one
pub about-one : {X : Type 0} (Is : X → Type 0) (Tells : X → Output → Type 0)
    → ((one other : X) → Is one → Is other → one ≡ other) → ((x : X) → Is x → IsOne (Tells x))
    → IsOne (λ told. (x : X) × Is x × Tells x told)
about-one Is Tells one tells a b first second = search rules

-- what is read of a history is one list of events
events-one : (history : Result (List Event) (Option FaultSeen)) (one other : List Event)
    → history ≡ Ok one → history ≡ Ok other → one ≡ other
events-one history one other first second = search rules

module _ {S : Type 0} (m : Meaning S) (c : Scenario S) where
  -- what is found in a run is told in one way
  tells-run-one : (seeking : Bool) (seed : ℕ) (history : Bool) (asked : Asked)
      (events : List Event) (end : State S)
      → IsOne (TellsRunBy m seeking c seed history asked events end)
  tells-run-one false seed history asked events end a b first second = first ∙ sym second
  tells-run-one true seed history asked events end a b first second =
      let same = found-one m c seed (sought_by asked) events first.0 second.0 first.1 second.1
      first.2 second.2 in
      rw (first.3, second.3, same.0, same.1)

  -- so a seed's run is
  pub simulates-one : Rests m c → (prompt : Bool) (seed : ℕ) (history : Bool) (asked : Asked)
      → IsOne (Simulates m c prompt seed history asked)
  simulates-one rests prompt seed history asked a b first second =
      let same = chosen-once m c rests prompt first.events second.events (seeded seed) []
      (opening c) first.end second.end refl first.picks second.picks first.done second.done in
      tells-run-one (is_seeking asked) seed history asked second.events second.end a b
      (rw (same.0, same.1) at first.tells) second.tells

  -- so is where the events are no complete run
  pub refuses-run-one : (events : List Event) → IsOne (RefusesRun m c events)
  refuses-run-one events = either-one
      (about-one _
      (λ place told. told ≡ refused_with (codes "not a run at " ++ decimal (place + 1)))
      (place-one m c events) (λ place stops. fixed-one _))
      (λ a b first second. first.1 ∙ sym second.1)
      (λ a b stops early. stops-never-runs m c events early.0.0 stops.0 stops.1 early.0.1)

  -- an audit has one answer
  pub audits-one : (events : List Event) → IsOne (Audits m c events)
  audits-one events = either-one (refuses-run-one events)
      (about-one _ (λ end told. told ≡ done_with (report m c events end))
      (λ one other first second. leads-one m c events (opening c) one other first.0 second.0)
      (λ end runs. fixed-one _))
      (λ a b refused runs. elim refused [
        | inl stops ↦ stops-never-runs m c events runs.0 stops.0 stops.1 runs.1.0
        | inr early ↦ complete-never-early m c events runs.0 runs.1 early.0
      ])

-- texts of these tables, this script and these logs
texts_with : List (List ℕ × List Line) → List Line → List (List ℕ × List Line) → Texts
texts_with tables script logs = record { tables = tables; script = script; logs = logs }

-- bytes have one set of texts
pub texts-one : (bytes : List ℕ) (one other : Texts) → HasTexts bytes one → HasTexts bytes other
    → one ≡ other
unfolding texts_with
texts-one bytes one other first second = search rules

module _ {S : Type 0} (m : Meaning S) (texts : Texts) where
  -- texts and what is read of the history have one first fault
  first-one : (history : Result (List Event) (Option FaultSeen)) (one other : FaultSeen)
      → IsFirst m texts history one → IsFirst m texts history other → one ≡ other
  first-one (Ok events) one other first second = first-fault-one m texts one other first second
  first-one (Err fault) one other (inl is) (inl also) = same_Some one other (sym is ∙ also)
  first-one (Err fault) one other (inr is) (inr also) = same_Some one other (sym is.1 ∙ also.1)
  first-one (Err fault) one other (inl is) (inr also) = search (rules, readable-never-faulty)
  first-one (Err fault) one other (inr is) (inl also) = search (rules, readable-never-faulty)

  -- and none where they are a scenario, and the history gives events
  first-never : (history : Result (List Event) (Option FaultSeen)) (seen : FaultSeen)
      (accepted : Verified S) (events : List Event) → IsFirst m texts history seen
      → IsScenario m texts accepted → history ≡ Ok events → ⊥
  first-never (Ok read) seen accepted events first is has =
      scenario-never-faulty m texts seen accepted first is
  first-never (Err fault) seen accepted events first is has = cc

  module _ (history : Result (List Event) (Option FaultSeen))
      (Tells : Verified S → List Event → Output → Type 0)
      (tells : (accepted : Verified S) → IsScenario m texts accepted → (events : List Event)
      → IsOne (Tells accepted events)) where
    -- what is told of a scenario and of the events is one where it is one of each
    tells-one : IsOne (λ told. (accepted : Verified S) × IsScenario m texts accepted
        × (events : List Event) × (history ≡ Ok events) × Tells accepted events told)
    tells-one a b first second =
        let same = scenario-one m texts first.0 second.0 first.1 second.1 in
        let read = events-one history first.2 second.2 first.3 second.3 in
        tells second.0 second.1 second.2 a b (rw (same, read) at first.4) second.4

    -- and texts are judged in one way
    judges-one : IsOne (Judges m texts history Tells)
    judges-one = either-one
        (about-one (IsFirst m texts history) (λ seen told. told ≡ refused_for seen)
        (first-one history) (λ seen first. fixed-one _)) tells-one
        (λ a b fault is. first-never history fault.0 is.0 is.2 fault.1 is.1 is.3)

  -- what a job tells of a scenario is one
  job-one : Lawful m → (job : Job) (accepted : Verified S) → IsScenario m texts accepted
      → (events : List Event) → IsOne (TellsJob m job accepted events)
  job-one lawful Check accepted is events = fixed-one _
  job-one lawful (Sim seed history prompt asked) accepted is events =
      simulates-one m accepted.scenario (scenario-well m lawful texts accepted is).rests prompt
      seed history asked
  job-one lawful Audit accepted is events = audits-one m accepted.scenario events

-- what is answered for some bytes is one where what is told of their scenario is, and a bundle has no
-- fault
pub answers-one : {S : Type 0} (m : Meaning S) (bytes : List ℕ)
    (history : Result (List Event) (Option FaultSeen))
    (Tells : Verified S → List Event → Output → Type 0)
    → ((texts : Texts) (accepted : Verified S) → IsScenario m texts accepted
    → (events : List Event) → IsOne (Tells accepted events))
    → IsOne (Answers m bytes history Tells)
answers-one m bytes history Tells tells =
    either-one (about-one (λ seen. bundle_fault bytes ≡ Some seen)
    (λ seen told. told ≡ refused_for seen)
    (λ one other first second. same_Some one other (sym first ∙ second))
    (λ seen first. fixed-one _))
    (λ a b first second.
    let same = texts-one bytes first.1 second.1 first.2 second.2 in
    judges-one m second.1 history Tells (tells second.1) a b
    (subst (λ texts. Judges m texts history Tells a) same first.3) second.3)
    (λ a b faulty is. none-some faulty.0
    (sym (ap (λ l. option_and_then bundle_told (first_of l)) is.0) ∙ faulty.1))

-- so the output of a job on some bytes is one
pub output-one : {S : Type 0} (m : Meaning S) → Lawful m → OutputIsOne m
output-one m lawful job bytes = answers-one m bytes (history_for job (histories_of bytes))
    (TellsJob m job) (λ texts. job-one m texts lawful job)
