-- What is told of a study is one output.
use Rattle.lab_model.proofs.Common.{rules, ◌≡◌, ◌∙◌, ◌+◌, ℕ, inl, inr, Bool, true, false}
use Rattle.lab_model.proofs.Common.{List, [], ◌∷◌, ap, refl, sym, length, Meaning, Scenario, State}
use Rattle.lab_model.proofs.Common.{Lawful, opening}
use Rattle.std.proofs.Common.{ap₂}
use Rattle.lab_model.specs.declared.event.Event.{Event}
use Rattle.lab_core.specs.Words.{seeded}
use Rattle.lab_core.proofs.Seeded.{Rests, chosen-once}
use Rattle.lab_rulebook.specs.PartsOf.{Texts}
use Rattle.lab_rulebook.specs.IsAccepted.{Verified}
use Rattle.lab_verify.specs.Verdict.{IsScenario}
use Rattle.lab_watch.specs.Known.{Known}
use Rattle.lab_trace.specs.Traces.{IsTraceOf, Traces}
use Rattle.lab_image.specs.Stands.{disks_text}
use Rattle.lab_sweep.specs.SweepLines.{sweep_text}
use Rattle.lab_sweep.specs.Sweep.{IsSweep, OutcomesFrom}
use Rattle.lab_sweep.specs.Told.{IsOutcomeOf, Tells}
use Rattle.lab_sweep.specs.declared.outcome.SeedOutcome.{SeedOutcome}
use Rattle.dmlab_run.specs.Findings.{sought_by}
use Rattle.dmlab_run.specs.Histories.{histories_of}
use Rattle.dmlab_run.specs.Lines.{Output, done_with}
use Rattle.dmlab_run.specs.Studies.{DisksOfEvents, DisksOfSeed, TellsSeedsBy, TellsStudy}
use Rattle.dmlab_run.specs.Studies.{TracesEvents, TracesSeed, studied_history}
use Rattle.dmlab_words.specs.Findings.{is_seeking}
use Rattle.dmlab_words.specs.declared.asked.Asked.{Asked}
use Rattle.dmlab_words.specs.declared.study.Study.{Study}
use Rattle.dmlab_words.specs.declared.study.Study.TheVariants.{Disks, DisksHistory, Sweep}
use Rattle.dmlab_words.specs.declared.study.Study.TheVariants.{Trace, TraceHistory}
use Rattle.law_one_output.specs.Exact.{StudyIsOne}
use Rattle.law_one_output.proofs.AnswersTold.{scenario-well}
use Rattle.law_one_output.proofs.FoundOne.{search-one}
use Rattle.law_one_output.proofs.OutputOne.{IsOne, answers-one, either-one, refuses-run-one}
use Rattle.law_one_output.proofs.Runs.{complete-never-early, leads-one, stops-never-runs}

-- outputs that are done with one text are one
done-one : (a b : Output) → a ≡ done_with a.text → b ≡ done_with b.text → a.text ≡ b.text → a ≡ b
done-one a b first second same = first ∙ ap done_with same ∙ sym second

module _ {S : Type 0} (m : Meaning S) (c : Scenario S) where
  -- the lines of events are one
  traces-one : (events : List Event) (s : State S) (known : Known) (place : ℕ)
      (one other : List ℕ) → Traces m c s known place events one
      → Traces m c s known place events other → one ≡ other
  traces-one [] s known place one other first second = first ∙ sym second
  traces-one (event ∷ events) s known place one other first second =
      let same : first.0 ≡ second.0 = cc in
      let rest = traces-one events second.0 _ (place + 1) first.2 second.2
      (rw same at first.4) second.4 in
      rw (first.3, second.3, same, rest)

  -- so a trace is
  trace-one : (events : List Event) (one other : List ℕ) → IsTraceOf m c events one
      → IsTraceOf m c events other → one ≡ other
  trace-one events one other first second =
      let same = traces-one events (opening c) _ 1 first.0 second.0 first.2 second.2 in
      rw (first.1, second.1, same)

  -- the trace of a history is told in one way
  traces-events-one : (events : List Event) → IsOne (TracesEvents m c events)
  traces-events-one events = either-one (refuses-run-one m c events)
      (λ a b first second. done-one a b first.2 second.2
      (trace-one events a.text b.text first.3 second.3))
      (λ a b refused runs. elim refused [
        | inl stops ↦ stops-never-runs m c events runs.0 stops.0 stops.1 runs.1.0
        | inr early ↦ complete-never-early m c events runs.0 runs.1 early.0
      ])

  -- what a sweep tells of a complete run is one outcome
  outcome-told : (events : List Event) (end : State S) (seed : ℕ) (text : List ℕ)
      (one other : SeedOutcome) → Tells seed text events end one → Tells seed text events end other
      → one ≡ other
  outcome-told events end seed text one other first second = search rules

  -- the disks after a history are told in one way
  disks-events-one : (events : List Event) → IsOne (DisksOfEvents m c events)
  disks-events-one events = either-one (refuses-run-one m c events)
      (λ a b first second. first.2 ∙ ap (λ end. done_with (disks_text m c events end))
      (leads-one m c events (opening c) first.0 second.0 first.1.0 second.1.0) ∙ sym second.2)
      (λ a b refused runs. elim refused [
        | inl stops ↦ stops-never-runs m c events runs.0 stops.0 stops.1 runs.1.0
        | inr early ↦ complete-never-early m c events runs.0 runs.1 early.0
      ])

  module _ (rests : Rests m c) where
    -- a seed's trace is one
    traces-seed-one : (prompt : Bool) (seed : ℕ) (one other : List ℕ)
        → TracesSeed m c prompt seed one → TracesSeed m c prompt seed other → one ≡ other
    traces-seed-one prompt seed one other first second =
        let same = chosen-once m c rests prompt first.events second.events (seeded seed) []
        (opening c) first.end second.end refl first.picks second.picks first.done second.done in
        trace-one second.events one other (rw same.0 at first.told) second.told

    -- and so is the text of its disks
    disks-seed-one : (prompt : Bool) (seed : ℕ) (one other : List ℕ)
        → DisksOfSeed m c prompt seed one → DisksOfSeed m c prompt seed other → one ≡ other
    disks-seed-one prompt seed one other first second =
        let same = chosen-once m c rests prompt first.events second.events (seeded seed) []
        (opening c) first.end second.end refl first.picks second.picks first.done second.done in
        (rw (same.0, same.1) at first.told) ∙ sym second.told

    -- and so is what a sweep tells of its run
    outcome-one : (prompt disks : Bool) (seed : ℕ) (one other : SeedOutcome)
        → IsOutcomeOf m c prompt disks seed one → IsOutcomeOf m c prompt disks seed other
        → one ≡ other
    outcome-one prompt disks seed one other first second =
        let same = chosen-once m c rests prompt first.events second.events (seeded seed) []
        (opening c) first.end second.end refl first.picks second.picks first.done second.done in
        let told = rw (same.0, same.1) at first.told in
        outcome-told second.events second.end seed _ one other told second.told

    -- and what it tells of the runs by some seeds
    outcomes-one : (prompt disks : Bool) (seed : ℕ) (one other : List SeedOutcome)
        → length one ≡ length other → OutcomesFrom m c prompt disks seed one
        → OutcomesFrom m c prompt disks seed other → one ≡ other
    outcomes-one prompt disks seed [] [] long first second = refl
    outcomes-one prompt disks seed (own ∷ one) (own2 ∷ other) long first second =
        ap₂ (λ outcome outcomes. outcome ∷ outcomes)
        (outcome-one prompt disks seed own own2 first.0 second.0)
        (outcomes-one prompt disks (seed + 1) one other (search rules) first.1 second.1)
    outcomes-one prompt disks seed one other long first second = cc

    -- so a sweep is one
    sweep-one : (prompt disks : Bool) (from to : ℕ) (one other : List ℕ)
        → IsSweep m c prompt disks from to one → IsSweep m c prompt disks from to other
        → one ≡ other
    sweep-one prompt disks from to one other first second =
        let same = outcomes-one prompt disks from first.outcomes second.outcomes
        (first.all ∙ sym second.all) first.each second.each in
        first.told ∙ ap sweep_text same ∙ sym second.told

    -- the runs by some seeds are told in one way, searched or not
    tells-seeds-one : (seeking : Bool) (prompt : Bool) (from to : ℕ) (asked : Asked)
        (by_line disks : Bool)
        → IsOne (TellsSeedsBy m seeking c prompt from to asked by_line disks)
    tells-seeds-one true prompt from to asked by_line disks a b first second =
        let same = search-one m c rests prompt from to (sought_by asked) by_line first.0 second.0
        first.1 second.1 first.2 second.2 in
        rw (first.3, second.3, same.0, same.1)
    tells-seeds-one false prompt from to asked by_line disks a b first second =
        let same = sweep-one prompt disks from to first.0 second.0 first.1 second.1 in
        rw (first.2, second.2, same)

-- what a study tells of a scenario is one
study-told-one : {S : Type 0} (m : Meaning S) → Lawful m → (texts : Texts) (study : Study)
    (accepted : Verified S) → IsScenario m texts accepted → (events : List Event)
    → IsOne (TellsStudy m study accepted events)
study-told-one m lawful texts (Trace seed prompt) accepted is events a b first second =
    done-one a b first.0 second.0 (traces-seed-one m accepted.scenario
    (scenario-well m lawful texts accepted is).rests prompt seed a.text b.text first.1 second.1)
study-told-one m lawful texts TraceHistory accepted is events a b first second =
    traces-events-one m accepted.scenario events a b first second
study-told-one m lawful texts (Disks seed prompt) accepted is events a b first second =
    done-one a b first.0 second.0 (disks-seed-one m accepted.scenario
    (scenario-well m lawful texts accepted is).rests prompt seed a.text b.text first.1 second.1)
study-told-one m lawful texts DisksHistory accepted is events a b first second =
    disks-events-one m accepted.scenario events a b first second
study-told-one m lawful texts (Sweep from to prompt asked by_line disks) accepted is events a b
    first second =
    tells-seeds-one m accepted.scenario (scenario-well m lawful texts accepted is).rests
    (is_seeking asked) prompt from to asked by_line disks a b first second

-- so the output of a study on some bytes is one
pub study-one : {S : Type 0} (m : Meaning S) → Lawful m → StudyIsOne m
study-one m lawful study bytes = answers-one m bytes (studied_history study (histories_of bytes))
    (TellsStudy m study) (λ texts. study-told-one m lawful texts study)
