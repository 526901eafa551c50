-- From a run that is done to its trace, and to what stands on its disks.
use Rattle.lab_model.proofs.Common.{◌≡◌, ◌∙◌, ℕ, List, Bool, ap, inl, inr, Meaning, Scenario, Vec, Global}
use Rattle.lab_model.proofs.Common.{Result, Ok, Err, IfOk, OnOk}
use Rattle.std.specs.Prelude.{IfErr, MatchResult}
use Rattle.lab_model.specs.declared.event.Event.{Event}
use Rattle.lab_rulebook.specs.IsAccepted.{Verified}
use Rattle.lab_model.specs.Effect.{IsComplete}
use Rattle.lab_model.specs.State.{State}
use Rattle.lab_core.specs.Audit.{IsFaultOf}
use Rattle.lab_core.specs.declared.audit.AuditFault.{AuditFault}
use Rattle.lab_trace.specs.Traced.{IsTraceOfSeed}
use Rattle.lab_trace.specs.Traces.{IsTraceOf}
use Rattle.lab_image.specs.Stands.{IsDisksOfEvents, IsDisksOfSeed}
use Rattle.dmlab_run.specs.Answering.{TellsFault}
use Rattle.dmlab_run.specs.Lines.{Output, done_with}
use Rattle.dmlab_run.specs.Studies.{DisksOfEvents, DisksOfSeed, TracesEvents, TracesSeed}
use Rattle.dmlab_run.proofs.AnswerLemmas.{done-itself, refuses-run}

-- the trace of a seeded run that is done is the one of the events that the seed picks
pub traces-seed : {S : Type 0} (m : Meaning S) (accepted : Verified S) (prompt : Bool) (seed : ℕ)
    (text : List ℕ) → IsTraceOfSeed m accepted prompt seed text
    → TracesSeed m accepted.scenario prompt seed text
traces-seed {S} m accepted prompt seed text traced = record {
  events = traced.paced.events;
  end = traced.lab.state;
  picks = traced.paced.chosen;
  done = rw traced.paced.goes.scenario at traced.done;
  told = rw traced.paced.goes.history at traced.told;
}

-- what is told of a trace of events that was tried is the trace of a complete run, or why there is
-- none
pub traces-tried : {S : Type 0} (m : Meaning S) (c : Scenario S) (events : List Event)
    (told : Output) (tried : Result (Vec ℕ Global) AuditFault)
    → IfOk tried (λ text. IsTraceOf m c events text.items)
    → OnOk tried ((end : State S) × IsComplete m c events end)
    → IfErr tried (λ fault. IsFaultOf m c events fault)
    → MatchResult tried (λ text. told ≡ done_with text.items) (λ fault. TellsFault fault told)
    → TracesEvents m c events told
traces-tried m c events told (Ok text) traced complete fault tells = inr (
  complete.0,
  complete.1,
  done-itself told text.items tells,
  rw (ap (λ (t : Output). t.text) tells) traced,
)
traces-tried m c events told (Err fault) traced complete why tells =
    inl (refuses-run m c events told fault why tells)

-- the disks after a seeded run that is done are those after the events that the seed picks
pub disks-seed : {S : Type 0} (m : Meaning S) (accepted : Verified S) (prompt : Bool) (seed : ℕ)
    (text : List ℕ) → IsDisksOfSeed m accepted prompt seed text
    → DisksOfSeed m accepted.scenario prompt seed text
disks-seed {S} m accepted prompt seed text stand = record {
  events = stand.paced.events;
  end = stand.lab.state;
  picks = stand.paced.chosen;
  done = rw stand.paced.goes.scenario at stand.done;
  told = rw stand.paced.goes.history at stand.told;
}

-- what is told of the disks after events that were tried is what stands there after a complete run,
-- or why there is none
pub disks-tried : {S : Type 0} (m : Meaning S) (c : Scenario S) (events : List Event)
    (told : Output) (tried : Result (Vec ℕ Global) AuditFault)
    → IfOk tried (λ text. IsDisksOfEvents m c events text.items)
    → IfErr tried (λ fault. IsFaultOf m c events fault)
    → MatchResult tried (λ text. told ≡ done_with text.items) (λ fault. TellsFault fault told)
    → DisksOfEvents m c events told
disks-tried m c events told (Ok text) stand fault tells =
    inr (stand.0, stand.1, tells ∙ ap done_with stand.2)
disks-tried m c events told (Err fault) stand why tells =
    inl (refuses-run m c events told fault why tells)
