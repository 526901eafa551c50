-- What the tracer has written in the end is the trace of the history, which is the events.
use Rattle.lab_model.proofs.Common.{refl}
use Rattle.lab_core.specs.Running.{begun}
use Rattle.lab_trace.proofs.Tracing.{traces-all}
use Rattle.lab_trace.proofs.traced.trace_events.Goals as goal

pub returns-clause-told : goal.returns-clause-told
returns-clause-told g c =
    rw (c.into_text.ensures, ← c.in_ok-lab.ensures.history) (traces-all g.T.Target.meaning
    (begun c.args.accepted) c.in_ok-lab.lab c.in_ok-tracer.tracer c.audit_watched.new.observer
    c.in_ok-lab.ensures.watched refl c.in_ok-tracer.ensures.text c.in_ok-tracer.ensures.nobody)
