-- What the tracer has written in the end is the trace of the history.
use Rattle.lab_trace.proofs.Tracing.{traces-all}
use Rattle.lab_trace.proofs.traced.trace_run.Goals as goal

pub returns-clause-told : goal.returns-clause-told
returns-clause-told g c =
    rw c.into_text.ensures (traces-all g.T.Target.meaning c.args.lab.now c.simulate_watched.new.self
    c.in_ok-tracer.tracer c.simulate_watched.new.observer
    c.in_ok-simulate_watched.ensures.watched c.requires c.in_ok-tracer.ensures.text
    c.in_ok-tracer.ensures.nobody)
