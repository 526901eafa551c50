-- The events so far are a run, so the bios can be numbered.
use Rattle.lab_model.proofs.Common.{sym, subst}
use Rattle.lab_model.specs.Bounds.{CanNumber}
use Rattle.lab_core.proofs.Known.{can-number}
use Rattle.lab_trace.proofs.fired.push_start.Goals as goal

pub row_of-requires : goal.row_of-requires
row_of-requires g c = subst (λ s. CanNumber c.scenario.result.now s) (sym c.state.ensures)
    (subst (λ plan. CanNumber plan c.args.lab.now.state) (sym c.scenario.ensures.value)
    (can-number g.T.Target.meaning g.met.T.Target.lawful c.args.lab.now
    c.history-events.ensures.running))
