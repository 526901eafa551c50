-- The marks of all logs whose moment has come were set anew.
use Rattle.lab_model.proofs.Common.{ap, arith, ◌∙◌, State}
use Rattle.lab_core.proofs.FreeLines.{before-all}
use Rattle.lab_core.proofs.free_logs.update_due.Goals as goal

-- all are gone over
pub returns : goal.returns
returns g c = before-all c.args.scenario.now c.args.state.now c.due-due-items.result.now
    c.state.inside.logs c.args.since c.clock.result c.loop-due.due-index c.args.free.now
    c.loop-due.free (ap (λ (s : State g.row.T.Denot). s.logs) c.state.view_is)
    (c.clock.ensures ∙ ap (λ (s : State g.row.T.Denot). s.clock) c.state.view_is) (omega arith)
    c.due-due-items.ensures c.loop-due.invariant
