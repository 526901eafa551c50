-- The state asks what is left; each bio is answered once in a run after which all is done, and each
-- operation has its answer.
use Rattle.lab_model.proofs.Common.{sym, ◌∙◌}
use Rattle.law_answered_once.proofs.OrderLaw.{all-answered_in_line_order}
use Rattle.lab_core.proofs.Known.{runs-well}
use Rattle.lab_core.proofs.lab.Lab.is_done.Goals as goal

-- whether all is done
pub returns-clause-done : goal.returns-clause-done
returns-clause-done g c = rw (← c.self.view_is, ← c.scenario.ensures.value) c.is_done.ensures

-- then each bio is answered
pub returns-clause-answered : goal.returns-clause-answered
returns-clause-answered g c =
    let lab = c.args.self.now in
    let running = rw c.self.view_is at c.self.invariant.running in
    λ done number above below.
    (runs-well g.T.Target.meaning g.met.T.Target.lawful lab running).answered_once
    lab.history lab.state (running.run, sym (returns-clause-done g c) ∙ done) number above below

-- and each operation, in line order
pub returns-clause-in_order : goal.returns-clause-in_order
returns-clause-in_order g c =
    let lab = c.args.self.now in
    let running = rw c.self.view_is at c.self.invariant.running in
    λ done. all-answered_in_line_order g.T.Target.meaning lab.scenario lab.history lab.state
    (running.run, sym (returns-clause-done g c) ∙ done)
