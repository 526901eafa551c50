-- The marks are counted.
use Rattle.lab_model.proofs.Common.{sym, ◌∙◌}
use Rattle.lab_core.proofs.FreeLines.{count-free}
use Rattle.lab_core.proofs.lab.Lab.count_lines.Goals as goal

-- a mark for each event
pub returns-clause-count : goal.returns-clause-count
returns-clause-count g c = rw (← c.self.view_is) (c.count.ensures.count
    ∙ sym (count-free c.self.inside.accepted.scenario c.self.inside.state
    c.self.inside.free c.self.invariant.marked))

-- and the events are a run
pub returns-clause-running : goal.returns-clause-running
returns-clause-running g c = rw c.self.view_is at c.self.invariant.running
