-- The state asks what is left.
use Rattle.lab_core.proofs.lab.Lab.is_over.Goals as goal

pub returns : goal.returns
returns g c = rw (← c.self.view_is, ← c.scenario.ensures.value) c.is_over.ensures
