-- The state asks its guard.
use Rattle.lab_core.proofs.lab.Lab.is_enabled.Goals as goal

pub returns : goal.returns
returns g c = rw (← c.self.view_is, ← c.scenario.ensures.value) c.is_enabled.ensures
