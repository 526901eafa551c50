-- So far it was driven on, and watched; twice the budget bounds its events.
use Rattle.lab_model.proofs.Common.{◌*◌, ◌-◌, length}
use Rattle.lab_core.specs.Runs.{IsDriven}
use Rattle.lab_core.specs.Watching.{IsWatched}
use Rattle.lab_core.proofs.lab.Lab.drive_watched.Given as goal

abbrev pub invariant-events : goal.invariant-events
invariant-events g l = record {
  driven : IsDriven g.T.Target.meaning l.fn.self l.self;
  watched : IsWatched g.T.Target.meaning g.O.Observer.awaits g.O.Observer.sees l.fn.self
      l.fn.observer l.self l.observer;
}

abbrev pub decreases-events : goal.decreases-events
decreases-events g l = 2 * l.self.budget - length l.self.history
