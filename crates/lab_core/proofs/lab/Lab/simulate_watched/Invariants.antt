-- So far the seed's words picked the events, and each was watched; twice the budget bounds them.
use Rattle.lab_model.proofs.Common.{◌*◌, ◌-◌, length}
use Rattle.lab_core.specs.Watching.{IsWatched}
use Rattle.lab_core.specs.Words.{seeded}
use Rattle.lab_core.proofs.Seeded.{PacedSoFar}
use Rattle.lab_core.proofs.lab.Lab.simulate_watched.Given as goal

abbrev pub invariant-events : goal.invariant-events
invariant-events g l = record {
  paced : PacedSoFar g.T.Target.meaning l.prompt (seeded l.seed) l.fn.self l.self l.generator;
  watched : IsWatched g.T.Target.meaning g.O.Observer.awaits g.O.Observer.sees l.fn.self
      l.fn.observer l.self l.observer;
}

abbrev pub decreases-events : goal.decreases-events
decreases-events g l = 2 * l.self.budget - length l.self.history
