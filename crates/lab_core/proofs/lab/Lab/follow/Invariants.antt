-- The events gone over were fired, and watched.
use Rattle.lab_model.proofs.Common.{◌≡◌, take}
use Rattle.lab_core.specs.Watching.{IsWatched}
use Rattle.lab_core.proofs.lab.Lab.follow.Given as goal

abbrev pub invariant-loop-event : goal.invariant-loop-event
invariant-loop-event g l = record {
  scenario : l.self.scenario ≡ l.fn.self.scenario;
  budget : l.self.budget ≡ l.fn.self.budget;
  history : l.self.history ≡ take l.event-index l.events;
  watched : IsWatched g.T.Target.meaning g.O.Observer.awaits g.O.Observer.sees l.fn.self
      l.fn.observer l.self l.observer;
}
