-- An event that may come finds all that it needs, and with it the events are a run again.
use Rattle.lab_core.proofs.Fired.{fired-free, fired-runs}
use Rattle.lab_core.proofs.Known.{few-logs, is-ready}
use Rattle.lab_core.proofs.lab.Lab.fire.Goals as goal

-- it is ready
pub fire_in-requires-clause-ready : goal.fire_in-requires-clause-ready
fire_in-requires-clause-ready g c = rw c.scenario.ensures.value
    (is-ready g.T.Target.meaning g.met.T.Target.lawful _ c.self.invariant.running c.args.event
    (rw (← c.self.view_is) at c.requires))

-- the logs are few
pub fire_in-requires-clause-logs : goal.fire_in-requires-clause-logs
fire_in-requires-clause-logs g c = rw c.scenario.ensures.value
    (few-logs g.T.Target.meaning g.met.T.Target.lawful _ c.self.invariant.running)

-- the events are a run, and just the logs are marked that may take their next line
pub invariant_of-self : goal.invariant_of-self
invariant_of-self g c =
    let may = rw (← c.self.view_is) at c.requires in
    record {
      running = fired-runs g.T.Target.meaning _ c.args.event c.fire_in.result c.fire_in.new.state
          c.fire_in.new.history.items c.scenario.result.now c.scenario.ensures.value
          c.self.invariant.running may c.fire_in.ensures.next c.fire_in.ensures.history
          c.fire_in.ensures.state c.fire_in.ensures.kept;
      marked = fired-free g.T.Target.meaning c.self.inside.accepted.scenario c.self.inside.state
          c.args.event c.fire_in.result c.fire_in.new.state c.scenario.result.now
          c.self.inside.free c.fire_in.new.free c.scenario.ensures.value c.self.invariant.marked
          may c.fire_in.ensures.next c.fire_in.ensures.free c.fire_in.ensures.state
          c.fire_in.ensures.marks;
    }

-- and stay one
pub returns-clause-running : goal.returns-clause-running
returns-clause-running g c = (invariant_of-self g c).running
