-- There is an outcome for each seed so far, and the scenario is as it was.
use Rattle.lab_model.proofs.Common.{◌≡◌, ◌≤◌, ◌-◌, length}
use Rattle.lab_sweep.specs.Sweep.{OutcomesFrom}
use Rattle.lab_sweep.proofs.sweeper.Sweeper.add_before.Given as goal

abbrev pub invariant-loop-seed : goal.invariant-loop-seed
invariant-loop-seed g l = record {
  each : OutcomesFrom g.T.Target.meaning l.fn.accepted.scenario l.seeds.prompt
      l.fn.self.disks l.seeds.first l.self.outcomes.items;
  count : length l.self.outcomes.items ≡ l.seed - l.seeds.first;
  within : length l.self.outcomes.items ≤ l.seeds.last - l.seeds.first;
  disks : l.self.disks ≡ l.fn.self.disks;
  kept : l.accepted.scenario ≡ l.fn.accepted.scenario;
}
