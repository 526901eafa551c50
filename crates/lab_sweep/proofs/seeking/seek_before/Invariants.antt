-- The seeds so far are gone through, and the scenario is as it was.
use Rattle.lab_model.proofs.Common.{◌≡◌, ◌≤◌, ◌-◌}
use Rattle.lab_sweep.specs.Searching.{IsSearched}
use Rattle.lab_sweep.proofs.seeking.seek_before.Given as goal

abbrev pub invariant-loop-seed : goal.invariant-loop-seed
invariant-loop-seed g l = record {
  all : IsSearched g.T.Target.meaning l.fn.accepted.scenario l.asked.seeds.prompt l.asked.sought
      l.asked.by_line l.asked.seeds.first (l.seed - l.asked.seeds.first) l.searcher;
  within : l.seed - l.asked.seeds.first ≤ l.asked.seeds.last - l.asked.seeds.first;
  kept : l.accepted.scenario ≡ l.fn.accepted.scenario;
}
