use Rattle.lab_model.proofs.Common.{drop, map, sum, Flush, greatest, table_cost, table_visits}
use Rattle.lab_budget.specs.FlushRow.{costs_of, no_sectors, visits_of}
use Rattle.lab_budget.proofs.SoFar.{RisesTo, SumsTo}
use Rattle.lab_budget.proofs.flush.device_flushes.Given as goal

-- with the versions that are left they are the device's
abbrev pub invariant-loop-version : goal.invariant-loop-version
invariant-loop-version g l = record {
  cost : RisesTo
      (greatest (map (table_cost g.T.Target.meaning (costs_of l.row) Flush no_sectors) l.versions))
      (greatest (map (table_cost g.T.Target.meaning (costs_of l.row) Flush no_sectors)
      (drop l.version-index l.versions)))
      l.most.cost;
  visited : SumsTo
      (sum (map (table_visits g.T.Target.meaning (visits_of l.row) Flush no_sectors) l.versions))
      (sum (map (table_visits g.T.Target.meaning (visits_of l.row) Flush no_sectors)
      (drop l.version-index l.versions)))
      l.most.visited;
}
