use Rattle.lab_model.proofs.Common.{drop, map, sum, Flush, table_cost, table_visits}
use Rattle.lab_budget.specs.FlushRow.{costs_of, no_sectors, visits_of}
use Rattle.lab_budget.proofs.SoFar.{SumsTo}
use Rattle.lab_budget.proofs.FlushRows.{line_events, line_pieces}
use Rattle.lab_budget.proofs.flush.table_flushes.Given as goal

-- with the lines that are left both sums are the table's
abbrev pub invariant-loop-line : goal.invariant-loop-line
invariant-loop-line g l = record {
  cost : SumsTo (table_cost g.T.Target.meaning (costs_of l.row) Flush no_sectors l.line-items)
      (sum (map (line_events g.T.Target.meaning l.row) (drop l.line-index l.line-items)))
      l.sum.cost;
  visited : SumsTo (table_visits g.T.Target.meaning (visits_of l.row) Flush no_sectors l.line-items)
      (sum (map (line_pieces g.T.Target.meaning l.row) (drop l.line-index l.line-items)))
      l.sum.visited;
}
