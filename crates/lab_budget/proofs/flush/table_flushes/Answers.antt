use Rattle.lab_model.proofs.Common.{rules}
use Rattle.lab_budget.proofs.FlushRows.{table_cost-lines, table_visits-lines}
use Rattle.lab_budget.proofs.flush.table_flushes.Goals as goal

-- all lines are left
pub loop-line-init : goal.loop-line-init
loop-line-init g c = search (rules, table_cost-lines, table_visits-lines)
