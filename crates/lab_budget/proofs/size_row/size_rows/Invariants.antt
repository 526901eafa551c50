use Rattle.lab_model.proofs.Common.{All}
use Rattle.lab_budget.specs.Grouped.{IsRowOf}
use Rattle.lab_budget.proofs.size_row.size_rows.Given as goal

-- the rows so far are of these tables
abbrev pub invariant-loop-size : goal.invariant-loop-size
invariant-loop-size g l = All (IsRowOf l.tables) l.rows.items
