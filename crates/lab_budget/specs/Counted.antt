-- What is told of costs and visited pieces (this project's own).
use Rattle.std.specs.Prelude.{◌≡◌, ℕ, ◌+◌, ◌≤◌, ◌&&◌, nat_le, List, map, sum, if◌then◌else◌}
use Rattle.lab_sector.specs.declared.device.DevNo.{DevNo}
use Rattle.lab_sector.specs.declared.request.Kind.{Kind}
use Rattle.lab_sector.specs.declared.span.Span.{Span}
use Rattle.lab_target.specs.Meaning.{Meaning}
use Rattle.lab_model.specs.declared.micro.Micro.{Micro}
use Rattle.lab_model.specs.Cost.{all_visits, budget, cost, of_operation, visits}
use Rattle.lab_model.specs.Scenario.{Scenario}
use Rattle.lab_model.specs.declared.plan.LogLine.{LogLine}
use Rattle.lab_table.specs.PlanRow.{PlanRow}
use Rattle.lab_table.specs.declared.scenario.TheConstants.{LIMIT}
use Rattle.lab_budget.specs.declared.cost.OpCost.{OpCost}
use Rattle.lab_budget.specs.Capped.{capped}

-- the scenario that a plan is with these steps
abbrev pub with_steps : {S : Type 0} → PlanRow S → List Micro → Scenario S
with_steps plan steps = record {
  disks = plan.disks;
  versions = plan.versions;
  micros = steps;
  logs = plan.logs;
}

-- both numbers are told up to the limit; the cost counts only where the pieces aren't more than the
-- limit
pub record IsCounted (events pieces : ℕ) (op : OpCost) : Type 0 where
  pub visited : op.visited ≡ capped pieces
  pub cost : pieces ≤ LIMIT → op.cost ≡ capped events

-- what is told of an operation
abbrev pub OperationIsCounted : {S : Type 0} → Meaning S → Scenario S → DevNo → Kind → Span
    → OpCost → Type 0
OperationIsCounted m c device kind span op =
    IsCounted (cost m c device kind span) (visits m c device kind span) op

-- the visited pieces of a log line
abbrev pub line_visits : {S : Type 0} → Meaning S → Scenario S → LogLine → ℕ
line_visits m c line = of_operation (visits m c) line.device line.entry

-- the visited pieces of a log's lines
abbrev pub lines_visits : {S : Type 0} → Meaning S → Scenario S → List LogLine → ℕ
lines_visits m c lines = sum (map (line_visits m c) lines)

-- the budget, or one more than the limit where it or the visited pieces are more than the limit
abbrev pub told_budget : {S : Type 0} → Meaning S → Scenario S → ℕ
told_budget m c =
    if nat_le (budget m c) LIMIT && nat_le (all_visits m c) LIMIT then budget m c else LIMIT + 1
