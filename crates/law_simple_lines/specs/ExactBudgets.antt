-- Scenarios whose runs take just as many events as the budget that is printed: of linear, zero, error
-- and delay lines, with one table for each device (this project's own).
use Rattle.std.specs.Prelude.{◌≡◌, ℕ, List, Some, slice_get}
use Rattle.lab_model.specs.declared.event.Event.{Event}
use Rattle.lab_model.specs.declared.table_line.TableLine.{TableLine}
use Rattle.lab_model.specs.Effect.{IsComplete}
use Rattle.lab_model.specs.Potential.{steps}
use Rattle.lab_model.specs.Scenario.{Scenario, version_of}
use Rattle.lab_model.specs.State.{State}
use Rattle.lab_model.specs.Tables.{Table}
use Rattle.lab_any.specs.declared.any_target.AnyTarget.{AnyTarget}
use Rattle.lab_any.specs.Any.{any_meaning}
use Rattle.lab_rulebook.specs.IsAccepted.{IsAccepted}
use Rattle.law_within_budget.specs.PassesAll.{HasOneVersion}
use Rattle.law_simple_lines.specs.ExactLines.{IsExactType}

-- each line of each table that is ever loaded is linear, zero, error or delay
abbrev pub LinesAreExact : Scenario AnyTarget → Type 0
LinesAreExact c = (device version : ℕ) (table : Table AnyTarget) (number : ℕ)
    (line : TableLine AnyTarget) → version_of c device version ≡ Some table
    → slice_get table number ≡ Some line → IsExactType line.target

-- in an accepted scenario of such lines in which no device gets a second table, every complete run
-- takes as many events as the budget, the clock's left out
abbrev pub BudgetsAreExact : Type 0
BudgetsAreExact = (c : Scenario AnyTarget) (most : ℕ) → IsAccepted any_meaning c most
    → HasOneVersion c → LinesAreExact c → (events : List Event) (end : State AnyTarget)
    → IsComplete any_meaning c events end → steps events ≡ most
