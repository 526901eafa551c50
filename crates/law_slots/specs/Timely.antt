-- Scenarios in which nothing takes longer than an hour (this project's own).
use Rattle.std.specs.Prelude.{◌≡◌, ℕ, ◌≤◌, true, Some, slice_get}
use Rattle.lab_target.specs.Meaning.{Meaning}
use Rattle.lab_model.specs.declared.entry.Entry.{Entry}
use Rattle.lab_model.specs.declared.micro.Micro.{Micro}
use Rattle.lab_model.specs.declared.micro.Order.{Order}
use Rattle.lab_model.specs.declared.micro.Order.TheVariants.{Sleep}
use Rattle.lab_model.specs.declared.table_line.TableLine.{TableLine}
use Rattle.lab_model.specs.LogEffect.{wait_of}
use Rattle.lab_model.specs.Scenario.{LogPlan, Scenario, version_of}
use Rattle.lab_model.specs.declared.plan.LogLine.{LogLine}
use Rattle.lab_model.specs.Tables.{Table}

-- an hour, in microseconds
abbrev pub hour : ℕ
hour = 3600000000

-- a step of the script sleeps for an hour at most
abbrev pub OrderIsTimely : Order → Type 0
OrderIsTimely (Sleep time) = time ≤ hour
OrderIsTimely _ = Unit {0}

-- a line of a log waits for an hour at most
abbrev pub EntryIsTimely : Entry → Type 0
EntryIsTimely entry = wait_of entry ≤ hour

-- each sleep and each wait is an hour at most, and all targets that are ever loaded are sound, so
-- that they hold for an hour at most
pub record IsTimely {S : Type 0} (m : Meaning S) (c : Scenario S) : Type 0 where
  pub sleeps : (place : ℕ) (micro : Micro) → slice_get c.micros place ≡ Some micro
      → OrderIsTimely micro.order
  pub waits : (number place : ℕ) (plan : LogPlan) (line : LogLine)
      → slice_get c.logs number ≡ Some plan → slice_get plan.lines place ≡ Some line
      → EntryIsTimely line.entry
  pub sound : (device version : ℕ) (table : Table S) (number : ℕ) (line : TableLine S)
      → version_of c device version ≡ Some table → slice_get table number ≡ Some line
      → m.is_sound line.target ≡ true
