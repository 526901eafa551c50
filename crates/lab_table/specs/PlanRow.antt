-- What the budget depends on (this project's own).
use Rattle.std.specs.Prelude.{ℕ, List, length}
use Rattle.lab_model.specs.Scenario.{LogPlan, Scenario}
use Rattle.lab_model.specs.declared.plan.DiskPlan.{DiskPlan}
use Rattle.lab_model.specs.Tables.{Table}

-- a scenario of which the script's steps are only counted
pub record PlanRow (S : Type 0) : Type 0 where
  pub disks : List DiskPlan
  -- by device number: all tables that are ever loaded into the device
  pub versions : List (List (Table S))
  pub logs : List LogPlan
  -- how many steps the script has
  pub micros : ℕ

-- what the budget of a scenario depends on
abbrev pub plan_of : {S : Type 0} → Scenario S → PlanRow S
plan_of c = record {
  disks = c.disks;
  versions = c.versions;
  logs = c.logs;
  micros = length c.micros;
}
