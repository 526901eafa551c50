-- A scenario: what a bundle says, its names bound to devices (dmsetup(8), fio's manual).
use Rattle.std.specs.Prelude.{◌≡◌, ℕ, List, Option, None, Some, slice_get, unwrap_or, []}
use Rattle.lab_model.specs.declared.micro.Micro.{Micro}
use Rattle.lab_model.specs.declared.plan.DiskPlan.{DiskPlan}
use Rattle.lab_model.specs.declared.plan.LogLine.{LogLine}
use Rattle.lab_model.specs.Tables.{Table}

-- a log: its name and its lines
pub record LogPlan : Type 0 where
  pub name : List ℕ
  pub lines : List LogLine

-- what runs: disks, tables, the script's steps and the logs
pub record Scenario (S : Type 0) : Type 0 where
  pub disks : List DiskPlan
  -- by device number: all tables that are ever loaded into the device, in the order of the
  -- loads, in their opening state
  pub versions : List (List (Table S))
  -- the script's steps, in order
  pub micros : List Micro
  pub logs : List LogPlan

-- all tables that are ever loaded into a device
abbrev pub versions_of : {S : Type 0} → List (List (Table S)) → ℕ → List (Table S)
versions_of versions device = unwrap_or (slice_get versions device) []

-- a version of a device
abbrev pub version_of : {S : Type 0} → Scenario S → ℕ → ℕ → Option (Table S)
version_of c device version = slice_get (versions_of c.versions device) version

-- a version of a device is there
abbrev pub HasVersion : {S : Type 0} → Scenario S → ℕ → ℕ → Type 0
HasVersion {S} c device version = (table : Table S) × (version_of c device version ≡ Some table)

-- the version that a create names is there, if it names one
abbrev pub HasNamed : {S : Type 0} → Scenario S → ℕ → Option ℕ → Type 0
HasNamed c device None = Unit {0}
HasNamed c device (Some version) = HasVersion c device version
