-- What a table's name gives is as it was read, whatever names stand; so are all versions of all
-- devices at each place of a script. A scenario whose parts are well read takes no longer than an
-- hour for anything.
use Rattle.lab_model.proofs.Common.{rules, ◌≡◌, ℕ, zero, suc, List, [], ◌∷◌, Some, fold, inl, inr}
use Rattle.lab_model.proofs.Common.{slice_get, unwrap_or, In-slice_get, bytes_eq, cond_both}
use Rattle.lab_model.proofs.Common.{option_and_then_some, Meaning, Table, In, version_of}
use Rattle.lab_model.proofs.Common.{None-not-Some, LogPlan}
use Rattle.lab_script.specs.Script.{ScriptRow}
use Rattle.lab_script.specs.Task.{Task, create, on, replay, table_asked}
use Rattle.lab_script.specs.Walk.{found_by}
use Rattle.lab_rulebook.specs.Parts.{Parts, TablePart, part_named}
use Rattle.lab_rulebook.specs.Read.{WellRead, WellReadTable}
use Rattle.lab_rulebook.specs.Standing.{Standing, device_meant, nothing, obeyed, table_meant}
use Rattle.lab_rulebook.specs.Standing.{table_named}
use Rattle.lab_rulebook.specs.Walked.{standing_next, scenario_of, bound_log, rest_micros}
use Rattle.lab_rulebook.proofs.ReferenceLemmas.{versions-added}
use Rattle.law_slots.specs.Timely.{EntryIsTimely, IsTimely, OrderIsTimely}
use Rattle.law_slots.proofs.AllOf.{AllOf, all-at, all-from, all-map}
use Rattle.lab_rulebook.specs.Hours.{ReadInHours, TaskIsTimely}

module _ {S : Type 0} (m : Meaning S) (parts : Parts S) (P : Standing S → Type 0)
    (each : (s : Standing S) (task : Task) → P s → P (standing_next m parts s task)) where
  -- what each command keeps holds after some commands
  pub rows-keep : (rows : List ScriptRow) (s : Standing S) → P s
      → P (fold (λ t row. standing_next m parts t row.task) s rows)
  rows-keep [] s holds = holds
  rows-keep (row ∷ rows) s holds = rows-keep rows (standing_next m parts s row.task)
      (each s row.task holds)

-- a part that a name finds is one of the parts
part-place : {S : Type 0} (parts : List (TablePart S)) (name : List ℕ) (part : TablePart S)
    → part_named parts name ≡ Some part → (number : ℕ) × (slice_get parts number ≡ Some part)
part-place [] name part = λ is. absurd (None-not-Some is)
part-place (first ∷ parts) name part =
    cond_both (bytes_eq first.name name) (Some first) (part_named parts name)
    (λ o. o ≡ Some part → (number : ℕ) × (slice_get (first ∷ parts) number ≡ Some part))
    (λ same here. (zero, here))
    (λ other later. let place = part-place parts name part later in (suc place.0, place.1))

module _ {S : Type 0} (m : Meaning S) (parts : Parts S) (read : WellRead m parts) where
  -- what a name gives is as it was read
  pub table-read : (s : Standing S) (name : List ℕ) (table : Table S)
      → table_named parts s name ≡ Some table → WellReadTable m table
  table-read s name table is = option_and_then_some _ (part_named parts.tables name) table is
      (λ part named. read.tables _ part (part-place _ name part named).1 (device_meant s) table)

  -- so are all versions of all devices
  abbrev ReadVersions : Standing S → Type 0
  ReadVersions s = (device : ℕ) (table : Table S)
      → In table (unwrap_or (slice_get s.versions device) []) → WellReadTable m table

  -- they are after a command on names and devices
  obeyed-read : (s : Standing S) (task : Task) → ReadVersions s
      → ReadVersions (obeyed m s task (table_meant parts s task))
  obeyed-read s task all device table has =
      let meant = table_meant parts s task in
      elim (versions-added s.versions (found_by s.device_of task) task meant device table has) [
        | inl new ↦ option_and_then_some (table_named parts s) (table_asked task) table new.1
            (λ name asks. table-read s name table)
        | inr old ↦ all device table old
      ]

  -- and after each command
  after-read : (s : Standing S) (task : Task) → ReadVersions s
      → ReadVersions (standing_next m parts s task)
  after-read s (create name chosen) all = obeyed-read s (create name chosen) all
  after-read s (on name asked) all = obeyed-read s (on name asked) all
  after-read s _ all = all

  -- so is each version of the scenario
  pub version-read : (device version : ℕ) (table : Table S)
      → version_of (scenario_of m parts) device version ≡ Some table → WellReadTable m table
  version-read device version table is = rows-keep m parts ReadVersions after-read parts.script
      nothing (λ d t none. absurd none) device table (In-slice_get table _ version is)

module _ {S : Type 0} (m : Meaning S) (parts : Parts S) (read : WellRead m parts)
    (hours : ReadInHours parts) where
  -- the micro-commands of a script sleep for an hour at most
  micros-timely : (rows : List ScriptRow) → AllOf (λ row. TaskIsTimely row.task) rows
      → (s : Standing S) → AllOf (λ micro. OrderIsTimely micro.order) (rest_micros m parts s rows)
  micros-timely [] timely s = search rules
  micros-timely (row ∷ rows) timely s = search (rules, micros-timely rows timely.1)

  -- a log whose waits are an hour at most
  abbrev LogTimely : LogPlan → Type 0
  LogTimely plan = AllOf (λ line. EntryIsTimely line.entry) plan.lines

  -- the logs after a command wait for an hour at most: those that a replay binds do
  after-timely : (s : Standing S) (task : Task) → AllOf LogTimely s.logs
      → AllOf LogTimely (standing_next m parts s task).logs
  after-timely s replay all = all-map LogTimely (bound_log s) parts.logs
      (all-from _ parts.logs (λ number part is. all-from _ (part.under (device_meant s))
      (λ place line here. hours.waits (device_meant s) number place part line is here)))
  after-timely s _ all = all

  -- so the scenario takes no longer than an hour for anything
  pub read-is-timely : IsTimely m (scenario_of m parts)
  read-is-timely = record {
    sleeps = search (rules, all-at, micros-timely, all-from);
    waits = λ number place plan line logged is. all-at (λ line. EntryIsTimely line.entry) plan.lines
        (all-at LogTimely (scenario_of m parts).logs
        (rows-keep m parts (λ s. AllOf LogTimely s.logs) after-timely parts.script nothing tt)
        number plan logged) place line is;
    sound = λ device version table number line found is.
        ((version-read m parts read device version table found).lines number line is).0;
  }
