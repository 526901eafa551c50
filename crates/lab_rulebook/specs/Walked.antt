-- The walk through a script, and the scenario that a bundle's parts are (dmsetup(8), fio's manual).
use Rattle.std.specs.Prelude.{List, [], ◌∷◌, ◌++◌, fold, map}
use Rattle.lab_target.specs.Meaning.{Meaning}
use Rattle.lab_model.specs.declared.micro.Micro.{Micro}
use Rattle.lab_model.specs.Scenario.{LogPlan, Scenario}
use Rattle.lab_script.specs.Script.{ScriptRow}
use Rattle.lab_script.specs.Steps.{on_line}
use Rattle.lab_script.specs.Task.{Task, ram, replay, wait}
use Rattle.lab_script.specs.Walk.{steps_of}
use Rattle.lab_model.specs.declared.phase.Phase.TheVariants.{Replayed, Waited}
use Rattle.lab_rulebook.specs.Parts.{LogPart, Parts}
use Rattle.lab_rulebook.specs.Standing.{Standing, device_meant, nothing, obeyed, table_meant, walk_of}

-- a log with its files bound to the devices that stand
abbrev pub bound_log : {S : Type 0} → Standing S → LogPart → LogPlan
bound_log s part = record { name = part.name; lines = part.under (device_meant s) }

-- what stands after a command; the replay binds the files of all logs
abbrev pub standing_next : {S : Type 0} → Meaning S → Parts S → Standing S → Task → Standing S
standing_next m parts s (ram number size) =
    record s { disks = s.disks ++ record { number = number; size = size } ∷ [] }
standing_next m parts s replay = record s { phase = Replayed; logs = map (bound_log s) parts.logs }
standing_next m parts s wait = record s { phase = Waited }
standing_next m parts s task = obeyed m s task (table_meant parts s task)

-- what stands after some commands
abbrev pub standing_after : {S : Type 0} → Meaning S → Parts S → List ScriptRow → Standing S
standing_after m parts rows = fold (λ s row. standing_next m parts s row.task) nothing rows

-- the micro-commands of the rest of a script, from this place on: the steps of each command are
-- those that it compiles to
abbrev pub rest_micros : {S : Type 0} → Meaning S → Parts S → Standing S → List ScriptRow
    → List Micro
rest_micros m parts s [] = []
rest_micros m parts s (row ∷ rows) =
    on_line row.number (steps_of (walk_of s) row.task)
    ++ rest_micros m parts (standing_next m parts s row.task) rows

-- the scenario that the parts of a bundle are
abbrev pub scenario_of : {S : Type 0} → Meaning S → Parts S → Scenario S
scenario_of m parts = record {
  disks = (standing_after m parts parts.script).disks;
  versions = (standing_after m parts parts.script).versions;
  micros = rest_micros m parts nothing parts.script;
  logs = (standing_after m parts parts.script).logs;
}
