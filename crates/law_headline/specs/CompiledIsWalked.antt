-- Two walks go through a script: one knows names, slots and modes alone, and a script compiles by
-- it; the other knows the tables too, and gives the scenario's micro-commands. Both give one list
-- where each table that a command asks for is known (this project's own).
use Rattle.std.specs.Prelude.{◌≡◌, ℕ, List, Some, IsSome, slice_get}
use Rattle.lab_target.specs.Meaning.{Meaning}
use Rattle.lab_script.specs.Script.{ScriptRow}
use Rattle.lab_script.specs.Task.{table_asked}
use Rattle.lab_script.specs.Walk.{micros_of}
use Rattle.lab_rulebook.specs.Accepted.{Accepted, standing_before}
use Rattle.lab_rulebook.specs.Parts.{Parts}
use Rattle.lab_rulebook.specs.Standing.{table_named}
use Rattle.lab_rulebook.specs.Walked.{scenario_of}

-- each table that a command of the script asks for is known where the command stands
abbrev pub KnowsTables : {S : Type 0} → Meaning S → Parts S → Type 0
KnowsTables m parts = (place : ℕ) (row : ScriptRow) (name : List ℕ)
    → slice_get parts.script place ≡ Some row
    → table_asked row.task ≡ Some name
    → IsSome (table_named parts (standing_before m parts place) name)

-- a script whose tables are known compiles to the scenario's micro-commands
abbrev pub KnownIsCompiled : {S : Type 0} → Meaning S → Type 0
KnownIsCompiled {S} m = (parts : Parts S) → KnowsTables m parts
    → (scenario_of m parts).micros ≡ micros_of parts.script

-- so does the script of an accepted scenario
abbrev pub AcceptedIsCompiled : {S : Type 0} → Meaning S → Type 0
AcceptedIsCompiled {S} m = (parts : Parts S) → Accepted m parts
    → (scenario_of m parts).micros ≡ micros_of parts.script
