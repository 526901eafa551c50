-- How large a scenario is (this project's own).
use Rattle.std.specs.Prelude.{[], None, map}
use Rattle.lab_text.specs.declared.bundle.Bundle.{Bundle}
use Rattle.lab_script.specs.declared.command.Script.{Script}
use Rattle.lab_script.specs.Script.{script_rows}
use Rattle.lab_rulebook.specs.Parts.{Parts}

-- the parts of a bundle as far as the limits look at them: the script, and how many tables and logs
-- there are, whatever they say
abbrev pub counted_parts : Bundle → Script → Parts (Unit {0})
counted_parts bundle script = record {
  tables = map (λ part. record { name = part.name.now; under = λ names. None }) bundle.tables.items;
  script = script_rows script.lines.items;
  logs = map (λ part. record { name = part.name.now; under = λ names. [] }) bundle.logs.items;
}
