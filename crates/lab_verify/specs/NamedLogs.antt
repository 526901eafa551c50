-- The logs under their names, as the definitions of what is accepted see them (this project's own).
use Rattle.std.specs.Prelude.{map}
use Rattle.lab_iolog.specs.Log.{log_rows}
use Rattle.lab_rulebook.specs.BoundWords.{line_read}
use Rattle.lab_rulebook.specs.Parts.{LogPart}
use Rattle.lab_verify.specs.declared.parts.NamedLog.{NamedLog}

-- a log under its name
abbrev pub named_log_part : NamedLog → LogPart
named_log_part named = record {
  name = named.name.now;
  under = λ names. map (line_read names) (log_rows named.log.lines.items);
}
