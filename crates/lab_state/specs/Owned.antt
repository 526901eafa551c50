-- Whether two that events may belong to are the same (this project's own).
use Rattle.std.specs.Prelude.{◌==◌, Bool, true, false}
use Rattle.lab_model.specs.declared.event.Who.{Who}
use Rattle.lab_model.specs.declared.event.Who.TheVariants.{Log, Control, Timers}

-- whether two are the same
abbrev pub is_same : Who → Who → Bool
is_same (Log log) (Log other) = log == other
is_same Control Control = true
is_same Timers Timers = true
is_same _ _ = false
