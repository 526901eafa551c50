-- Events that answer nothing (this project's own).
use Rattle.std.specs.Prelude.{Bool, true, false}
use Rattle.lab_model.specs.declared.event.Event.{Event}
use Rattle.lab_model.specs.declared.event.Event.TheVariants.{Serve, Finish}

-- whether an event neither serves a bio nor finishes one, so that nothing is answered
abbrev pub is_idle : Event → Bool
is_idle (Serve number) = false
is_idle (Finish number) = false
is_idle _ = true
