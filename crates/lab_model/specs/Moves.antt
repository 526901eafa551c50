-- An event or a step of the script that isn't wrong (this project's own).
use Rattle.std.specs.Prelude.{◌≡◌}
use Rattle.lab_model.specs.After.{After, Next}
use Rattle.lab_model.specs.State.{State}

-- an event is not wrong: it leads to a state
abbrev pub Moves : {S : Type 0} → After S → Type 0
Moves {S} after = (next : State S) × (after ≡ Next next)
