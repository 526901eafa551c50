-- A bio's stage as the definitions of the machine name them (this project's own).
use Rattle.lab_model.specs.Bios as machine
use Rattle.lab_bios.specs.declared.bio.Stage.{Stage}
use Rattle.lab_bios.specs.declared.bio.Stage.TheVariants.{Entering, Held, InFlight}

-- how far a bio has come
abbrev pub stage_of : Stage → machine.Stage
stage_of Entering = machine.Entering
stage_of (Held due holder) = machine.Held due holder
stage_of (InFlight failed answered) = machine.InFlight failed answered

-- a bio that has come to another stage
abbrev pub with_stage : machine.Stage → machine.Bio → machine.Bio
with_stage stage bio = record bio { stage = stage }
