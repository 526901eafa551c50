-- What stands on the disks after a run (this project's own).
use Rattle.std.specs.Prelude.{◌≡◌, ℕ, Bool, true, List, [], ◌∷◌}
use Rattle.lab_target.specs.Meaning.{Meaning}
use Rattle.lab_model.specs.declared.event.Event.{Event}
use Rattle.lab_model.specs.After.{After, Next, Wrong}
use Rattle.lab_model.specs.Effect.{IsComplete, effect}
use Rattle.lab_model.specs.Guard.{is_done}
use Rattle.lab_model.specs.Scenario.{Scenario}
use Rattle.lab_model.specs.State.{State, opening}
use Rattle.lab_rulebook.specs.IsAccepted.{Verified}
use Rattle.lab_core.specs.Running.{Running, begun}
use Rattle.lab_core.specs.Runs.{IsPaced}
use Rattle.lab_image.specs.Images.{Image, blank, image_next}
use Rattle.lab_image.specs.Rows.{DiskRow, image_rows}
use Rattle.lab_image.specs.Text.{rows_text}

-- what stands on the disks after an event, in the state that it leads to; a wrong one changes nothing
abbrev pub image_after : {S : Type 0} → State S → Event → Image → After S → Image
image_after s event image (Next next) = image_next s next event image
image_after s event image (Wrong cause) = image

-- what stands there after events, one after another
abbrev pub image_from : {S : Type 0} → Meaning S → Scenario S → After S → Image → List Event
    → Image
image_from m c after image [] = image
image_from m c (Wrong cause) image (event ∷ events) = image
image_from m c (Next s) image (event ∷ events) = image_from m c (effect m c s event)
    (image_after s event image (effect m c s event)) events

-- the rows of what stands on the disks of a state after the events of a run
abbrev pub rows_after : {S : Type 0} → Meaning S → Scenario S → List Event → State S
    → List DiskRow
rows_after m c events end =
    image_rows (image_from m c (Next (opening c)) blank events).disks end.disks

-- the same as a text
abbrev pub disks_text : {S : Type 0} → Meaning S → Scenario S → List Event → State S → List ℕ
disks_text m c events end = rows_text (rows_after m c events end)

-- the text tells what stands on the disks after the complete run that the seed picks
pub record IsDisksOfSeed {S : Type 0} (m : Meaning S) (accepted : Verified S) (prompt : Bool)
    (seed : ℕ) (text : List ℕ) : Type 0 where
  pub lab : Running S
  pub paced : IsPaced m prompt seed (begun accepted) lab
  pub done : is_done lab.scenario lab.state ≡ true
  pub told : text ≡ disks_text m accepted.scenario lab.history lab.state

-- the text tells what stands on the disks after these events, which are a complete run
abbrev pub IsDisksOfEvents : {S : Type 0} → Meaning S → Scenario S → List Event → List ℕ → Type 0
IsDisksOfEvents {S} m c events text =
    (end : State S) × IsComplete m c events end × (text ≡ disks_text m c events end)
