-- What each event of a run that may come finds, so that its effect can be made (this project's own).
use Rattle.std.specs.Prelude.{IfSome, slice_get}
use Rattle.lab_target.specs.Meaning.{Meaning}
use Rattle.lab_model.specs.declared.event.Event.{Event}
use Rattle.lab_model.specs.declared.event.Event.TheVariants.{Line, Map, Serve, Release, Finish, Control, Clock}
use Rattle.lab_model.specs.Effect.{effect}
use Rattle.lab_model.specs.Scenario.{Scenario}
use Rattle.lab_model.specs.State.{State, bio_of}
use Rattle.lab_model.specs.Steps.{AreOpening, OrderFits}
use Rattle.lab_model.specs.Bounds.{HasMoments, NextFits}
use Rattle.lab_model.specs.Moves.{Moves}
use Rattle.lab_model.specs.Given.{Fills, HasRoom, NumbersDiffer, given_len, recorded_len}

-- what an event finds at its log, its bio or its device
abbrev pub EventFits : {S : Type 0} → Scenario S → State S → Event → Type 0
EventFits c s (Line log) = NextFits c s log
EventFits c s (Map number) = Unit {0}
EventFits c s (Serve number) = IfSome (bio_of s number) Fills
    × HasRoom s.bios number (λ bio. given_len bio.kind bio.span)
EventFits c s (Release number) = Unit {0}
EventFits c s (Finish number) = HasRoom s.bios number (λ bio. recorded_len bio.stage)
EventFits c s Control = IfSome (slice_get c.micros s.done) (λ micro. OrderFits s micro.order)
EventFits c s Clock = Unit {0}

-- an event finds all that it needs: it is not wrong, the tables are opening ones, the moments are
-- within the budget's hours, no two disks have one number
pub record IsReady {S : Type 0} (m : Meaning S) (c : Scenario S) (s : State S) (event : Event)
    : Type 0 where
  pub moves : Moves (effect m c s event)
  pub opening : AreOpening m c
  pub moments : HasMoments s
  pub differ : NumbersDiffer s.disks
  pub fits : EventFits c s event
