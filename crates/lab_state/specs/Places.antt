-- The events that may come to the bios, in the order of their numbers (this project's own).
use Rattle.std.specs.Prelude.{ℕ, suc, Bool, ◌||◌, if◌then◌else◌, List, [], ◌∷◌, Option, Some, None}
use Rattle.std.specs.List.{filter_map}
use Rattle.lab_sector.specs.declared.device.DevNo.{DevNo}
use Rattle.lab_sector.specs.declared.device.DevNo.TheVariants.{Ram, Dm}
use Rattle.lab_model.specs.declared.event.Event.{Event}
use Rattle.lab_model.specs.declared.event.Event.TheVariants.{Map, Serve, Release, Finish}
use Rattle.lab_model.specs.Bios.{Bio, Stage, Entering, Held, InFlight}
use Rattle.lab_model.specs.Guard.{bio_maps, bio_serves, bio_releases, bio_finishes}
use Rattle.lab_model.specs.State.{State}

-- the event of the bio of a number that goes to this device and has come this far
abbrev pub bio_event : {S : Type 0} → State S → ℕ → DevNo → Stage → Option Event
bio_event s number device stage =
    if bio_maps s device stage then Some (Map number)
    else if bio_serves device stage then Some (Serve number)
    else if bio_releases s stage then Some (Release number)
    else if bio_finishes s number stage then Some (Finish number)
    else None

-- which event comes to the bio of a number that has come this far and goes to this device, where one
-- may
abbrev pub ready_event : ℕ → Stage → DevNo → Event
ready_event number Entering (Ram disk) = Serve number
ready_event number Entering (Dm device) = Map number
ready_event number (Held due holder) device = Release number
ready_event number (InFlight failed answered) device = Finish number

-- whether an event may come to a bio that goes to this device and has come this far; of one in
-- flight that isn't told, since it depends on its children
abbrev pub told_new : {S : Type 0} → State S → DevNo → Stage → Option Bool
told_new s device Entering = Some (bio_maps s device Entering || bio_serves device Entering)
told_new s device (Held due holder) = Some (bio_releases s (Held due holder))
told_new s device (InFlight failed answered) = None

-- a living bio with its number
pub record Numbered : Type 0 where
  pub number : ℕ
  pub bio : Bio

-- the living bios with their numbers, where the first entry is that of the number after this one
abbrev pub numbered_living : ℕ → List (Option Bio) → List Numbered
numbered_living before [] = []
numbered_living before (None ∷ bios) = numbered_living (suc before) bios
numbered_living before (Some bio ∷ bios) =
    record { number = suc before; bio = bio } ∷ numbered_living (suc before) bios

-- the event of a living bio
abbrev pub living_event : {S : Type 0} → State S → Numbered → Option Event
living_event s entry = bio_event s entry.number entry.bio.device entry.bio.stage

-- the living bios with their numbers
abbrev pub living_bios : {S : Type 0} → State S → List Numbered
living_bios s = numbered_living 0 s.bios

-- those of the bios
abbrev pub bio_events : {S : Type 0} → State S → List Event
bio_events s = filter_map (living_event s) (living_bios s)
