-- The bios of a run with what they wait for: the clock and the mapped devices (this project's own).
use Rattle.std.specs.Prelude.{◌≡◌, ℕ, false, List, Option, Some, option_and_then}
use Rattle.lab_model.specs.declared.event.Event.{Event}
use Rattle.lab_model.specs.declared.event.Who.{Who}
use Rattle.lab_model.specs.Bios.{Bio}
use Rattle.lab_model.specs.Lists.{numbered}
use Rattle.lab_model.specs.Owner.{owner_of}
use Rattle.lab_model.specs.State.{Slot, State}
use Rattle.lab_model.specs.Tables.{Table}
use Rattle.lab_state.specs.Index.{state_of}
use Rattle.lab_state.specs.Owned.{is_same}
use Rattle.lab_state.specs.Places.{bio_event, bio_events}
use Rattle.std.specs.Option.{option_flatten}

-- the bios of a run, and what they wait for
pub record TrafficRow (S : Type 0) : Type 0 where
  -- the clock, in microseconds
  pub clock : ℕ
  -- by number, counted from 1; none at a number whose bio is answered
  pub bios : List (Option Bio)
  -- by number, counted from 0; none where the device is removed
  pub devices : List (Option (Slot (Table S)))
  -- how many more bios need no more memory
  pub room : ℕ

-- a state with these bios, this clock and these devices, and nothing else
abbrev pub traffic_state : {S : Type 0} → TrafficRow S → State S
traffic_state traffic = state_of traffic.clock traffic.bios traffic.devices

-- the event that may come to the bio of a number
abbrev pub event_at : {S : Type 0} → TrafficRow S → ℕ → Option Event
event_at traffic number = option_and_then (λ bio. bio_event (traffic_state traffic) number bio.device bio.stage)
    (option_flatten (numbered traffic.bios number))

-- the events that may come to the bios, by their numbers
abbrev pub ready_events : {S : Type 0} → TrafficRow S → List Event
ready_events traffic = bio_events (traffic_state traffic)

-- what may come to the bio of a number belongs to another than this one
abbrev pub IsElses : {S : Type 0} → TrafficRow S → Who → ℕ → Type 0
IsElses traffic who number = (event : Event) → event_at traffic number ≡ Some event
    → is_same (owner_of (traffic_state traffic) event) who ≡ false
