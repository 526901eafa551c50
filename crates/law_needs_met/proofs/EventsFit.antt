-- What an event finds at its log, its bio or its device, and the script's next step at the device
-- that it is for.
use Rattle.lab_model.proofs.Common.{rules, ◌≡◌, ℕ, ◌+◌, ◌<◌, ◌^◌, Some, slice_get, refl}
use Rattle.lab_model.proofs.Common.{true, Option, IfSome, Kind, Span}
use Rattle.lab_model.proofs.Common.{Meaning, Scenario, State, bio_of, devices_image}
use Rattle.lab_model.proofs.Common.{slot_image, InMode, OrderFine, drop-found, option_map-holds}
use Rattle.lab_model.proofs.Common.{Stage, bio_finishes, bio_may, is_enabled, HasMode}
use Rattle.lab_model.specs.declared.micro.Micro.{Micro}
use Rattle.lab_model.specs.declared.micro.Mode.{Mode}
use Rattle.lab_model.specs.declared.micro.Mode.TheVariants.{Draining, Running, Suspended}
use Rattle.lab_model.specs.declared.micro.Order.{Order}
use Rattle.lab_model.specs.declared.micro.Order.TheVariants.{Begin, Drained, Swap, Sleep}
use Rattle.lab_model.specs.declared.event.Event.{Event}
use Rattle.lab_model.specs.declared.event.Event.TheVariants.{Line, Serve, Finish, Control}
use Rattle.lab_model.specs.Steps.{OrderFits}
use Rattle.lab_model.specs.Bounds.{NextFits}
use Rattle.lab_model.specs.Given.{Fills, HasRoom, given_len, recorded_len}
use Rattle.lab_model.specs.Ready.{EventFits}
use Rattle.law_never_wrong.specs.Fits.{Fits}
use Rattle.law_never_wrong.proofs.FitsKept.{walk_device-image}
use Rattle.law_needs_met.proofs.Recorded.{HasRecorded, Recorded, given-place}

module _ {S : Type 0} (m : Meaning S) (c : Scenario S) (s : State S) where
  -- a device that the walk has in a mode is in that mode
  has-mode : (device : ℕ) (mode : Mode) → InMode (devices_image m s.devices) device mode
      → HasMode s.devices device mode
  has-mode device mode stands =
      search (rules, option_map-holds (slot_image m), walk_device-image m s.devices device)

  -- a step that may come here fits
  order-fits : (phase : _) (order : Order) (more : _)
      → OrderFine c (devices_image m s.devices) phase order more
      → ((time : ℕ) → order ≡ Sleep time → s.clock + time < 2 ^ 64) → OrderFits s order
  order-fits phase (Begin device) more fine sleeps = has-mode device Running fine.0
  order-fits phase (Drained device) more fine sleeps = has-mode device Draining fine.0
  order-fits phase (Swap device) more fine sleeps = has-mode device Suspended fine
  order-fits phase (Sleep time) more fine sleeps = sleeps time refl
  order-fits phase _ more fine sleeps = tt

  -- the next step fits
  next-order-fits : Fits m c s → (micro : Micro) → slice_get c.micros s.done ≡ Some micro
      → ((time : ℕ) → micro.order ≡ Sleep time → s.clock + time < 2 ^ 64)
      → OrderFits s micro.order
  next-order-fits fits micro found sleeps = search (rules, drop-found, order-fits)

-- what holds of a value that is there
if-some : {X : Type 0} (P : X → Type 0) (o : Option X) → ((x : X) → o ≡ Some x → P x)
    → IfSome o P
if-some P o holds = search rules

module _ {S : Type 0} (m : Meaning S) (c : Scenario S) (s : State S) (fits : Fits m c s)
    (all : Recorded s) where
  -- what a bio that may be finished has recorded is what it gives
  landed-len : (number : ℕ) (kind : Kind) (span : Span) (stage : Stage)
      → HasRecorded kind span stage → bio_finishes s number stage ≡ true
      → recorded_len stage ≡ given_len kind span
  landed-len number kind span stage has may = search rules

  -- so has what one that may be finished has recorded
  finish-room : (n : ℕ) → bio_may (bio_of s n) (λ bio. bio_finishes s n bio.stage) ≡ true
      → HasRoom s.bios n (λ bio. recorded_len bio.stage)
  finish-room n may = search (rules, if-some, given-place m c s fits all n, landed-len n)

  module _ (nexts : (log : ℕ) → NextFits c s log)
      (sleeps : (micro : Micro) (time : ℕ) → slice_get c.micros s.done ≡ Some micro
      → micro.order ≡ Sleep time → s.clock + time < 2 ^ 64) where
    -- each event that may come fits; a write that a disk serves fills its span
    pub event-fits : (event : Event) → is_enabled c s event ≡ true → EventFits c s event
    event-fits (Line log) may = nexts log
    event-fits (Serve number) may = (
      if-some Fills (bio_of s number) (λ bio lives. (fits.bios number bio lives).fills),
      search (rules, if-some, given-place),
    )
    event-fits (Finish number) may = finish-room number may
    event-fits Control may = search (rules, if-some, next-order-fits)
    event-fits _ may = tt
