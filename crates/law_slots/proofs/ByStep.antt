-- What each step of the script does: it leaves the clock, the bios and the disks, does one
-- micro-command more, and makes a device at most; a sleep sets the script's moment, and a replay
-- starts the logs. It changes the slots and modes as the walk's step does.
use Rattle.lab_model.proofs.Common.{rules, ◌≡◌, ℕ, ◌+◌, ◌≤◌, Bool, true, List, Option, Some, None}
use Rattle.lab_model.proofs.Common.{map, length, slice_get, refl, arith, option_map, length_push}
use Rattle.lab_model.proofs.Common.{Lawful, Meaning, control, created, order_effect, starting}
use Rattle.lab_model.proofs.Common.{is_enabled, change, Scenario, version_of, LogState, Slot}
use Rattle.lab_model.specs.declared.reply.Reply.{Reply}
use Rattle.lab_model.proofs.Common.{State, Table, image, Devices, devices_image, walk_order}
use Rattle.lab_model.proofs.Common.{length-change, slot_at}
use Rattle.lab_model.specs.declared.event.Event.TheVariants.{Control}
use Rattle.lab_model.specs.declared.micro.Micro.{Micro}
use Rattle.lab_model.specs.declared.micro.Order.{Order}
use Rattle.lab_model.specs.declared.micro.Order.TheVariants.{Create, Load, Clear, Begin, Drained}
use Rattle.lab_model.specs.declared.micro.Order.TheVariants.{Swap, Remove, Message, Status, Sleep}
use Rattle.lab_model.specs.declared.micro.Order.TheVariants.{Replay, Wait, Table as TableOf}
use Rattle.lab_model.proofs.Changes.{map-map-alone}
use Rattle.lab_model.specs.After.{NoDevice, NoTable}
use Rattle.lab_model.specs.Tables.{loaded}
use Rattle.law_slots.proofs.WalkImages.{calls-walk, devices_told-image}
use Rattle.law_slots.proofs.ByLine.{Then, Then-given, Then-so, Then-there, Then-unless}

-- the script's moment after a step
abbrev pub moment_after : {S : Type 0} → State S → Order → ℕ
moment_after s (Sleep time) = s.clock + time
moment_after s _ = s.moment

-- the logs after a step
abbrev pub logs_after : {S : Type 0} → State S → Order → List LogState
logs_after s Replay = map (starting s.clock) s.logs
logs_after s _ = s.logs

-- whether the logs have started after a step
abbrev pub started_after : {S : Type 0} → State S → Order → Bool
started_after s Replay = true
started_after s _ = s.started

-- what a step of the script leads to: all but this stays
pub record Ordered {S : Type 0} (s : State S) (order : Order) (next : State S) : Type 0 where
  pub devices : List (Option (Slot (Table S)))
  pub replies : List Reply
  pub grows : length devices ≤ length s.devices + 1
  pub is : next ≡ record s {
    devices = devices;
    logs = logs_after s order;
    started = started_after s order;
    done = s.done + 1;
    moment = moment_after s order;
    replies = replies;
  }

-- the next state has these slots and modes, and one micro-command more is done
abbrev pub StepsTo : {S : Type 0} → Meaning S → State S → Devices S → State S → Type 0
StepsTo m s devices next = (devices_image m next.devices ≡ devices) × (next.done ≡ s.done + 1)

-- a step leads to such a state, and where targets are lawful the walk's step leads to its image
record Stepped {S : Type 0} (m : Meaning S) (c : Scenario S) (s : State S) (order : Order)
    (next : State S) : Type 0 where
  does : Ordered s order next
  walks : Lawful m → StepsTo m s (walk_order m c (devices_image m s.devices) order) next

-- steps that are neither a sleep nor a replay
module _ {S : Type 0} (m : Meaning S) (c : Scenario S) (s : State S) (order : Order)
    (plain : record s {
      logs = logs_after s order;
      started = started_after s order;
      moment = moment_after s order;
    } ≡ s) where
  -- these devices have the image that the walk's step leads to
  abbrev WalksTo : List (Option (Slot (Table S))) → Type 0
  WalksTo devices =
      Lawful m → devices_image m devices ≡ walk_order m c (devices_image m s.devices) order

  -- such a step changes the devices and the replies
  told : (devices : List (Option (Slot (Table S)))) (replies : List Reply)
      → length devices ≤ length s.devices + 1 → WalksTo devices → Stepped m c s order
      (record s { devices = devices; done = s.done + 1; replies = replies })
  told devices replies grows walks = search rules

  -- so does one that changes the entry of a device
  changed : (device : ℕ) (f : Option (Slot (Table S)) → Option (Slot (Table S)))
      (replies : List Reply) → WalksTo (change s.devices device f) → Stepped m c s order
      (record s { devices = change s.devices device f; done = s.done + 1; replies = replies })
  changed device f replies = search (rules, length-change)

-- what the script's event does: its next step is there, and is done
pub record Controlled {S : Type 0} (c : Scenario S) (s next : State S) : Type 0 where
  pub micro : Micro
  pub comes : slice_get c.micros s.done ≡ Some micro
  pub does : Ordered s micro.order next

module _ {S : Type 0} (c : Scenario S) (s : State S) where
  -- so a step that may come is there
  pub control-comes : is_enabled c s Control ≡ true
      → (micro : Micro) × (slice_get c.micros s.done ≡ Some micro)
  control-comes may = search rules

-- each step of the script
module _ {S : Type 0} (m : Meaning S) (c : Scenario S) (s : State S) where
  -- a version that is loaded has its image
  as-version : Lawful m → (version : Option (Table S)) (table : Table S) → version ≡ Some table
      → Some (image m (loaded m s.clock table)) ≡ option_map (image m) version
  as-version lawful version table is = search (rules, map-map-alone)

  -- each order does what an order may
  order-steps : (line : ℕ) (order : Order)
      → Then (order_effect m c s line order) (Stepped m c s order)
  order-steps line (Create device None) = search (
    arith,
    length_push,
    told m c s (Create device None) refl,
    (calls-walk m).create c s.devices device None None,
  )
  order-steps line (Create device (Some version)) =
      Then-given _ NoTable (version_of c device version) _ (λ table is.
      let live = Some (loaded m s.clock table) in
      told m c s (Create device (Some version)) refl _ s.replies
      (omega (arith, length_push s.devices (Some (created live)))) (λ lawful.
      (calls-walk m).create c s.devices device (Some version) live (as-version lawful _ table is)))
  order-steps line (Load device version) = search (
    Then-given,
    changed m c s (Load device version) refl device,
    (calls-walk m).load,
    as-version,
  )
  order-steps line (Clear device) =
      search (Then-given, changed m c s (Clear device) refl device, (calls-walk m).clear)
  order-steps line (Begin device) =
      search (Then-given, changed m c s (Begin device) refl device, (calls-walk m).begin_suspend)
  order-steps line (Drained device) =
      search (Then-given, changed m c s (Drained device) refl device, (calls-walk m).end_suspend)
  order-steps line (Swap device) =
      search (Then-given, changed m c s (Swap device) refl device, (calls-walk m).swap_and_run)
  order-steps line (Remove device) =
      search (Then-given, changed m c s (Remove device) refl device, (calls-walk m).remove)
  order-steps line (Message device sector text) =
      Then-given _ NoDevice (slot_at s.devices device) _ (λ slot there.
      Then-given _ NoTable slot.live _ (λ table live. search (
        Then-given,
        Then-unless,
        changed m c s (Message device sector text) refl device,
        devices_told-image,
      )))
  order-steps line (Status device) = search rules
  order-steps line (TableOf device) = search rules
  order-steps line Wait = search (told m c s Wait refl s.devices, arith)
  order-steps line _ = search rules

  -- each step of the script is the walk's
  pub order-gives-step : Lawful m → (n : ℕ) (order : Order) → Then (order_effect m c s n order)
      (StepsTo m s (walk_order m c (devices_image m s.devices) order))
  order-gives-step lawful n order =
      Then-so (Stepped m c s order) _ (λ next is. is.walks lawful) _ (order-steps n order)

  -- and the script's event does it
  pub control-does : is_enabled c s Control ≡ true → Then (control m c s) (Controlled c s)
  control-does may =
      let found = control-comes c s may in
      search (rules, Then-there, Then-so (Stepped m c s found.0.order), order-steps)
