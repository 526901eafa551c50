-- What the script's steps find (dmsetup(8)).
use Rattle.std.specs.Prelude.{◌≡◌, ℕ, ◌+◌, ◌<◌, ◌^◌, Some}
use Rattle.lab_target.specs.Meaning.{Meaning}
use Rattle.lab_model.specs.declared.micro.Mode.TheVariants.{Draining, Running, Suspended}
use Rattle.lab_model.specs.declared.micro.Order.{Order}
use Rattle.lab_model.specs.declared.micro.Order.TheVariants.{Begin, Drained, Sleep, Swap}
use Rattle.lab_model.specs.Scenario.{Scenario, version_of}
use Rattle.lab_model.specs.State.{State}
use Rattle.lab_model.specs.Tables.{Table, opened}
use Rattle.lab_model.specs.Slots.{HasMode}

-- all versions of a scenario are tables in their opening state
abbrev pub AreOpening : {S : Type 0} → Meaning S → Scenario S → Type 0
AreOpening {S} m c = (device version : ℕ) (table : Table S)
    → version_of c device version ≡ Some table → opened m table ≡ table

-- a step finds its device in the mode that it is for, and a sleep's end fits
abbrev pub OrderFits : {S : Type 0} → State S → Order → Type 0
OrderFits s (Begin device) = HasMode s.devices device Running
OrderFits s (Drained device) = HasMode s.devices device Draining
OrderFits s (Swap device) = HasMode s.devices device Suspended
OrderFits s (Sleep time) = s.clock + time < 2 ^ 64
OrderFits s _ = Unit {0}
