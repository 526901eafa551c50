use Rattle.lab_model.proofs.Common.{◌≡◌, Some, refl, sym, ap, ◌∙◌, slice_set, option_map, change}
use Rattle.lab_model.proofs.Common.{Slot, change-set, slot_at}
use Rattle.lab_device.proofs.Slots.{slot_at-entry}
use Rattle.lab_device.proofs.devices.Devices.slot_mut.Goals as goal

-- the device is the one in the entry at its number, and what is written there takes its place
pub returns : goal.returns
returns g c =
    let slots = c.self.inside.slots.items in
    let device = c.args.device in
    let entry = c.index_mut.result.now in
    let there : slot_at slots device ≡ Some c.there_mut.result.now =
    slot_at-entry slots device entry c.there_mut.result.now (rw (← c.self.view_is) at c.requires)
    c.index_mut.ensures.value c.there_mut.ensures.slot in
    let put : (next : Slot g.row.L.Denot) → slice_set slots device (Some next)
    ≡ change slots device (option_map (λ _. next)) =
    λ next. ap (λ e. slice_set slots device (option_map (λ _. next) e))
    (sym c.there_mut.ensures.slot)
    ∙ sym (change-set slots device (option_map (λ _. next)) entry c.index_mut.ensures.value) in (
      (refl, λ next. rw (← c.self.view_is) (rw (put next) refl)),
      record { writes_back = tt; slot = rw (← c.self.view_is) there },
    )
