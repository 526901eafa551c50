use Rattle.lab_model.proofs.Common.{◌≡◌, Some, length, refl, sym, ap, ◌∙◌, slice_set, option_map}
use Rattle.lab_model.proofs.Common.{option_and_then, slice_get_read, change, option_flatten, with_live}
use Rattle.lab_model.proofs.Common.{change-set}
use Rattle.std.specs.List.{slice_get}
use Rattle.lab_device.proofs.Slots.{set-same}
use Rattle.lab_device.proofs.devices.Devices.live_mut.Goals as goal

-- what is written is the live table of the entry at the device's number, and without a table
-- the entry stays
pub returns : goal.returns
returns g c =
    let slots = c.self.inside.slots.items in
    let device = c.args.device in
    let entry = c.in_ok-entry.entry.now in
    let is = c.in_ok-entry.ensures.value in
    let there : slice_get slots device ≡ Some entry =
    slice_get_read slots (length slots) device entry refl c.in_ok-entry.ensures.item.3.0 is in
    let put : (table : g.row.L.Denot) → slice_set slots device (option_map (with_live table) entry)
    ≡ change slots device (option_map (with_live table)) =
    λ table. sym (change-set slots device (option_map (with_live table)) entry is) in
    let kept : slice_set slots device entry ≡ slots = set-same slots device entry is in
    rw (← c.self.view_is) (
      simp (put, kept) refl,
      record {
        writes_back = tt;
        table = c.live_mut.ensures.table
            ∙ ap (λ found. option_and_then (λ slot. slot.live) (option_flatten found)) (sym there);
      },
    )
