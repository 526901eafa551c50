-- All bios but those that are left in the row and depend on the device are marked as they are to be.
use Rattle.lab_model.proofs.Common.{◌≡◌, ◌≢◌, ◌≤◌, ℕ, Some, false, drop, length}
use Rattle.lab_state.specs.Dependents.{device_of, has_number}
use Rattle.lab_state.specs.Grouped.{IsGrouped}
use Rattle.lab_state.specs.Index.{goes, is_marked, state_of}
use Rattle.lab_state.proofs.device_marks.mark_row.Given as goal

-- the marks reach as far as before, and there are no more that depend on it than were gone through
abbrev pub invariant-loop-number : goal.invariant-loop-number
invariant-loop-number g l = record {
  right : (number : ℕ) → has_number (drop l.number-index l.row) number ≡ false
      → is_marked l.marks number ≡ goes (state_of l.clock l.bios.items l.devices.slots) number;
  apart : (number : ℕ) → device_of l.bios.items number ≢ Some l.device
      → is_marked l.marks number ≡ goes (state_of l.clock l.bios.items l.devices.slots) number;
  grouped : IsGrouped l.bios.items l.marks l.groups;
  reach : length l.marks ≡ length l.fn.ready;
  few : l.count ≤ l.number-index;
}
