-- The bios so far are marked as they are to be, and the marks reach as far as before.
use Rattle.lab_model.proofs.Common.{◌≡◌, ◌+◌, ◌-◌, length}
use Rattle.lab_state.specs.Grouped.{IsGrouped}
use Rattle.lab_state.specs.Index.{state_of}
use Rattle.lab_state.proofs.Marked.{IsMarkedTo}
use Rattle.lab_state.proofs.index.mark_all.Given as goal

abbrev pub invariant-loop-number : goal.invariant-loop-number
invariant-loop-number g l = record {
  marked : IsMarkedTo (state_of l.clock l.bios.items l.devices.slots) l.ready l.from;
  grouped : IsGrouped l.bios.items l.ready l.groups;
  reach : length l.ready ≡ length l.fn.ready;
}

-- the numbers that are left
abbrev pub decreases-loop-number : goal.decreases-loop-number
decreases-loop-number g l = length l.bios.items + 1 - l.from
