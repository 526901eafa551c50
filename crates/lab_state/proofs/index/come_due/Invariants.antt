-- Each number waits and is marked as before, or it came due and is marked anew.
use Rattle.lab_model.proofs.Common.{◌≡◌, ℕ, length}
use Rattle.lab_state.specs.Grouped.{IsGrouped}
use Rattle.lab_state.proofs.Dues.{Stands}
use Rattle.std.specs.FinMap as map
use Rattle.lab_state.proofs.index.come_due.Given as goal

-- the marks reach as far as ever, and the room is the same
abbrev pub invariant-loop-due : goal.invariant-loop-due
invariant-loop-due g l = record {
  stands : (number : ℕ) → Stands l.fn.before l.clock l.bios.items l.devices.slots l.ready
      l.waiting.due number;
  grouped : IsGrouped l.bios.items l.ready l.groups;
  reach : length l.ready ≡ length l.fn.ready;
  room : l.waiting.spare ≡ l.fn.waiting.spare;
}

-- fewer and fewer wait
abbrev pub decreases-loop-due : goal.decreases-loop-due
decreases-loop-due g l = map.len l.waiting.due
