-- The bios below a number have others' events.
use Rattle.lab_model.proofs.Common.{◌+◌, ◌-◌, ◌<◌, ℕ, length}
use Rattle.lab_state.proofs.OwnBios.{IsOthers}
use Rattle.lab_next.proofs.order.next_ready.Given as goal

-- so the first that belongs is none of theirs
abbrev pub invariant-loop-number : goal.invariant-loop-number
invariant-loop-number g l = (other : ℕ) → other < l.from → IsOthers l.state l.who other

-- the numbers that are left
abbrev pub decreases-loop-number : goal.decreases-loop-number
decreases-loop-number g l = length l.state.bios + 1 - l.from
