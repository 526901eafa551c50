-- The bios below a number are counted.
use Rattle.lab_model.proofs.Common.{◌≡◌, ◌+◌, ◌-◌, ℕ, [], get_or, length}
use Rattle.lab_state.proofs.Holding.{AreCountedTo}
use Rattle.lab_state.proofs.held_rows.HeldRows.count.Given as goal

-- and the rows stay as long
abbrev pub invariant-loop-number : goal.invariant-loop-number
invariant-loop-number l = record {
  counted : AreCountedTo l.bios.items l.self l.from;
  lines : (device : ℕ)
      → length (get_or l.self device []) ≡ length (get_or l.fn.self device []);
}

-- the numbers that are left
abbrev pub decreases-loop-number : goal.decreases-loop-number
decreases-loop-number l = length l.bios.items + 1 - l.from
