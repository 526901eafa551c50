-- The bios below a number are in the rows of the devices that they depend on, and what is known of
-- the bios is so.
use Rattle.lab_model.proofs.Common.{◌+◌, ◌-◌, ◌<◌, ℕ, length}
use Rattle.lab_state.specs.Dependents.{IsListedAt}
use Rattle.lab_state.specs.Entered.{AreKnown}
use Rattle.lab_state.proofs.dependents.Dependents.gather.Given as goal

-- whatever the rows are before the first
abbrev pub invariant-loop-number : goal.invariant-loop-number
invariant-loop-number l = record {
  listed : (number : ℕ) → number < l.from → IsListedAt l.bios.items l.self number;
  known : AreKnown l.bios.items l.self.entered;
}

-- the numbers that are left
abbrev pub decreases-loop-number : goal.decreases-loop-number
decreases-loop-number l = length l.bios.items + 1 - l.from
