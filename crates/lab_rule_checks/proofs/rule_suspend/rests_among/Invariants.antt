use Rattle.lab_model.proofs.Common.{◌≡◌, ℕ, ◌<◌, false}
use Rattle.lab_rule_checks.specs.Live.{rests_at}
use Rattle.lab_rule_checks.proofs.rule_suspend.rests_among.Given as goal

-- none of the devices gone over is marked and suspended
abbrev pub invariant-loop-other : goal.invariant-loop-other
invariant-loop-other g l = (number : ℕ) → number < l.other
    → rests_at l.standing.walk.slots.items l.marks l.device number ≡ false
