use Rattle.lab_model.proofs.Common.{◌≡◌, ℕ, ◌<◌, false, Dm, slot_at}
use Rattle.lab_standing.specs.Stands.{standing_of}
use Rattle.lab_rule_checks.specs.Used.{refers_in}
use Rattle.lab_rule_checks.proofs.rule_remove.is_referred.Given as goal

-- none of the devices gone over refers to the device
abbrev pub invariant-loop-other : goal.invariant-loop-other
invariant-loop-other g l = (number : ℕ) → number < l.other
    → refers_in (slot_at (standing_of g.T.Target.meaning l.standing).devices number)
    (Dm l.device)
    ≡ false
