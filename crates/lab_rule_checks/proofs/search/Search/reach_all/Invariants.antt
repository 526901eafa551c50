use Rattle.lab_model.proofs.Common.{◌≡◌, take}
use Rattle.lab_rule_checks.specs.Search.{front, reach_all}
use Rattle.lab_rule_checks.proofs.search.Search.reach_all.Given as goal

-- the devices gone over are reached
abbrev pub invariant-loop-device : goal.invariant-loop-device
invariant-loop-device l =
    front l.self ≡ reach_all (take l.device-index l.devices) (front l.initial.self)
