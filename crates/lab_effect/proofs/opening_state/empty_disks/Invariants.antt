use Rattle.lab_model.proofs.Common.{◌≡◌, empty_disk, map, take}
use Rattle.lab_effect.proofs.opening_state.empty_disks.Given as goal

-- the disks gone over are there
abbrev pub invariant-loop-plan : goal.invariant-loop-plan
invariant-loop-plan l = l.disks.items ≡ map empty_disk (take l.plan-index l.plans)
