use Rattle.lab_model.proofs.Common.{◌≡◌, ◌+◌, take, sum_by}
use Rattle.lab_script.specs.Task.{task_of}
use Rattle.lab_rulebook.specs.Limits.{declared_sectors}
use Rattle.lab_verify.proofs.limits.sectors_fit.Given as goal

-- what is left is what the disks so far leave
abbrev pub invariant-loop-line : goal.invariant-loop-line
invariant-loop-line l =
    l.left + sum_by (λ line. declared_sectors (task_of line.command))
    (take l.line-index l.script.lines.items)
    ≡ 65536
