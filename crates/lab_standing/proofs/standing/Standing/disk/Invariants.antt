use Rattle.lab_model.proofs.Common.{◌≡◌, drop}
use Rattle.lab_standing.proofs.standing.Standing.disk.Given as goal
use Rattle.std.specs.Prelude.{find, ◌==◌}

-- the disk is not among those gone over
abbrev pub invariant-loop-disk : goal.invariant-loop-disk
invariant-loop-disk g l =
    find (λ disk. disk.number == l.number) (drop l.disk-index l.self.disks.items)
    ≡ find (λ disk. disk.number == l.number) l.self.disks.items
