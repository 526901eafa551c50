-- What comes out of the disks that are left is what comes out of all.
use Rattle.std.proofs.Common.{◌≡◌, ◌+◌, drop, fold, max}
use Rattle.lab_image.specs.Rows.{behind_disks}
use Rattle.lab_image.proofs.rows.behind_disks.Given as goal

abbrev pub invariant-loop-ram : goal.invariant-loop-ram
invariant-loop-ram l = fold (λ last disk. max last (disk.number + 1)) l.last (drop l.ram-index l.disks)
    ≡ behind_disks l.fn.disks
