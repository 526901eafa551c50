-- The rows so far, with the disks that are left, are all.
use Rattle.std.proofs.Common.{◌≡◌, ◌-◌}
use Rattle.lab_image.specs.Rows.{behind_disks, image_rows, with_disks}
use Rattle.lab_image.proofs.store.Store.rows.Given as goal

abbrev pub invariant-loop-number : goal.invariant-loop-number
invariant-loop-number l =
    with_disks l.self l.disks l.rows.items l.number (behind_disks l.disks - l.number)
    ≡ image_rows l.fn.self l.fn.disks
