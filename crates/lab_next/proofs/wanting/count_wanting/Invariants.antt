-- The sectors of the bios gone over are taken away.
use Rattle.lab_model.proofs.Common.{◌≡◌, ◌-◌}
use Rattle.lab_next.specs.Own.{made_sectors}
use Rattle.lab_next.proofs.wanting.count_wanting.Given as goal

abbrev pub invariant-loop-place : goal.invariant-loop-place
invariant-loop-place g l =
    l.wanting - made_sectors l.state l.place (l.count - l.place)
    ≡ l.sectors - made_sectors l.state l.first (l.count - l.first)
