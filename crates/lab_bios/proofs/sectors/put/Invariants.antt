-- There is room for the sectors that are left, and to put them makes what was to be made.
use Rattle.lab_model.proofs.Common.{◌≡◌, ◌+◌, ◌≤◌, length, put}
use Rattle.lab_bios.proofs.sectors.put.Given as goal

abbrev pub invariant-loop-sector : goal.invariant-loop-sector
invariant-loop-sector l = (l.start + length l.others.items ≤ length l.all.items)
    × (put l.all.items l.start l.others.items
    ≡ put l.initial.all.items l.start l.initial.others.items)

abbrev pub decreases-loop-sector : goal.decreases-loop-sector
decreases-loop-sector l = goal.left-loop-sector l
