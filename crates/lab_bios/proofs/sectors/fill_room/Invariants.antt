-- What is written is of the byte, and the room that is left is enough.
use Rattle.lab_model.proofs.Common.{◌≡◌, ◌≤◌, ◌-◌, vec_capacity, vec_len, filled}
use Rattle.lab_bios.proofs.sectors.fill_room.Given as goal

abbrev pub invariant-loop-sectors : goal.invariant-loop-sectors
invariant-loop-sectors l = (l.sectors.items ≡ filled (vec_len l.sectors) l.byte)
    × (vec_len l.sectors ≤ l.count) × (l.count ≤ vec_capacity l.sectors)

abbrev pub decreases-loop-sectors : goal.decreases-loop-sectors
decreases-loop-sectors l = l.count - vec_len l.sectors
