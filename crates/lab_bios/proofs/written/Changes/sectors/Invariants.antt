-- The sectors as the changes gone over leave them.
use Rattle.lab_model.proofs.Common.{◌≡◌, take}
use Rattle.lab_bios.specs.Written.{changed}
use Rattle.lab_bios.proofs.written.Changes.sectors.Given as goal

abbrev pub invariant-loop-mark : goal.invariant-loop-mark
invariant-loop-mark l =
    l.sectors.items ≡ changed l.initial.sectors.items (take l.mark-index l.mark-items)
