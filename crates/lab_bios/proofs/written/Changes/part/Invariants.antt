-- Of whatever sectors the part was, it is that part of them after the changes gone over.
use Rattle.lab_model.proofs.Common.{◌≡◌, take, Sectors, part}
use Rattle.lab_bios.specs.Written.{changed}
use Rattle.lab_bios.proofs.written.Changes.part.Given as goal

abbrev pub invariant-loop-mark : goal.invariant-loop-mark
invariant-loop-mark l = (sectors : Sectors) → l.initial.out ≡ part sectors l.span
    → l.out ≡ part (changed sectors (take l.mark-index l.mark-items)) l.span
