use Rattle.std.proofs.Common.{rules, sym}
use Rattle.std.proofs.lemmas.List.{length-take-le}
use Rattle.lab_disk.proofs.Slots.{length-slots}
use Rattle.lab_disk.proofs.pages.Pages.size.Goals as goal

-- the slots hold all sectors, so as many are taken as the size says
pub returns : goal.returns
returns c = rw (← c.self.view_is) (sym
    (search (rules, length-take-le, length-slots, c.self.invariant.laid)))
