-- For a number above each parent's no bios need be looked at.
use Rattle.lab_model.proofs.Common.{sym}
use Rattle.lab_bios.proofs.bios.Bios.count_children.Goals as goal

-- above each parent's there is none
pub returns-then-self-number : goal.returns-then-self-number
returns-then-self-number c =
    rw (← c.self.view_is) (sym (c.self.invariant.parents c.args.number c.if-self-number.true))
