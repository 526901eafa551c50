-- The living bios are looked at one after another.
use Rattle.lab_model.proofs.Common.{rules}
use Rattle.lab_bios.proofs.Walks.{left-none, counted-may}
use Rattle.lab_bios.proofs.bios.Bios.count_each.Goals.{then-is_child, else-is_child}
use Rattle.lab_bios.proofs.bios.Bios.count_each.Goals as goal

-- one more is counted where it was made for a piece of the bio of the number
pub loop-child-preserved : goal.loop-child-preserved
loop-child-preserved c = search (rules, counted-may, then-is_child, else-is_child)

-- once none is left, all are counted
pub returns : goal.returns
returns c = search (rules, left-none)
