use Rattle.std.proofs.Common.{rules, arith}
use Rattle.lab_disk.proofs.Slots.{laid-blank, take-blank-slots}
use Rattle.lab_disk.proofs.pages.Pages.new.Goals as goal

-- one slot for each 64 sectors, rounded up
pub invariant_of-result : goal.invariant_of-result
invariant_of-result c = search (rules, laid-blank)

-- no slot has a page, so all sectors are zero
pub returns : goal.returns
returns c = rw c.loop-i.invariant (take-blank-slots _ _ (omega (arith, c.div_ceil-count.ensures)))
