use Rattle.std.proofs.lemmas.Bool.Decides.{nat_tests}
use Rattle.std.proofs.Common.{arith}
use Rattle.lab_disk.proofs.Slots.{part-shown, slot_read}
use Rattle.lab_disk.proofs.pages.Pages.part.Goals as goal

-- the slot of the part is read, and the part of its page is given
pub returns : goal.returns
returns c = grind (arith, nat_tests, slot_read, part-shown)
