-- A number that a word says is at most the greatest that may stand there.
use Rattle.std.proofs.Common.{sym}
use Rattle.lab_target.proofs.Numbers.{number_of-within}
use Rattle.lab_target.specs.Laws.{greatest_sector}
use Rattle.test_thirds.proofs.thirds_line.device_and_offset.Goals as goal

-- the offset is a number of at most the greatest sector
pub returns-in-Ok-clause-near : goal.returns-in-Ok-clause-near
returns-in-Ok-clause-near c =
    number_of-within c.in-Some-Some-None.offset.now greatest_sector c.in-Ok.first
    (sym c.in-Ok.ensures)
