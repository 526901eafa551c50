-- A number that a word says is at most the greatest that may stand there.
use Rattle.std.proofs.Common.{sym}
use Rattle.lab_target.proofs.Numbers.{number_of-within}
use Rattle.lab_target.specs.Laws.{greatest_sector}
use Rattle.lab_delay.proofs.line.given.Goals as goal

-- the offset is a number of at most the greatest sector
pub returns-in-Ok-Ok-clause-near : goal.returns-in-Ok-Ok-clause-near
returns-in-Ok-Ok-clause-near c =
    number_of-within c.args.words.offset.now greatest_sector c.in-Ok-Ok.first
    (sym c.in-Ok-Ok.ensures)
