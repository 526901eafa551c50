-- The least number from 1 on decides.
use Rattle.lab_model.proofs.Common.{nat_tests, rules, arith}
use Rattle.lab_bios.proofs.Tallies.{within-least, within-none}
use Rattle.lab_bios.proofs.log_tally.LogTally.has_within.Goals as goal

-- it is one of them where it is not above the last
pub returns-in-Some : goal.returns-in-Some
returns-in-Some c = grind (arith, nat_tests, within-least)

-- there is none
pub returns-in-None : goal.returns-in-None
returns-in-None c = search (rules, within-none)
