use Rattle.lab_model.proofs.Common.{rules}
use Rattle.std.proofs.lemmas.Bool.{cond-true, cond-false}
use Rattle.lab_standing.proofs.Images.{stands-slot}
use Rattle.lab_standing.specs.Stands.{stood}
use Rattle.lab_standing.proofs.standing.Standing.mapped.Goals as goal

-- the device stands
pub returns-then-has_mapped : goal.returns-then-has_mapped
unfolding stood
returns-then-has_mapped g c = search (rules, cond-true, stands-slot)

-- it doesn't
pub returns-else-has_mapped : goal.returns-else-has_mapped
unfolding stood
returns-else-has_mapped g c = search (rules, cond-false, stands-slot)
