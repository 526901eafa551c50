use Rattle.lab_model.proofs.Common.{rules}
use Rattle.lab_standing.proofs.Images.{live_size-image}
use Rattle.lab_standing.proofs.standing.Standing.mapped_size.Goals as goal

-- the size is the live table's
pub returns-in-Some : goal.returns-in-Some
returns-in-Some g c = search (rules, live_size-image)
