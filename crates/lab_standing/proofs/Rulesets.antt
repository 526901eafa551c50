-- What the answers of functions are searched with, each ruleset by its function's name.
use Rattle.lab_model.proofs.Common.{IfOk-weaker, change-past, length-map}
use Rattle.lab_standing.proofs.Changes.{map-change}
use Rattle.lab_standing.proofs.RefersLemmas.{refers-lines}

-- a version more stands at the place of the device, if there is one
pub ruleset add_version = (IfOk-weaker, map-change, change-past, length-map)

-- a table refers to the device where one of its lines does
pub ruleset refers_to = refers-lines
