-- What the answers of functions are searched with, each ruleset by its function's name.
use Rattle.lab_model.proofs.Common.{le_refl}
use Rattle.lab_effect.proofs.HandedLemmas.{place_if_taken, handed-placed}

-- what it has recorded has room at the bio that it is a piece of
pub ruleset land = (place_if_taken, handed-placed, le_refl)
