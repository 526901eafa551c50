-- What the answers of functions are searched with, each ruleset by its function's name.
use Rattle.lab_state.proofs.Deciders.{told-goes, told-made, told-none}
use Rattle.lab_state.proofs.Marked.{marked-more}

-- each bio that was gone through is marked
pub ruleset mark_all = marked-more

-- what is told of a bio is so
pub ruleset mark_row = (told-made, told-none, told-goes)
