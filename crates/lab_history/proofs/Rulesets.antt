-- What the answers of functions are searched with, each ruleset by its function's name.
use Rattle.lab_model.proofs.Common.{length-lines_of}

-- at first no event is there, and all lines are left
pub ruleset read_history = length-lines_of
