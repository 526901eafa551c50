-- What the answers of functions are searched with, each ruleset by its function's name.
use Rattle.lab_model.proofs.Common.{append_assoc, drop-found}
use Rattle.lab_core.proofs.TextLemmas.{and-then}

-- each piece is written after the others
pub ruleset push_outcome = (and-then, append_assoc)

-- the entry at a place is the first of those that are left
pub ruleset push_digests = (append_assoc, drop-found)
