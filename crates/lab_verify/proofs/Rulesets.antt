-- What the answers of functions are searched with, each ruleset by its function's name.
use Rattle.lab_model.proofs.Common.{map-map, err_from_is_err_and, length-map}
use Rattle.lab_verify.proofs.ReadTexts.{tells-same, first-front, first-behind, found-none}
use Rattle.lab_verify.proofs.ReadTexts.{are-readable, same-rows}
use Rattle.lab_verify.proofs.Verdicts.{limits-verdict}

-- to bind the logs is to bind each
pub ruleset replay = map-map

-- a fault of the front parts is the first of all
pub ruleset verify = (err_from_is_err_and, tells-same, first-front)

-- a fault of the other parts is the first where those in front have none
pub ruleset verify_rest = (
  err_from_is_err_and,
  tells-same,
  first-behind,
  found-none,
  limits-verdict,
  are-readable,
  same-rows,
  length-map,
)
