-- What the answers of functions are searched with, each ruleset by its function's name.
use Rattle.lab_rule_checks.proofs.NameRules.{never-Decides}
use Rattle.lab_rule_checks.proofs.UnderReached.{rests-within}
use Rattle.lab_standing.proofs.Images.{live_size-image}
use Rattle.lab_standing.proofs.LinkRows.{list_any-append}
use Rattle.std.proofs.lemmas.Bool.{true≢false}

-- a device rests among those gone through, or none does
pub ruleset rests_among = (never-Decides, rests-within, true≢false)

-- what both tables refer to is what the one or the other does
pub ruleset refers = list_any-append

-- the sizes are those of the images
pub ruleset is_shorter = live_size-image
