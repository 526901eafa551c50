use Rattle.lab_model.proofs.Common.{◌+◌, length}
use Rattle.lab_standing.specs.Linked.{link_rows}
use Rattle.lab_rule_checks.specs.Search.{front}
use Rattle.lab_rule_checks.proofs.Reaching.{unset}
use Rattle.lab_rule_checks.proofs.Searching.{Searching}
use Rattle.lab_rule_checks.proofs.search.reached.Given as goal

-- the search is on its way
abbrev pub invariant-loop-device : goal.invariant-loop-device
invariant-loop-device l = Searching (link_rows l.links) l.first (front l.search)

-- the devices that aren't reached, and those that wait
abbrev pub decreases-loop-device : goal.decreases-loop-device
decreases-loop-device l = unset l.search.marks.items + length l.search.waiting.items
