-- The sectors so far and those that are left are all.
use Rattle.lab_model.proofs.Common.{◌≡◌, ◌+◌, ◌-◌}
use Rattle.lab_image.specs.Changes.{handed}
use Rattle.lab_image.proofs.changes.Changes.hand_each.Given as goal

abbrev pub invariant-loop-behind : goal.invariant-loop-behind
invariant-loop-behind l =
    handed l.self l.way.above (l.way.place + l.behind) l.way.number (l.way.sector + l.behind)
    (l.count - l.behind)
    ≡ handed l.fn.self l.fn.way.above l.fn.way.place l.fn.way.number l.fn.way.sector l.fn.count
