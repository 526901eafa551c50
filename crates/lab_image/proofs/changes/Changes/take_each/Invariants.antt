-- The sectors so far and those that are left are all.
use Rattle.lab_model.proofs.Common.{◌≡◌, ◌+◌, ◌-◌}
use Rattle.lab_image.specs.Changes.{taken_over}
use Rattle.lab_image.proofs.changes.Changes.take_each.Given as goal

abbrev pub invariant-loop-behind : goal.invariant-loop-behind
invariant-loop-behind l =
    taken_over l.from l.way.above (l.way.place + l.behind) l.self l.way.number
    (l.way.sector + l.behind) (l.count - l.behind)
    ≡ taken_over l.fn.from l.fn.way.above l.fn.way.place l.fn.self l.fn.way.number l.fn.way.sector
    l.fn.count
