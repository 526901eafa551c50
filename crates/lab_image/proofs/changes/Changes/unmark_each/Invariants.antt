-- The sectors so far and those that are left are all.
use Rattle.lab_model.proofs.Common.{◌≡◌, ◌+◌, ◌-◌}
use Rattle.lab_image.specs.Changes.{unmarked}
use Rattle.lab_image.proofs.changes.Changes.unmark_each.Given as goal

abbrev pub invariant-loop-place : goal.invariant-loop-place
invariant-loop-place l = unmarked l.self l.number (l.first + l.place) (l.count - l.place)
    ≡ unmarked l.fn.self l.fn.number l.fn.first l.fn.count
