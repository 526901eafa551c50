-- Its room is cleared.
use Rattle.std.proofs.Common.{◌∙◌, ap}
use Rattle.lab_watch.specs.Grids.{cleared}
use Rattle.lab_watch.proofs.Laid.{laid-cleared}
use Rattle.lab_watch.proofs.grid.Grid.clear_from.Goals as goal

pub returns-in_ok-clear_between-clause-cleared : goal.returns-in_ok-clear_between-clause-cleared
returns-in_ok-clear_between-clause-cleared c =
    laid-cleared c.self.inside.stretches.entries c.clear_between.new.stretches.entries
    c.args.number c.args.first c.args.count (c.in_ok-place.place, c.in_ok-place.end)
    c.in_ok-place.ensures c.in_ok-clear_between.ensures
    ∙ ap (λ grid. cleared grid c.args.number c.args.first c.args.count) c.self.view_is
