-- The stretch is put in its room.
use Rattle.std.proofs.Common.{◌∙◌, ap}
use Rattle.lab_watch.specs.Grids.{spread}
use Rattle.lab_watch.proofs.Laid.{laid-spread}
use Rattle.lab_watch.proofs.grid.Grid.spread_from.Goals as goal

pub returns-in_ok-lay-clause-spread : goal.returns-in_ok-lay-clause-spread
returns-in_ok-lay-clause-spread c =
    laid-spread c.self.inside.stretches.entries c.lay.new.stretches.entries c.args.number
    c.args.first c.args.count c.args.writer (c.in_ok-place.place, c.in_ok-place.end)
    c.in_ok-place.ensures c.in_ok-lay.ensures
    ∙ ap (λ grid. spread grid c.args.number c.args.first c.args.count c.args.writer) c.self.view_is
