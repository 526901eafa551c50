-- The sectors' places are seen.
use Rattle.std.proofs.Common.{◌∙◌, ap, subst}
use Rattle.std.proofs.lemmas.Result.{IfOk-weaker}
use Rattle.lab_watch.specs.Grids.{writers_in}
use Rattle.lab_watch.specs.Stretches.{IsRoom}
use Rattle.lab_watch.proofs.Laid.{part-room}
use Rattle.lab_watch.proofs.grid.Grid.part.Goals as goal

pub returns : goal.returns
returns c = record {
  part = IfOk-weaker c.seen_between.result _ _ (λ row is. is
      ∙ part-room c.self.inside.stretches.entries c.args.number c.args.first c.args.count
      (c.in_ok-place.place, c.in_ok-place.end)
      (subst (λ first. IsRoom c.args.number first c.args.count
      (c.in_ok-place.place, c.in_ok-place.end)) c.from.ensures c.in_ok-place.ensures)
      ∙ ap (λ grid. writers_in grid c.args.number c.args.first c.args.count) c.self.view_is)
      c.seen_between.ensures;
}
