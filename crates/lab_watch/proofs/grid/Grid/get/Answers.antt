-- The sector's place is seen.
use Rattle.std.proofs.Common.{◌∙◌, ◌*◌, ◌+◌, ap}
use Rattle.lab_watch.specs.Grids.{writer_at}
use Rattle.lab_watch.specs.Stretches.{place_room}
use Rattle.lab_watch.proofs.Laid.{writer_at-kept, writer_at-none}
use Rattle.lab_watch.proofs.grid.Grid.get.Goals as goal

pub returns-then-number-ge-NUMBERS : goal.returns-then-number-ge-NUMBERS
returns-then-number-ge-NUMBERS c = record {
  writer = writer_at-none c.self.inside.stretches.entries c.args.number c.args.sector
      c.then-number-ge-NUMBERS.either
      ∙ ap (λ grid. writer_at grid c.args.number c.args.sector) c.self.view_is;
}

pub returns : goal.returns
returns c = record {
  writer = c.seen.ensures
      ∙ writer_at-kept c.self.inside.stretches.entries c.args.number c.args.sector _
      c.if-number-ge-NUMBERS.false c.if-sector-ge-WIDTH.false
      (ap (λ number. number * place_room + c.args.sector) c.from.ensures)
      ∙ ap (λ grid. writer_at grid c.args.number c.args.sector) c.self.view_is;
}
