-- One run is added, and those behind it are left.
use Rattle.lab_model.proofs.Common.{◌∙◌, ◌+◌, None, ap, drop, drop_more, get_or, sym}
use Rattle.lab_watch.specs.declared.row.Run.{Run}
use Rattle.lab_watch.specs.Grids.{side_by_side, spelled_writers}
use Rattle.lab_image.specs.Rows.{with_sector_rows}
use Rattle.lab_image.proofs.Sectors.{length-side_by_side, sectors-behind}
use Rattle.lab_image.proofs.store.Store.add_sectors.Goals as goal

pub loop-run-preserved : goal.loop-run-preserved
loop-run-preserved c =
    let changes = c.args.self.now.changes in
    let disk = c.args.disk in
    let items = c.runs-run-items.result.now in
    let index = c.loop-run.run-index in
    let none : Run = record { count = 0; writer = None } in
    let run = get_or items index none in
    let rows = c.loop-run.rows.items in
    let rest = spelled_writers (drop (index + 1) items) in
    let sectors = side_by_side run.count run.writer in
    ap (λ more. with_sector_rows changes disk more c.in_ok-sector.sector rest) c.in_ok-add_run.ensures
    ∙ ap (λ at. with_sector_rows changes disk
    (with_sector_rows changes disk rows c.loop-run.sector sectors)
    at rest) (c.in_ok-sector.ensures ∙ ap (λ count. c.loop-run.sector + count)
    (sym (length-side_by_side run.count run.writer)))
    ∙ sym (sectors-behind changes disk rows c.loop-run.sector sectors rest)
    ∙ ap (λ left. with_sector_rows changes disk rows c.loop-run.sector (spelled_writers left))
    (sym (drop_more items index none c.loop-run-test.true)) ∙ c.loop-run.invariant
