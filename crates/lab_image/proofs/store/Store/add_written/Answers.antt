-- One of the operation's sectors is added, and those behind it are left.
use Rattle.lab_model.proofs.Common.{◌∙◌, ◌+◌, ◌-◌, Some, ap, ap₂, sym}
use Rattle.lab_watch.specs.Grids.{side_by_side, writer_from}
use Rattle.lab_image.specs.Rows.{added, sector_row, with_sector_rows}
use Rattle.lab_image.proofs.Sectors.{one-written}
use Rattle.lab_image.proofs.store.Store.add_written.Goals as goal

pub loop-place-preserved : goal.loop-place-preserved
loop-place-preserved c =
    let changes = c.args.self.now.changes in
    let disk = c.args.disk in
    let place = c.loop-place.place in
    let rows = c.loop-place.rows.items in
    ap (λ more. with_sector_rows changes disk more (c.args.sector + (place + 1))
    (side_by_side (c.args.count - (place + 1)) (Some (writer_from c.args.writer (place + 1)))))
    (c.in_ok-add_sector.ensures ∙ ap₂ (λ at writer. added rows (sector_row changes disk at writer))
    c.in_ok-at.ensures c.in_ok-behind.ensures)
    ∙ sym (one-written changes disk rows c.args.sector place c.args.count c.args.writer
    c.loop-place-test.true) ∙ c.loop-place.invariant
