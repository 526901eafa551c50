-- Sectors of nobody add nothing.
use Rattle.lab_model.proofs.Common.{◌∙◌, ap, sym}
use Rattle.lab_watch.specs.Grids.{side_by_side}
use Rattle.lab_image.specs.Rows.{with_sector_rows}
use Rattle.lab_image.proofs.Sectors.{nobodys}
use Rattle.lab_image.proofs.store.Store.add_run.Goals as goal

pub returns-in-None : goal.returns-in-None
returns-in-None c =
    let changes = c.args.self.now.changes in
    let rows = c.args.rows.now.items in
    sym (ap (λ writer. with_sector_rows changes c.args.disk rows c.args.sector
    (side_by_side c.args.run.count writer)) c.in-None.is
    ∙ nobodys changes c.args.disk rows c.args.sector c.args.run.count)
