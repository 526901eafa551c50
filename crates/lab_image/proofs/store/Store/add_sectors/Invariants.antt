-- What is added and the runs that are left make the whole.
use Rattle.std.proofs.Common.{◌≡◌, drop}
use Rattle.lab_watch.specs.Grids.{spelled_writers, writers_in}
use Rattle.lab_image.specs.Rows.{with_sector_rows}
use Rattle.lab_image.proofs.store.Store.add_sectors.Given as goal

abbrev pub invariant-loop-run : goal.invariant-loop-run
invariant-loop-run l = with_sector_rows l.self.changes l.disk l.rows.items l.sector
    (spelled_writers (drop l.run-index l.run-items))
    ≡ with_sector_rows l.fn.self.changes l.fn.disk l.fn.rows.items 0
    (writers_in l.fn.self.writers l.fn.disk 0 l.fn.size)
