-- What is added and the sectors that are left make the whole.
use Rattle.std.proofs.Common.{◌≡◌, ◌+◌, ◌-◌, Some}
use Rattle.lab_watch.specs.Grids.{side_by_side, writer_from}
use Rattle.lab_image.specs.Rows.{with_sector_rows}
use Rattle.lab_image.proofs.store.Store.add_written.Given as goal

abbrev pub invariant-loop-place : goal.invariant-loop-place
invariant-loop-place l = with_sector_rows l.self.changes l.disk l.rows.items (l.sector + l.place)
    (side_by_side (l.count - l.place) (Some (writer_from l.writer l.place)))
    ≡ with_sector_rows l.fn.self.changes l.fn.disk l.fn.rows.items l.fn.sector
    (side_by_side l.fn.count (Some l.fn.writer))
