use Rattle.lab_disk.proofs.Kept.{bytes_of-same}
use Rattle.lab_disk.proofs.sector.Sector.fill.Goals as goal

-- the one byte that is kept is each of the bytes
pub returns-clause-same : goal.returns-clause-same
returns-clause-same c =
    bytes_of-same c.self.inside.kept c.same.result c.args.self.now c.self.view_is c.same.ensures
