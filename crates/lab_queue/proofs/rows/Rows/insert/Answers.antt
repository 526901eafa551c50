use Rattle.std.proofs.Common.{rules}
use Rattle.lab_queue.proofs.Flats.{flat-push}
use Rattle.lab_queue.proofs.rows.Rows.insert.Goals as goal

-- a row of its own behind all others puts it at the end of the list
pub returns-then-ends_full-clause-flat : goal.returns-then-ends_full-clause-flat
returns-then-ends_full-clause-flat c = rw (c.push_row.ensures.rows)
    (flat-push c.args.self.now.rows c.args.spot c.args.new c.requires.spot (search rules))
