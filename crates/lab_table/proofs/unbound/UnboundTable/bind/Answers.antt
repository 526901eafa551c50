use Rattle.lab_model.proofs.Common.{rules}
use Rattle.lab_table.proofs.AsTable.{table_of-IsTable, table-bound}
use Rattle.lab_table.proofs.unbound.UnboundTable.bind.Goals as goal

-- the lines are the text's table under these names
pub of_lines-requires : goal.of_lines-requires
of_lines-requires g c =
    let m = g.T.Target.meaning in
    let found = g.N.Names.found c.args.names.now in
    let inside = c.self.inside in
    let lines = c.in_ok-lines.lines.items in
    table_of-IsTable m g.met.T.Target.lawful found inside.text.now lines
    (table-bound g.T.Target.bound found m inside.text.now inside.lines.items lines
    (search (rules, c.in_ok-lines.ensures)) c.self.invariant.1 c.self.invariant.0)
