use Rattle.lab_model.proofs.Common.{rules, err_from_is_err_and, nil_from_length}
use Rattle.lab_table.proofs.AsTable.{table_of-IsTable, table-empty, table-fault, table-first}
use Rattle.lab_table.proofs.AsTable.{table-refused}
use Rattle.lab_table.proofs.reading.read_table.Goals as goal

-- a line's device is unknown
pub returns-in_err-bound : goal.returns-in_err-bound
returns-in_err-bound g c =
    let p = err_from_is_err_and c.from_residual.result c.from_residual.ensures.1 in
    let read = c.read_lines-lines in
    let found = g.N.Names.found c.args.names.now in
    rw (p.1, p.2) (λ other. table-refused g.T.Target.bound found g.T.Target.meaning
    c.args.text.now read.result.lines.items read.result.fault c.in_err-bound.field-0.0
    (read.ensures found) (search (rules, c.in_err-bound.ensures other)))

-- a fault ends the lines
pub returns-in-Some : goal.returns-in-Some
returns-in-Some g c =
    let read = c.read_lines-lines in
    let found = g.N.Names.found c.args.names.now in
    table-fault g.T.Target.bound found g.T.Target.meaning c.args.text.now
    read.result.lines.items c.in_ok-bound.bound.items (search (rules, c.in_ok-bound.ensures))
    read.result.fault c.in-Some.fault (read.ensures found) c.in-Some.is

-- there is no line
pub returns-in-None : goal.returns-in-None
returns-in-None g c = λ other.
    let read = c.read_lines-lines in
    let found = g.N.Names.found c.args.names.now in
    table-empty g.T.Target.bound found g.T.Target.meaning c.args.text.now
    read.result.lines.items c.in_ok-bound.bound.items (search (rules, c.in_ok-bound.ensures))
    read.result.fault (read.ensures found) c.in-None.is (search (rules, nil_from_length))

-- the lines are a table
pub of_lines-requires : goal.of_lines-requires
of_lines-requires g c =
    let read = c.read_lines-lines in
    let m = g.T.Target.meaning in
    let found = g.N.Names.found c.args.names.now in
    table_of-IsTable m g.met.T.Target.lawful found c.args.text.now c.in_ok-bound.bound.items
    (table-first g.T.Target.bound found m c.args.text.now read.result.lines.items
    c.in_ok-bound.bound.items (search (rules, c.in_ok-bound.ensures)) read.result.fault
    (read.ensures found) c.in-None-2.is (search rules))

-- the text's
pub returns : goal.returns
returns g c =
    let read = c.read_lines-lines in
    let found = g.N.Names.found c.args.names.now in
    rw c.of_lines.ensures (table-first g.T.Target.bound found g.T.Target.meaning c.args.text.now
    read.result.lines.items c.in_ok-bound.bound.items (search (rules, c.in_ok-bound.ensures))
    read.result.fault (read.ensures found) c.in-None-2.is (search rules))
