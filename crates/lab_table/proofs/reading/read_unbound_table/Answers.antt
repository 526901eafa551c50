use Rattle.lab_model.proofs.Common.{rules, nil_from_length}
use Rattle.lab_table.proofs.Rows.{first-all, first-fault, text-empty, text-known}
use Rattle.lab_table.proofs.reading.read_unbound_table.Goals as goal

-- the fault that ends the lines is the text's
pub returns-in-Some-clause-fault : goal.returns-in-Some-clause-fault
returns-in-Some-clause-fault g c = search (rules, first-fault)

-- there is no line
pub returns-in-None-clause-fault : goal.returns-in-None-clause-fault
returns-in-None-clause-fault g c = λ other.
    let read = c.read_lines-lines in
    let m = g.T.Target.meaning in
    let lines = read.result.lines.items in
    text-empty g.T.Target.bound m c.args.text.now lines
    (first-all g.T.Target.bound m c.args.text.now lines read.result.fault read.ensures c.in-None.is)
    (search (rules, nil_from_length))

-- the lines are the text's
pub of_lines-requires-clause-lines : goal.of_lines-requires-clause-lines
of_lines-requires-clause-lines g c = search (rules, first-all)

-- the text can be read
pub returns-clause-known : goal.returns-clause-known
returns-clause-known g c =
    let read = c.read_lines-lines in
    let m = g.T.Target.meaning in
    let lines = read.result.lines.items in
    text-known g.T.Target.bound m c.args.text.now lines
    (first-all g.T.Target.bound m c.args.text.now lines read.result.fault read.ensures
    c.in-None-2.is) (search rules)
