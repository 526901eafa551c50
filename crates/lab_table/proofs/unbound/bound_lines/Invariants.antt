use Rattle.lab_model.proofs.Common.{◌≡◌, drop, Result, Table}
use Rattle.lab_text.specs.Rows.{with_front}
use Rattle.lab_table.specs.Unbound.{lines_under}
use Rattle.lab_table.specs.declared.fault.TableFault.{TableFault}
use Rattle.lab_table.proofs.unbound.bound_lines.Given as goal

-- the lines so far, with those that are left, are the table's under these names
abbrev pub invariant-loop-line : goal.invariant-loop-line
invariant-loop-line g l = (others : Result (Table g.row.T.Denot) TableFault)
    → lines_under g.T.Target.bound (g.N.Names.found l.names) l.lines others
    ≡ with_front l.bound.items (lines_under g.T.Target.bound (g.N.Names.found l.names)
    (drop l.line-index l.lines) others)
