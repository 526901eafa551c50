use Rattle.lab_model.proofs.Common.{◌≡◌, take}
use Rattle.lab_table.specs.Printed.{table_text}
use Rattle.lab_table.proofs.printing.print_lines.Given as goal

-- the lines gone over are printed
abbrev pub invariant-loop-line : goal.invariant-loop-line
invariant-loop-line g l = l.out.items ≡ table_text g.T.Target.meaning (take l.line-index l.lines)
