use Rattle.lab_model.proofs.Common.{◌≡◌, take, opened}
use Rattle.lab_table.proofs.line_states.fresh_lines.Given as goal

-- the lines gone over are there in their opening state
abbrev pub invariant-loop-line : goal.invariant-loop-line
invariant-loop-line g l = l.fresh.items ≡ opened g.T.Target.meaning (take l.line-index l.lines)
