-- No sector of an empty grid has a writer.
use Rattle.lab_findings.proofs.Empties.{none-in}
use Rattle.lab_findings.proofs.judging.written_at.Goals as goal

pub returns-then-is_empty : goal.returns-then-is_empty
returns-then-is_empty c = none-in c.args.grid.now c.args.op.span.len c.args.op.number 0
    c.args.op.span.first (c.is_empty.ensures.nobody c.if-is_empty.true)
