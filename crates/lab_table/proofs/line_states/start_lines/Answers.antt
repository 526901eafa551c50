use Rattle.lab_model.proofs.Common.{ap, get_or, arith, map_over_more, with_target}
use Rattle.lab_table.proofs.line_states.start_lines.Goals as goal

-- one line more is loaded
pub loop-line-preserved : goal.loop-line-preserved
loop-line-preserved g c =
    let items = c.loop-line.line-items in
    let at = c.loop-line.line-index in
    rw c.start.ensures (map_over_more (with_target (λ t. g.T.Target.meaning.started t c.args.now))
    c.deref_mut-line-items.result.now items at (get_or items at c.line-item.result) (omega arith)
    c.loop-line.invariant (ap (λ line. get_or items at line) c.line-item.is))
