use Rattle.lab_model.proofs.Common.{with_target}
use Rattle.lab_table.proofs.Images.{change-set}
use Rattle.lab_table.proofs.line_states.judge_line.Goals as goal

-- the line that was judged is set
pub returns-clause-state : goal.returns-clause-state
returns-clause-state g c = rw c.judge.ensures.state
    (change-set (with_target (λ t. g.T.Target.meaning.judged t c.args.kind c.args.piece c.args.now))
    c.args.lines.now.items c.args.at c.index_mut.result.now c.requires.at c.index_mut.ensures.value)
