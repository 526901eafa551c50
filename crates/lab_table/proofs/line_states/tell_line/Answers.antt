use Rattle.lab_model.proofs.Common.{on_ok_weaker, with_target}
use Rattle.lab_text.specs.Words.{words_left}
use Rattle.lab_table.proofs.Images.{change-set}
use Rattle.lab_table.proofs.line_states.tell_line.Goals as goal

-- the line that took the message is set
pub returns-clause-state : goal.returns-clause-state
returns-clause-state g c = on_ok_weaker c.message.result (λ state. rw state
    (change-set (with_target (λ t. g.T.Target.meaning.messaged t (words_left c.args.words)))
    c.args.lines.now.items c.args.at c.index_mut.result.now c.requires.at
    c.index_mut.ensures.value)) c.message.ensures.state
