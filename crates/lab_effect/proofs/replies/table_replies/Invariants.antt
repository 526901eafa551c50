use Rattle.lab_model.proofs.Common.{◌≡◌, map, take, table_texts}
use Rattle.lab_effect.specs.Replies.{reply_of}
use Rattle.lab_effect.proofs.replies.table_replies.Given as goal

-- the lines gone over are told
abbrev pub invariant-loop-line : goal.invariant-loop-line
invariant-loop-line g l = l.replies.items ≡ map (reply_of l.script_line)
    (table_texts g.T.Target.meaning (take l.line-index l.line-items))
