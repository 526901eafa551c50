use Rattle.lab_model.proofs.Common.{◌≡◌, map, take, status_texts}
use Rattle.lab_effect.specs.Replies.{reply_of}
use Rattle.lab_effect.proofs.replies.status_replies.Given as goal

-- the lines gone over are told
abbrev pub invariant-loop-place : goal.invariant-loop-place
invariant-loop-place g l = l.replies.items ≡ map (reply_of l.script_line)
    (status_texts g.T.Target.meaning l.state l.device (take l.place l.line-items))
