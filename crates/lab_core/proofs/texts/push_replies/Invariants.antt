-- What is written and the lines that are left make the whole text.
use Rattle.lab_model.proofs.Common.{◌≡◌, ◌++◌, drop, flat_map, text_line}
use Rattle.lab_model.specs.Report.{reply_text}
use Rattle.lab_core.proofs.texts.push_replies.Given as goal

abbrev pub invariant-loop-reply : goal.invariant-loop-reply
invariant-loop-reply l =
    l.out.items ++ flat_map (λ reply. text_line (reply_text reply)) (drop l.reply-index l.replies)
    ≡ l.fn.out.items ++ flat_map (λ reply. text_line (reply_text reply)) l.fn.replies
