-- What was written before a refusal extends the text.
use Rattle.lab_model.proofs.Common.{rules}
use Rattle.lab_text.proofs.RunsLemmas.{Extends-trans}
use Rattle.lab_history.proofs.printer.push_each_event.Goals as goal

-- the lines before the refused one, and what is written of it
pub returns-in_err-push_line-clause-err : goal.returns-in_err-push_line-clause-err
returns-in_err-push_line-clause-err c = search (
  rules,
  Extends-trans c.args.text.now.items c.loop-event.invariant.kept c.in_err-push_line.ensures.err,
)
