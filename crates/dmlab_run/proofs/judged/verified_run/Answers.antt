-- The scenario is the texts' own, and so is the first fault.
use Rattle.lab_model.proofs.Common.{subst, sym, IfOk-weaker}
use Rattle.std.proofs.lemmas.Result.{IfErr-weaker}
use Rattle.lab_any.specs.Any.{any_meaning}
use Rattle.lab_rulebook.specs.PartsOf.{texts_of}
use Rattle.lab_verify.specs.Verdict.{IsScenario}
use Rattle.dmlab_run.proofs.AnswerLemmas.{first-unread}
use Rattle.dmlab_run.proofs.judged.verified_run.Goals as goal

pub returns-in-Ok-clause-accepted : goal.returns-in-Ok-clause-accepted
returns-in-Ok-clause-accepted c = IfOk-weaker c.with_events.result _ _
    (λ run same. subst (IsScenario any_meaning (texts_of c.args.bundle.now)) (sym same)
    c.in-Ok.ensures) c.with_events.ensures.accepted

-- a history's fault is the first of a scenario's texts
pub returns-in-Ok-clause-refused : goal.returns-in-Ok-clause-refused
returns-in-Ok-clause-refused c = IfErr-weaker c.with_events.result _ _
    (λ refusal unread seen same. first-unread any_meaning (texts_of c.args.bundle.now) refusal _
    seen c.in-Ok.ensures.readable unread same) c.with_events.ensures.fault

pub returns-in-Err-clause-refused : goal.returns-in-Err-clause-refused
returns-in-Err-clause-refused c =
    c.first_refusal.ensures (texts_of c.args.bundle.now) c.in-Err.ensures
