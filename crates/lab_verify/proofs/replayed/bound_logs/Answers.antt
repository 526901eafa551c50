use Rattle.lab_model.proofs.Common.{◌≡◌, ◌∙◌, ◌<◌, Some, List, get_or, length, slice_get, ap, refl}
use Rattle.lab_model.proofs.Common.{sym, subst, arith, le_refl, get_or-set_other, length-set}
use Rattle.lab_model.proofs.Common.{slice_get-get_or, LogPlan}
use Rattle.lab_rulebook.specs.Walked.{bound_log}
use Rattle.lab_standing.specs.Stands.{standing_of}
use Rattle.lab_verify.specs.NamedLogs.{named_log_part}
use Rattle.lab_verify.specs.Steps.{TellsLogs}
use Rattle.lab_verify.proofs.ReplayedLogs.{bound-more, logs-more}
use Rattle.lab_verify.proofs.replayed.bound_logs.Goals as goal

-- one log more is bound, the first fault is still told, and no later log has changed
pub loop-place-preserved : goal.loop-place-preserved
loop-place-preserved g c =
    let s = standing_of g.T.Target.meaning c.args.standing.now in
    let logs = c.args.logs.now.items in
    let place = c.loop-place.place in
    let log = c.index.result.now in
    let within : place < length logs = omega (arith, c.loop-place.invariant.count) in
    let same : get_or logs place log ≡ log
    = sym (c.loop-place.invariant.rest place log (le_refl place)) ∙ sym c.index.ensures in
    let at : slice_get logs place ≡ Some log
    = slice_get-get_or logs place log within ∙ ap (λ l. Some l) same in
    let plan = bound_log s (named_log_part log) in
    record {
      plans = c.in_ok-fault.ensures.plan
          ∙ bound-more (λ log. bound_log s (named_log_part log)) logs place log
          c.loop-place.plans.items plan at c.loop-place.invariant.plans refl;
      fault = subst (λ (plans : List LogPlan). TellsLogs s plans c.in_ok-fault.fault)
          (sym c.in_ok-fault.ensures.plan) (logs-more s c.loop-place.plans.items plan log.name refl
          c.loop-place.fault c.in_ok-fault.fault c.loop-place.invariant.fault
          c.in_ok-fault.ensures.fault);
      count = length-set c.loop-place.logs.items place _ ∙ c.loop-place.invariant.count;
      rest = λ later other behind. get_or-set_other c.loop-place.logs.items place later _ other
          (λ same. absurd (omega (arith, same, behind)))
          ∙ c.loop-place.invariant.rest later other (omega (arith, behind));
    }
