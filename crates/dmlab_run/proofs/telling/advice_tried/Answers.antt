-- The remedy that is told has the lines that were tried.
use Rattle.lab_model.proofs.Common.{IfOk-weaker}
use Rattle.dmlab_run.proofs.telling.advice_tried.Goals as goal

pub returns : goal.returns
returns c = IfOk-weaker c.advice_on.result _ _ (λ text shown. (
  record { why = c.in_ok-why.why; mends = c.in_ok-mends.mends },
  c.in_ok-mends.ensures,
  shown,
)) c.advice_on.ensures
