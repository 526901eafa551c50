use Rattle.lab_model.proofs.Common.{rules, filter_same}
use Rattle.lab_logs.proofs.files.leave_out.Goals as goal

-- the files for which the test holds stay
pub returns : goal.returns
returns c = filter_same _ _ _ (λ x b f' k. search rules) _ _ c.retain.ensures.filtered
