-- Each part of the row is written after the others.
use Rattle.lab_core.proofs.TextLemmas.{and-then}
use Rattle.lab_sweep.proofs.found_row.push_row.Goals as goal

pub returns : goal.returns
returns g c =
    let start = c.args.text.now.items in
    let operation = and-then start _ _ _ _ c.in_ok-push_finding.ensures
    c.in_ok-push_operation.ensures in
    let moments = and-then start _ _ _ _ operation c.in_ok-push_moments.ensures in
    let wrong = and-then start _ _ _ _ moments c.in_ok-push_wrong.ensures in
    let culprit = and-then start _ _ _ _ wrong c.in_ok-push_culprit.ensures in
    let others = and-then start _ _ _ _ culprit c.in_ok-push_others.ensures in
    and-then start _ _ _ _ others c.in_ok-push.ensures.items
