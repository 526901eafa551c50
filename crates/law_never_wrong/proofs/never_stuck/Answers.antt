-- Each run of a fine scenario ends in a state that fits, and from each such state something may
-- come.
use Rattle.lab_model.proofs.Common.{rules}
use Rattle.law_never_wrong.proofs.Events.{all-runs-fit}
use Rattle.law_never_wrong.proofs.Stuck.{fits-moves}
use Rattle.law_never_wrong.proofs.never_stuck.Goals as goal

pub returns : goal.returns
returns g c = search (rules, fits-moves, all-runs-fit)
