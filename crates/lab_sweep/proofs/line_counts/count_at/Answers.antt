-- The map takes the count that follows the one that is found.
use Rattle.lab_model.proofs.Common.{◌∙◌, ap}
use Rattle.indexmap.specs.IndexMap.{insert_entry}
use Rattle.lab_sweep.specs.contracts.line_counts.FoundAtPartialEq.TheImpl.{eq-value as places}
use Rattle.lab_sweep.specs.Tally.{count_after}
use Rattle.lab_sweep.proofs.LineCounts.{counted-at}
use Rattle.lab_sweep.proofs.line_counts.count_at.Goals as goal

pub returns : goal.returns
returns c =
    let before = c.args.counts.now.entries in
    let at = c.args.at in
    let seed = c.args.seed in
    c.in_ok-insert.ensures.entries ∙ ap (insert_entry places.it before at) (c.in_ok-count.ensures
    ∙ ap (λ found. count_after found seed) (c.copied.ensures ∙ c.get.ensures.value))
    ∙ counted-at before at seed
