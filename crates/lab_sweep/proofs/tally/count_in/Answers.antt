-- The map takes the count that follows the one that is found.
use Rattle.lab_model.proofs.Common.{◌∙◌, ap, bytes_eq}
use Rattle.indexmap.specs.IndexMap.{insert_entry}
use Rattle.lab_sweep.specs.Tally.{count_after}
use Rattle.lab_sweep.proofs.Counting.{counted-in}
use Rattle.lab_sweep.proofs.tally.count_in.Goals as goal

pub returns : goal.returns
returns c =
    let before = c.args.counts.now.entries in
    let digest = c.args.outcome.now.digest in
    let seed = c.args.outcome.now.seed in
    c.in_ok-insert.ensures.entries ∙ ap (insert_entry bytes_eq before digest) (c.in_ok-count.ensures
    ∙ ap (λ found. count_after found seed) (c.copied.ensures ∙ c.get.ensures.value))
    ∙ counted-in bytes_eq before digest seed
