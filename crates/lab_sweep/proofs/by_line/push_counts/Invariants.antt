-- What is written and the lines that are left make the whole text.
use Rattle.lab_model.proofs.Common.{◌≡◌, ◌++◌, drop, flat_map}
use Rattle.lab_sweep.specs.ByLine.{count_line}
use Rattle.lab_sweep.proofs.by_line.push_counts.Given as goal

abbrev pub invariant-loop-entry : goal.invariant-loop-entry
invariant-loop-entry g l =
    l.text.items ++ flat_map (count_line l.scenario l.runs) (drop l.entry-index l.counts)
    ≡ l.fn.text.items ++ flat_map (count_line l.fn.scenario l.fn.runs) l.fn.counts
