-- What is written and the lines that are left make the whole text.
use Rattle.lab_model.proofs.Common.{◌≡◌, ◌++◌, drop, flat_map}
use Rattle.lab_sweep.specs.SweepLines.{digest_line}
use Rattle.lab_sweep.proofs.sweep_lines.push_digests.Given as goal

abbrev pub invariant-loop-place : goal.invariant-loop-place
invariant-loop-place l =
    l.out.items ++ flat_map digest_line (drop l.place l.counts.entries)
    ≡ l.fn.out.items ++ flat_map digest_line l.fn.counts.entries
