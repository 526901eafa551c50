-- What a sweep tells of all its seeds, and of one digest (this project's own).
use Rattle.std.specs.Prelude.{ℕ, List, ◌++◌, codes, decimal}
use Rattle.std.specs.List.{flat_map}
use Rattle.lab_model.specs.Report.{text_line}
use Rattle.lab_sweep.specs.SeedLine.{seed_line}
use Rattle.lab_sweep.specs.declared.outcome.SeedOutcome.{SeedOutcome}
use Rattle.lab_sweep.specs.Tally.{tally}
use Rattle.lab_sweep.specs.declared.tally.SeedCount.{SeedCount}

-- `digest DIGEST first=N count=K`
abbrev pub digest_line : List ℕ × SeedCount → List ℕ
digest_line entry = text_line (codes "digest " ++ entry.0 ++ codes " first="
    ++ decimal entry.1.first ++ codes " count=" ++ decimal entry.1.count)

-- a line for each outcome, and then a line for each digest
abbrev pub sweep_text : List SeedOutcome → List ℕ
sweep_text outcomes = flat_map seed_line outcomes ++ flat_map digest_line (tally outcomes)
