-- What stops a bundle, and the line that tells it (this project's own).
use Rattle.std.specs.Prelude.{◌≡◌, ◌++◌, ℕ, List, Bool, Option, Some, None, codes, decimal}
use Rattle.std.specs.Prelude.{if◌then◌else◌}
use Rattle.std.specs.Option.{option_map}
use Rattle.lab_model.specs.Report.{text_line}
use Rattle.lab_model.specs.Rules.{FaultSeen}
use Rattle.lab_refusal.specs.Faults.{fault_seen}
use Rattle.lab_refusal.specs.FaultText.{fault_text}
use Rattle.lab_advice.specs.declared.trouble.Trouble.{Trouble}
use Rattle.lab_advice.specs.declared.trouble.Trouble.TheVariants as troubles
use Rattle.dmlab_run.specs.Lines.{refused_lines}

-- the line that tells what stopped a bundle: its fault, or the place where its history is no run
abbrev pub trouble_line : Trouble → List ℕ
trouble_line (troubles.Fault fault) = codes "refused " ++ fault_text (fault_seen fault)
trouble_line (troubles.NotARun place) = codes "not a run at " ++ decimal place
trouble_line (troubles.Unfinished place) = codes "unfinished at " ++ decimal place

-- the same with its newline
abbrev pub trouble_text : Trouble → List ℕ
trouble_text trouble = text_line (trouble_line trouble)

-- the same, and below it the lines of other faults
abbrev pub troubles_text : Trouble → List FaultSeen → List ℕ
troubles_text trouble others = trouble_text trouble ++ refused_lines others

-- where a bundle is refused something stopped it, which the text tells, and below it the other
-- faults; elsewhere nothing did
abbrev pub IsStopped : Bool → List ℕ → Option Trouble → List FaultSeen → Type 0
IsStopped refused text trouble others =
    option_map (λ it. troubles_text it others) trouble ≡ (if refused then Some text else None)
