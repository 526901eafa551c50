-- What a refusal tells (this project's own).
use Rattle.std.specs.Prelude.{◌≡◌, ℕ, Option, Some, None, Result, Ok, Err}
use Rattle.lab_refusal.specs.declared.fault.PartName.{PartName}
use Rattle.lab_refusal.specs.declared.fault.PartName.TheVariants.{Script}
use Rattle.lab_refusal.specs.declared.fault.Refusal.{Refusal}
use Rattle.lab_refusal.specs.declared.fault.Refusal.TheVariants.{Fault}
use Rattle.lab_model.specs.declared.rule.Rule.{Rule}

-- the refusal of a line of a part for a rule
abbrev pub refusal_at : PartName → ℕ → Rule → Refusal
refusal_at part line rule = Fault (record { part = part; line = line; rule = rule })

-- a line of the script is refused for the rule that is told, and not where none is
abbrev pub RefusesTold : (Option Rule → Type 0) → ℕ → Result (Unit {0}) Refusal → Type 0
RefusesTold Told line (Ok done) = Told None
RefusesTold Told line (Err refusal) =
    (rule : Rule) × Told (Some rule) × (refusal ≡ refusal_at Script line rule)
