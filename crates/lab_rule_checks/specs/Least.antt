-- Which rule is told of a line that breaks several (this project's own).
use Rattle.std.specs.Prelude.{◌≡◌, ◌⊎◌, List, [], ◌∷◌, Option, Some, None}
use Rattle.lab_model.specs.declared.rule.Rule.{Rule}
use Rattle.lab_model.specs.declared.rule.Rule.TheVariants.{V1, V2, V3, V4, V5, V6, V7, V8, V9, V10, V11}

-- the rules of a script's line, from the least number on
abbrev pub script_rules : List Rule
script_rules = V1 ∷ V2 ∷ V3 ∷ V4 ∷ V5 ∷ V6 ∷ V7 ∷ V8 ∷ V9 ∷ V10 ∷ V11 ∷ []

-- the first of some rules that is broken is told, and none where none is
abbrev pub TellsFirst : (Rule → Type 0) → List Rule → Option Rule → Type 0
TellsFirst Broken [] rule = rule ≡ None
TellsFirst Broken (first ∷ others) rule = (Broken first × (rule ≡ Some first))
    ⊎ ((Broken first → ⊥) × TellsFirst Broken others rule)
