-- Which lines take the dearest course of each piece among targets of any type: linear, zero, error
-- and delay (dm-linear, dm-zero, dm-error, dm-delay; this project's own).
use Rattle.lab_any.specs.declared.any_target.AnyTarget.{AnyTarget}
use Rattle.lab_any.specs.declared.any_target.AnyTarget.TheVariants.{Linear, Zero, Error, Delay}
use Rattle.lab_any.specs.Any.{any_meaning}
use Rattle.law_within_budget.specs.PassesAll.{PassesAll}

-- whether a target of any type is linear, zero, error or delay
abbrev pub IsExactType : AnyTarget → Type 0
IsExactType (Linear t) = Unit {0}
IsExactType (Zero t) = Unit {0}
IsExactType (Error t) = Unit {0}
IsExactType (Delay t) = Unit {0}
IsExactType t = ⊥

-- all those take the dearest course of each piece, among targets of any type
abbrev pub ExactAmongAny : Type 0
ExactAmongAny = (t : AnyTarget) → IsExactType t → PassesAll any_meaning t
