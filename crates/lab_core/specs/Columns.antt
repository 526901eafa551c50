-- The words of the columns that a trace and a sweep share (this project's own).
use Rattle.std.specs.Prelude.{ℕ, List, ◌∷◌, ◌++◌, Option, Some, None, codes, decimal}
use Rattle.lab_sector.specs.declared.device.DevNo.{DevNo}
use Rattle.lab_sector.specs.declared.device.DevNo.TheVariants.{Ram, Dm}
use Rattle.lab_next.specs.declared.origin.Origin.{Origin}

-- a value's text, and `-` where there is none
abbrev pub or_dash : {X : Type 0} → (X → List ℕ) → Option X → List ℕ
or_dash text None = codes "-"
or_dash text (Some x) = text x

-- `ramN` or `dmN`
abbrev pub device_word : DevNo → List ℕ
device_word (Ram number) = codes "ram" ++ decimal number
device_word (Dm number) = codes "dm" ++ decimal number

-- `LOG.LINE`
abbrev pub origin_text : Origin → List ℕ
origin_text origin = decimal origin.log ++ 46 ∷ decimal origin.line
