-- Whether a reference is to a device (dm-linear).
use Rattle.std.specs.Prelude.{Bool, false, Option, Some, None}
use Rattle.std.specs.List.{list_any}
use Rattle.lab_sector.specs.declared.device.DevNo.{DevNo}
use Rattle.lab_target.specs.declared.verdict.Ref.{Ref}
use Rattle.lab_target.specs.Meaning.{Meaning}
use Rattle.lab_model.specs.declared.table_line.TableLine.{TableLine}
use Rattle.lab_model.specs.Files.{same_device}
use Rattle.lab_model.specs.Below.{kinds}

-- whether there is a reference, and it is to a device
abbrev pub is_on : DevNo → Option Ref → Bool
is_on device None = false
is_on device (Some ref) = same_device device ref.dev

-- whether a line refers to a device, for some kind
abbrev pub line_refers : {S : Type 0} → Meaning S → DevNo → TableLine S → Bool
line_refers m device line =
    list_any (λ kind. is_on device ((m.shape line.target).reference kind)) kinds
