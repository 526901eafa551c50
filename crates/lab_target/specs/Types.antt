-- What the six types of target share: type words, device words, and where pieces pass to.
use Rattle.std.specs.Prelude.{ℕ, List, [], ◌∷◌, Option, Some, None, Result, Ok, Err, if◌then◌else◌}
use Rattle.std.specs.Str.{bytes_eq}
use Rattle.lab_sector.specs.declared.device.DevNo.{DevNo}
use Rattle.lab_sector.specs.declared.device.DevNo.TheVariants.{Ram}
use Rattle.lab_sector.specs.declared.span.Span.{Span}
use Rattle.lab_target.specs.declared.fault.TargetFault.{TargetFault}
use Rattle.lab_target.specs.declared.fault.TargetFault.TheVariants.{Args, Unknown}
use Rattle.lab_target.specs.declared.verdict.Marks.{Marks}
use Rattle.lab_target.specs.declared.verdict.Ref.{Ref}
use Rattle.lab_target.specs.declared.verdict.Verdict.{Verdict}
use Rattle.lab_target.specs.declared.verdict.Verdict.TheVariants.{Pass}
use Rattle.lab_target.specs.Laws.{shifted}
use Rattle.lab_target.specs.Meaning.{Draft}

-- the words after a type's own word, if the first word is the type's
abbrev pub after_type : List ℕ → List (List ℕ) → Option (List (List ℕ))
after_type name [] = None
after_type name (word ∷ words) = if bytes_eq word name then Some words else None

-- what the words after a type's own word say; other words are of another type
abbrev pub of_type : {S : Type 0} → List ℕ → (List (List ℕ) → Result (Draft S) TargetFault)
    → List (List ℕ) → Result (Draft S) TargetFault
of_type name arguments [] = Err Unknown
of_type name arguments (word ∷ words) = if bytes_eq word name then arguments words else Err Unknown

-- the first of some devices; a draft with one device word is made with one device
abbrev pub only_device : List DevNo → DevNo
only_device [] = Ram 0
only_device (device ∷ devices) = device

-- a draft whose words name one device
abbrev pub one_device : {S : Type 0} → List ℕ → (DevNo → S) → Draft S
one_device word made =
    record { devices = word ∷ []; made = λ devices. made (only_device devices) }

-- the devices after the first
abbrev pub later_devices : List DevNo → List DevNo
later_devices [] = []
later_devices (device ∷ devices) = devices

-- the words of a type that takes none: its only target has no device
abbrev pub no_arguments : {S : Type 0} → S → List (List ℕ) → Result (Draft S) TargetFault
no_arguments target [] = Ok (record { devices = []; made = λ devices. target })
no_arguments target (word ∷ words) = Err Args

-- no byte is changed
abbrev pub no_marks : Marks
no_marks = record { fixed = None; random = None }

-- a piece passes to where a reference stands, held so long, with these marks
abbrev pub passed_to : Ref → Span → ℕ → Marks → Verdict
passed_to reference piece hold marks =
    Pass reference.dev (shifted reference.first piece) hold marks
