-- The linear target: all bios go on to a run of sectors of another device (dm-linear).
use Rattle.std.specs.Prelude.{ℕ, nat_le, List, [], ◌∷◌, ◌++◌, Some, Result, Err, codes, decimal}
use Rattle.std.specs.Result.{result_map_both}
use Rattle.lab_text.specs.Numbers.{number_of}
use Rattle.lab_target.specs.declared.fault.TargetFault.{TargetFault}
use Rattle.lab_target.specs.declared.fault.TargetFault.TheVariants.{Args, Number}
use Rattle.lab_target.specs.declared.verdict.Ref.{Ref}
use Rattle.lab_target.specs.Laws.{greatest_sector}
use Rattle.lab_target.specs.Meaning.{Draft, Meaning}
use Rattle.lab_target.specs.Reading.{device_text}
use Rattle.lab_target.specs.Types.{no_marks, one_device, passed_to}
use Rattle.lab_simple.specs.Stateless.{stateless}

-- a line to the sectors of a device from an offset on
abbrev pub drafted : List ℕ → ℕ → Draft Ref
drafted device first = one_device device (λ dev. record { dev = dev; first = first })

-- a device word and a number, in sectors
abbrev pub arguments : List (List ℕ) → Result (Draft Ref) TargetFault
arguments (device ∷ offset ∷ []) =
    result_map_both (drafted device) (λ fault. Number) (number_of offset greatest_sector)
arguments _ = Err Args

-- `linear DEV OFFSET`
abbrev pub text : Ref → List ℕ
text target = codes "linear " ++ device_text target.dev ++ 32 ∷ decimal target.first

-- all pass
abbrev pub linear : Meaning Ref
linear = record (stateless (codes "linear") arguments Some text) {
  is_sound = λ target. nat_le target.first greatest_sector;
  verdict = λ target kind piece now. passed_to target piece 0 no_marks;
}
