-- The type words of a table (dmsetup(8)).
use Rattle.std.specs.Prelude.{ℕ, List, [], ◌∷◌, Option, Some, None, Result, Err, codes, if◌then◌else◌}
use Rattle.std.specs.Str.{bytes_eq}
use Rattle.lab_target.specs.declared.fault.TargetFault.{TargetFault}
use Rattle.lab_target.specs.declared.fault.TargetFault.TheVariants.{Unknown}
use Rattle.lab_target.specs.Meaning.{Draft}
use Rattle.lab_simple.specs.ErrorTarget.{error_target}
use Rattle.lab_simple.specs.Linear.{linear}
use Rattle.lab_simple.specs.Zero.{zero_target}
use Rattle.lab_flakey.specs.Flakey.{flakey}
use Rattle.lab_flakey.specs.Words.{pcg_words}
use Rattle.lab_dust.specs.Dust.{dust_target}
use Rattle.lab_delay.specs.Delay.{delay_target}
use Rattle.lab_any.specs.declared.any_target.AnyTarget.{AnyTarget}
use Rattle.lab_any.specs.declared.any_target.AnyTarget.TheVariants as any
use Rattle.lab_any.specs.declared.type_name.TypeName.{TypeName}
use Rattle.lab_any.specs.declared.type_name.TypeName.TheVariants.{Linear, Zero, Error, Flakey, Dust, Delay}
use Rattle.lab_any.specs.Part.{said_as}

-- the word of a type
abbrev pub name_of : TypeName → List ℕ
name_of Linear = codes "linear"
name_of Zero = codes "zero"
name_of Error = codes "error"
name_of Flakey = codes "flakey"
name_of Dust = codes "dust"
name_of Delay = codes "delay"

-- the type that a word names, if it names one
abbrev pub type_named : List ℕ → Option TypeName
type_named word =
    if bytes_eq word (codes "linear") then Some Linear
    else (if bytes_eq word (codes "zero") then Some Zero
    else (if bytes_eq word (codes "error") then Some Error
    else (if bytes_eq word (codes "flakey") then Some Flakey
    else (if bytes_eq word (codes "dust") then Some Dust
    else (if bytes_eq word (codes "delay") then Some Delay
    else None)))))

-- the type of a line's words from its type on, if the first names one
abbrev pub type_of : List (List ℕ) → Option TypeName
type_of [] = None
type_of (word ∷ words) = type_named word

-- what a line of a type says
abbrev pub said_by : TypeName → List (List ℕ) → ℕ → Result (Draft AnyTarget) TargetFault
said_by Linear words len = said_as any.Linear (linear.parsed words len)
said_by Zero words len = said_as any.Zero (zero_target.parsed words len)
said_by Error words len = said_as any.Error (error_target.parsed words len)
said_by Flakey words len = said_as any.Flakey ((flakey pcg_words).parsed words len)
said_by Dust words len = said_as any.Dust (dust_target.parsed words len)
said_by Delay words len = said_as any.Delay (delay_target.parsed words len)

-- what a line says, if it is of a type
abbrev pub said_if : Option TypeName → List (List ℕ) → ℕ → Result (Draft AnyTarget) TargetFault
said_if None words len = Err Unknown
said_if (Some name) words len = said_by name words len
