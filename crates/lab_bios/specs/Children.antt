-- How many living bios were made for a piece of each (this project's own).
use Rattle.std.specs.Prelude.{◌≡◌, ℕ, ◌<◌, ◌==◌, Bool, false, not, List, Option, Some, None, option_map}
use Rattle.std.specs.List.{count_by, list_any}
use Rattle.lab_model.specs.Bios.{Bio}
use Rattle.lab_model.specs.declared.parent.Parent.{Parent}
use Rattle.lab_model.specs.declared.parent.Parent.TheVariants.{FromLog, FromBio}
use Rattle.lab_model.specs.Guard.{bio_may, is_bio}
use Rattle.lab_model.specs.Lists.{numbered}
use Rattle.lab_bios.specs.Living.{living_of}
use Rattle.std.specs.Option.{option_flatten}

-- how many living bios were made for a piece of the bio of this number
abbrev pub child_count : ℕ → List (Option Bio) → ℕ
child_count number bios = count_by (λ (bio : Bio). is_bio number bio.parent) (living_of bios)

-- at each number whose bio lives, and at no other, stands how many were made for a piece of it
abbrev pub HasChildren : List (Option Bio) → List (Option ℕ) → Type 0
HasChildren bios counts = (number : ℕ) → option_flatten (numbered counts number)
    ≡ option_map (λ bio. child_count number bios) (option_flatten (numbered bios number))

-- no living bio was made for a piece of a bio of a number above this
abbrev pub ParentsUpTo : ℕ → List (Option Bio) → Type 0
ParentsUpTo highest bios = (number : ℕ) → highest < number → child_count number bios ≡ 0

-- the number of the bio that a parent is; 0, which none has, where it is a log
abbrev pub parent_number : Parent → ℕ
parent_number (FromLog log line action) = 0
parent_number (FromBio number piece) = number

-- whether a count stands there, and is this one
abbrev pub is_count : ℕ → Option ℕ → Bool
is_count count None = false
is_count count (Some other) = other == count

-- whether the bio of this number lives, and none of the others was made for a piece of it
abbrev pub is_alone : ℕ → List (Option Bio) → List (Option Bio) → Bool
is_alone number bios others = bio_may (option_flatten (numbered bios number))
    (λ bio. not (list_any (λ other. is_bio number other.parent) (living_of others)))
