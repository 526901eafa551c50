-- References that go past the size of their device (dm-linear).
use Rattle.std.specs.Prelude.{ℕ, ◌+◌, nat_le, Bool, false, not, Option, Some, None}
use Rattle.std.specs.List.{list_any}
use Rattle.lab_target.specs.declared.verdict.Ref.{Ref}
use Rattle.lab_target.specs.Meaning.{Meaning}
use Rattle.lab_model.specs.declared.table_line.TableLine.{TableLine}
use Rattle.lab_model.specs.Below.{kinds}
use Rattle.lab_model.specs.Sizes.{size_at}
use Rattle.lab_model.specs.Tables.{Table}
use Rattle.lab_rulebook.specs.Standing.{Standing as Stands}

-- whether a device of a size stands, and its first sectors up to this end are inside it
abbrev pub reaches : Option ℕ → ℕ → Bool
reaches None end = false
reaches (Some size) end = nat_le end size

-- whether so many sectors from a reference on aren't inside the size of its device
abbrev pub is_past : {S : Type 0} → Stands S → ℕ → Option Ref → Bool
is_past s len None = false
is_past s len (Some ref) = not (reaches (size_at s.disks s.devices ref.dev) (ref.first + len))

-- whether a reference of a line, for some kind, isn't inside the size of its device
abbrev pub line_is_past : {S : Type 0} → Meaning S → Stands S → TableLine S → Bool
line_is_past m s line =
    list_any (λ kind. is_past s line.len ((m.shape line.target).reference kind)) kinds

-- whether a reference of a table isn't inside the size of its device
abbrev pub table_is_past : {S : Type 0} → Meaning S → Stands S → Table S → Bool
table_is_past m s table = list_any (line_is_past m s) table
