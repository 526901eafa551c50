-- The groups of a delay line as one, two or three of the program's (this project's own).
use Rattle.std.specs.Prelude.{List, [], ◌∷◌}
use Rattle.lab_sector.specs.declared.device.DevNo.{DevNo}
use Rattle.lab_target.specs.Types.{later_devices, only_device}
use Rattle.lab_delay.specs.Delay.{Group, group_for}
use Rattle.lab_sector.specs.declared.request.Kind.TheVariants.{Read}
use Rattle.lab_delay.specs.declared.grouped.Grouped.{Grouped}
use Rattle.lab_delay.specs.declared.grouped.Grouped.TheVariants.{One, Two, Three}

-- the members of one, two or three, in order
abbrev pub members : {G : Type 0} → Grouped G → List G
members (One all) = all ∷ []
members (Two reads others) = reads ∷ others ∷ []
members (Three reads writes flushes) = reads ∷ writes ∷ flushes ∷ []

-- one, two or three groups
abbrev pub grouped_of : List Group → Grouped Group
grouped_of (reads ∷ writes ∷ flushes ∷ more) = Three reads writes flushes
grouped_of (reads ∷ others ∷ []) = Two reads others
grouped_of groups = One (group_for groups Read)

-- a group on another device
abbrev pub group_on : Group → DevNo → Group
group_on group device =
    record group { reference = record { dev = device; first = group.reference.first } }

-- the groups on other devices, one for each group in order
abbrev pub bound : List Group → List DevNo → List Group
bound [] devices = []
bound (group ∷ groups) devices =
    group_on group (only_device devices) ∷ bound groups (later_devices devices)
